-- The test on two sides' numbers tells whether they are the same side.
use Rattle.std.proofs.Common.{◌≡◌, ◌==◌, Decides, refl, sym, true≢false, ap}
use Rattle.std.specs.Ordering.{on}
use Rattle.tree.specs.Sides.{side_number}
use Rattle.tree.specs.declared.link.Side.{Side}
use Rattle.tree.specs.declared.link.Side.TheVariants.{Right, Left}

pub side_test : (a b : Side) → Decides (on side_number ◌==◌ a b) (a ≡ b)
side_test Right Right = (λ _. refl, λ _. refl)
side_test Left Left = (λ _. refl, λ _. refl)
side_test Right Left = (λ e. absurd (true≢false (sym e)), λ e. ap (λ s. on side_number ◌==◌ s Left) e)
side_test Left Right = (λ e. absurd (true≢false (sym e)), λ e. ap (λ s. on side_number ◌==◌ s Right) e)

use Rattle.std.proofs.Common.{◌≡◌, ℕ, Option, Some, None, ap, ◌∙◌, rules}
use Rattle.std.specs.Option.{MatchOption, IsSomeAnd}
use Rattle.tree.proofs.Splits.{split_law}
use Rattle.tree.proofs.parting.split.Goals as goal

-- a closure that answers its own argument
kept : (P : ℕ → ℕ → Type 0) (o r : Option ℕ) → MatchOption o (r ≡ None) (λ x. IsSomeAnd r (P x)) → ((x y : ℕ) → P x y → y ≡ x) → r ≡ o
kept P None r cases same = cases
kept P (Some x) (Some y) cases same = ap Some (same x y cases)
kept P (Some x) None cases same = absurd cases

pub returns : goal.returns
returns c = record { value = kept _ _ _ c.map.ensures.cases (λ x y p. search rules) ∙ c.left_part.ensures.value; law = split_law }

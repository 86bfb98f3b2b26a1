use Rattle.std.proofs.Common.{◌≡◌, ℕ, ◌+◌, ◌*◌, ◌%◌, ◌<◌, Option, Some, None, ◌&&◌, ltb, get_or, sym, ap, ◌∙◌, rules, arith}
use Rattle.std.specs.Option.{is_some, IfSome}
use Rattle.std.proofs.lemmas.Bool.{and_parts, ltb-true}
use Rattle.std.proofs.lemmas.Grind.{common_steps}
use Rattle.std.proofs.lemmas.Option.{IfSome_then}
use Rattle.sha3.specs.Keccak.{place, lane, offsets}
use Rattle.sha3.specs.Tables.{rotation_of}
use Rattle.sha3.proofs.permutation.rotation.Goals as goal
use Rattle.sha3.proofs.permutation.rotation.Goals.{then-x-lt5, else-x-lt5}

rotated : (x y : ℕ) (r : Option ℕ) → is_some r ≡ (ltb x 5 && ltb y 5) → IfSome r (λ v. v ≡ lane offsets x y) → r ≡ rotation_of x y
unfolding lane place
rotated x y None some value = rw (← some)
rotated x y (Some v) some value =
    let both = and_parts (ltb x 5) (ltb y 5) (sym some) in
    let column : x < 5 = ltb-true x 5 both.0 in
    let row : y < 5 = ltb-true y 5 both.1 in
    let there : x % 5 + 5 * (y % 5) ≡ x + 5 * y = omega arith in
    rw (← some) (ap Some (value ∙ ap (λ (i : ℕ). get_or offsets i 0) there))

pub returns : goal.returns
returns c =
    rotated c.args.x c.args.y c.then.result
    (c.then.ensures.variant ∙ elim c.if-x-lt5.branch [ then-x-lt5 w ↦ grind (arith, common_steps) | else-x-lt5 w ↦ grind (arith, common_steps) ])
    (IfSome_then c.then.result c.then.ensures.some (λ v k. search rules))

use Rattle.std.proofs.Common.{◌≡◌, ◌∷◌, ◌++◌, length, replicate, ap, ap₂, refl, ◌∙◌, rules}
use Rattle.digest.proofs.TwoParts.{two_parts}
use Rattle.digest.proofs.messages.joined.Goals as goal

pub returns : goal.returns
returns c =
    let whole : length c.copy_from_slice.new.self ≡ 32 = search rules in
    ap (λ xs. c.args.tag ∷ xs) (two_parts c.args.tag 32 32 c.copy_from_slice.new.self c.copy_from_slice-2.new.self (replicate 32 c.args.tag) whole refl)
    ∙ ap₂ (λ xs ys. c.args.tag ∷ xs ++ ys) (c.copy_from_slice.ensures.after ∙ c.as_bytes.ensures) (c.copy_from_slice-2.ensures.after ∙ c.as_bytes-2.ensures)

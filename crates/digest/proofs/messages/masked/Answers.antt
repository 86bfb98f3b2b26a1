use Rattle.std.proofs.Common.{◌≡◌, ◌∷◌, ◌++◌, length, replicate, ap, ap₂, refl, sym, ◌∙◌, rules}
use Rattle.std.proofs.lemmas.List.{append_assoc}
use Rattle.digest.specs.Messages.{two_bytes, four_bytes}
use Rattle.digest.proofs.TwoParts.{two_parts}
use Rattle.digest.proofs.messages.masked.Goals as goal

pub returns : goal.returns
returns c =
    let whole : length c.copy_from_slice.new.self ≡ 32 = search rules in
    ap (λ xs. 4 ∷ xs) (two_parts 4 32 6 c.copy_from_slice.new.self c.copy_from_slice-2.new.self (replicate 6 4) whole refl)
    ∙ ap₂ (λ xs ys. 4 ∷ xs ++ ys) (c.copy_from_slice.ensures.after ∙ c.as_bytes.ensures) (c.copy_from_slice-2.ensures.after ∙ c.placed.ensures)
    ∙ ap (λ xs. 4 ∷ xs) (sym (append_assoc c.args.seed.now.bytes (four_bytes c.args.second) (two_bytes c.args.place)))

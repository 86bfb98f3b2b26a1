-- A list written at the front of another, one item after another.
use Rattle.std.proofs.Common.{◌≡◌, ℕ, ◌+◌, ◌<◌, List, [], ◌∷◌, ◌++◌, length, get_or, drop, set, sym, ap, ◌∙◌, arith}
use Rattle.std.proofs.lemmas.List.{drop_more, set_at, append_assoc, length_push}
use Rattle.tree.specs.Answers.{over}

pub over_push : {A : Type 0} (items old : List A) (x : A) (n : ℕ) → n ≡ length items → n < length old
    → set (over items old) n x ≡ over (items ++ x ∷ []) old
over_push items old x n e h =
    let m : ℕ = length items in
    let rest = drop (m + 1) old in
    ap (λ ys. set (items ++ ys) n x) (drop_more old m x (omega arith))
    ∙ (set_at items (get_or old m x) rest x n (sym e)
    ∙ (sym (append_assoc items (x ∷ []) rest) ∙ ap (λ (k : ℕ). (items ++ x ∷ []) ++ drop k old) (sym (length_push items x))))

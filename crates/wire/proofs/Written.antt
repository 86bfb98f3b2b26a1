-- Parts written one behind another at the front of a buffer.
use Rattle.std.proofs.Common.{◌≡◌, ℕ, ◌+◌, List, ◌++◌, length, drop, sym, ap, ◌∙◌, ap₂, arith}
use borrow.Rule.Slice.PartMut.{put_mid}
use Rattle.std.proofs.lemmas.List.{take_at, drop_at, drop-drop, append_assoc, length-append}
use Rattle.tree.specs.Answers.{over}

pub over_put : {A : Type 0} (front part old : List A) (at k : ℕ) → at ≡ length front → k ≡ length part
    → put_mid at k (over front old) part ≡ over (front ++ part) old
over_put front part old at k here size =
    ap₂ (λ xs ys. xs ++ (part ++ drop k ys)) (take_at front (drop (length front) old) at (sym here)) (drop_at front (drop (length front) old) at (sym here))
    ∙ (ap (λ ys. front ++ (part ++ ys)) (drop-drop k (length front) old)
    ∙ (sym (append_assoc front part (drop (length front + k) old))
    ∙ ap (λ n. (front ++ part) ++ drop n old) (omega (arith, length-append front part))))

-- Two parts written behind a first byte, up to the end.
use Rattle.std.proofs.Common.{◌≡◌, ℕ, suc, ◌≤◌, List, ◌∷◌, ◌++◌, length, take, drop, subst, ap₂, ap, ◌∙◌, arith}
use Rattle.std.proofs.Math.Seq.{take-append_seam}
use Rattle.std.proofs.lemmas.List.{append-nil, drop_all, length-drop, length-append}

pub two_parts : (tag n k : ℕ) (a b r : List ℕ) → length a ≡ n → length r ≡ k
    → take n (a ++ r) ++ (b ++ drop k (drop (suc n) (tag ∷ (a ++ r)))) ≡ a ++ b
two_parts tag n k a b r first behind =
    let short : length (drop n (a ++ r)) ≤ k = omega (arith, length-drop n (a ++ r), length-append a r) in
    ap₂ (λ xs ys. xs ++ ys) (subst (λ m. take m (a ++ r) ≡ a) first (take-append_seam a r))
    (ap (λ ys. b ++ ys) (drop_all k (drop n (a ++ r)) short) ∙ append-nil b)

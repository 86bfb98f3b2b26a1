-- A list cut into chunks of one size.
use Rattle.std.proofs.Common.{◌≡◌, ℕ, zero, suc, ◌+◌, ◌*◌, ◌<◌, ◌≤◌, List, ◌∷◌, ◌++◌, length, get_or, take, drop, refl, ap, ◌∙◌, add-zero, add-suc, one-add, arith}
use native.Mathlib.Nat.{suc-mul}
use Rattle.std.specs.List.{fold}
use Rattle.std.specs.Simd.{first_chunks}
use Rattle.std.proofs.Math.Seq.{take-add}
use Rattle.std.proofs.lemmas.List.{drop-drop}
use Rattle.std.proofs.lemmas.List.Sums.{fold-append}
use Rattle.digest.specs.Blocks.{block, absorbed}
use Rattle.digest.proofs.Blocks.{block_front}

-- chunk i
pub chunk_at : (size n i : ℕ) (xs d : List ℕ) → i < n → get_or (first_chunks size n xs) i d ≡ block size xs i
chunk_at size zero i xs d h = absurd (omega arith)
chunk_at size (suc n) zero xs d h = let none : 0 * size ≡ 0 = omega arith in rw none
chunk_at size (suc n) (suc i) xs d h =
    let place : size + i * size ≡ suc i * size = omega (arith, suc-mul i size) in
    chunk_at size n i (drop size xs) d (omega arith) ∙ ap (take size) (rw (drop-drop (i * size) size xs, place) refl)

-- a fold of folds
pub fold_chunks : {S : Type 0} (step : S → ℕ → S) (s : S) (size n m : ℕ) (xs : List ℕ) → m ≡ n * size
    → fold (fold step) s (first_chunks size n xs) ≡ fold step s (take m xs)
fold_chunks step s size zero m xs e = let none : m ≡ 0 = omega arith in rw none
fold_chunks step s size (suc n) m xs e =
    let more : m ≡ size + n * size = omega (arith, suc-mul n size) in
    rw (more, take-add size (n * size) xs, fold-append)
    (fold_chunks step (fold step s (take size xs)) size n (n * size) (drop size xs) refl)

-- the first chunks of the first chunks
pub take-first_chunks : (size m n : ℕ) (xs : List ℕ) → m ≤ n → take m (first_chunks size n xs) ≡ first_chunks size m xs
take-first_chunks size zero n xs h = refl
take-first_chunks size (suc m) zero xs h = absurd (omega arith)
take-first_chunks size (suc m) (suc n) xs h = ap (λ (l : List (List ℕ)). take size xs ∷ l) (take-first_chunks size m n (drop size xs) (omega arith))

-- blocks behind blocks
pub absorbed_add : {S : Type 0} (step : S → List ℕ → S) (s : S) (size m n : ℕ) (xs : List ℕ)
    → absorbed step (absorbed step s size xs m) size (drop (m * size) xs) n ≡ absorbed step s size xs (m + n)
absorbed_add step s size m zero xs = rw add-zero
absorbed_add step s size m (suc n) xs =
    let place : m * size + n * size ≡ (m + n) * size = omega arith in
    let here : block size (drop (m * size) xs) n ≡ block size xs (m + n) = ap (take size) (rw (drop-drop (n * size) (m * size) xs, place)) in
    rw (absorbed_add step s size m n xs, here, add-suc)

-- to take in the chunks is to take in the blocks
pub chunks_absorbed : {S : Type 0} (step : S → List ℕ → S) (s : S) (size n : ℕ) (xs : List ℕ)
    → fold step s (first_chunks size n xs) ≡ absorbed step s size xs n
chunks_absorbed step s size zero xs = refl
chunks_absorbed step s size (suc n) xs =
    let none : 0 ≡ 0 * size = omega arith in
    let one : size ≡ 1 * size = omega arith in
    chunks_absorbed step (step s (take size xs)) size n (drop size xs)
    ∙ ap (λ (k : ℕ). absorbed step (step s (take size (drop k xs))) size (drop size xs) n) none
    ∙ ap (λ (k : ℕ). absorbed step (absorbed step s size xs 1) size (drop k xs) n) one
    ∙ absorbed_add step s size 1 n xs ∙ ap (absorbed step s size xs) (one-add n)

-- blocks that lie in the front
pub absorbed_front : {S : Type 0} (step : S → List ℕ → S) (s : S) (size n : ℕ) (xs ys : List ℕ) → n * size ≤ length xs
    → absorbed step s size (xs ++ ys) n ≡ absorbed step s size xs n
absorbed_front step s size zero xs ys h = refl
absorbed_front step s size (suc n) xs ys h =
    let room : n * size + size ≤ length xs = omega (arith, suc-mul n size) in
    rw (absorbed_front step s size n xs ys (omega arith), block_front size xs ys n room)

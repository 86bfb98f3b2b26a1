-- Laws of blocks: one block more, and which blocks of a list with something behind it are the list's own.
use Rattle.std.proofs.Common.{◌≡◌, ℕ, ◌+◌, ◌*◌, ◌≤◌, List, ◌++◌, length, take, drop, ap, ◌∙◌, add-one, arith}
use Rattle.std.proofs.lemmas.List.{drop-append-le, take-append-le, length-drop}
use Rattle.digest.specs.Blocks.{block, absorbed}

pub absorbed_more : {S : Type 0} (step : S → List ℕ → S) (start : S) (size : ℕ) (xs : List ℕ) (n : ℕ)
    → absorbed step start size xs (n + 1) ≡ step (absorbed step start size xs n) (block size xs n)
absorbed_more step start size xs n = ap (absorbed step start size xs) (add-one n)

-- a block that the front reaches into, and perhaps not to its end
pub block_back : (size : ℕ) (xs ys : List ℕ) (i : ℕ) → i * size ≤ length xs
    → block size (xs ++ ys) i ≡ take size (drop (i * size) xs ++ ys)
block_back size xs ys i h = ap (take size) (drop-append-le (i * size) xs ys h)

-- a block that lies in the front whole
pub block_front : (size : ℕ) (xs ys : List ℕ) (i : ℕ) → i * size + size ≤ length xs
    → block size (xs ++ ys) i ≡ block size xs i
block_front size xs ys i h =
    let low : i * size ≤ length xs = omega arith in
    let room : size ≤ length (drop (i * size) xs) = omega (arith, length-drop (i * size) xs) in
    block_back size xs ys i low ∙ take-append-le size (drop (i * size) xs) ys room

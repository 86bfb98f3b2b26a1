-- A message that is cut into blocks of one size, which a hash takes in one after another.
use Rattle.std.specs.Prelude.{ℕ, zero, suc, ◌*◌, List, take, drop}

-- block i of a list, counted from 0
abbrev pub block : ℕ → List ℕ → ℕ → List ℕ
block size xs i = take size (drop (i * size) xs)

-- the state after the first n blocks of a list: `step` takes one block in
abbrev pub absorbed : {S : Type 0} → (S → List ℕ → S) → S → ℕ → List ℕ → ℕ → S
absorbed step start size xs zero = start
absorbed step start size xs (suc n) = step (absorbed step start size xs n) (block size xs n)

-- The tables of the permutation, asked entry by entry.
use Rattle.std.specs.Prelude.{ℕ, ◌+◌, ◌*◌, cond, ◌&&◌, Some, None, Option, nat_lt, slice_index}
use Rattle.sha3.specs.Keccak.{offsets, constants}

-- the offset of the lane of column x and row y
abbrev pub rotation_of : ℕ → ℕ → Option ℕ
rotation_of x y = cond (nat_lt x 5 && nat_lt y 5) (Some (slice_index offsets (x + 5 * y))) None

-- the constant of round k
abbrev pub constant_of : ℕ → Option ℕ
constant_of k = cond (nat_lt k 24) (Some (slice_index constants k)) None

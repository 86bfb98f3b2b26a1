-- Where a tree over n leaves is parted: its left part has the largest power of two below n.
use Rattle.std.specs.Prelude.{◌≡◌, ℕ, zero, suc, ◌*◌, ◌^◌, ◌<◌, ◌≤◌, cond, nat_lt}

-- k is a power of two below n, and the next one is not below n
abbrev pub Splits : ℕ → ℕ → Type 0
Splits n k = ((j : ℕ) × (k ≡ 2 ^ j)) × (k < n) × (n ≤ 2 * k)

-- 1, doubled at most `times` times and as long as it stays below n
unfoldable pub doubled : ℕ → ℕ → ℕ
doubled n zero = 1
doubled n (suc times) = cond (nat_lt (2 * doubled n times) n) (2 * doubled n times) (doubled n times)

-- the largest power of two below n, for n above 1
unfoldable pub split : ℕ → ℕ
split n = doubled n n

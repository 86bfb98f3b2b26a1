-- The padded message behind the whole blocks of the message.
use Rattle.std.specs.Prelude.{ℕ, ◌*◌, ◌/◌, ◌%◌, cond, List, length, drop, nat_lt}
use Rattle.sha256.specs.Sha256.{padded}

-- how many blocks it has, for a message of n bytes: one if the padding finds room in the block that the message ends in
unfoldable pub tail_blocks : ℕ → ℕ
tail_blocks n = cond (nat_lt (n % 64) 56) 1 2

abbrev pub tail : List ℕ → List ℕ
tail message = drop (length message / 64 * 64) (padded message)

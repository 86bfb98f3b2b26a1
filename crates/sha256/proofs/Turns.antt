-- The library's rotation is the standard's, for a turn that is not 0 and below 32.
use Rattle.std.proofs.Common.{◌≡◌, ℕ, ◌-◌, ◌%◌, ◌<◌, arith}
use Rattle.std.specs.Int.{w32, rotate_right}
use Rattle.sha256.specs.Words.{ROTR}

pub turned_right : (n x : ℕ) → (0 < n) × (n < 32) → rotate_right w32 x n ≡ ROTR n x
turned_right n x h =
    let by : n % 32 ≡ n = omega arith in
    let left : (32 - n) % 32 ≡ 32 - n = omega arith in
    rw (by, left)

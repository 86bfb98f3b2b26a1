-- A forest of small nodes has an address.
use Rattle.std.proofs.Common.{ℕ, ◌+◌, ◌-◌, ◌*◌, ◌%◌, ◌^◌, ◌<◌, ◌≤◌, max, arith}
use native.Mathlib.Nat.{mod-le, max-le}
use prog.Memory.{up, align, size}
use denote.RattleType.{RattleType}
use denote.Param.{layout}
use Rattle.calendar.specs.Small.{FewBytes}

up_most : (k e : ℕ) → up k e ≤ e + k
up_most k e = omega (arith, mod-le (k - e % k) k)

pub forest_size : (R : RattleType) → FewBytes R
    → up (max (align (layout R)) 8) (up 4 (up 8 (up (align (layout R)) 0 + 32 * size (layout R)) + 8) + 4) < 2 ^ 63
forest_size R few =
    let a : ℕ = align (layout R) in
    let peaks : ℕ = up a 0 + 32 * size (layout R) in
    let top : ℕ = up 8 peaks + 8 in
    let count : ℕ = up 4 top + 4 in
    let widest : max a 8 ≤ a + 8 = max-le (omega arith) (omega arith) in
    omega (arith, few.0, few.1, up_most a 0, up_most 8 peaks, up_most 4 top, up_most (max a 8) count)

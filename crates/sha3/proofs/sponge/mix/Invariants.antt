use Rattle.std.proofs.Common.{◌≡◌, ℕ, ◌<◌, ◌≤◌, length, get_or}
use lib.Bits.{bit_xor}
use Rattle.sha3.specs.Sha3.{word}
use Rattle.sha3.proofs.sponge.mix.Given as goal

-- below i the block is added, and from i on the lanes are as they were
abbrev pub invariant-loop-i : goal.invariant-loop-i
invariant-loop-i l =
    (length l.a ≡ 25)
    × ((k : ℕ) → k < l.i → get_or l.a k 0 ≡ bit_xor (get_or l.initial.a k 0) (word l.block k))
    × ((k : ℕ) → l.i ≤ k → get_or l.a k 0 ≡ get_or l.initial.a k 0)

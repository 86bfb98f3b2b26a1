use Rattle.std.proofs.Common.{◌≡◌, ◌-◌, map, length, take}
use Rattle.std.specs.List.{range_with_len}
use Rattle.sha256.specs.Words.{word}
use Rattle.sha256.specs.Sha256.{schedule}
use Rattle.sha256.proofs.compression.schedule.Given as goal

abbrev pub invariant-loop-t : goal.invariant-loop-t
invariant-loop-t l = (length l.w ≡ 64) × (take l.t l.w ≡ map (word l.block) (range_with_len 0 l.t))

abbrev pub invariant-loop-t-2 : goal.invariant-loop-t-2
invariant-loop-t-2 l = (length l.w ≡ 64) × (take l.t l.w ≡ schedule l.block (l.t - 16))

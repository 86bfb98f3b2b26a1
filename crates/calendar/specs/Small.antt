-- How much memory a node may take.
use Rattle.std.specs.Prelude.{◌^◌, ◌<◌}
use prog.Memory.{align, size}
use Rattle.std.specs.Borrow.{RattleType}
use denote.Param.{layout}

-- so few that 32 values of the type, and some numbers beside them, take below 2 ^ 63 bytes
abbrev pub FewBytes : RattleType → Type 0
FewBytes R = (align (layout R) < 2 ^ 57) × (size (layout R) < 2 ^ 57)

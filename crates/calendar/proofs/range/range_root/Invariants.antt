use Rattle.std.proofs.Common.{◌≤◌, length}
use Rattle.std.specs.List.{between}
use Rattle.calendar.specs.Forests.{Holds}
use Rattle.calendar.proofs.range.range_root.Given as goal

abbrev pub invariant-loop-place : goal.invariant-loop-place
invariant-loop-place g l =
    Holds g.J.Joining.joined l.forest (between l.low l.place (g.R.Row.row l.row))
    × (l.place ≤ length (g.R.Row.row l.row))

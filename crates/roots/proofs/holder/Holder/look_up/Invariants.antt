use Rattle.std.proofs.Common.{◌-◌}
use Rattle.roots.proofs.Narrowed.{Narrowed}
use Rattle.roots.proofs.holder.Holder.look_up.Given as goal

abbrev pub invariant-loop-low : goal.invariant-loop-low
invariant-loop-low g l = Narrowed l.entries l.second l.low l.high l.looks

abbrev pub decreases-loop-low : goal.decreases-loop-low
decreases-loop-low g l = l.high - l.low

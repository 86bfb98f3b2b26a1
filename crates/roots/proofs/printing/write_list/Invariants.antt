use Rattle.std.proofs.Common.{◌≡◌}
use Rattle.tree.specs.Answers.{over}
use Rattle.roots.proofs.Printed.{printed}
use Rattle.roots.proofs.printing.write_list.Given as goal

abbrev pub invariant-loop-place : goal.invariant-loop-place
invariant-loop-place l = l.out ≡ over (printed l.number l.entries l.place) l.initial.out

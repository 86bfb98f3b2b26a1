use Rattle.std.proofs.Common.{◌+◌, ◌*◌}
use Rattle.sha3.proofs.Filled.{Filled}
use Rattle.sha3.proofs.permutation.lanes.Given as goal

abbrev pub invariant-loop-y : goal.invariant-loop-y
invariant-loop-y g l = Filled (λ x y v. goal.F-post g l.f x y v) l.b (5 * l.y)

abbrev pub invariant-loop-x : goal.invariant-loop-x
invariant-loop-x g l = Filled (λ x y v. goal.F-post g l.f x y v) l.b (5 * l.y + l.x)

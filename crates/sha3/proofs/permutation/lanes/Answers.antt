use Rattle.std.proofs.Common.{arith}
use Rattle.sha3.proofs.Filled.{filled_more}
use Rattle.sha3.proofs.permutation.lanes.Goals as goal

pub loop-x-preserved : goal.loop-x-preserved
loop-x-preserved g c =
    filled_more (λ x y v. goal.F-post g c.args.f x y v) c.loop-x.b c.loop-x.x c.loop-y.y c.f.result c.place.result _ c.loop-x.invariant (omega arith) (omega arith)
    c.place.ensures.value c.f.ensures (omega arith)

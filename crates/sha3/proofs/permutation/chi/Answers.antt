use Rattle.std.proofs.Common.{rules}
use Rattle.sha3.specs.Keccak.{χ, complement}
use Rattle.sha3.proofs.Steps.{lanes_made}
use Rattle.sha3.proofs.permutation.chi.Goals as goal

pub returns : goal.returns
unfolding χ complement
returns c = lanes_made c.lanes.result _ c.lanes.ensures.whole (λ x y hx hy. let e = c.lanes.ensures.each x y hx hy in search rules)

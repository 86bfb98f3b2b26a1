use Rattle.std.proofs.Common.{◌≡◌, get_or, rules}
use lib.Bits.{bit_xor}
use Rattle.sha3.specs.Keccak.{place, lane, θ}
use Rattle.sha3.proofs.Steps.{lanes_made}
use Rattle.sha3.proofs.permutation.theta.Goals as goal

pub returns : goal.returns
unfolding θ
returns c =
    lanes_made c.lanes.result _ c.lanes.ensures.whole
    (λ x y hx hy.
    let e = c.lanes.ensures.each x y hx hy in
    let here : get_or c.lanes.result (place x y) 0 ≡ bit_xor (lane c.args.a.now x y) (get_or c.effects-d.result x 0) = search rules in
    cc)

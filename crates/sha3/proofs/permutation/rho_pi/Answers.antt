use Rattle.std.proofs.Common.{◌≡◌, ◌+◌, ◌*◌, get_or, rules, sym, ◌∙◌}
use Rattle.sha3.specs.Keccak.{place, lane, offsets, ρ, π, rotl}
use Rattle.sha3.proofs.Steps.{lanes_made, ρ_at, πρ_to}
use Rattle.sha3.proofs.permutation.rho_pi.Goals as goal

pub returns : goal.returns
unfolding π rotl
returns c =
    let a = c.args.a.now in
    let all : c.lanes.result ≡ π (ρ a) =
    lanes_made c.lanes.result _ c.lanes.ensures.whole
    (λ x y hx hy.
    let e = c.lanes.ensures.each x y hx hy in
    let here : get_or c.lanes.result (place x y) 0 ≡ rotl (lane a (x + 3 * y) x) (lane offsets (x + 3 * y) x) = search rules in
    here ∙ sym (ρ_at a (x + 3 * y) x)) in
    record { state = all; moves = λ x y. rw all (πρ_to a x y) }

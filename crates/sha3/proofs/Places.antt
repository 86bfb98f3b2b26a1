-- The lengths of the standard's states and rows, and what stands at each of their places, by place and not by lane.
use Rattle.std.proofs.Common.{◌≡◌, ℕ, ◌+◌, ◌*◌, ◌/◌, ◌%◌, ◌<◌, length, List, get_or, ap, ◌∙◌, arith}
use lib.Bits.{bit_and, bit_xor}
use Rattle.std.proofs.lemmas.List.FromFn.{get_or-map-range_with_len, length-map-range_with_len}
use Rattle.sha3.specs.Keccak.{lane, lanes, rotl, complement, parity, effect, parities, effects, offsets, θ, ρ, π, χ}
use Rattle.sha3.proofs.Steps.{lane_at, get_or_lanes, lane_lanes}

pub length_lanes : (f : ℕ → ℕ → ℕ) → length (lanes f) ≡ 25
unfolding lanes
length_lanes f = length-map-range_with_len (λ i. f (i % 5) (i / 5)) 0 25

pub length_parities : (a : List ℕ) → length (parities a) ≡ 5
unfolding parities
length_parities a = length-map-range_with_len (parity a) 0 5

pub parities_at : (a : List ℕ) (x : ℕ) → x < 5
    → get_or (parities a) x 0 ≡ bit_xor (bit_xor (bit_xor (bit_xor (get_or a x 0) (get_or a (x + 5) 0)) (get_or a (x + 10) 0)) (get_or a (x + 15) 0)) (get_or a (x + 20) 0)
unfolding parities parity
parities_at a x h =
    let e0 : lane a x 0 ≡ get_or a x 0 = lane_at a x 0 x (omega arith) in
    let e1 : lane a x 1 ≡ get_or a (x + 5) 0 = lane_at a x 1 (x + 5) (omega arith) in
    let e2 : lane a x 2 ≡ get_or a (x + 10) 0 = lane_at a x 2 (x + 10) (omega arith) in
    let e3 : lane a x 3 ≡ get_or a (x + 15) 0 = lane_at a x 3 (x + 15) (omega arith) in
    let e4 : lane a x 4 ≡ get_or a (x + 20) 0 = lane_at a x 4 (x + 20) (omega arith) in
    get_or-map-range_with_len (parity a) 0 5 x x 0 h (omega arith) ∙ (cc)

pub length_effects : (c : List ℕ) → length (effects c) ≡ 5
unfolding effects
length_effects c = length-map-range_with_len (effect c) 0 5

pub effects_at : (c : List ℕ) (x : ℕ) → x < 5
    → get_or (effects c) x 0 ≡ bit_xor (get_or c ((x + 4) % 5) 0) (rotl (get_or c ((x + 1) % 5) 0) 1)
unfolding effects effect
effects_at c x h = get_or-map-range_with_len (effect c) 0 5 x x 0 h (omega arith)

pub length_θ : (a : List ℕ) → length (θ a) ≡ 25
unfolding θ
length_θ a = length_lanes _

pub θ_at : (a : List ℕ) (x y : ℕ) → x < 5 → y < 5
    → get_or (θ a) (5 * y + x) 0 ≡ bit_xor (get_or a (5 * y + x) 0) (get_or (effects (parities a)) x 0)
unfolding θ
θ_at a x y hx hy =
    get_or_lanes _ x y hx hy ∙ ap (λ w. bit_xor w (get_or (effects (parities a)) x 0)) (lane_at a x y (5 * y + x) (omega arith))

pub length_π : (a : List ℕ) → length (π a) ≡ 25
unfolding π
length_π a = length_lanes _

pub πρ_at : (a : List ℕ) (x y : ℕ) → x < 5 → y < 5
    → get_or (π (ρ a)) (5 * y + x) 0 ≡ rotl (get_or a (5 * x + (x + 3 * y) % 5) 0) (get_or offsets (5 * x + (x + 3 * y) % 5) 0)
unfolding π ρ
πρ_at a x y hx hy =
    let from : ℕ = 5 * x + (x + 3 * y) % 5 in
    let u : ℕ = (x + 3 * y) % 5 in
    let v : ℕ = x % 5 in
    let stood : 5 * (v % 5) + u % 5 ≡ from = omega arith in
    let fetched : lane a u v ≡ get_or a from 0 = lane_at a u v from stood in
    let turned : lane offsets u v ≡ get_or offsets from 0 = lane_at offsets u v from stood in
    get_or_lanes _ x y hx hy ∙ (lane_lanes _ (x + 3 * y) x ∙ (cc))

pub length_χ : (a : List ℕ) → length (χ a) ≡ 25
unfolding χ
length_χ a = length_lanes _

pub χ_at : (a : List ℕ) (x y : ℕ) → x < 5 → y < 5
    → get_or (χ a) (5 * y + x) 0 ≡ bit_xor (get_or a (5 * y + x) 0) (bit_and (complement (get_or a (5 * y + (x + 1) % 5) 0)) (get_or a (5 * y + (x + 2) % 5) 0))
unfolding χ
χ_at a x y hx hy =
    let e0 : lane a x y ≡ get_or a (5 * y + x) 0 = lane_at a x y (5 * y + x) (omega arith) in
    let e1 : lane a (x + 1) y ≡ get_or a (5 * y + (x + 1) % 5) 0 = lane_at a (x + 1) y (5 * y + (x + 1) % 5) (omega arith) in
    let e2 : lane a (x + 2) y ≡ get_or a (5 * y + (x + 2) % 5) 0 = lane_at a (x + 2) y (5 * y + (x + 2) % 5) (omega arith) in
    get_or_lanes _ x y hx hy ∙ (cc)

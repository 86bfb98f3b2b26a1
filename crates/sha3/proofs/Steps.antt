-- What stands at each place of a state after a step of the permutation.
use Rattle.std.proofs.Common.{◌≡◌, ℕ, ◌+◌, ◌*◌, ◌/◌, ◌%◌, ◌<◌, zero, suc, ◌≤◌, List, [], ◌∷◌, ◌++◌, length, take, get_or, refl, ap, ◌∙◌, ap₂, add-one, arith}
use Rattle.std.specs.List.{fold}
use Rattle.std.proofs.lemmas.List.{take_more}
use Rattle.std.proofs.lemmas.List.Sums.{fold-append}
use Rattle.std.proofs.lemmas.List.FromFn.{fill_by_all, get_or-map-range_with_len}
use Rattle.sha3.specs.Keccak.{place, lane, lanes, rotl, offsets, packed, constants, first_added, θ, ρ, π, χ, ι, Rnd, rounds, keccak_f}

-- the lane of a column and a row
pub lane_at : (a : List ℕ) (x y i : ℕ) → 5 * (y % 5) + x % 5 ≡ i → lane a x y ≡ get_or a i 0
unfolding lane place
lane_at a x y i e =
    let same : x % 5 + 5 * (y % 5) ≡ i = omega arith in
    ap (λ k. get_or a k 0) same

pub same_lane : (a : List ℕ) (u v x y : ℕ) → u % 5 ≡ x % 5 → v % 5 ≡ y % 5 → lane a u v ≡ lane a x y
unfolding lane place
same_lane a u v x y e f = ap₂ (λ p q. get_or a (p + 5 * q) 0) e f

pub get_or_lanes : (f : ℕ → ℕ → ℕ) (x y : ℕ) → x < 5 → y < 5 → get_or (lanes f) (5 * y + x) 0 ≡ f x y
unfolding lanes
get_or_lanes f x y hx hy =
    let column : (5 * y + x) % 5 ≡ x = omega arith in
    let row : (5 * y + x) / 5 ≡ y = omega arith in
    get_or-map-range_with_len (λ k. f (k % 5) (k / 5)) 0 25 (5 * y + x) (5 * y + x) 0 (omega arith) (omega arith)
    ∙ (ap (λ k. f k ((5 * y + x) / 5)) column ∙ ap (f x) row)

pub lane_lanes : (f : ℕ → ℕ → ℕ) (x y : ℕ) → lane (lanes f) x y ≡ f (x % 5) (y % 5)
lane_lanes f x y = lane_at (lanes f) x y (5 * (y % 5) + x % 5) refl ∙ get_or_lanes f (x % 5) (y % 5) (omega arith) (omega arith)

-- a state by its lanes
pub lanes_made : (b : List ℕ) (f : ℕ → ℕ → ℕ) → length b ≡ 25
    → ((x y : ℕ) → x < 5 → y < 5 → get_or b (place x y) 0 ≡ f x y) → b ≡ lanes f
unfolding lanes place
lanes_made b f whole each =
    fill_by_all (λ i. f (i % 5) (i / 5)) b 25 0 whole
    (λ k h.
    let here : k % 5 % 5 + 5 * (k / 5 % 5) ≡ k = omega arith in
    rw here at (each (k % 5) (k / 5) (omega arith) (omega arith)))

pub ρ_at : (a : List ℕ) (x y : ℕ) → lane (ρ a) x y ≡ rotl (lane a x y) (lane offsets x y)
unfolding ρ
ρ_at a x y =
    let moved : lane a (x % 5) (y % 5) ≡ lane a x y = same_lane a (x % 5) (y % 5) x y (omega arith) (omega arith) in
    let turned : lane offsets (x % 5) (y % 5) ≡ lane offsets x y = same_lane offsets (x % 5) (y % 5) x y (omega arith) (omega arith) in
    lane_lanes _ x y ∙ (cc)

-- numbers that differ by fives
pub fives : (a b c d : ℕ) → a + 5 * b ≡ c + 5 * d → a % 5 % 5 ≡ c % 5
fives a b c d e = omega arith

-- where the lane of column x and row y goes
pub πρ_to : (a : List ℕ) (x y : ℕ) → lane (π (ρ a)) y (2 * x + 3 * y) ≡ rotl (lane a x y) (lane offsets x y)
unfolding π ρ
πρ_to a x y =
    let u : ℕ = y % 5 + 3 * ((2 * x + 3 * y) % 5) in
    let v : ℕ = y % 5 in
    let column : u % 5 % 5 ≡ x % 5 = fives u (3 * ((2 * x + 3 * y) / 5)) x (x + 2 * v + 9 * (y / 5)) (omega arith) in
    let row : v % 5 % 5 ≡ y % 5 = omega arith in
    let moved : lane a (u % 5) (v % 5) ≡ lane a x y = same_lane a (u % 5) (v % 5) x y column row in
    let turned : lane offsets (u % 5) (v % 5) ≡ lane offsets x y = same_lane offsets (u % 5) (v % 5) x y column row in
    lane_lanes _ y (2 * x + 3 * y) ∙ (lane_lanes _ u v ∙ (cc))

-- one round more
pub rounds_more : (k : ℕ) (a : List ℕ) → rounds (k + 1) a ≡ Rnd k (rounds k a)
unfolding rounds
rounds_more k a = ap (λ n. rounds n a) (add-one k)

-- a round, with its constant
abbrev pub step : List ℕ → ℕ → List ℕ
step a c = first_added c (χ (π (ρ (θ a))))

-- the first n rounds
rounds_are : (a : List ℕ) (n : ℕ) → n ≤ length constants → fold step a (take n constants) ≡ rounds n a
unfolding rounds Rnd ι
rounds_are a zero h = refl
rounds_are a (suc n) h =
    let more : take (suc n) constants ≡ take n constants ++ get_or constants n 0 ∷ [] = rw (← add-one n) (take_more constants n 0 h) in
    ap (fold step a) more ∙ fold-append step a (take n constants) (get_or constants n 0 ∷ [])
    ∙ ap (λ (b : List ℕ). step b (get_or constants n 0)) (rounds_are a n (omega arith))

pub rounds_all : (a : List ℕ) → fold step a constants ≡ keccak_f a
unfolding keccak_f constants packed
rounds_all a = rounds_are a 24 (omega arith)

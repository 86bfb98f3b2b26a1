-- The permutation KECCAK-f[1600] of FIPS 202. A state is a list of 25 lanes, numbers of 64 bits; the lane of column x and row y stands at x + 5y.
use Rattle.std.specs.Prelude.{ℕ, zero, suc, ◌+◌, ◌-◌, ◌*◌, ◌/◌, ◌%◌, ◌^◌, List, [], ◌∷◌, map, replicate, bit_and, bit_or, bit_xor, slice_index, slice_set}
use Rattle.std.specs.List.{range_with_len}

-- where the lane of column x and row y stands; both count modulo 5
unfoldable pub place : ℕ → ℕ → ℕ
place x y = x % 5 + 5 * (y % 5)

-- the lane A[x, y]
unfoldable pub lane : List ℕ → ℕ → ℕ → ℕ
lane a x y = slice_index a (place x y)

-- the state whose lane at each column x and row y is f x y
unfoldable pub lanes : (ℕ → ℕ → ℕ) → List ℕ
lanes f = map (λ i. f (i % 5) (i / 5)) (range_with_len 0 25)

-- a lane rotated to the left by n bits; 64 bits are a whole turn
unfoldable pub rotl : ℕ → ℕ → ℕ
rotl w n = bit_or ((w * 2 ^ (n % 64)) % 2 ^ 64) (w / 2 ^ ((64 - n % 64) % 64))

-- a lane with each bit turned over
unfoldable pub complement : ℕ → ℕ
complement w = 2 ^ 64 - 1 - w

-- C[x]: the xor of the lanes of column x
unfoldable pub parity : List ℕ → ℕ → ℕ
parity a x = bit_xor (bit_xor (bit_xor (bit_xor (lane a x 0) (lane a x 1)) (lane a x 2)) (lane a x 3)) (lane a x 4)

-- C
unfoldable pub parities : List ℕ → List ℕ
parities a = map (parity a) (range_with_len 0 5)

-- D[x]: C[x - 1] xor C[x + 1] rotated by one
unfoldable pub effect : List ℕ → ℕ → ℕ
effect c x = bit_xor (slice_index c ((x + 4) % 5)) (rotl (slice_index c ((x + 1) % 5)) 1)

-- D
unfoldable pub effects : List ℕ → List ℕ
effects c = map (effect c) (range_with_len 0 5)

-- θ adds D[x] to each lane of column x
unfoldable pub θ : List ℕ → List ℕ
θ a = lanes (λ x y. bit_xor (lane a x y) (slice_index (effects (parities a)) x))

-- the walk that the offsets of ρ follow: it begins at (1, 0), and goes from (x, y) to (y, 2x + 3y)
unfoldable pub walk : ℕ → ℕ × ℕ
walk zero = (1, 0)
walk (suc t) = ((walk t).1, (2 * (walk t).0 + 3 * (walk t).1) % 5)

-- the offsets by lane after n steps of the walk: step t writes (t + 1)(t + 2) / 2 modulo 64, and what is not written is 0
unfoldable pub offsets_after : ℕ → List ℕ
offsets_after zero = replicate 25 0
offsets_after (suc t) = slice_set (offsets_after t) (place (walk t).0 (walk t).1) ((t + 1) * (t + 2) / 2 % 64)

unfoldable pub offsets : List ℕ
offsets = offsets_after 24

-- ρ rotates each lane by its offset
unfoldable pub ρ : List ℕ → List ℕ
ρ a = lanes (λ x y. rotl (lane a x y) (lane offsets x y))

-- π moves the lane at (x, y) to (y, 2x + 3y), so that what comes to (x, y) stood at (x + 3y, x)
unfoldable pub π : List ℕ → List ℕ
π a = lanes (λ x y. lane a (x + 3 * y) x)

-- χ adds to each lane the `and` of the next one of its row, turned over, and the one after that
unfoldable pub χ : List ℕ → List ℕ
χ a = lanes (λ x y. bit_xor (lane a x y) (bit_and (complement (lane a (x + 1) y)) (lane a (x + 2) y)))

-- the round constants, packed: bit j of a byte is bit 2^j - 1 of the constant, for j below 7
unfoldable pub packed : List ℕ
packed = 0x01 ∷ 0x1a ∷ 0x5e ∷ 0x70 ∷ 0x1f ∷ 0x21 ∷ 0x79 ∷ 0x55 ∷ 0x0e ∷ 0x0c ∷ 0x35 ∷ 0x26 ∷ 0x3f ∷ 0x4f ∷ 0x5d ∷ 0x53 ∷ 0x52 ∷ 0x48 ∷ 0x16 ∷ 0x66 ∷ 0x79 ∷ 0x58 ∷ 0x21 ∷ 0x74 ∷ []

-- what the lowest n bits of a packed byte stand for
unfoldable pub unpacked : ℕ → ℕ → ℕ
unpacked zero b = 0
unpacked (suc j) b = unpacked j b + b / 2 ^ j % 2 * 2 ^ (2 ^ j - 1)

-- RC by round
unfoldable pub constants : List ℕ
constants = map (unpacked 7) packed

-- a number added to the first lane
unfoldable pub first_added : ℕ → List ℕ → List ℕ
first_added c a = slice_set a (place 0 0) (bit_xor (lane a 0 0) c)

-- ι adds the constant of round k to the first lane
unfoldable pub ι : ℕ → List ℕ → List ℕ
ι k a = first_added (slice_index constants k) a

-- round k
unfoldable pub Rnd : ℕ → List ℕ → List ℕ
Rnd k a = ι k (χ (π (ρ (θ a))))

-- the first n rounds
unfoldable pub rounds : ℕ → List ℕ → List ℕ
rounds zero a = a
rounds (suc n) a = Rnd n (rounds n a)

unfoldable pub keccak_f : List ℕ → List ℕ
keccak_f a = rounds 24 a

-- Words of 32 bits and the functions on them, under the names of FIPS 180-4.
use Rattle.std.specs.Prelude.{ℕ, ◌+◌, ◌-◌, ◌*◌, ◌/◌, ◌%◌, ◌^◌, List, [], ◌∷◌, bit_and, bit_or, bit_xor, slice_index}

-- the sum of two words, modulo 2 ^ 32
infixl 65 ◌⊞◌
abbrev pub ◌⊞◌ : ℕ → ℕ → ℕ
x ⊞ y = (x + y) % 2 ^ 32

-- x moved n bits to the right; zeros come in
abbrev pub SHR : ℕ → ℕ → ℕ
SHR n x = x / 2 ^ n

-- x turned n bits to the right
abbrev pub ROTR : ℕ → ℕ → ℕ
ROTR n x = bit_or (x / 2 ^ n) ((x * 2 ^ (32 - n)) % 2 ^ 32)

-- each bit of x turned over
abbrev pub complement : ℕ → ℕ
complement x = 2 ^ 32 - 1 - x

unfoldable pub Ch : ℕ → ℕ → ℕ → ℕ
Ch x y z = bit_xor (bit_and x y) (bit_and (complement x) z)

unfoldable pub Maj : ℕ → ℕ → ℕ → ℕ
Maj x y z = bit_xor (bit_xor (bit_and x y) (bit_and x z)) (bit_and y z)

-- the xor of x turned by a, by b and by c
unfoldable pub Σ : ℕ → ℕ → ℕ → ℕ → ℕ
Σ a b c x = bit_xor (bit_xor (ROTR a x) (ROTR b x)) (ROTR c x)

unfoldable pub Σ0 : ℕ → ℕ
Σ0 x = Σ 2 13 22 x

unfoldable pub Σ1 : ℕ → ℕ
Σ1 x = Σ 6 11 25 x

-- the xor of x turned by a, turned by b, and moved by c
unfoldable pub σ : ℕ → ℕ → ℕ → ℕ → ℕ
σ a b c x = bit_xor (bit_xor (ROTR a x) (ROTR b x)) (SHR c x)

unfoldable pub σ0 : ℕ → ℕ
σ0 x = σ 7 18 3 x

unfoldable pub σ1 : ℕ → ℕ
σ1 x = σ 17 19 10 x

-- word t of a block of bytes, highest byte first
abbrev pub word : List ℕ → ℕ → ℕ
word block t =
    slice_index block (4 * t) * 2 ^ 24 + slice_index block (4 * t + 1) * 2 ^ 16 + slice_index block (4 * t + 2) * 2 ^ 8 + slice_index block (4 * t + 3)

-- the four bytes of a word, highest first
abbrev pub word_bytes : ℕ → List ℕ
word_bytes x = (x / 2 ^ 24 % 256) ∷ (x / 2 ^ 16 % 256) ∷ (x / 2 ^ 8 % 256) ∷ (x % 256) ∷ []

-- the eight bytes of a number below 2 ^ 64, highest first
abbrev pub eight_bytes : ℕ → List ℕ
eight_bytes x =
    (x / 2 ^ 56 % 256) ∷ (x / 2 ^ 48 % 256) ∷ (x / 2 ^ 40 % 256) ∷ (x / 2 ^ 32 % 256)
    ∷ (x / 2 ^ 24 % 256) ∷ (x / 2 ^ 16 % 256) ∷ (x / 2 ^ 8 % 256) ∷ (x % 256) ∷ []

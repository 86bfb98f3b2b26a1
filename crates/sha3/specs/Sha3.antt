-- SHA3-256 of FIPS 202 over bytes: the message is padded to blocks of 136 bytes, the sponge takes one in after another, and the first 32 bytes of its state are the digest.
use Rattle.std.specs.Prelude.{◌≡◌, ℕ, ◌+◌, ◌-◌, ◌*◌, ◌/◌, ◌%◌, ◌^◌, ◌<◌, List, [], ◌∷◌, ◌++◌, map, length, take, drop, replicate, bit_or, bit_xor, slice_index, slice_set}
use Rattle.std.proofs.Common.{sym, subst, arith}
use Rattle.std.specs.List.{range_with_len}
use Rattle.std.proofs.lemmas.Nat.{mod_below}
use Rattle.std.proofs.lemmas.List.FromFn.{length-map-range_with_len, get_or-map-range_with_len}
use Rattle.digest.specs.Blocks.{absorbed}
use Rattle.digest.specs.declared.value.Digest.{Digest}
use Rattle.sha3.specs.Keccak.{keccak_f}

-- how many bytes stand behind the first byte of the padding of n bytes
unfoldable pub gap : ℕ → ℕ
gap n = 135 - n % 136

-- the bits 01 of SHA-3 and the first bit of the padding, in one byte, and zeros to the end of a block
unfoldable pub opened : ℕ → List ℕ
opened n = 0x06 ∷ replicate (gap n) 0

-- the padding of n bytes: the highest bit of its last byte is 1 as well
unfoldable pub padding : ℕ → List ℕ
padding n = slice_set (opened n) (gap n) (bit_or (slice_index (opened n) (gap n)) 0x80)

unfoldable pub padded : List ℕ → List ℕ
padded message = message ++ padding (length message)

-- how many blocks the padded message has
unfoldable pub blocks : List ℕ → ℕ
blocks message = length message / 136 + 1

-- the number with these bytes, the lowest first
unfoldable pub little : List ℕ → ℕ
little [] = 0
little (b ∷ bs) = b + 256 * little bs

-- lane i of a block; past the block's end it is 0
unfoldable pub word : List ℕ → ℕ → ℕ
word block i = little (take 8 (drop (8 * i) block))

-- the state with a block added
unfoldable pub mixed : List ℕ → List ℕ → List ℕ
mixed a block = map (λ i. bit_xor (slice_index a i) (word block i)) (range_with_len 0 25)

-- the state after one block more
unfoldable pub absorb : List ℕ → List ℕ → List ℕ
absorb a block = keccak_f (mixed a block)

-- the state after the first n blocks of the padded message
unfoldable pub sponge : List ℕ → ℕ → List ℕ
sponge message n = absorbed absorb (replicate 25 0) 136 (padded message) n

-- byte i of a state; a lane has its lowest byte first
unfoldable pub byte : List ℕ → ℕ → ℕ
byte a i = slice_index a (i / 8) / 2 ^ (8 * (i % 8)) % 256

-- the first 32 bytes of a state
unfoldable pub squeezed : List ℕ → List ℕ
squeezed a = map (byte a) (range_with_len 0 32)

pub squeezed_whole : (a : List ℕ) → length (squeezed a) ≡ 32
unfolding squeezed
squeezed_whole a = length-map-range_with_len (byte a) 0 32

pub squeezed_at : (a : List ℕ) (i : ℕ) → i < 32 → slice_index (squeezed a) i ≡ byte a i
unfolding squeezed
squeezed_at a i h = get_or-map-range_with_len (byte a) 0 32 i i 0 h (omega arith)

pub squeezed_fits : (a : List ℕ) (i : ℕ) → i < 32 → slice_index (squeezed a) i < 256
unfolding byte
squeezed_fits a i h =
    subst (λ b. b < 256) (sym (squeezed_at a i h)) (mod_below (slice_index a (i / 8) / 2 ^ (8 * (i % 8))) 256 (omega arith))

-- the state after the whole padded message
unfoldable pub soaked : List ℕ → List ℕ
soaked message = sponge message (blocks message)

-- the digest of each message
unfoldable pub sha3_256 : List ℕ → Digest
sha3_256 message =
    record { bytes = squeezed (soaked message); whole = squeezed_whole (soaked message); fits = squeezed_fits (soaked message) }

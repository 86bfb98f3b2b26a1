-- Numbers and digests as they stand in files: a number with its highest byte first, a digest as its 32 bytes.
use Rattle.std.specs.Prelude.{◌≡◌, ℕ, zero, suc, ◌+◌, ◌*◌, ◌%◌, ◌<◌, cond, List, [], ◌∷◌, length, drop, Some, None, Option, nat_le, slice_index, refl}
use Rattle.std.proofs.Common.{ap, arith}
use Rattle.digest.specs.declared.value.Digest.{Digest}

-- every item of a list is a byte
abbrev pub Bytes : List ℕ → Type 0
Bytes xs = (k : ℕ) → k < length xs → slice_index xs k < 256

-- the number in the two bytes from a place on
abbrev pub pair_at : List ℕ → ℕ → ℕ
pair_at xs place = slice_index xs place * 256 + slice_index xs (place + 1)

-- the number in the four bytes from a place on
abbrev pub number_at : List ℕ → ℕ → ℕ
number_at xs place =
    slice_index xs place * 16777216 + slice_index xs (place + 1) * 65536 + slice_index xs (place + 2) * 256 + slice_index xs (place + 3)

-- that number, or none where the list has fewer than four bytes from the place on
abbrev pub number_told : List ℕ → ℕ → Option ℕ
number_told xs place = cond (nat_le (place + 4) (length xs)) (Some (number_at xs place)) None

-- the first n items of a list as bytes: each modulo 256, and 0 past the list's end
abbrev pub front_bytes : ℕ → List ℕ → List ℕ
front_bytes zero xs = []
front_bytes (suc n) xs = slice_index xs 0 % 256 ∷ front_bytes n (drop 1 xs)

pub front_whole : (n : ℕ) (xs : List ℕ) → length (front_bytes n xs) ≡ n
front_whole zero xs = refl
front_whole (suc n) xs = ap suc (front_whole n (drop 1 xs))

pub front_fits : (n : ℕ) (xs : List ℕ) (k : ℕ) → k < n → slice_index (front_bytes n xs) k < 256
front_fits zero xs k h = absurd (omega arith)
front_fits (suc n) xs zero h = omega arith
front_fits (suc n) xs (suc k) h = front_fits n (drop 1 xs) k (omega arith)

-- the digest whose bytes are the first 32 of a list
unfoldable pub digest_of : List ℕ → Digest
digest_of xs = record { bytes = front_bytes 32 xs; whole = front_whole 32 xs; fits = front_fits 32 xs }

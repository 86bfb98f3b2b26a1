-- SHA-256 of FIPS 180-4, on lists of bytes. A state is the eight words a to h.
use Rattle.std.specs.Prelude.{◌≡◌, ℕ, zero, suc, ◌+◌, ◌-◌, ◌*◌, ◌/◌, ◌%◌, ◌<◌, List, [], ◌∷◌, ◌++◌, map, length, replicate, slice_index, slice_index_or, refl}
use Rattle.std.proofs.Common.{arith}
use Rattle.std.specs.List.{range_with_len, flat_map, AllByRecursion}
use Rattle.std.proofs.ByRecursion.{All-append, All-get_or}
use Rattle.digest.specs.Blocks.{absorbed}
use Rattle.digest.specs.declared.value.Digest.{Digest}
use Rattle.sha256.specs.declared.state.State.{State}
use Rattle.sha256.specs.Words.{◌⊞◌, Ch, Maj, Σ0, Σ1, σ0, σ1, word, word_bytes, eight_bytes}
use Rattle.sha256.specs.Constants.{K, first_words}

-- word t of the schedule W, from the words before it
unfoldable pub next_word : List ℕ → ℕ → ℕ
next_word W t = σ1 (slice_index W (t - 2)) ⊞ slice_index_or W (t - 7) 0 ⊞ σ0 (slice_index W (t - 15)) ⊞ slice_index_or W (t - 16) 0

-- the first 16 + n words of the schedule: those of the block, then one at a time
unfoldable pub schedule : List ℕ → ℕ → List ℕ
schedule block zero = map (word block) (range_with_len 0 16)
schedule block (suc n) = schedule block n ++ next_word (schedule block n) (16 + n) ∷ []

unfoldable pub T₁ : State → ℕ → ℕ → ℕ
T₁ s k w = s.h ⊞ Σ1 s.e ⊞ Ch s.e s.f s.g ⊞ k ⊞ w

unfoldable pub T₂ : State → ℕ
T₂ s = Σ0 s.a ⊞ Maj s.a s.b s.c

-- the eight words after a round whose sums are t₁ and t₂
unfoldable pub turned : State → ℕ → ℕ → State
turned s t₁ t₂ = record { a = t₁ ⊞ t₂; b = s.a; c = s.b; d = s.c; e = s.d ⊞ t₁; f = s.e; g = s.f; h = s.g }

-- round t, with the schedule W
unfoldable pub round : List ℕ → State → ℕ → State
round W s t = turned s (T₁ s (slice_index K t) (slice_index W t)) (T₂ s)

-- n rounds, from round t on; `step` does one
abbrev pub rounds : (State → ℕ → State) → State → ℕ → ℕ → State
rounds step s t zero = s
rounds step s t (suc n) = step (rounds step s t n) (t + n)

-- the words of two states, added
unfoldable pub sums : State → State → State
sums s z =
    record {
      a = s.a ⊞ z.a;
      b = s.b ⊞ z.b;
      c = s.c ⊞ z.c;
      d = s.d ⊞ z.d;
      e = s.e ⊞ z.e;
      f = s.f ⊞ z.f;
      g = s.g ⊞ z.g;
      h = s.h ⊞ z.h;
    }

-- the state after one block more
unfoldable pub compressed : State → List ℕ → State
compressed s block = sums s (rounds (round (schedule block 48)) s 0 64)

-- the state of eight words
abbrev pub state_of : List ℕ → State
state_of ws =
    record {
      a = slice_index ws 0;
      b = slice_index ws 1;
      c = slice_index ws 2;
      d = slice_index ws 3;
      e = slice_index ws 4;
      f = slice_index ws 5;
      g = slice_index ws 6;
      h = slice_index ws 7;
    }

-- the state before the first block
abbrev pub initial : State
initial = state_of first_words

-- how many zeros the padding of n bytes has: the fewest with which n, one byte and they make 56 modulo 64
abbrev pub zeros : ℕ → ℕ
zeros n = (119 - n % 64) % 64

zeros_reach : (n : ℕ) → ((n + 1 + zeros n) % 64 ≡ 56) × (zeros n < 64)
zeros_reach n = (omega arith, omega arith)

-- what stands behind a message of n bytes: the bit 1, zeros, and the message's length in bits
unfoldable pub padding : ℕ → List ℕ
padding n = 0x80 ∷ (replicate (zeros n) 0 ++ eight_bytes (8 * n))

unfoldable pub padded : List ℕ → List ℕ
padded message = message ++ padding (length message)

-- the state after all blocks of the padded message
abbrev pub final : List ℕ → State
final message = absorbed compressed initial 64 (padded message) (length (padded message) / 64)

-- the words of a state, one after another
abbrev pub state_bytes : State → List ℕ
state_bytes s = flat_map word_bytes (s.a ∷ s.b ∷ s.c ∷ s.d ∷ s.e ∷ s.f ∷ s.g ∷ s.h ∷ [])

-- the hash of a message, as bytes
unfoldable pub sha256_bytes : List ℕ → List ℕ
sha256_bytes message = state_bytes (final message)

words_small : (xs : List ℕ) → AllByRecursion (λ b. b < 256) (flat_map word_bytes xs)
words_small [] = tt
words_small (x ∷ xs) =
    All-append (λ b. b < 256) (word_bytes x) (flat_map word_bytes xs) (omega arith, (omega arith, (omega arith, (omega arith, tt)))) (words_small xs)

bytes_small : (s : State) (k : ℕ) → k < 32 → slice_index (state_bytes s) k < 256
bytes_small s k h =
    All-get_or (λ b. b < 256) (state_bytes s) k 0 h (words_small (s.a ∷ s.b ∷ s.c ∷ s.d ∷ s.e ∷ s.f ∷ s.g ∷ s.h ∷ []))

pub sha256_length : (message : List ℕ) → length (sha256_bytes message) ≡ 32
unfolding sha256_bytes
sha256_length message = refl

pub sha256_small : (message : List ℕ) (k : ℕ) → k < 32 → slice_index (sha256_bytes message) k < 256
unfolding sha256_bytes
sha256_small message k h = bytes_small (final message) k h

-- the same, as a digest
unfoldable pub sha256 : List ℕ → Digest
sha256 message = record { bytes = sha256_bytes message; whole = sha256_length message; fits = sha256_small message }

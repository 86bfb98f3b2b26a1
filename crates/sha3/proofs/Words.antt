-- The lanes of a block and of a state with a block added, and the bytes of a lane.
use Rattle.std.proofs.Common.{◌≡◌, ℕ, zero, suc, ◌+◌, ◌*◌, ◌/◌, ◌%◌, ◌^◌, ◌<◌, ◌≤◌, List, [], ◌∷◌, length, get_or, take, drop, sym, refl, ap, ◌∙◌, arith}
use lib.Bits.{bit_xor, xor_zero_r}
use Rattle.std.proofs.lemmas.List.FromFn.{get_or-map-range_with_len, length-map-range_with_len}
use Rattle.std.proofs.lemmas.List.{drop_all, drop-drop, get_or-drop, length-drop, length-take-le}
use Rattle.std.specs.Int.{w64, from_le_bytes, to_le_bytes}
use Rattle.std.specs.Simd.{first_chunks}
use Rattle.sha3.specs.Sha3.{little, word, mixed}
use Rattle.digest.proofs.Chunks.{chunk_at}

pub little_first : (bs : List ℕ) → little bs ≡ get_or bs 0 0 + 256 * little (drop 1 bs)
unfolding little
little_first [] = refl
little_first (b ∷ bs) = refl

pub little_from : (bs : List ℕ) (n : ℕ) → little (drop n bs) ≡ get_or bs n 0 + 256 * little (drop (n + 1) bs)
little_from bs n =
    let here : get_or (drop n bs) 0 0 ≡ get_or bs (n + 0) 0 = get_or-drop n bs 0 0 in
    let same : n + 0 ≡ n = omega arith in
    let place : get_or bs (n + 0) 0 ≡ get_or bs n 0 = ap (λ k. get_or bs k 0) same in
    let rest : little (drop 1 (drop n bs)) ≡ little (drop (n + 1) bs) = ap little (drop-drop 1 n bs) in
    omega (arith, little_first (drop n bs))

-- eight bytes, each at its weight
abbrev pub weighed : List ℕ → ℕ
weighed bs = get_or bs 0 0 + get_or bs 1 0 * 256 + get_or bs 2 0 * 65536 + get_or bs 3 0 * 16777216 + get_or bs 4 0 * 4294967296 + get_or bs 5 0 * 1099511627776 + get_or bs 6 0 * 281474976710656 + get_or bs 7 0 * 72057594037927936

pub little_eight : (bs : List ℕ) → length bs ≡ 8 → little bs ≡ weighed bs
unfolding little
little_eight bs h =
    let none : little (drop 8 bs) ≡ 0 = ap little (drop_all 8 bs (omega arith)) in
    omega (
      arith,
      little_from bs 0,
      little_from bs 1,
      little_from bs 2,
      little_from bs 3,
      little_from bs 4,
      little_from bs 5,
      little_from bs 6,
      little_from bs 7,
    )

-- a lane by the eight bytes of its block
pub word_weighed : (block : List ℕ) (i : ℕ) → 8 * i + 8 ≤ length block → weighed (take 8 (drop (8 * i) block)) ≡ word block i
unfolding word
word_weighed block i h =
    let bs : List ℕ = take 8 (drop (8 * i) block) in
    let whole : length bs ≡ 8 = length-take-le 8 (drop (8 * i) block) (omega (arith, length-drop (8 * i) block)) in
    sym (little_eight bs whole)

-- a lane that is read from chunk i of its block
pub word_read : (block d : List ℕ) (n i : ℕ) → i < n → n * 8 ≤ length block
    → from_le_bytes w64 (get_or (first_chunks 8 n block) i d) ≡ word block i
word_read block d n i h room =
    let same : i * 8 ≡ 8 * i = omega arith in
    let bs : List ℕ = take 8 (drop (8 * i) block) in
    let cut : get_or (first_chunks 8 n block) i d ≡ bs = chunk_at 8 n i block d h ∙ ap (λ (k : ℕ). take 8 (drop k block)) same in
    rw cut (word_weighed block i (omega arith))

-- past the end of a block its lanes are 0
pub word_past : (block : List ℕ) (i : ℕ) → length block ≤ 8 * i → word block i ≡ 0
unfolding word little
word_past block i h = ap (λ bs. little (take 8 bs)) (drop_all (8 * i) block h)

pub length_mixed : (a block : List ℕ) → length (mixed a block) ≡ 25
unfolding mixed
length_mixed a block = length-map-range_with_len (λ i. bit_xor (get_or a i 0) (word block i)) 0 25

pub mixed_at : (a block : List ℕ) (i : ℕ) → i < 25 → get_or (mixed a block) i 0 ≡ bit_xor (get_or a i 0) (word block i)
unfolding mixed
mixed_at a block i h = get_or-map-range_with_len (λ k. bit_xor (get_or a k 0) (word block k)) 0 25 i i 0 h (omega arith)

-- the lanes that no block reaches stay
pub mixed_past : (a block : List ℕ) (i : ℕ) → length block ≡ 136 → 17 ≤ i → i < 25 → get_or (mixed a block) i 0 ≡ get_or a i 0
mixed_past a block i n low high =
    mixed_at a block i high
    ∙ (ap (bit_xor (get_or a i 0)) (word_past block i (omega arith)) ∙ xor_zero_r (get_or a i 0))

-- byte j of a number
pub byte_of : (n j : ℕ) → j < 8 → get_or (to_le_bytes w64 n) j 0 ≡ n / 2 ^ (8 * j) % 256
byte_of n zero h = let whole : n / 1 ≡ n = omega arith in rw whole
byte_of n (suc zero) h = refl
byte_of n (suc (suc zero)) h = refl
byte_of n (suc (suc (suc zero))) h = refl
byte_of n (suc (suc (suc (suc zero)))) h = refl
byte_of n (suc (suc (suc (suc (suc zero))))) h = refl
byte_of n (suc (suc (suc (suc (suc (suc zero)))))) h = refl
byte_of n (suc (suc (suc (suc (suc (suc (suc zero))))))) h = refl
byte_of n (suc (suc (suc (suc (suc (suc (suc (suc j)))))))) h = absurd (omega arith)

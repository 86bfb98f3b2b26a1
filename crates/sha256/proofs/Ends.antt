-- The end of a padded message, and its length in blocks.
use Rattle.std.proofs.Common.{◌≡◌, ℕ, suc, ◌+◌, ◌-◌, ◌*◌, ◌/◌, ◌%◌, ◌<◌, ◌≤◌, ltb, List, ◌∷◌, ◌++◌, length, take, drop, set, replicate, sym, refl, ap, ◌∙◌, ap₂, arith}
use borrow.Rule.Slice.PartMut.{put_mid}
use Rattle.std.proofs.lemmas.List.{append_assoc, length-append, length-drop, length-replicate, replicate-append-replicate, drop-replicate, drop-append-le, drop-drop, drop_at, take_at, set_at}
use Rattle.std.proofs.lemmas.Bool.{cond_both, ltb-true, ltb-false}
use Rattle.sha256.specs.Words.{eight_bytes}
use Rattle.sha256.specs.Sha256.{zeros, padding, padded}
use Rattle.sha256.specs.Tail.{tail_blocks, tail}

-- a byte at the end of what a copy wrote into n zeros
pub marked_in : (n : ℕ) (rest ys : List ℕ) → length rest < n → ys ≡ rest
    → set (ys ++ drop (length rest) (replicate n 0)) (length rest) 0x80 ≡ rest ++ 0x80 ∷ replicate (n - 1 - length rest) 0
marked_in n rest ys h e =
    let left : n - length rest ≡ suc (n - 1 - length rest) = omega arith in
    ap (λ (l : List ℕ). set l (length rest) 0x80) (ap₂ ◌++◌ e (drop-replicate {X = ℕ} (length rest) n 0 ∙ ap (λ (k : ℕ). replicate k 0) left))
    ∙ set_at rest 0 (replicate (n - 1 - length rest) 0) 0x80 (length rest) refl

-- the same in the two blocks of an end
pub marked_is : (rest ys : List ℕ) → length rest < 64 → ys ≡ rest
    → set (ys ++ drop (length rest) (replicate 128 0)) (length rest) 0x80 ≡ rest ++ 0x80 ∷ replicate (127 - length rest) 0
marked_is rest ys h e = marked_in 128 rest ys (omega arith) e

-- eight bytes over the zeros behind the z that stay; q zeros are left
module _ (rest eight : List ℕ) (z q : ℕ) where
  front : List ℕ
  front = rest ++ 0x80 ∷ replicate z 0

  abbrev filled : List ℕ
  filled = rest ++ 0x80 ∷ replicate (z + (8 + q)) 0

  filled_parts : filled ≡ front ++ replicate (8 + q) 0
  unfolding front
  filled_parts =
      ap (λ (l : List ℕ). rest ++ 0x80 ∷ l) (sym (replicate-append-replicate z (8 + q) 0))
      ∙ sym (append_assoc rest (0x80 ∷ replicate z 0) (replicate (8 + q) 0))

  pub sealed_is : (n : ℕ) → length rest + 1 + z ≡ n
      → take n filled ++ (eight ++ drop (n + 8) filled) ≡ (rest ++ 0x80 ∷ (replicate z 0 ++ eight)) ++ replicate q 0
  unfolding front
  sealed_is n h =
      let size : length front ≡ n = simp (length-append, length-replicate) (omega arith) in
      let eq : 8 + q - 8 ≡ q = omega arith in
      let t : take n filled ≡ front = ap (take n) filled_parts ∙ take_at front (replicate (8 + q) 0) n size in
      let d : drop (n + 8) filled ≡ replicate q 0 =
      sym (drop-drop 8 n filled) ∙ ap (λ (l : List ℕ). drop 8 (drop n l)) filled_parts ∙ ap (drop 8) (drop_at front (replicate (8 + q) 0) n size)
      ∙ drop-replicate 8 (8 + q) 0 ∙ ap (λ (m : ℕ). replicate m 0) eq in
      rw (t, d) (simp append_assoc)

-- a part of an array, written over from `end - 8` to `end`
pub part_is : (last ys eight : List ℕ) (end : ℕ) → 8 ≤ end → ys ≡ eight
    → put_mid (end - 8) (end - (end - 8)) last ys ≡ take (end - 8) last ++ (eight ++ drop end last)
part_is last ys eight end h e =
    let to : end - 8 + (end - (end - 8)) ≡ end = omega arith in
    ap (λ (l : List ℕ). take (end - 8) last ++ (l ++ drop (end - (end - 8)) (drop (end - 8) last))) e
    ∙ ap (λ (l : List ℕ). take (end - 8) last ++ (eight ++ l)) (drop-drop (end - (end - 8)) (end - 8) last)
    ∙ ap (λ (n : ℕ). take (end - 8) last ++ (eight ++ drop n last)) to

-- the padding ends with a block
pub tail_sized : (n : ℕ) → n % 64 + 9 + zeros n ≡ 64 * tail_blocks n
unfolding tail_blocks
tail_sized n =
    cond_both (ltb (n % 64) 56) 1 2 (λ b. n % 64 + 9 + zeros n ≡ 64 * b)
    (λ e. omega (arith, ltb-true (n % 64) 56 e)) (λ e. omega (arith, ltb-false (n % 64) 56 e))

tail_two : (n : ℕ) → tail_blocks n ≤ 2
unfolding tail_blocks
tail_two n = cond_both (ltb (n % 64) 56) 1 2 (λ b. b ≤ 2) (λ e. omega arith) (λ e. omega arith)

-- what the array holds after all writes
pub tail_is : (message rest last : List ℕ) (b : ℕ) → rest ≡ drop (length message / 64 * 64) message
    → b ≡ tail_blocks (length message) → last ≡ rest ++ 0x80 ∷ replicate (127 - length rest) 0
    → take (64 * b - 8) last ++ (eight_bytes (8 * length message) ++ drop (64 * b) last)
    ≡ tail message ++ replicate (128 - 64 * tail_blocks (length message)) 0
unfolding padded padding
tail_is message rest last b er eb el =
    let n = length message in
    let w = n / 64 * 64 in
    let z = zeros n in
    let q = 128 - 64 * tail_blocks n in
    let eight = eight_bytes (8 * n) in
    let low : w ≤ n = omega arith in
    let sized : n % 64 + 9 + z ≡ 64 * b = tail_sized n ∙ ap (λ (m : ℕ). 64 * m) (sym eb) in
    let two : b ≤ 2 = omega (arith, tail_two n) in
    let size : length rest ≡ n % 64 = ap length er ∙ length-drop w message ∙ omega arith in
    let room : 127 - length rest ≡ z + (8 + q) = omega arith in
    let all : 64 * b - 8 + 8 ≡ 64 * b = omega arith in
    let stay : length rest + 1 + z ≡ 64 * b - 8 = omega arith in
    let full : last ≡ rest ++ 0x80 ∷ replicate (z + (8 + q)) 0 = el ∙ ap (λ (m : ℕ). rest ++ 0x80 ∷ replicate m 0) room in
    ap (λ (l : List ℕ). take (64 * b - 8) l ++ (eight ++ drop (64 * b) l)) full
    ∙ ap (λ (m : ℕ). take (64 * b - 8) (rest ++ 0x80 ∷ replicate (z + (8 + q)) 0) ++ (eight ++ drop m (rest ++ 0x80 ∷ replicate (z + (8 + q)) 0))) (sym all)
    ∙ sealed_is rest eight z q (64 * b - 8) stay
    ∙ ap (λ (l : List ℕ). (l ++ 0x80 ∷ (replicate z 0 ++ eight)) ++ replicate q 0) er
    ∙ ap (λ (l : List ℕ). l ++ replicate q 0) (sym (drop-append-le w message (padding n) low))

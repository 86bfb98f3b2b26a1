-- Laws of the schedule and of the rounds, one step of a loop at a time.
use Rattle.std.proofs.Common.{◌≡◌, ℕ, zero, suc, ◌+◌, ◌-◌, ◌*◌, ◌<◌, ◌≤◌, List, [], ◌∷◌, ◌++◌, map, length, get_or, take, drop, set, sym, ap, ◌∙◌, add-zero, add-suc, zero-add, arith}
use Rattle.std.specs.List.{range_with_len}
use Rattle.std.proofs.lemmas.List.{take_more_set, get_or-take, get_or-drop}
use Rattle.std.proofs.lemmas.List.FromFn.{map-range_with_len_more}
use Rattle.std.specs.Int.{w32, from_be_bytes}
use Rattle.std.specs.Simd.{first_chunks}
use Rattle.digest.proofs.Chunks.{chunk_at}
use Rattle.sha256.specs.declared.state.State.{State}
use Rattle.sha256.specs.Words.{word}
use Rattle.sha256.specs.Sha256.{next_word, schedule, rounds}

-- a word that is read from chunk t of the block
pub word_read : (block d : List ℕ) (n t : ℕ) → t < n → from_be_bytes w32 (get_or (first_chunks 4 n block) t d) ≡ word block t
word_read block d n t h =
    let chunk : List ℕ = get_or (first_chunks 4 n block) t d in
    let cut : chunk ≡ take 4 (drop (t * 4) block) = chunk_at 4 n t block d h in
    let byte : (k : ℕ) → k < 4 → get_or chunk k 0 ≡ get_or block (4 * t + k) 0 =
    λ k l. let place : t * 4 + k ≡ 4 * t + k = omega arith in
    ap (λ (c : List ℕ). get_or c k 0) cut ∙ get_or-take 4 (drop (t * 4) block) k 0 l ∙ get_or-drop (t * 4) block k 0 ∙ ap (λ (n : ℕ). get_or block n 0) place in
    let first : 4 * t + 0 ≡ 4 * t = omega arith in
    let b0 = rw first at (byte 0 (omega arith)) in
    let b1 = byte 1 (omega arith) in
    let b2 = byte 2 (omega arith) in
    let b3 = byte 3 (omega arith) in
    rw (b0, b1, b2, b3)

-- one word of the block more
pub block_more : (block w : List ℕ) (t x : ℕ) → t < length w → take t w ≡ map (word block) (range_with_len 0 t) → x ≡ word block t
    → take (t + 1) (set w t x) ≡ map (word block) (range_with_len 0 (t + 1))
block_more block w t x h e p =
    take_more_set w t x h ∙ ap (λ (y : List ℕ). y ++ x ∷ []) e ∙ ap (λ (y : ℕ). map (word block) (range_with_len 0 t) ++ y ∷ []) p
    ∙ sym (map-range_with_len_more (word block) 0 t t (zero-add t))

-- word t is made from words below t
pub next_word_take : (w : List ℕ) (t : ℕ) → 16 ≤ t → next_word (take t w) t ≡ next_word w t
unfolding next_word
next_word_take w t h =
    let p2 : t - 2 < t = omega arith in
    let p7 : t - 7 < t = omega arith in
    let p15 : t - 15 < t = omega arith in
    let p16 : t - 16 < t = omega arith in
    simp get_or-take

-- one word of the schedule more
pub schedule_more : (block w : List ℕ) (t x : ℕ) → 16 ≤ t → t < length w → take t w ≡ schedule block (t - 16) → x ≡ next_word w t
    → take (t + 1) (set w t x) ≡ schedule block (t + 1 - 16)
unfolding schedule
schedule_more block w t x low h e p =
    let back : t ≡ 16 + (t - 16) = omega arith in
    let one : suc (t - 16) ≡ t + 1 - 16 = omega arith in
    let made : x ≡ next_word (schedule block (t - 16)) (16 + (t - 16)) =
    p ∙ sym (next_word_take w t low) ∙ ap (λ (y : List ℕ). next_word y t) e ∙ ap (next_word (schedule block (t - 16))) back in
    take_more_set w t x h ∙ ap (λ (y : List ℕ). y ++ x ∷ []) e ∙ ap (λ (y : ℕ). schedule block (t - 16) ++ y ∷ []) made
    ∙ ap (schedule block) one

-- rounds after rounds
pub rounds_add : (step : State → ℕ → State) (s : State) (m n : ℕ) → rounds step (rounds step s 0 m) m n ≡ rounds step s 0 (m + n)
rounds_add step s m zero = ap (rounds step s 0) (sym (add-zero m))
rounds_add step s m (suc n) =
    ap (λ (z : State). step z (m + n)) (rounds_add step s m n) ∙ ap (step (rounds step s 0 (m + n))) (sym (zero-add (m + n)))
    ∙ ap (rounds step s 0) (sym (add-suc m n))

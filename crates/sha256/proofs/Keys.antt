-- Rounds over a keyed schedule are the standard's rounds.
use Rattle.std.proofs.Common.{◌≡◌, ℕ, zero, suc, ◌/◌, ◌<◌, ◌≤◌, List, [], ◌∷◌, ◌++◌, length, take, get_or, refl, sym, ap, ◌∙◌, zero-add, add-one, arith}
use Rattle.std.specs.List.{fold}
use Rattle.std.specs.Simd.{first_chunks}
use Rattle.std.proofs.lemmas.List.{take_more}
use Rattle.std.proofs.lemmas.List.Sums.{fold-append}
use Rattle.std.proofs.lemmas.List.FromFn.{get_or-map-range_with_len, length-map-range_with_len}
use Rattle.digest.proofs.Chunks.{fold_chunks}
use Rattle.sha256.specs.declared.state.State.{State}
use Rattle.sha256.specs.Words.{◌⊞◌, Ch, Σ1}
use Rattle.sha256.specs.Constants.{K}
use Rattle.sha256.specs.Sha256.{turned, T₁, T₂, round, rounds}
use Rattle.sha256.specs.Keyed.{key, keyed, keyed_round}

-- it does not matter which sum is taken first
sum_assoc : (x y z : ℕ) → x ⊞ (y ⊞ z) ≡ x ⊞ y ⊞ z
sum_assoc x y z = omega arith

pub length_keyed : (W : List ℕ) → length (keyed W) ≡ 64
unfolding keyed
length_keyed W = length-map-range_with_len (key W) 0 64

pub keyed_at : (W : List ℕ) (t : ℕ) → t < 64 → get_or (keyed W) t 0 ≡ key W t
unfolding keyed
keyed_at W t h = get_or-map-range_with_len (key W) 0 64 t t 0 h (zero-add t)

keyed_round_is : (W : List ℕ) (s : State) (t : ℕ) → t < 64 → keyed_round s (get_or (keyed W) t 0) ≡ round W s t
unfolding keyed_round round T₁ key
keyed_round_is W s t h =
    ap (λ (x : ℕ). turned s x (T₂ s))
    (ap (λ (x : ℕ). s.h ⊞ Σ1 s.e ⊞ Ch s.e s.f s.g ⊞ x) (keyed_at W t h)
    ∙ sum_assoc (s.h ⊞ Σ1 s.e ⊞ Ch s.e s.f s.g) (get_or K t 0) (get_or W t 0))

-- the first n rounds
pub rounds_are : (W : List ℕ) (s : State) (n : ℕ) → n ≤ 64 → fold keyed_round s (take n (keyed W)) ≡ rounds (round W) s 0 n
rounds_are W s zero h = refl
rounds_are W s (suc n) h =
    let X = keyed W in
    let room : n < length X = omega (arith, length_keyed W) in
    let more : take (suc n) X ≡ take n X ++ get_or X n 0 ∷ [] = rw (← add-one n) (take_more X n 0 room) in
    ap (fold keyed_round s) more ∙ fold-append keyed_round s (take n X) (get_or X n 0 ∷ [])
    ∙ ap (λ (z : State). keyed_round z (get_or X n 0)) (rounds_are W s n (omega arith))
    ∙ keyed_round_is W (rounds (round W) s 0 n) n (omega arith)
    ∙ ap (round W (rounds (round W) s 0 n)) (sym (zero-add n))

-- all 64, eight at a time
pub eights_are : (W : List ℕ) (s : State)
    → fold (fold keyed_round) s (first_chunks 8 (length (keyed W) / 8) (keyed W)) ≡ rounds (round W) s 0 64
eights_are W s =
    rw (length_keyed W) (fold_chunks keyed_round s 8 8 64 (keyed W) refl ∙ rounds_are W s 64 (omega arith))

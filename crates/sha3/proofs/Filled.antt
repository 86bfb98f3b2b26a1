-- A state that is filled lane by lane.
use Rattle.std.proofs.Common.{◌≡◌, ℕ, ◌+◌, ◌*◌, ◌%◌, ◌<◌, ◌≤◌, ◌≢◌, inl, inr, List, length, get_or, set, sym, ◌∙◌, subst, arith, length-set}
use Rattle.std.proofs.lemmas.Bool.{cases_lt}
use Rattle.std.proofs.lemmas.List.{get_or-set_other, get_or-set_same}
use Rattle.sha3.specs.Keccak.{place}

-- b is a state, and each of its first n lanes is one that Q allows for its column and row
abbrev pub Filled : (ℕ → ℕ → ℕ → Type 0) → List ℕ → ℕ → Type 0
Filled Q b n = (length b ≡ 25) × ((x y : ℕ) → x < 5 → y < 5 → 5 * y + x < n → Q x y (get_or b (place x y) 0))

pub filled_more : (Q : ℕ → ℕ → ℕ → Type 0) (b : List ℕ) (x y v p n : ℕ) → Filled Q b (5 * y + x) → x < 5 → y < 5
    → p ≡ place x y → Q x y v → n ≡ 5 * y + x + 1 → Filled Q (set b p v) n
unfolding place
filled_more Q b x y v p n held hx hy e here en = (
  length-set b p v ∙ held.0,
  λ u w hu hw h. elim (cases_lt (5 * w + u) (5 * y + x)) [
    | inl low ↦
        let other : u % 5 + 5 * (w % 5) ≢ p = omega arith in
        subst (Q u w) (sym (get_or-set_other b p (u % 5 + 5 * (w % 5)) v 0 other)) (held.1 u w hu hw low)
    | inr high ↦
        let column : u ≡ x = omega arith in
        let row : w ≡ y = omega arith in
        let room : p < length b = omega arith in
        let value : get_or (set b p v) (u % 5 + 5 * (w % 5)) 0 ≡ v =
        let same : u % 5 + 5 * (w % 5) ≡ p = omega arith in rw same (get_or-set_same b p v 0 room) in
        rw value (rw (column, row) here)
  ],
)

-- what is not written yet is as it was
pub unwritten_more : (a xs : List ℕ) (i v : ℕ) → ((k : ℕ) → i ≤ k → get_or xs k 0 ≡ get_or a k 0)
    → (k : ℕ) → i + 1 ≤ k → get_or (set xs i v) k 0 ≡ get_or a k 0
unwritten_more a xs i v same k h =
    let other : k ≢ i = omega arith in
    get_or-set_other xs i k v 0 other ∙ same k (omega arith)

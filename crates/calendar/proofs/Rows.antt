-- Rows: what a place answers, and what a publication closes.
use Rattle.std.proofs.Common.{◌≡◌, ℕ, zero, suc, ◌+◌, ◌-◌, ◌^◌, ◌<◌, ◌≤◌, ◌&&◌, ltb, List, [], ◌∷◌, ◌++◌, length, get_or, take, Option, Some, None, IsSome, refl, ap, ◌∙◌, arith}
use Rattle.std.proofs.lemmas.List.Edits.{between_none, between_more}
use Rattle.std.proofs.lemmas.Bool.{cond-true, cond-false, lt-ltb, le-ltb, and_from, and_left, and_right}
use Rattle.std.specs.List.{between, slice_get}
use Rattle.tree.specs.Trees.{root}
use Rattle.calendar.specs.Published.{published}

module _ {N : Type 0} where
  pub nth_none : (xs : List N) (i : ℕ) → None ≡ slice_get xs i → length xs ≤ i
  nth_none [] i e = omega arith
  nth_none (x ∷ xs) zero e = let z : ◌≡◌ {A = ℕ} 0 1 = cc in absurd (omega arith)
  nth_none (x ∷ xs) (suc i) e = omega (arith, nth_none xs i e)

  pub nth_some : (xs : List N) (i : ℕ) (x : N) → Some x ≡ slice_get xs i → (i < length xs) × (get_or xs i x ≡ x)
  nth_some [] i x e = let z : ◌≡◌ {A = ℕ} 0 1 = cc in absurd (omega arith)
  nth_some (y ∷ xs) zero x e = (omega arith, cc)
  nth_some (y ∷ xs) (suc i) x e = let inner = nth_some xs i x e in (omega (arith, inner.0), inner.1)

  -- one place more of a range
  pub range_more : (xs : List N) (low place : ℕ) (x : N) → low ≤ place → Some x ≡ slice_get xs place
      → between low (place + 1) xs ≡ between low place xs ++ x ∷ []
  range_more xs low place x after e =
      let at = nth_some xs place x e in
      between_more xs low place x after at.0 ∙ ap (λ y. between low place xs ++ y ∷ []) at.1

  -- the first place
  pub range_first : (xs : List N) (low : ℕ) (x : N) → Some x ≡ slice_get xs low → between low (low + 1) xs ≡ x ∷ []
  range_first xs low x e =
      range_more xs low low x (omega arith) e ∙ ap (λ ys. ys ++ x ∷ []) (between_none xs low)

  pub published_there : (p : ℕ) (row : List N) → p < length row → p < 2 ^ 31 → published p row ≡ between 0 (p + 1) row
  published_there p row there early =
      let same : suc p ≡ p + 1 - 0 = omega arith in
      cond-true (ltb p (length row) && ltb p (2 ^ 31)) _ _ (and_from _ _ (lt-ltb p (length row) there) (lt-ltb p (2 ^ 31) early))
      ∙ ap (λ n. take n row) same

  pub published_short : (p : ℕ) (row : List N) → length row ≤ p → published p row ≡ []
  published_short p row short = cond-false (ltb p (length row) && ltb p (2 ^ 31)) _ _ (and_left _ _ (le-ltb p (length row) short))

  pub published_late : (p : ℕ) (row : List N) → 2 ^ 31 ≤ p → published p row ≡ []
  published_late p row late = cond-false (ltb p (length row) && ltb p (2 ^ 31)) _ _ (and_right _ _ (le-ltb p (2 ^ 31) late))

  -- nodes have a root
  pub some_root : (join : N → N → N) (xs : List N) (r : Option N) → 1 ≤ length xs → root join xs ≡ r → IsSome r
  some_root join [] r h e = absurd (omega arith)
  some_root join (x ∷ xs) None h e = let z : ◌≡◌ {A = ℕ} 0 1 = cc in absurd (omega arith)
  some_root join (x ∷ xs) (Some y) h e = refl

  -- the root of a range, its ends told by other numbers that are equal
  pub root_same : (join : N → N → N) (row : List N) (r : Option N) {low end : ℕ} (first behind : ℕ)
      → root join (between low end row) ≡ r → low ≡ first → end ≡ behind → root join (between first behind row) ≡ r
  root_same join row r first behind is low_is end_is = cc

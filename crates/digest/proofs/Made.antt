-- An array that is made by calls of one function, at each place in turn.
use Rattle.std.proofs.Common.{◌≡◌, ℕ, zero, suc, ◌+◌, ◌<◌, List, get_or, map, refl, subst, ◌∙◌, add-zero, zero-add, arith}
use Rattle.std.specs.List.{range_with_len}
use Rattle.std.specs.Array.{IsFromFnResult, IsFromFnResultFrom}
use Rattle.std.proofs.lemmas.List.FromFn.{fill_by_all}
use denote.Param.Members.{Mut, Called}

-- each call answers h of its place, and leaves the function as it was
module _ {F : Type 0} (g : Mut F (ℕ × Unit {0}) ℕ) (f : F) (ys : List ℕ) (h : ℕ → ℕ) (size : ℕ)
    (step : (i y : ℕ) (q : F) → i < size → Called g f (i, tt) y q → (q ≡ f) × (y ≡ h i)) where
  made_from : (i n : ℕ) (p : F) → i + n ≡ size → p ≡ f → IsFromFnResultFrom g p ys i n → (k : ℕ) → k < n → get_or ys (i + k) 0 ≡ h (i + k)
  made_from i zero p e same calls k l = absurd (omega arith)
  made_from i (suc n) p e same (q, y, here, called, rest) zero l =
      let one = step i y q (omega arith) (subst (λ s. Called g s (i, tt) y q) same called) in
      rw add-zero (here.1 0 ∙ one.1)
  made_from i (suc n) p e same (q, y, here, called, rest) (suc k) l =
      let one = step i y q (omega arith) (subst (λ s. Called g s (i, tt) y q) same called) in
      let next : i + 1 + k ≡ i + suc k = omega arith in
      rw (← next) (made_from (i + 1) n q (omega arith) one.0 rest k (omega arith))

  pub made : IsFromFnResult g f ys size → ys ≡ map h (range_with_len 0 size)
  made calls = fill_by_all h ys size 0 calls.long (λ k l. rw zero-add at (made_from 0 size f (zero-add size) refl calls.each k l))

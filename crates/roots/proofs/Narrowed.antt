-- A search that narrows a list whose seconds rise: what lies before and behind the part that is left.
use Rattle.std.proofs.Common.{◌≡◌, ℕ, ◌+◌, ◌-◌, ◌*◌, ◌^◌, ◌<◌, ◌≤◌, true, ◌⊎◌, List, [], length, get_or, Some, None, sym, ap, ◌∙◌, inl, inr, ⊎_elim, mul_assoc, mul-le-mul_left, arith, pow_mono, pow-add}
use Rattle.std.proofs.lemmas.Bool.{cases_lt}
use Rattle.roots.specs.Entries.{second_in, entry_of, listed, seconds_of, rising, looked_up}
use Rattle.roots.proofs.Listed.{length_listed, length_seconds, nth_listed, second_at}
use Rattle.roots.proofs.Rises.{strictly}
use Rattle.roots.proofs.Found.{missing, found}

pub record Narrowed (raws : List (List ℕ)) (second low high looks : ℕ) : Type 0 where
  pub order : low ≤ high
  pub inside : high ≤ length raws
  pub before : (k : ℕ) → k < low → get_or (seconds_of (listed raws)) k 0 < second
  pub behind : (k : ℕ) → high ≤ k → k < length raws → second < get_or (seconds_of (listed raws)) k 0
  pub left : 2 ^ looks * (high - low) ≤ length raws
  pub looked : 2 ^ looks ≤ 2 * length raws + 1

at_most : (k n : ℕ) → k ≤ n → (k ≡ n) ⊎ (k < n)
at_most k n h = ⊎_elim (λ l. inr l) (λ g. inl (omega arith)) (cases_lt k n)

module _ (raws : List (List ℕ)) (second low high looks : ℕ) (part : Narrowed raws second low high looks) where
  -- how many looks there were fits a byte
  pub few : length raws < 2 ^ 64 → looks < 128
  few size = ⊎_elim (λ h. h) (λ h. absurd (omega (arith, pow_mono {i = 128} {j = looks} h, part.looked))) (cases_lt looks 128)

  -- nothing is left: the second is not there
  pub gone : high ≤ low → looked_up (listed raws) second ≡ None
  gone h =
      missing (listed raws) second (λ k l same.
      let there : k < length raws = omega (arith, length_listed raws) in
      ⊎_elim (λ front. omega (arith, part.before k front)) (λ back. omega (arith, part.behind k (omega (arith, part.order)) there)) (cases_lt k low))

  module _ (some : low < high) where
    double : 2 ^ (looks + 1) ≡ 2 ^ looks * 2
    double = pow-add 2 looks 1

    one : 2 ^ looks ≤ length raws
    one = omega (arith, mul-le-mul_left {m = 1} {n = high - low} (2 ^ looks) (omega arith), part.left)

    pub more : 2 ^ (looks + 1) ≤ 2 * length raws + 1
    more = omega (arith, double, one)

    halved : (n : ℕ) → n * 2 ≤ high - low → 2 ^ (looks + 1) * n ≤ length raws
    halved n h =
        let grouped : 2 ^ (looks + 1) * n ≡ 2 ^ looks * (2 * n) = ap (λ p. p * n) double ∙ mul_assoc (2 ^ looks) 2 n in
        omega (arith, grouped, mul-le-mul_left {m = 2 * n} {n = high - low} (2 ^ looks) (omega arith), part.left)

    module _ (ordered : rising 0 (seconds_of (listed raws)) ≡ true) (middle at : ℕ) (here : at ≡ second_in (get_or raws middle []))
        (least : low ≤ middle) (most : middle < high) where
      there : middle < length raws
      there = omega (arith, part.inside)

      value : get_or (seconds_of (listed raws)) middle 0 ≡ at
      value = second_at raws middle there ∙ sym here

      pub above : at < second → (high - (middle + 1)) * 2 ≤ high - low → Narrowed raws second (middle + 1) high (looks + 1)
      above h half =
          record {
            order = omega arith;
            inside = part.inside;
            before = λ k l.
                ⊎_elim (λ same. omega (arith, value, ap (λ j. get_or (seconds_of (listed raws)) j 0) same))
                (λ front. omega (arith, value, strictly 0 (seconds_of (listed raws)) ordered k middle front (omega (arith, there, length_seconds raws))))
                (at_most k middle (omega arith));
            behind = part.behind;
            left = halved (high - (middle + 1)) half;
            looked = more;
          }

      pub below : second < at → (middle - low) * 2 ≤ high - low → Narrowed raws second low middle (looks + 1)
      below h half =
          record {
            order = omega arith;
            inside = omega (arith, there);
            before = part.before;
            behind = λ k l lt.
                ⊎_elim (λ same. omega (arith, value, ap (λ j. get_or (seconds_of (listed raws)) j 0) same))
                (λ back. omega (arith, value, strictly 0 (seconds_of (listed raws)) ordered middle k back (omega (arith, lt, length_seconds raws))))
                (at_most middle k l);
            left = halved (middle - low) half;
            looked = more;
          }

      pub met : at ≡ second → looked_up (listed raws) second ≡ Some (entry_of (get_or raws middle [])).root
      met e =
          ap (looked_up (listed raws)) (sym (sym here ∙ e))
          ∙ found 0 (listed raws) middle (entry_of (get_or raws middle [])) ordered (nth_listed raws middle there)

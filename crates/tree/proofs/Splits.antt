-- `split n` is the largest power of two below n, and nothing else is.
use Rattle.std.proofs.Common.{◌≡◌, ℕ, zero, suc, ◌-◌, ◌*◌, ◌%◌, ◌^◌, ◌<◌, ◌≤◌, ltb, ◌⊎◌, sym, refl, ap, ◌∙◌, inl, inr, pow-suc, arith, pow_mono}
use Rattle.std.proofs.lemmas.Nat.{one_shl}
use Rattle.std.proofs.lemmas.Bool.{ltb-true, ltb-false, cond_both, cases_order}
use Rattle.tree.specs.Split.{Splits, doubled, split}
use Rattle.tree.specs.Laws.{SplitLaw}

pub twice : (j : ℕ) → 2 ^ suc j ≡ 2 * 2 ^ j
twice j = omega (arith, pow-suc 2 j)

below_pow : (n : ℕ) → n < 2 ^ n
below_pow zero = omega arith
below_pow (suc n) = omega (arith, below_pow n, twice n)

-- what holds after each doubling: a power of two below n, the last one below it unless every doubling was made
abbrev Reached : ℕ → ℕ → ℕ → Type 0
Reached n times k = ((j : ℕ) × (k ≡ 2 ^ j)) × (k < n) × ((n ≤ 2 * k) ⊎ (k ≡ 2 ^ times))

reached : (n : ℕ) → 2 ≤ n → (times : ℕ) → Reached n times (doubled n times)
unfolding doubled
reached n h zero = ((0, refl), omega arith, inr refl)
reached n h (suc times) =
    let k : ℕ = doubled n times in
    let before : Reached n times k = reached n h times in
    let more : 2 ^ suc times ≡ 2 * 2 ^ times = twice times in
    let j : ℕ = before.0.0 in
    cond_both (ltb (2 * k) n) (2 * k) k (Reached n (suc times))
    (λ e. (
      (suc j, ap (λ x. 2 * x) before.0.1 ∙ sym (twice j)),
      ltb-true (2 * k) n e,
      elim before.2 [ inl all ↦ absurd (omega (arith, ltb-true (2 * k) n e)) | inr at ↦ inr (ap (λ x. 2 * x) at ∙ sym more) ],
    ))
    (λ e. (before.0, before.1, inl (ltb-false (2 * k) n e)))

pub split_splits : (n : ℕ) → 2 ≤ n → Splits n (split n)
unfolding split
split_splits n h =
    let end : Reached n n (doubled n n) = reached n h n in
    (end.0, end.1, elim end.2 [ inl last ↦ last | inr at ↦ absurd (omega (arith, below_pow n, end.1)) ])

-- a lower power of two, doubled, is at most the higher one
lower : (i j : ℕ) → i < j → 2 * 2 ^ i ≤ 2 ^ j
lower i j h = omega (arith, twice i, pow_mono {i = suc i} {j = j} h)

pub splits_unique : (n k m : ℕ) → Splits n k → Splits n m → k ≡ m
splits_unique n k m a b =
    let i : ℕ = a.0.0 in
    let j : ℕ = b.0.0 in
    let k-is : k ≡ 2 ^ i = a.0.1 in
    let m-is : m ≡ 2 ^ j = b.0.1 in
    elim (cases_order i j) [
      | inl same ↦ k-is ∙ (ap (λ x. 2 ^ x) same ∙ sym m-is)
      | inr other ↦ elim other [
        | inl less ↦ absurd (omega (arith, lower i j less, a.1, a.2, b.1, b.2))
        | inr more ↦ absurd (omega (arith, lower j i more, a.1, a.2, b.1, b.2))
      ]
    ]

pub split_law : SplitLaw
split_law n h = (split_splits n h, λ k splits. splits_unique n k (split n) splits (split_splits n h))

-- where there are no parts, `split` is 1
pub split_small : (n : ℕ) → n < 2 → split n ≡ 1
unfolding split doubled
split_small zero h = refl
split_small (suc zero) h = refl
split_small (suc (suc n)) h = absurd (omega arith)

-- the highest bit of n - 1
pub top_bit : (n j : ℕ) → 2 ≤ n → 2 ^ j ≤ n - 1 → n - 1 < 2 * 2 ^ j → j < 64 → (1 * 2 ^ j) % 2 ^ 64 ≡ split n
top_bit n j more low high fits =
    one_shl j 64 fits ∙ splits_unique n (2 ^ j) (split n) ((j, refl), omega arith, omega arith) (split_splits n more)

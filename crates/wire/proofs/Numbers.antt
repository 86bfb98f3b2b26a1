-- Numbers in two and four bytes: written and read again, and read and written again.
use Rattle.std.proofs.Common.{◌≡◌, ℕ, ◌+◌, ◌*◌, ◌/◌, ◌%◌, ◌^◌, ◌<◌, ◌≤◌, leb, List, [], ◌∷◌, ◌++◌, length, get_or, take, drop, Some, None, Option, sym, ap, ◌∙◌, ap₂, mod-eq_of_lt, div-add-mod', inl, inr, arith}
use native.Mathlib.Nat.{div-div-eq-div-mul}
use Rattle.std.proofs.lemmas.List.{drop_more, get_or-append-add}
use Rattle.std.proofs.lemmas.Bool.{cases_Bool, cond-true, cond-false}
use Rattle.digest.specs.Messages.{two_bytes, four_bytes}
use Rattle.wire.specs.Bytes.{Bytes, pair_at, number_at, number_told}

-- the four digits of a number to the base 256
sum : (a b c n p q r s : ℕ) → a * 256 + r ≡ n → b * 256 + p ≡ a → c * 256 + q ≡ b → s ≡ c → s * 16777216 + q * 65536 + p * 256 + r ≡ n
sum a b c n p q r s low middle high top = omega arith

four_bytes_number : (n : ℕ) → n < 2 ^ 32 → number_at (four_bytes n) 0 ≡ n
four_bytes_number n h =
    let a : ℕ = n / 256 in
    let b : ℕ = n / 65536 in
    let c : ℕ = n / 16777216 in
    let low : a * 256 + n % 256 ≡ n = div-add-mod' n 256 in
    let middle : b * 256 + a % 256 ≡ a = ap (λ q. q * 256 + a % 256) (sym (div-div-eq-div-mul n 256 256)) ∙ div-add-mod' a 256 in
    let high : c * 256 + b % 256 ≡ b = ap (λ q. q * 256 + b % 256) (sym (div-div-eq-div-mul n 65536 256)) ∙ div-add-mod' b 256 in
    let top : c % 256 ≡ c = mod-eq_of_lt (omega arith) in
    sum a b c n (a % 256) (b % 256) (n % 256) (c % 256) low middle high top

two_bytes_number : (n : ℕ) → n < 65536 → pair_at (two_bytes n) 0 ≡ n
two_bytes_number n h = omega arith

-- an item of what stands behind a front
behind : (pre ys : List ℕ) (place : ℕ) → length pre ≡ place → (k : ℕ) → get_or (pre ++ ys) (place + k) 0 ≡ get_or ys k 0
behind pre ys place here k = ap (λ n. get_or (pre ++ ys) (n + k) 0) (sym here) ∙ get_or-append-add pre ys k 0

behind_zero : (pre ys : List ℕ) (place : ℕ) → length pre ≡ place → get_or (pre ++ ys) place 0 ≡ get_or ys 0 0
behind_zero pre ys place here = ap (λ n. get_or (pre ++ ys) n 0) (omega arith) ∙ behind pre ys place here 0

-- a number that stands behind a front is read as it was written
pub number_read : (pre post : List ℕ) (n place : ℕ) → length pre ≡ place → n < 2 ^ 32 → number_at (pre ++ (four_bytes n ++ post)) place ≡ n
number_read pre post n place here h =
    let ys : List ℕ = four_bytes n ++ post in
    omega (arith, behind_zero pre ys place here, behind pre ys place here 1, behind pre ys place here 2, behind pre ys place here 3, four_bytes_number n h)

pub pair_read : (pre post : List ℕ) (n place : ℕ) → length pre ≡ place → n < 65536 → pair_at (pre ++ (two_bytes n ++ post)) place ≡ n
pair_read pre post n place here h =
    let ys : List ℕ = two_bytes n ++ post in
    omega (arith, behind_zero pre ys place here, behind pre ys place here 1, two_bytes_number n h)

-- the items from a place on, one by one
two_items : (xs : List ℕ) (place : ℕ) → place + 2 ≤ length xs
    → drop place xs ≡ get_or xs place 0 ∷ get_or xs (place + 1) 0 ∷ drop (place + 2) xs
two_items xs place h =
    drop_more xs place 0 (omega arith)
    ∙ ap (λ ys. get_or xs place 0 ∷ ys) (drop_more xs (place + 1) 0 (omega arith) ∙ ap (λ n. get_or xs (place + 1) 0 ∷ drop n xs) (omega arith))

-- two bytes that are read write back as they were
pub pair_written : (xs : List ℕ) (place : ℕ) → Bytes xs → place + 2 ≤ length xs → two_bytes (pair_at xs place) ≡ take 2 (drop place xs)
pair_written xs place fits h =
    let low = fits (place + 1) (omega arith) in
    let high = fits place (omega arith) in
    ap₂ (λ a b. a ∷ b ∷ []) (omega arith) (omega arith) ∙ sym (ap (take 2) (two_items xs place h))

-- four bytes that are read write back as they were
pub number_written : (xs : List ℕ) (place : ℕ) → Bytes xs → place + 4 ≤ length xs → four_bytes (number_at xs place) ≡ take 4 (drop place xs)
number_written xs place fits h =
    let b₀ = fits place (omega arith) in
    let b₁ = fits (place + 1) (omega arith) in
    let b₂ = fits (place + 2) (omega arith) in
    let b₃ = fits (place + 3) (omega arith) in
    let rest : drop (place + 2) xs ≡ get_or xs (place + 2) 0 ∷ get_or xs (place + 3) 0 ∷ drop (place + 4) xs =
    two_items xs (place + 2) (omega arith) ∙ ap₂ (λ m n. get_or xs (place + 2) 0 ∷ get_or xs m 0 ∷ drop n xs) (omega arith) (omega arith) in
    ap₂ (λ a b. a ∷ b ∷ number_at xs place / 256 % 256 ∷ number_at xs place % 256 ∷ []) (omega arith) (omega arith)
    ∙ (ap₂ (λ a b. get_or xs place 0 ∷ get_or xs (place + 1) 0 ∷ a ∷ b ∷ []) (omega arith) (omega arith)
    ∙ sym (ap (take 4) (two_items xs place (omega arith) ∙ ap (λ ys. get_or xs place 0 ∷ get_or xs (place + 1) 0 ∷ ys) rest)))

some_same : {m n : ℕ} → Some m ≡ Some n → m ≡ n
some_same e = cc

-- a number that is told is the one that stands there
pub told_is : (xs : List ℕ) (place : ℕ) {n : ℕ} {told : Option ℕ} → told ≡ number_told xs place → told ≡ Some n → n ≡ number_at xs place
told_is xs place {n} e is =
    elim (cases_Bool (leb (place + 4) (length xs))) [
      | inl room ↦
          let found : number_told xs place ≡ Some (number_at xs place) = cond-true _ _ _ room in
          some_same (sym is ∙ e ∙ found)
      | inr short ↦
          let none : number_told xs place ≡ None = cond-false _ _ _ short in
          let never : Some n ≡ None = sym is ∙ e ∙ none in
          let z : ◌≡◌ {A = ℕ} 0 1 = cc in absurd (omega arith)
    ]

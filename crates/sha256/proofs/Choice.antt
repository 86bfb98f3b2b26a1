-- `Ch` by two operations fewer: z ^ (x & (y ^ z)).
use Rattle.std.proofs.Common.{◌≡◌, ℕ, zero, suc, ◌-◌, ◌/◌, ◌%◌, ◌^◌, ◌<◌, sym, refl, ap, ◌∙◌, ap₂, pow-suc, arith}
use lib.Bits.{bit_and, bit_xor, and_shr, and_mod, xor_shr, xor_mod}
use Rattle.sha256.specs.Words.{Ch}

-- both forms; m is x with each bit turned over
short : ℕ → ℕ → ℕ → ℕ
short x y z = bit_xor z (bit_and x (bit_xor y z))

long : ℕ → ℕ → ℕ → ℕ → ℕ
long m x y z = bit_xor (bit_and x y) (bit_and m z)

short_half : (x y z : ℕ) → short x y z / 2 ≡ short (x / 2) (y / 2) (z / 2)
unfolding short
short_half x y z =
    xor_shr z (bit_and x (bit_xor y z)) 1 ∙ ap (bit_xor (z / 2)) (and_shr x (bit_xor y z) 1 ∙ ap (bit_and (x / 2)) (xor_shr y z 1))

short_odd : (x y z : ℕ) → short x y z % 2 ≡ short (x % 2) (y % 2) (z % 2)
unfolding short
short_odd x y z =
    xor_mod z (bit_and x (bit_xor y z)) 1 ∙ ap (bit_xor (z % 2)) (and_mod x (bit_xor y z) 1 ∙ ap (bit_and (x % 2)) (xor_mod y z 1))

long_half : (m x y z : ℕ) → long m x y z / 2 ≡ long (m / 2) (x / 2) (y / 2) (z / 2)
unfolding long
long_half m x y z = xor_shr (bit_and x y) (bit_and m z) 1 ∙ ap₂ bit_xor (and_shr x y 1) (and_shr m z 1)

long_odd : (m x y z : ℕ) → long m x y z % 2 ≡ long (m % 2) (x % 2) (y % 2) (z % 2)
unfolding long
long_odd m x y z = xor_mod (bit_and x y) (bit_and m z) 1 ∙ ap₂ bit_xor (and_mod x y 1) (and_mod m z 1)

-- what holds of 0 and of 1 holds of a bit
bit : (P : ℕ → Type 0) → P 0 → P 1 → (n : ℕ) → n < 2 → P n
bit P a b zero h = a
bit P a b (suc zero) h = b
bit P a b (suc (suc n)) h = absurd (omega arith)

bit_same : (x y z : ℕ) → x < 2 → y < 2 → z < 2 → short x y z ≡ long (1 - x) x y z
unfolding short long
bit_same x y z p q r =
    let Same : ℕ → ℕ → ℕ → Type 0 = λ a b c. short a b c ≡ long (1 - a) a b c in
    let at-z : (a b : ℕ) → Same a b 0 → Same a b 1 → Same a b z = λ a b e f. bit (Same a b) e f z r in
    let at_y : (a : ℕ) → Same a 0 z → Same a 1 z → Same a y z = λ a e f. bit (λ b. Same a b z) e f y q in
    bit (λ a. Same a y z) (at_y 0 (at-z 0 0 refl refl) (at-z 0 1 refl refl)) (at_y 1 (at-z 1 0 refl refl) (at-z 1 1 refl refl)) x p

-- k bits
same : (k x y z : ℕ) → x < 2 ^ k → y < 2 ^ k → z < 2 ^ k → short x y z ≡ long (2 ^ k - 1 - x) x y z
unfolding short long
same zero x y z p q r =
    let ex : x ≡ 0 = omega arith in
    let ez : z ≡ 0 = omega arith in
    rw (ex, ez)
same (suc k) x y z p q r =
    let m = 2 ^ suc k - 1 - x in
    let two = pow-suc 2 k in
    let half : m / 2 ≡ 2 ^ k - 1 - x / 2 = omega (arith, two) in
    let odd : m % 2 ≡ 1 - x % 2 = omega (arith, two) in
    let halves : short x y z / 2 ≡ long m x y z / 2 =
    short_half x y z ∙ same k (x / 2) (y / 2) (z / 2) (omega (arith, two)) (omega (arith, two)) (omega (arith, two))
    ∙ ap (λ (n : ℕ). long n (x / 2) (y / 2) (z / 2)) (sym half) ∙ sym (long_half m x y z) in
    let odds : short x y z % 2 ≡ long m x y z % 2 =
    short_odd x y z ∙ bit_same (x % 2) (y % 2) (z % 2) (omega arith) (omega arith) (omega arith)
    ∙ ap (λ (n : ℕ). long n (x % 2) (y % 2) (z % 2)) (sym odd) ∙ sym (long_odd m x y z) in
    omega arith

pub choice : (x y z : ℕ) → x < 2 ^ 32 → y < 2 ^ 32 → z < 2 ^ 32 → bit_xor z (bit_and x (bit_xor y z)) ≡ Ch x y z
unfolding short long Ch
choice x y z p q r = same 32 x y z p q r

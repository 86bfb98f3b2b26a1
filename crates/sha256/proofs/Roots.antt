-- The constants obey their rule, by one test of each table that is computed.
use Rattle.std.proofs.Common.{◌≡◌, ℕ, zero, suc, ◌+◌, ◌*◌, ◌%◌, ◌^◌, ◌<◌, Bool, true, false, cond, ◌&&◌, eqb, ltb, leb, List, [], ◌∷◌, length, get_or, refl, arith}
use Rattle.std.proofs.lemmas.Bool.{and_parts, false≢true, leb-true, ltb-true, eqb-true}
use Rattle.sha256.specs.Constants.{K, first_words, primes, FirstBits, FromPrimes, Rule}

-- a test passes at each entry of a list, with the entry of the other list at its place
every : (ℕ → ℕ → Bool) → List ℕ → List ℕ → Bool
every test [] ys = true
every test (x ∷ xs) [] = false
every test (x ∷ xs) (y ∷ ys) = test x y && every test xs ys

at : (test : ℕ → ℕ → Bool) (xs ys : List ℕ) → every test xs ys ≡ true → (k : ℕ) → k < length xs
    → test (get_or xs k 0) (get_or ys k 0) ≡ true
unfolding every
at test [] ys passed k h = absurd (omega arith)
at test (x ∷ xs) [] passed k h = absurd (false≢true passed)
at test (x ∷ xs) (y ∷ ys) passed zero h = (and_parts (test x y) (every test xs ys) passed).0
at test (x ∷ xs) (y ∷ ys) passed (suc k) h = at test xs ys (and_parts (test x y) (every test xs ys) passed).1 k (omega arith)

-- the k-th root of p, rounded down, if it is 1 to 6
whole : ℕ → ℕ → ℕ
whole k p =
    cond (ltb p (2 ^ k)) 1
    (cond (ltb p (3 ^ k)) 2 (cond (ltb p (4 ^ k)) 3 (cond (ltb p (5 ^ k)) 4 (cond (ltb p (6 ^ k)) 5 6))))

-- the root that an entry comes from
root : ℕ → ℕ → ℕ → ℕ
root k p x = whole k p * 2 ^ 32 + x

-- the rule of one entry, as tests
low : ℕ → ℕ → ℕ → Bool
low k x p = leb (root k p x ^ k) (p * 2 ^ (32 * k))

high : ℕ → ℕ → ℕ → Bool
high k x p = ltb (p * 2 ^ (32 * k)) ((root k p x + 1) ^ k)

bits : ℕ → ℕ → ℕ → Bool
bits k x p = eqb x (root k p x % 2 ^ 32)

right : ℕ → ℕ → ℕ → Bool
right k x p = low k x p && (high k x p && bits k x p)

first_bits : (k x p : ℕ) → right k x p ≡ true → FirstBits k p x
unfolding right low high bits
first_bits k x p passed =
    let r = root k p x in
    let n = p * 2 ^ (32 * k) in
    let first = and_parts (low k x p) (high k x p && bits k x p) passed in
    let rest = and_parts (high k x p) (bits k x p) first.1 in
    (r, (leb-true (r ^ k) n first.0, ltb-true n ((r + 1) ^ k) rest.0), eqb-true x (r % 2 ^ 32) rest.1)

from_primes : (k : ℕ) (table : List ℕ) → every (right k) table primes ≡ true → FromPrimes k table
from_primes k table passed t h = first_bits k (get_or table t 0) (get_or primes t 0) (at (right k) table primes passed t h)

pub rule : Rule
unfolding every right low high bits root whole primes K
rule = (refl, refl, from_primes 3 K refl, from_primes 2 first_words refl)

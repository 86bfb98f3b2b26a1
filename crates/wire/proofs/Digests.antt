-- Digests among bytes.
use Rattle.std.proofs.Common.{◌≡◌, ℕ, zero, suc, ◌%◌, ◌<◌, ◌≤◌, List, length, get_or, take, drop, sym, refl, ap, ◌∙◌, arith}
use Rattle.std.proofs.lemmas.List.{get_or-drop, get_or-take, ext_get_or, length-take-le}
use Rattle.digest.specs.declared.value.Digest.{Digest}
use Rattle.digest.proofs.SameDigest.{same_digest}
use Rattle.wire.specs.Bytes.{Bytes, front_bytes, front_whole, digest_of}

get_or_front : (n : ℕ) (xs : List ℕ) (k : ℕ) → k < n → get_or (front_bytes n xs) k 0 ≡ get_or xs k 0 % 256
get_or_front zero xs k h = absurd (omega arith)
get_or_front (suc n) xs zero h = refl
get_or_front (suc n) xs (suc k) h =
    get_or_front n (drop 1 xs) k (omega arith) ∙ ap (λ b. b % 256) (get_or-drop 1 xs k 0 ∙ ap (λ j. get_or xs j 0) (omega arith))

-- bytes at the front of a list are its first bytes
front_is : (n : ℕ) (xs ys : List ℕ) → length ys ≡ n → ys ≡ take n xs → ((k : ℕ) → k < n → get_or ys k 0 < 256)
    → front_bytes n xs ≡ ys
front_is n xs ys size is fits =
    ext_get_or 0 (front_bytes n xs) ys (front_whole n xs ∙ sym size) (λ i h.
    let low : i < n = omega (arith, front_whole n xs) in
    let same : get_or ys i 0 ≡ get_or xs i 0 = ap (λ zs. get_or zs i 0) is ∙ get_or-take n xs i 0 low in
    get_or_front n xs i low ∙ omega (arith, fits i low))

-- a digest whose bytes stand at the front of a list is the list's
pub digest_is : (d : Digest) (xs : List ℕ) → d.bytes ≡ take 32 xs → digest_of xs ≡ d
unfolding digest_of
digest_is d xs is = same_digest (digest_of xs) d (front_is 32 xs d.bytes d.whole is d.fits)

-- the bytes of a list's digest are the list's
pub digest_bytes : (xs : List ℕ) → Bytes xs → 32 ≤ length xs → (digest_of xs).bytes ≡ take 32 xs
unfolding digest_of
digest_bytes xs fits h =
    front_is 32 xs (take 32 xs) (length-take-le 32 xs h) refl (λ k low.
    let same = get_or-take 32 xs k 0 low in omega (arith, fits k (omega arith)))

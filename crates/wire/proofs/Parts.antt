-- Parts of byte lists.
use Rattle.std.proofs.Common.{◌≡◌, ℕ, zero, suc, ◌+◌, ◌<◌, ◌≤◌, List, length, take, drop, refl, ap, arith}
use Rattle.std.specs.Simd.{first_chunks}
use Rattle.std.proofs.lemmas.List.{get_or-drop, get_or-take, length-drop, length-take-le}
use Rattle.wire.specs.Bytes.{Bytes}

pub bytes_drop : (n : ℕ) (xs : List ℕ) → Bytes xs → Bytes (drop n xs)
bytes_drop n xs fits k h = omega (arith, get_or-drop n xs k 0, fits (n + k) (omega (arith, length-drop n xs)))

pub bytes_take : (n : ℕ) (xs : List ℕ) → n ≤ length xs → Bytes xs → Bytes (take n xs)
bytes_take n xs room fits k h =
    let low : k < n = omega (arith, length-take-le n xs room) in
    omega (arith, get_or-take n xs k 0 low, fits k (omega arith))

pub length_chunked : {X : Type 0} (k n : ℕ) (xs : List X) → length (first_chunks k n xs) ≡ n
length_chunked k zero xs = refl
length_chunked k (suc n) xs = ap suc (length_chunked k n (drop k xs))

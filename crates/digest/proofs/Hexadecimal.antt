-- Hexadecimal text, byte after byte.
use Rattle.std.proofs.Common.{◌≡◌, ℕ, ◌+◌, ◌/◌, ◌%◌, ◌<◌, List, [], ◌∷◌, ◌++◌, length, get_or, take, sym, refl, ap, ◌∙◌, ap₂}
use lib.Utf8.{encode}
use Rattle.std.proofs.lemmas.List.{take_more, append_assoc}
use Rattle.std.proofs.lemmas.Str.Ascii.{encode_ascii}
use Rattle.digest.specs.Text.{digit_of, hexadecimal}

hexadecimal_append : (xs ys : List ℕ) → hexadecimal (xs ++ ys) ≡ hexadecimal xs ++ hexadecimal ys
hexadecimal_append [] ys = refl
hexadecimal_append (x ∷ xs) ys = ap (λ zs. digit_of (x / 16) ∷ digit_of (x % 16) ∷ zs) (hexadecimal_append xs ys)

hexadecimal_more : (xs : List ℕ) (i : ℕ) → i < length xs
    → hexadecimal (take (i + 1) xs) ≡ hexadecimal (take i xs) ++ hexadecimal (get_or xs i 0 ∷ [])
hexadecimal_more xs i h = ap hexadecimal (take_more xs i 0 h) ∙ hexadecimal_append (take i xs) (get_or xs i 0 ∷ [])

-- one byte more, written as its two digits
pub written_more : (xs : List ℕ) (i high low : ℕ) → i < length xs → high ≡ digit_of (get_or xs i 0 / 16) → high < 128
    → low ≡ digit_of (get_or xs i 0 % 16) → low < 128
    → hexadecimal (take i xs) ++ encode high ++ encode low ≡ hexadecimal (take (i + 1) xs)
written_more xs i high low h eh bh el bl =
    ap₂ (λ ys zs. hexadecimal (take i xs) ++ ys ++ zs) (encode_ascii high bh ∙ ap (λ d. d ∷ []) eh) (encode_ascii low bl ∙ ap (λ d. d ∷ []) el)
    ∙ append_assoc (hexadecimal (take i xs)) (digit_of (get_or xs i 0 / 16) ∷ []) (digit_of (get_or xs i 0 % 16) ∷ [])
    ∙ sym (hexadecimal_more xs i h)

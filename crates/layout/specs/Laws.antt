-- What holds of every token.
use Rattle.std.specs.Prelude.{◌≡◌, ℕ, ◌≤◌, List, length, Ok}
use Rattle.wire.specs.Bytes.{Bytes}
use Rattle.layout.specs.Content.{Content, Whole, layout}
use Rattle.layout.specs.Faults.{parsed}

-- every token that is written reads back as it was
abbrev pub WrittenLaw : Type 0
WrittenLaw = (number : ℕ) (t : Content) → Whole t → parsed number (layout number t) ≡ Ok t

-- bytes that read write back as they were
abbrev pub ReadLaw : Type 0
ReadLaw = (number : ℕ) (bytes : List ℕ) (t : Content) → Bytes bytes → parsed number bytes ≡ Ok t → layout number t ≡ bytes

-- what is read is whole, and no token has more than 3,183 bytes
abbrev pub LongestLaw : Type 0
LongestLaw = (number : ℕ) (bytes : List ℕ) (t : Content) → parsed number bytes ≡ Ok t → Whole t × (length bytes ≤ 3183)

-- bytes are a token, and say t, exactly where t is whole and they are its layout
abbrev pub TokenLaw : Type 0
TokenLaw =
    (number : ℕ) (bytes : List ℕ) (t : Content) → Bytes bytes
    → (parsed number bytes ≡ Ok t → Whole t × (layout number t ≡ bytes)) × (Whole t × (layout number t ≡ bytes) → parsed number bytes ≡ Ok t)

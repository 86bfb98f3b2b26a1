-- An entry of a printed list, in 36 bytes: its second in four, then its root.
use Rattle.std.specs.Prelude.{ℕ, ◌+◌, ◌^◌, Bool, true, cond, ◌&&◌, List, [], ◌∷◌, ◌++◌, map, drop, Some, None, Option, ◌==◌, nat_le, nat_lt}
use Rattle.digest.specs.declared.value.Digest.{Digest}
use Rattle.digest.specs.Messages.{four_bytes}
use Rattle.wire.specs.Bytes.{number_at, digest_of}
use Rattle.roots.specs.declared.entry.Entry.{Entry}

-- the second of an entry
abbrev pub second_in : List ℕ → ℕ
second_in raw = number_at raw 0

-- the entry that bytes print
abbrev pub entry_of : List ℕ → Entry
entry_of raw = record { second = second_in raw; root = digest_of (drop 4 raw) }

-- the bytes that print an entry
abbrev pub entry_bytes : Entry → List ℕ
entry_bytes entry = four_bytes entry.second ++ entry.root.bytes

-- the entries, each by its bytes
abbrev pub listed : List (List ℕ) → List Entry
listed raws = map entry_of raws

-- the seconds of entries
abbrev pub seconds_of : List Entry → List ℕ
seconds_of entries = map (λ entry. entry.second) entries

-- seconds that rise strictly, from `low` on, and stay below 2 ^ 31
abbrev pub rising : ℕ → List ℕ → Bool
rising low [] = true
rising low (second ∷ later) = nat_le low second && (nat_lt second (2 ^ 31) && rising (second + 1) later)

-- the root of the first entry with a second
abbrev pub looked_up : List Entry → ℕ → Option Digest
looked_up [] second = None
looked_up (entry ∷ later) second = cond (entry.second == second) (Some entry.root) (looked_up later second)

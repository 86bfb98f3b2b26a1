-- What the definitions amount to.
use Rattle.std.specs.Prelude.{◌≡◌, ℕ, ◌^◌, ◌<◌, true, List, length, Some, Ok, Decides, slice_index}
use Rattle.std.specs.List.{slice_get}
use Rattle.digest.specs.declared.value.Digest.{Digest}
use Rattle.wire.specs.Bytes.{Bytes}
use Rattle.roots.specs.declared.entry.Entry.{Entry}
use Rattle.roots.specs.Entries.{seconds_of, rising, looked_up}
use Rattle.roots.specs.Reading.{list_answer, list_layout}
use Rattle.roots.specs.Printing.{print_answer}

-- of two seconds the later in the list is the larger, and all are below 2 ^ 31
abbrev pub Ordered : List ℕ → Type 0
Ordered seconds =
    ((i j : ℕ) → i < j → j < length seconds → slice_index seconds i < slice_index seconds j)
    × ((i : ℕ) → i < length seconds → slice_index seconds i < 2 ^ 31)

-- the test of the seconds is that
abbrev pub RisingLaw : Type 0
RisingLaw = (seconds : List ℕ) → Decides (rising 0 seconds) (Ordered seconds)

-- bytes that are read are those that print what was read
abbrev pub ReadsBack : Type 0
ReadsBack =
    (number : ℕ) (bytes : List ℕ) (entries : List Entry) → Bytes bytes → list_answer number bytes ≡ Ok entries
    → list_layout number entries ≡ bytes

-- a list that is printed takes as many bytes as answered, and they are read as the same list
abbrev pub WrittenLaw : Type 0
WrittenLaw =
    (number : ℕ) (entries : List Entry) (room count : ℕ) → print_answer entries room ≡ Ok count
    → (length (list_layout number entries) ≡ count) × (list_answer number (list_layout number entries) ≡ Ok entries)

-- an entry with this second and this root stands somewhere in the list
abbrev pub Stands : List Entry → ℕ → Digest → Type 0
Stands entries second root = (place : ℕ) × (slice_get entries place ≡ Some (record { second = second; root = root }))

-- in a list that rises a second has a root exactly where an entry says so
abbrev pub FoundLaw : Type 0
FoundLaw =
    (entries : List Entry) → rising 0 (seconds_of entries) ≡ true → (second : ℕ) (root : Digest)
    → (looked_up entries second ≡ Some root → Stands entries second root)
    × (Stands entries second root → looked_up entries second ≡ Some root)

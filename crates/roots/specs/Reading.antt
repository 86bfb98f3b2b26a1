-- A printed list as bytes. At 0 the mark HCP, at 3 the version 1, at 5 the hash's number, at 6 the count, from 8 on the entries.
use Rattle.std.specs.Prelude.{ℕ, ◌+◌, ◌*◌, Bool, not, ◌&&◌, ◌||◌, List, [], ◌∷◌, ◌++◌, length, drop, Ok, Err, Option, Result, ◌==◌, nat_lt, slice_index}
use Rattle.std.specs.List.{flat_map}
use Rattle.std.specs.Simd.{first_chunks}
use Rattle.digest.specs.Messages.{two_bytes}
use Rattle.wire.specs.Bytes.{pair_at}
use Rattle.wire.specs.Faults.{when, first, unless}
use Rattle.roots.specs.declared.entry.Entry.{Entry}
use Rattle.roots.specs.declared.fault.ListFault.{ListFault}
use Rattle.roots.specs.declared.fault.ListFault.TheVariants.{Short, Mark, Version, Hash, Size, Seconds}
use Rattle.roots.specs.Entries.{listed, entry_bytes, seconds_of, rising}

-- the most entries of a list
abbrev pub most : ℕ
most = 1800

-- the mark HCP
abbrev pub marked : List ℕ → Bool
marked bytes = slice_index bytes 0 == 72 && (slice_index bytes 1 == 67 && slice_index bytes 2 == 80)

-- how many entries the bytes claim
abbrev pub count_in : List ℕ → ℕ
count_in bytes = pair_at bytes 6

-- the entries, 36 bytes each
abbrev pub list_entries : List ℕ → List Entry
list_entries bytes = listed (first_chunks 36 (count_in bytes) (drop 8 bytes))

-- too many entries, or more or fewer bytes than they take
abbrev pub misfit : List ℕ → Bool
misfit bytes = nat_lt most (count_in bytes) || not (length bytes == 8 + 36 * count_in bytes)

-- seconds that do not rise strictly, or one of 2 ^ 31 or more
abbrev pub unordered : List Entry → Bool
unordered entries = not (rising 0 (seconds_of entries))

-- the tests in their order, for the hash with this number
abbrev pub list_fault : ℕ → List ℕ → Option ListFault
list_fault number bytes =
    first
    (when (nat_lt (length bytes) 8) Short
    ∷ when (not (marked bytes)) Mark
    ∷ when (not (pair_at bytes 3 == 1)) Version
    ∷ when (not (slice_index bytes 5 == number)) Hash
    ∷ when (misfit bytes) Size
    ∷ when (unordered (list_entries bytes)) Seconds
    ∷ [])

-- the entries that bytes print, or the first fault
abbrev pub list_answer : ℕ → List ℕ → Result (List Entry) ListFault
list_answer number bytes = unless (list_fault number bytes) (list_entries bytes)

-- an answer, with what it holds told in another way
abbrev pub told : {A B F : Type 0} → (A → B) → Result A F → Result B F
told tell (Ok answer) = Ok (tell answer)
told tell (Err fault) = Err fault

-- a load's outcome
abbrev pub loaded : {A F : Type 0} → Result A F → Result (Unit {0}) F
loaded answer = told (λ read. tt) answer

-- what is held after a load: a refusal leaves what was there
abbrev pub held_after : {A F : Type 0} → Result A F → A → A
held_after (Ok read) old = read
held_after (Err fault) old = old

-- the bytes that print a list
abbrev pub list_layout : ℕ → List Entry → List ℕ
list_layout number entries = 72 ∷ 67 ∷ 80 ∷ 0 ∷ 1 ∷ number ∷ two_bytes (length entries) ++ flat_map entry_bytes entries

-- What the writer of printed lists answers, and what it leaves in the buffer.
use Rattle.std.specs.Prelude.{ℕ, ◌+◌, ◌*◌, List, [], ◌∷◌, length, Option, Result, nat_lt}
use Rattle.tree.specs.Answers.{over}
use Rattle.wire.specs.Faults.{when, first, unless}
use Rattle.roots.specs.declared.entry.Entry.{Entry}
use Rattle.roots.specs.declared.fault.PrintRefusal.{PrintRefusal}
use Rattle.roots.specs.declared.fault.PrintRefusal.TheVariants.{Count, Seconds, Short}
use Rattle.roots.specs.Reading.{most, unordered, held_after, list_layout}

-- how many bytes a list takes
abbrev pub printed_length : List Entry → ℕ
printed_length entries = 8 + 36 * length entries

-- the tests in their order, for a buffer with this room
abbrev pub print_refusal : List Entry → ℕ → Option PrintRefusal
print_refusal entries room =
    first
    (when (nat_lt most (length entries)) Count
    ∷ when (unordered entries) Seconds
    ∷ when (nat_lt room (printed_length entries)) Short
    ∷ [])

-- the list's length in bytes, or the first refusal
abbrev pub print_answer : List Entry → ℕ → Result ℕ PrintRefusal
print_answer entries room = unless (print_refusal entries room) (printed_length entries)

-- the list at the front and behind it what stood there; a refusal leaves the buffer as it was
abbrev pub print_after : ℕ → List Entry → List ℕ → List ℕ
print_after number entries old = held_after (unless (print_refusal entries (length old)) (over (list_layout number entries) old)) old

-- Which byte strings are tokens: the faults by their numbers and places, and the tests in their order.
use Rattle.std.specs.Prelude.{◌≡◌, ℕ, ◌+◌, ◌*◌, ◌^◌, ◌≤◌, Bool, cond, not, ◌&&◌, List, [], ◌∷◌, length, Some, None, Option, Result, ◌==◌, nat_le, nat_lt, slice_index}
use Rattle.std.specs.Option.{option_map}
use Rattle.wire.specs.Bytes.{pair_at, number_at}
use Rattle.wire.specs.Faults.{when, first, unless}
use Rattle.wire.specs.declared.report.Report.{Report}
use Rattle.wire.specs.declared.report.Layer.TheVariants.{Reader}
use Rattle.layout.specs.declared.fault.Fault.{Fault}
use Rattle.layout.specs.declared.fault.Fault.TheVariants.{Short, Mark, Version, Hash, RoundCount, CalendarCount, Length, Side, Publication, Second}
use Rattle.layout.specs.Content.{Content}
use Rattle.layout.specs.Parts.{Parts, round_count, calendar_count, links_in, parts_of, content}

abbrev reader : ℕ → ℕ → Report
reader number place = record { number = number; layer = Reader; place = place }

-- a fault's number in the rule book, and the place of the byte that it is about
abbrev pub fault_report : Fault → Report
fault_report (Short size) = reader 60 size
fault_report Mark = reader 61 0
fault_report Version = reader 62 3
fault_report Hash = reader 63 5
fault_report RoundCount = reader 64 46
fault_report CalendarCount = reader 65 47
fault_report (Length size) = reader 66 size
fault_report (Side place) = reader 67 place
fault_report Publication = reader 68 42
fault_report Second = reader 69 38

-- the bytes of the mark, HCT
abbrev pub marked : List ℕ → Bool
marked bytes = slice_index bytes 0 == 72 && (slice_index bytes 1 == 67 && slice_index bytes 2 == 84)

-- the length that the two counts ask for
abbrev pub length_told : List ℕ → ℕ
length_told bytes = 48 + 33 * (round_count bytes + calendar_count bytes)

-- the place of the first side above 1, among links of which the first stands at a place
abbrev pub bad_side : ℕ → List (List ℕ) → Option ℕ
bad_side place [] = None
bad_side place (link ∷ links) = cond (nat_lt 1 (slice_index link 0)) (Some place) (bad_side (place + 33) links)

-- the tests behind the head: the sides, the publication, the second
abbrev pub tests_behind : List ℕ → List (Option Fault)
tests_behind bytes =
    option_map Side (bad_side 48 (links_in bytes))
    ∷ when (nat_le (2 ^ 31) (number_at bytes 42)) Publication
    ∷ when (nat_lt (number_at bytes 42) (number_at bytes 38)) Second
    ∷ []

-- the fault of a byte string that is read for the hash with a number; a token has none
unfoldable pub token_fault : ℕ → List ℕ → Option Fault
token_fault number bytes =
    first (
    when (nat_lt (length bytes) 48) (Short (length bytes))
    ∷ when (not (marked bytes)) Mark
    ∷ when (not (pair_at bytes 3 == 1)) Version
    ∷ when (not (slice_index bytes 5 == number)) Hash
    ∷ when (nat_lt 64 (round_count bytes)) RoundCount
    ∷ when (nat_lt 31 (calendar_count bytes)) CalendarCount
    ∷ when (not (length bytes == length_told bytes)) (Length (length bytes))
    ∷ tests_behind bytes
    )

-- what the tests of the head show where they find no fault
pub record Headed (number : ℕ) (bytes : List ℕ) : Type 0 where
  pub long : 48 ≤ length bytes
  pub round_short : round_count bytes ≤ 64
  pub calendar_short : calendar_count bytes ≤ 31
  pub size : length bytes ≡ length_told bytes
  pub rest : token_fault number bytes ≡ first (tests_behind bytes)

-- what a check answers: the first fault, or none
abbrev pub check_answer : ℕ → List ℕ → Result (Unit {0}) Fault
check_answer number bytes = unless (token_fault number bytes) tt

-- what a reader answers: the first fault, or the parts
abbrev pub read_answer : ℕ → List ℕ → Result Parts Fault
read_answer number bytes = unless (token_fault number bytes) (parts_of bytes)

-- what a byte string says
abbrev pub parsed : ℕ → List ℕ → Result Content Fault
parsed number bytes = unless (token_fault number bytes) (content (parts_of bytes))

-- How a pile answers: refusals in their order, and what it holds afterwards.
use Rattle.std.specs.Prelude.{ℕ, min, cond, List, [], ◌∷◌, ◌++◌, length, drop, Some, None, Ok, Err, Option, Result, nat_le, nat_lt, slice_index_or}
use Rattle.digest.specs.declared.value.Digest.{Digest}
use Rattle.pile.specs.declared.refusal.CommitRefusal.{CommitRefusal}
use Rattle.pile.specs.declared.refusal.CommitRefusal.TheVariants.{TooMany, Full}
use Rattle.pile.specs.declared.refusal.WayRefusal.{WayRefusal}
use Rattle.pile.specs.declared.refusal.WayRefusal.TheVariants.{Absent, Short}
use Rattle.pile.specs.Meaning.{Meaning, Sealed, Way}

-- the refusals by their numbers
abbrev pub commit_number : CommitRefusal → ℕ
commit_number TooMany = 11
commit_number Full = 12

abbrev pub way_number : WayRefusal → ℕ
way_number Absent = 13
way_number Short = 14

-- commit: a list longer than most, then a row that is full
abbrev pub commit_answer : Meaning → List Digest → Result (Unit {0}) CommitRefusal
commit_answer m items =
    cond (nat_lt m.most (length items)) (Err TooMany)
    (cond (nat_le m.span (length m.row)) (Err Full)
    (Ok tt))

-- what the pile means afterwards: the list is the last round, and the row has one digest more; a refusal changes nothing
abbrev pub committed : Meaning → List Digest → Sealed → Result (Unit {0}) CommitRefusal → Meaning
committed m items sealed (Ok done) =
    record {
      row = m.row ++ sealed.digest ∷ [];
      round = items;
      ways = sealed.ways;
      most = m.most;
      span = m.span;
      deepest = m.deepest;
    }
committed m items sealed (Err refusal) = m

-- a number as it is told in one byte
abbrev pub told : ℕ → ℕ
told n = min n 255

-- a way's length, where there is such a place
abbrev pub way_length : Meaning → ℕ → Option ℕ
way_length m place = cond (nat_lt place (length m.round)) (Some (told (length (slice_index_or m.ways place [])))) None

-- the way: a place that is not there, then links that do not suffice; else its length
abbrev pub way_answer : Meaning → ℕ → ℕ → Result ℕ WayRefusal
way_answer m place room =
    cond (nat_lt place (length m.round))
    (cond (nat_lt room (length (slice_index_or m.ways place []))) (Err Short) (Ok (length (slice_index_or m.ways place []))))
    (Err Absent)

-- the lent links afterwards: the way at the front, and behind it what stood there; a refusal changes nothing
abbrev pub way_written : Meaning → ℕ → Way → Result ℕ WayRefusal → Way
way_written m place links (Ok count) = slice_index_or m.ways place [] ++ drop count links
way_written m place links (Err refusal) = links

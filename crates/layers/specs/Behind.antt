-- A way that begins with links of a layer's own and goes on with a way of the pile below.
use Rattle.std.specs.Prelude.{ℕ, cond, [], ◌++◌, length, drop, Ok, Err, Result, nat_lt, slice_index_or}
use Rattle.pile.specs.declared.refusal.WayRefusal.{WayRefusal}
use Rattle.pile.specs.declared.refusal.WayRefusal.TheVariants.{Absent, Short}
use Rattle.pile.specs.Meaning.{Meaning, Way}

-- these links, then the way of a place below
abbrev pub behind : Meaning → Way → ℕ → Way
behind below front place = front ++ slice_index_or below.ways place []

abbrev pub behind_answer : Meaning → Way → ℕ → ℕ → Result ℕ WayRefusal
behind_answer below front place room =
    cond (nat_lt place (length below.round))
    (cond (nat_lt room (length (behind below front place))) (Err Short) (Ok (length (behind below front place))))
    (Err Absent)

abbrev pub behind_written : Meaning → Way → ℕ → Way → Result ℕ WayRefusal → Way
behind_written below front place links (Ok count) = behind below front place ++ drop count links
behind_written below front place links (Err refusal) = links

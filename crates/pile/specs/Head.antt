-- The head, the bottom of every pile: a list of at most one digest, which enters the row as it is.
use Rattle.std.specs.Prelude.{ℕ, ◌-◌, ◌^◌, min, Bool, cond, List, [], ◌∷◌, map, length, take, drop}
use Rattle.digest.specs.declared.value.Digest.{Digest}
use Rattle.digest.specs.Messages.{empty_message}
use Rattle.pile.specs.Meaning.{Meaning, Sealed, Way}

-- at most 2 ^ 31 of the records that the program supplies are used
abbrev pub head_span : List Digest → ℕ
head_span records = min (length records) (2 ^ 31)

-- the first `held` records are the calendar
abbrev pub head_row : List Digest → ℕ → List Digest
head_row records held = take (min held (head_span records)) records

-- no links: the digest is the row's own
abbrev pub no_ways : List Digest → List Way
no_ways items = map (λ item. []) items

-- the last round is the row's last digest, or empty
abbrev pub head_round : List Digest → Bool → List Digest
head_round row filled = cond filled (drop (length row - 1) row) []

abbrev pub head_meaning : List Digest → ℕ → Bool → Meaning
head_meaning records held filled =
    record {
      row = head_row records held;
      round = head_round (head_row records held) filled;
      ways = no_ways (head_round (head_row records held) filled);
      most = 1;
      span = head_span records;
      deepest = 0;
    }

-- what a head means that holds no second yet
abbrev pub head_fresh : List Digest → Meaning
head_fresh records =
    record {
      row = [];
      round = [];
      ways = [];
      most = 1;
      span = head_span records;
      deepest = 0;
    }

-- one digest enters as it is; an empty list is an empty second
abbrev pub head_digest : (List ℕ → Digest) → List Digest → Digest
head_digest digested [] = digested empty_message
head_digest digested (item ∷ items) = item

abbrev pub head_seal : (List ℕ → Digest) → List Digest → Sealed
head_seal digested items = record { digest = head_digest digested items; ways = no_ways items }

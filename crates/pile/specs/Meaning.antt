-- What a pile means: a calendar row, its last round, and a way for each place of that round.
use Rattle.std.specs.Prelude.{◌≡◌, ℕ, ◌-◌, ◌≤◌, List, [], length, Some, slice_index_or}
use Rattle.std.specs.List.{slice_get}
use Rattle.digest.specs.declared.value.Digest.{Digest}
use Rattle.digest.specs.Messages.{round_message, empty_message}
use Rattle.tree.specs.declared.link.Link.{Link}
use Rattle.tree.specs.Trees.{followed}

-- a path of round links
abbrev pub Way : Type 0
Way = List (Link Digest)

pub record Meaning : Type 0 where
  -- the calendar, one digest a second
  pub row : List Digest
  -- the list of the last round, empty before the first
  pub round : List Digest
  -- a way for each place of that list
  pub ways : List Way
  -- the longest list that is taken
  pub most : ℕ
  -- how many seconds the row can hold
  pub span : ℕ
  -- at least the length of every way
  pub deepest : ℕ

-- what a list is joined to: one digest, and a way for each place
pub record Sealed : Type 0 where
  pub digest : Digest
  pub ways : List Way

-- two round nodes joined, under a hash
abbrev pub round_join : (List ℕ → Digest) → Digest → Digest → Digest
round_join digested left right = digested (round_message left right)

-- the law: following way i from item i of the last round gives the row's last digest
abbrev pub Law : (List ℕ → Digest) → Meaning → Type 0
Law digested m =
    (i : ℕ) (item : Digest) → slice_get m.round i ≡ Some item
    → slice_get m.row (length m.row - 1) ≡ Some (followed (round_join digested) item (slice_index_or m.ways i []))

-- after an empty list the row's last digest is that of the empty second
abbrev pub EmptyLaw : (List ℕ → Digest) → Meaning → Type 0
EmptyLaw digested m = m.round ≡ [] → slice_get m.row (length m.row - 1) ≡ Some (digested empty_message)

-- no way is longer than `deepest`
abbrev pub Short : Meaning → Type 0
Short m = (i : ℕ) → length (slice_index_or m.ways i []) ≤ m.deepest

-- A layer over a pile: what it does with a list, and what it means when it has stored one.
use Rattle.std.specs.Prelude.{◌≡◌, ◌↔◌, ℕ, ◌+◌, ◌*◌, ◌/◌, ◌<◌, ◌≤◌, min, cond, nat_lt, List, [], ◌++◌, map, length, take, Option, Some, None, slice_index_or}
use Rattle.std.specs.List.{slice_get, range_with_len}
use Rattle.digest.specs.declared.value.Digest.{Digest}
use Rattle.tree.specs.Trees.{followed}
use Rattle.pile.specs.Meaning.{Meaning, Sealed, Way, round_join}

-- how a layer takes the list of a second down
pub record Lowering : Type 0 where
  -- what goes down in the place of a list
  pub lowered : List Digest → List Digest
  -- the links of an item's own, which lead to what goes down
  pub front : List Digest → ℕ → Way
  -- the place below of what goes down for an item
  pub spot : ℕ → ℕ
  -- how many items go down to so many places below
  pub covered : ℕ → ℕ
  -- at least the number of an item's own links
  pub links : ℕ

module _ (w : Lowering) where
  -- a list as far as the pile below has places for it
  abbrev pub layered_round : List Digest → List Digest → List Digest
  layered_round stored below = take (w.covered (length below)) stored

  -- a way: the links of the item's own, then the way below
  abbrev pub layered_way : List Digest → List Way → ℕ → Way
  layered_way items below i = w.front items i ++ slice_index_or below (w.spot i) []

  abbrev pub layered_ways : List Digest → List Way → List Way
  layered_ways items below = map (layered_way items below) (range_with_len 0 (length items))

  -- what a layer means that stored a list over a pile
  abbrev pub layered_meaning : List Digest → Meaning → Meaning
  layered_meaning stored below =
      record {
        row = below.row;
        round = layered_round stored below.round;
        ways = layered_ways (layered_round stored below.round) below.ways;
        most = min 256 (w.covered below.most);
        span = below.span;
        deepest = w.links + below.deepest;
      }

  -- what a list gets, of what goes down in its place
  abbrev pub layered_seal : List Digest → Sealed → Sealed
  layered_seal items below = record { digest = below.digest; ways = layered_ways items below.ways }

  -- an item's own links, where the list has such a place
  abbrev pub front_answer : List Digest → ℕ → Option Way
  front_answer items i = cond (nat_lt i (length items)) (Some (w.front items i)) None

-- what a layer means that has stored no list: its last round is empty
abbrev pub layered_fresh : (ℕ → ℕ) → ℕ → Meaning → Meaning
layered_fresh covered links below =
    record {
      row = below.row;
      round = [];
      ways = [];
      most = min 256 (covered below.most);
      span = below.span;
      deepest = links + below.deepest;
    }

-- what is asked of a layer that takes `width` items down to one place, with at most `links` links of an item's own
pub record Lowers (width links : ℕ) (digested : List ℕ → Digest) (w : Lowering) : Type 0 where
  pub spots : (i : ℕ) → w.spot i ≡ i / width
  pub covers : (n : ℕ) → w.covered n ≡ width * n
  pub linked : w.links ≡ links
  -- the items whose places below are the first n are the first `covered n`
  pub placed : (i n : ℕ) → (w.spot i < n) ↔ (i < w.covered n)
  -- a list goes down to n places exactly where they are places for all of its items
  pub filled : (items : List Digest) (n : ℕ) → (length (w.lowered items) ≤ n) ↔ (length items ≤ w.covered n)
  -- an item's links rest on no item that goes down to a later place
  pub parted : (items : List Digest) (i n : ℕ) → i < w.covered n → w.front (take (w.covered n) items) i ≡ w.front items i
  pub short : (items : List Digest) (i : ℕ) → i < length items → length (w.front items i) ≤ w.links
  -- an item's links lead to what goes down at its place below
  pub leads : (items : List Digest) (i : ℕ) (item : Digest) → slice_get items i ≡ Some item
      → slice_get (w.lowered items) (w.spot i) ≡ Some (followed (round_join digested) item (w.front items i))

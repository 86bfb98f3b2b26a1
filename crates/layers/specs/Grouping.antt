-- Grouping: a list goes down as the roots of its groups of eight, and a way goes through the group first.
use Rattle.std.specs.Prelude.{ℕ, ◌+◌, ◌*◌, ◌/◌, ◌%◌, List, [], map, length, take, drop}
use Rattle.std.specs.Option.{unwrap_or}
use Rattle.std.specs.List.{range_with_len}
use Rattle.digest.specs.declared.value.Digest.{Digest}
use Rattle.digest.specs.Messages.{empty_message}
use Rattle.tree.specs.Trees.{root, path}
use Rattle.pile.specs.Meaning.{Meaning, Sealed, Way, round_join}
use Rattle.layers.specs.Layered.{Lowering, layered_meaning, layered_seal, layered_fresh}

-- group j: the part that starts at place 8 × j, of eight digests or what remains
abbrev pub group : List Digest → ℕ → List Digest
group items j = take 8 (drop (8 * j) items)

-- how many groups a list of n digests has
abbrev pub groups : ℕ → ℕ
groups n = (n + 7) / 8

module _ (digested : List ℕ → Digest) where
  -- a group's root; no group is empty, so nothing rests on what an empty one has
  abbrev pub group_root : List Digest → Digest
  group_root items = unwrap_or (root (round_join digested) items) (digested empty_message)

  -- the roots of a list's groups, which go down in its place
  abbrev pub group_roots : List Digest → List Digest
  group_roots items = map (λ j. group_root (group items j)) (range_with_len 0 (groups (length items)))

  -- the path of a place in its group
  abbrev pub group_path : List Digest → ℕ → Way
  group_path items i = unwrap_or (path (round_join digested) (group items (i / 8)) (i % 8)) []

  -- each root goes down at its group's place; a way is the path in the group, at most three links, then the root's way below
  abbrev pub grouping : Lowering
  grouping =
      record {
        lowered = group_roots;
        front = group_path;
        spot = λ i. i / 8;
        covered = λ n. 8 * n;
        links = 3;
      }

  -- what a grouping means that stored a list over a pile
  abbrev pub grouping_meaning : List Digest → Meaning → Meaning
  grouping_meaning stored below = layered_meaning grouping stored below

  -- what a list gets, of what its groups' roots get below
  abbrev pub grouping_seal : List Digest → Sealed → Sealed
  grouping_seal items below = layered_seal grouping items below

-- what a grouping means that has stored no list
abbrev pub grouping_fresh : Meaning → Meaning
grouping_fresh below = layered_fresh (λ n. 8 * n) 3 below

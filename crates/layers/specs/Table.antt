-- Two groupings over a head, and nine digests: the sides of each way, from the item to the row.
use Rattle.std.specs.Prelude.{◌≡◌, ℕ, List, [], ◌∷◌, map, slice_index_or}
use Rattle.std.specs.List.{range_with_len}
use Rattle.digest.specs.declared.value.Digest.{Digest}
use Rattle.tree.specs.Sides.{side_number}
use Rattle.pile.specs.Meaning.{Sealed}
use Rattle.pile.specs.Head.{head_seal}
use Rattle.layers.specs.Grouping.{group_roots, grouping_seal}

-- what a list gets in two groupings over a head
abbrev pub twice_grouped : (List ℕ → Digest) → List Digest → Sealed
twice_grouped digested items =
    grouping_seal digested items
    (grouping_seal digested (group_roots digested items)
    (head_seal digested (group_roots digested (group_roots digested items))))

-- the sides of a place's way by their numbers: 0 where the sibling stands on the right, 1 where on the left
abbrev pub sides : Sealed → ℕ → List ℕ
sides sealed place = map (λ link. side_number link.side) (slice_index_or sealed.ways place [])

-- the ways of the places 0 to 8, of any nine digests under any hash
abbrev pub NineTable : Type 0
NineTable =
    (digested : List ℕ → Digest) (a b c d e f g h i : Digest)
    → map (sides (twice_grouped digested (a ∷ b ∷ c ∷ d ∷ e ∷ f ∷ g ∷ h ∷ i ∷ []))) (range_with_len 0 9)
    ≡ (0 ∷ 0 ∷ 0 ∷ 0 ∷ [])
    ∷ (1 ∷ 0 ∷ 0 ∷ 0 ∷ [])
    ∷ (0 ∷ 1 ∷ 0 ∷ 0 ∷ [])
    ∷ (1 ∷ 1 ∷ 0 ∷ 0 ∷ [])
    ∷ (0 ∷ 0 ∷ 1 ∷ 0 ∷ [])
    ∷ (1 ∷ 0 ∷ 1 ∷ 0 ∷ [])
    ∷ (0 ∷ 1 ∷ 1 ∷ 0 ∷ [])
    ∷ (1 ∷ 1 ∷ 1 ∷ 0 ∷ [])
    ∷ (1 ∷ [])
    ∷ []

-- What holds of every tree, and the examples that every reader may check by hand.
use Rattle.std.specs.Prelude.{◌≡◌, ℕ, ◌^◌, ◌<◌, ◌≤◌, List, [], ◌∷◌, map, reverse, length, take, drop, Some, ◌≢◌, slice_index_or}
use Rattle.tree.specs.declared.link.Side.TheVariants.{Right, Left}
use Rattle.tree.specs.declared.link.Link.{Link}
use Rattle.tree.specs.Split.{Splits, split}
use Rattle.tree.specs.Trees.{root, path, followed, shape, second_shape, siblings}

-- from 2 on, `split n` splits n, and nothing else does
abbrev pub SplitLaw : Type 0
SplitLaw = (n : ℕ) → 2 ≤ n → Splits n (split n) × ((k : ℕ) → Splits n k → k ≡ split n)

-- the root over one node is that node; over more it joins the root over the first `split n` nodes and that over the rest
abbrev pub RootLaw : {N : Type 0} → (N → N → N) → Type 0
RootLaw {N} join =
    ((x : N) → root join (x ∷ []) ≡ Some x)
    × ((xs : List N) → 2 ≤ length xs
    → (left : N) × (right : N) × (root join (take (split (length xs)) xs) ≡ Some left)
    × (root join (drop (split (length xs)) xs) ≡ Some right) × (root join xs ≡ Some (join left right)))

-- the path of a place, followed from its node, ends in the root
abbrev pub PathLaw : {N : Type 0} → (N → N → N) → Type 0
PathLaw {N} join =
    (xs : List N) (i : ℕ) (links : List (Link N))
    → path join xs i ≡ Some links → (d : N) → root join xs ≡ Some (followed join (slice_index_or xs i d) links)

-- a path's sides depend on the list's length and the place alone
abbrev pub ShapeLaw : {N : Type 0} → (N → N → N) → Type 0
ShapeLaw {N} join =
    (xs : List N) (i : ℕ) (links : List (Link N))
    → path join xs i ≡ Some links → map (λ link. link.side) links ≡ shape (length xs) i

-- two places of one tree with one shape are one place
abbrev pub PlaceLaw : Type 0
PlaceLaw = (n i j : ℕ) → i < n → j < n → shape n i ≡ shape n j → i ≡ j

-- no second has more than 31 sides under a publication below 2 ^ 31
abbrev pub LengthLaw : Type 0
LengthLaw = (p second : ℕ) → p < 2 ^ 31 → second ≤ p → length (second_shape p second) ≤ 31

-- shapes of some seconds, and one list of sides that no second has
abbrev pub Examples : Type 0
Examples =
    (second_shape 0 0 ≡ [])
    × (second_shape 2 0 ≡ Right ∷ Right ∷ [])
    × (second_shape 2 2 ≡ Left ∷ [])
    × (second_shape 4 3 ≡ Left ∷ Left ∷ Right ∷ [])
    × (second_shape 6 5 ≡ Left ∷ Right ∷ Left ∷ [])
    × (second_shape 6 6 ≡ Left ∷ Left ∷ [])
    × ((second : ℕ) → second ≤ 2 → second_shape 2 second ≢ Left ∷ Left ∷ [])

-- the sides of a place's siblings, from the last to the first, are its shape
abbrev pub SiblingLaw : Type 0
SiblingLaw = (n i : ℕ) → shape n i ≡ reverse (map (λ s. s.side) (siblings 0 n i))

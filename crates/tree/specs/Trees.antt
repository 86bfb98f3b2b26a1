-- Trees over lists of nodes of any kind: root, path, shape, and following a path.
use Rattle.std.specs.Prelude.{ℕ, zero, suc, ◌+◌, ◌-◌, cond, List, [], ◌∷◌, ◌++◌, length, take, drop, Some, None, Option, nat_lt, slice_index_or}
use Rattle.tree.specs.declared.link.Side.{Side}
use Rattle.tree.specs.declared.link.Side.TheVariants.{Right, Left}
use Rattle.tree.specs.declared.link.Link.{Link}
use Rattle.tree.specs.declared.descent.Sibling.{Sibling}
use Rattle.tree.specs.Split.{split}

-- how a list is parted: not at all, or into a left and a right part
pub data Tree : Type 0 where
  leaf : Tree
  node : Tree → Tree → Tree

abbrev pub leaves : Tree → ℕ
leaves leaf = 1
leaves (node left right) = leaves left + leaves right

-- the tree over n leaves; `depth` is at least how deep it is
unfoldable pub grown : ℕ → ℕ → Tree
grown zero n = leaf
grown (suc depth) n = cond (nat_lt 1 n) (node (grown depth (split n)) (grown depth (n - split n))) leaf

-- the tree over n leaves, for n from 1 on: a leaf, or the tree over the first `split n` and that over the rest
unfoldable pub tree : ℕ → Tree
tree n = grown n n

module _ {N : Type 0} (join : N → N → N) where
  -- the root of the nodes `xs` under a tree with as many leaves; `d` stands for a node that is not there
  abbrev pub root_under : Tree → N → List N → N
  root_under leaf d xs = slice_index_or xs 0 d
  root_under (node left right) d xs =
      join (root_under left d (take (leaves left) xs)) (root_under right d (drop (leaves left) xs))

  -- the links from place i up to the root
  abbrev pub path_under : Tree → N → List N → ℕ → List (Link N)
  path_under leaf d xs i = []
  path_under (node left right) d xs i =
      cond (nat_lt i (leaves left))
      (path_under left d (take (leaves left) xs) i ++ record { side = Right; sibling = root_under right d (drop (leaves left) xs) } ∷ [])
      (path_under right d (drop (leaves left) xs) (i - leaves left) ++ record { side = Left; sibling = root_under left d (take (leaves left) xs) } ∷ [])

  -- the root of a list; an empty list has none
  abbrev pub root : List N → Option N
  root [] = None
  root (x ∷ xs) = Some (root_under (tree (suc (length xs))) x (x ∷ xs))

  -- the path of place i of a list, from the leaf to the root; a place that is not there has none
  abbrev pub path : List N → ℕ → Option (List (Link N))
  path [] i = None
  path (x ∷ xs) i = cond (nat_lt i (suc (length xs))) (Some (path_under (tree (suc (length xs))) x (x ∷ xs) i)) None

  -- one link of a path
  abbrev pub step : N → Side → N → N
  step x Right sibling = join x sibling
  step x Left sibling = join sibling x

  -- a path's links taken one after another
  abbrev pub followed : N → List (Link N) → N
  followed x [] = x
  followed x (link ∷ links) = followed (step x link.side link.sibling) links

-- the sides of place i, from the leaf to the root
abbrev pub shape_under : Tree → ℕ → List Side
shape_under leaf i = []
shape_under (node left right) i =
    cond (nat_lt i (leaves left)) (shape_under left i ++ Right ∷ []) (shape_under right (i - leaves left) ++ Left ∷ [])

-- the shape of place i among n leaves
abbrev pub shape : ℕ → ℕ → List Side
shape n i = shape_under (tree n) i

-- the shape of a second under publication p, whose calendar has the seconds 0 to p
abbrev pub second_shape : ℕ → ℕ → List Side
second_shape p second = shape (p + 1) second

-- the siblings on the way from the root down to place i, in a tree whose leaves stand at the places from `low` on
abbrev pub siblings_under : Tree → ℕ → ℕ → List Sibling
siblings_under leaf low i = []
siblings_under (node left right) low i =
    cond (nat_lt i (low + leaves left))
    (record { side = Right; low = low + leaves left; end = low + leaves left + leaves right } ∷ siblings_under left low i)
    (record { side = Left; low = low; end = low + leaves left } ∷ siblings_under right (low + leaves left) i)

-- the same under the leaves from `low` to `end` - 1
abbrev pub siblings : ℕ → ℕ → ℕ → List Sibling
siblings low end i = siblings_under (tree (end - low)) low i

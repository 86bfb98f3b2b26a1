-- Forests: perfect trees side by side over a list of nodes, the tallest and earliest first.
use Rattle.std.specs.Prelude.{◌≡◌, ℕ, suc, ◌+◌, ◌*◌, ◌^◌, ◌≤◌, List, [], ◌∷◌, ◌++◌, length, take, Some}
use Rattle.tree.specs.Trees.{root}
use Rattle.calendar.specs.declared.forest.Forest.{Forest}

-- y is the root over nodes, 2 ^ h of them
abbrev pub Perfect : {N : Type 0} → (N → N → N) → ℕ → List N → N → Type 0
Perfect join h nodes y = (length nodes ≡ 2 ^ h) × (root join nodes ≡ Some y)

-- the peaks are the roots of the trees over the nodes, in their order: the binary digits of n say how tall they are,
-- a digit 1 at 2 ^ i being a tree over 2 ^ (h + i) nodes; n has no digits, or a last digit 0 or 1
pub data Stands {N : Type 0} (join : N → N → N) : ℕ → ℕ → List N → List N → Type 0 where
  bare : {h : ℕ} → Stands join h 0 [] []
  even : {h n : ℕ} {peaks nodes : List N} (c : ℕ) → n ≡ 2 * c → Stands join (suc h) c peaks nodes → Stands join h n peaks nodes
  odd : {h n : ℕ} {peaks nodes : List N} (c : ℕ) (before early late : List N) (y : N) → n ≡ 1 + 2 * c
      → Stands join (suc h) c before early → Perfect join h late y → peaks ≡ before ++ y ∷ [] → nodes ≡ early ++ late
      → Stands join h n peaks nodes

-- the forest's first `top` peaks, of 32, are the trees over the nodes, and it has counted them
abbrev pub Holds : {N : Type 0} → (N → N → N) → Forest N → List N → Type 0
Holds join forest nodes =
    (length forest.peaks ≡ 32)
    × (forest.top ≤ 32)
    × (forest.count ≡ length nodes)
    × Stands join 0 forest.count (take forest.top forest.peaks) nodes

-- over some nodes
abbrev pub Sound : {N : Type 0} → (N → N → N) → Forest N → Type 0
Sound {N} join forest = (nodes : List N) × Holds join forest nodes

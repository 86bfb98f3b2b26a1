-- The root of a list: its only node, or the roots of its two parts joined.
use Rattle.std.proofs.Common.{◌≡◌, ℕ, suc, ◌+◌, ◌-◌, ◌≤◌, List, [], ◌∷◌, length, get_or, take, drop, Some, sym, refl, ap, ◌∙◌, arith}
use Rattle.std.proofs.lemmas.List.{get_or_default, length-take-le, length-drop}
use Rattle.tree.specs.Split.{split}
use Rattle.tree.specs.Trees.{Tree, leaf, node, leaves, tree, root_under, root}
use Rattle.tree.specs.Laws.{RootLaw}
use Rattle.tree.proofs.Grown.{parts, tree_leaf, tree_node, leaves_tree}

-- both parts of a list under a tree have as many nodes as the tree's parts have leaves
pub lengths : {N : Type 0} (left right : Tree) (xs : List N) → leaves left + leaves right ≡ length xs
    → (leaves left ≡ length (take (leaves left) xs)) × (leaves right ≡ length (drop (leaves left) xs))
lengths left right xs h =
    (sym (length-take-le (leaves left) xs (omega arith)), omega (arith, length-drop (leaves left) xs))

module _ {N : Type 0} (join : N → N → N) where
  -- the node that stands for one that is not there is never used
  pub root_default : (t : Tree) (xs : List N) (d e : N) → leaves t ≡ length xs → root_under join t d xs ≡ root_under join t e xs
  root_default leaf xs d e h = get_or_default xs 0 d e (omega arith)
  root_default (node left right) xs d e h =
      let l = lengths left right xs h in
      ap (λ x. join x (root_under join right d (drop (leaves left) xs))) (root_default left (take (leaves left) xs) d e l.0)
      ∙ ap (λ x. join (root_under join left e (take (leaves left) xs)) x) (root_default right (drop (leaves left) xs) d e l.1)

  pub root_is : (xs : List N) (d : N) → 1 ≤ length xs → root join xs ≡ Some (root_under join (tree (length xs)) d xs)
  root_is [] d h = absurd (omega arith)
  root_is (x ∷ xs) d h =
      ap Some (root_default (tree (suc (length xs))) (x ∷ xs) x d (leaves_tree (suc (length xs)) h))

  pub root_one : (xs : List N) (d : N) → length xs ≡ 1 → root join xs ≡ Some (get_or xs 0 d)
  root_one xs d h =
      root_is xs d (omega arith)
      ∙ ap (λ t. Some (root_under join t d xs)) (ap tree h ∙ tree_leaf)

  -- a list of more than one node, parted at k
  module _ (xs : List N) (k : ℕ) (more : 2 ≤ length xs) (part : k ≡ split (length xs)) where
    pub whole : tree (length xs) ≡ node (tree k) (tree (length xs - k))
    whole = rw part (tree_node (length xs) more)

    pub size : leaves (tree k) ≡ k
    size = leaves_tree k (omega (arith, (parts (length xs) more).0))

    pub front : length (take k xs) ≡ k
    front = length-take-le k xs (omega (arith, (parts (length xs) more).1))

    pub back : length (drop k xs) ≡ length xs - k
    back = length-drop k xs

    pub left_root : (d a : N) → root join (take k xs) ≡ Some a → root_under join (tree k) d (take (leaves (tree k)) xs) ≡ a
    left_root d a e =
        let same : Some (root_under join (tree (length (take k xs))) d (take k xs)) ≡ Some a =
        sym (root_is (take k xs) d (omega (arith, front, (parts (length xs) more).0))) ∙ e in
        let bare : root_under join (tree (length (take k xs))) d (take k xs) ≡ a = cc in
        ap (λ m. root_under join (tree k) d (take m xs)) size ∙ (ap (λ m. root_under join (tree m) d (take k xs)) (sym front) ∙ bare)

    pub right_root : (d b : N) → root join (drop k xs) ≡ Some b
        → root_under join (tree (length xs - k)) d (drop (leaves (tree k)) xs) ≡ b
    right_root d b e =
        let same : Some (root_under join (tree (length (drop k xs))) d (drop k xs)) ≡ Some b =
        sym (root_is (drop k xs) d (omega (arith, back, (parts (length xs) more).1))) ∙ e in
        let bare : root_under join (tree (length (drop k xs))) d (drop k xs) ≡ b = cc in
        ap (λ m. root_under join (tree (length xs - k)) d (drop m xs)) size
        ∙ (ap (λ m. root_under join (tree m) d (drop k xs)) (sym back) ∙ bare)

    -- the root over more than one node
    pub root_more : (a b : N) → root join (take k xs) ≡ Some a → root join (drop k xs) ≡ Some b → root join xs ≡ Some (join a b)
    root_more a b la lb =
        root_is xs a (omega arith)
        ∙ (ap (λ t. Some (root_under join t a xs)) whole
        ∙ (ap (λ x. Some (join x (root_under join (tree (length xs - k)) a (drop (leaves (tree k)) xs)))) (left_root a a la)
        ∙ ap (λ x. Some (join a x)) (right_root a b lb)))

  pub root_law : RootLaw join
  root_law = (λ x. root_one (x ∷ []) x refl, parted)
    where
      parted : (xs : List N) → 2 ≤ length xs
          → (a : N) × (b : N) × (root join (take (split (length xs)) xs) ≡ Some a) × (root join (drop (split (length xs)) xs) ≡ Some b)
          × (root join xs ≡ Some (join a b))
      parted [] h = absurd (omega arith)
      parted (x ∷ xs) h =
          let k : ℕ = split (suc (length xs)) in
          let left : List N = take k (x ∷ xs) in
          let right : List N = drop k (x ∷ xs) in
          let p = parts (suc (length xs)) h in
          let l = root_is left x (omega (arith, front (x ∷ xs) k h refl, p.0)) in
          let r = root_is right x (omega (arith, back (x ∷ xs) k h refl, p.1)) in
          let a : N = root_under join (tree (length left)) x left in
          let b : N = root_under join (tree (length right)) x right in
          (a, b, l, r, root_more (x ∷ xs) k h refl a b l r)

-- The path of a place: none in a tree of one leaf, else that of its part and the root of the other part.
use Rattle.std.proofs.Common.{◌≡◌, ℕ, suc, ◌+◌, ◌-◌, ◌<◌, ◌≤◌, ltb, List, [], ◌∷◌, ◌++◌, map, length, get_or, take, drop, Some, None, sym, refl, ap, ◌∙◌, inl, inr, arith}
use Rattle.std.proofs.lemmas.List.{get_or-take, get_or-drop, map_push}
use Rattle.std.proofs.lemmas.Bool.{cond-true, cond-false, lt-ltb, le-ltb, ltb-true, ltb-false, cases_Bool, cases_lt}
use Rattle.tree.specs.declared.link.Side.{Side}
use Rattle.tree.specs.declared.link.Side.TheVariants.{Right, Left}
use Rattle.tree.specs.declared.link.Link.{Link}
use Rattle.tree.specs.Split.{split}
use Rattle.tree.specs.Trees.{Tree, leaf, node, leaves, tree, root_under, root, path_under, path, step, followed, shape_under}
use Rattle.tree.specs.Laws.{PathLaw, ShapeLaw}
use Rattle.tree.proofs.Grown.{parts, tree_leaf, leaves_tree}
use Rattle.tree.proofs.Roots.{lengths, root_default, root_is, whole, size, front, back, left_root, right_root}

-- one link more at the root's end
pub followed_push : {N : Type 0} (join : N → N → N) (links : List (Link N)) (last : Link N) (x : N)
    → followed join x (links ++ last ∷ []) ≡ step join (followed join x links) last.side last.sibling
followed_push join [] last x = refl
followed_push join (link ∷ links) last x = followed_push join links last (step join x link.side link.sibling)

abbrev pub link : {N : Type 0} → Side → N → Link N
link side sibling = record { side = side; sibling = sibling }

module _ {N : Type 0} (join : N → N → N) where
  -- the path where the place is in the left part, and where it is in the right part
  pub path_left : (left right : Tree) (d : N) (xs : List N) (i : ℕ) → i < leaves left
      → path_under join (node left right) d xs i
      ≡ path_under join left d (take (leaves left) xs) i ++ link Right (root_under join right d (drop (leaves left) xs)) ∷ []
  path_left left right d xs i h = cond-true (ltb i (leaves left)) _ _ (lt-ltb i (leaves left) h)

  pub path_right : (left right : Tree) (d : N) (xs : List N) (i : ℕ) → leaves left ≤ i
      → path_under join (node left right) d xs i
      ≡ path_under join right d (drop (leaves left) xs) (i - leaves left)
      ++ link Left (root_under join left d (take (leaves left) xs)) ∷ []
  path_right left right d xs i h = cond-false (ltb i (leaves left)) _ _ (le-ltb i (leaves left) h)

  -- the path followed from its node ends in the root
  path_followed : (t : Tree) (d : N) (xs : List N) (i : ℕ) → leaves t ≡ length xs → i < leaves t
      → followed join (get_or xs i d) (path_under join t d xs i) ≡ root_under join t d xs
  path_followed leaf d xs i h k = let first : i ≡ 0 = omega arith in ap (λ j. get_or xs j d) first
  path_followed (node left right) d xs i h k =
      let size : ℕ = leaves left in
      let l = lengths left right xs h in
      let a : N = root_under join left d (take size xs) in
      let b : N = root_under join right d (drop size xs) in
      elim (cases_lt i size) [
        | inl in_left ↦
            let inner : followed join (get_or (take size xs) i d) (path_under join left d (take size xs) i) ≡ a =
            path_followed left d (take size xs) i l.0 in_left in
            let at : get_or (take size xs) i d ≡ get_or xs i d = get_or-take size xs i d in_left in
            ap (followed join (get_or xs i d)) (path_left left right d xs i in_left)
            ∙ (followed_push join (path_under join left d (take size xs) i) (link Right b) (get_or xs i d)
            ∙ (ap (λ x. join (followed join x (path_under join left d (take size xs) i)) b) (sym at) ∙ ap (λ x. join x b) inner))
        | inr in_right ↦
            let j : ℕ = i - size in
            let inner : followed join (get_or (drop size xs) j d) (path_under join right d (drop size xs) j) ≡ b =
            path_followed right d (drop size xs) j l.1 (omega arith) in
            let there : size + j ≡ i = omega arith in
            let at : get_or (drop size xs) j d ≡ get_or xs i d = get_or-drop size xs j d ∙ ap (λ m. get_or xs m d) there in
            ap (followed join (get_or xs i d)) (path_right left right d xs i in_right)
            ∙ (followed_push join (path_under join right d (drop size xs) j) (link Left a) (get_or xs i d)
            ∙ (ap (λ x. join a (followed join x (path_under join right d (drop size xs) j))) (sym at) ∙ ap (λ x. join a x) inner))
      ]

  -- its sides are the shape
  path_sides : (t : Tree) (d : N) (xs : List N) (i : ℕ) → map (λ (s : Link N). s.side) (path_under join t d xs i) ≡ shape_under t i
  path_sides leaf d xs i = refl
  path_sides (node left right) d xs i =
      let size : ℕ = leaves left in
      let sides : List (Link N) → List Side = map (λ (s : Link N). s.side) in
      elim (cases_Bool (ltb i size)) [
        | inl in_left ↦
            let inner : sides (path_under join left d (take size xs) i) ≡ shape_under left i = path_sides left d (take size xs) i in
            ap sides (path_left left right d xs i (ltb-true i size in_left))
            ∙ (map_push (λ (s : Link N). s.side) (path_under join left d (take size xs) i) (link Right (root_under join right d (drop size xs)))
            ∙ (ap (λ ys. ys ++ Right ∷ []) inner ∙ sym (cond-true (ltb i size) _ _ in_left)))
        | inr in_right ↦
            let inner : sides (path_under join right d (drop size xs) (i - size)) ≡ shape_under right (i - size) =
            path_sides right d (drop size xs) (i - size) in
            ap sides (path_right left right d xs i (ltb-false i size in_right))
            ∙ (map_push (λ (s : Link N). s.side) (path_under join right d (drop size xs) (i - size)) (link Left (root_under join left d (take size xs)))
            ∙ (ap (λ ys. ys ++ Left ∷ []) inner ∙ sym (cond-false (ltb i size) _ _ in_right)))
      ]

  -- the node that stands for one that is not there is never used
  path_default : (t : Tree) (xs : List N) (d e : N) (i : ℕ) → leaves t ≡ length xs → path_under join t d xs i ≡ path_under join t e xs i
  path_default leaf xs d e i h = refl
  path_default (node left right) xs d e i h =
      let size : ℕ = leaves left in
      let l = lengths left right xs h in
      let front : List N = take size xs in
      let back : List N = drop size xs in
      elim (cases_lt i size) [
        | inl in_left ↦
            path_left left right d xs i in_left
            ∙ (ap (λ ys. ys ++ link Right (root_under join right d back) ∷ []) (path_default left front d e i l.0)
            ∙ (ap (λ x. path_under join left e front i ++ link Right x ∷ []) (root_default join right back d e l.1)
            ∙ sym (path_left left right e xs i in_left)))
        | inr in_right ↦
            path_right left right d xs i in_right
            ∙ (ap (λ ys. ys ++ link Left (root_under join left d front) ∷ []) (path_default right back d e (i - size) l.1)
            ∙ (ap (λ x. path_under join right e back (i - size) ++ link Left x ∷ []) (root_default join left front d e l.0)
            ∙ sym (path_right left right e xs i in_right)))
      ]

  pub path_is : (xs : List N) (d : N) (i : ℕ) → i < length xs → path join xs i ≡ Some (path_under join (tree (length xs)) d xs i)
  path_is [] d i h = absurd (omega arith)
  path_is (x ∷ xs) d i h =
      cond-true (ltb i (suc (length xs))) _ _ (lt-ltb i (suc (length xs)) h)
      ∙ ap Some (path_default (tree (suc (length xs))) (x ∷ xs) x d i (leaves_tree (suc (length xs)) (omega arith)))

  pub path_past : (xs : List N) (i : ℕ) → length xs ≤ i → path join xs i ≡ None
  path_past [] i h = refl
  path_past (x ∷ xs) i h = cond-false (ltb i (suc (length xs))) _ _ (le-ltb i (suc (length xs)) h)

  pub path_one : (xs : List N) (i : ℕ) → i < length xs → length xs ≡ 1 → path join xs i ≡ Some []
  path_one [] i k h = absurd (omega arith)
  path_one (x ∷ xs) i k h =
      path_is (x ∷ xs) x i k ∙ ap (λ t. Some (path_under join t x (x ∷ xs) i)) (ap tree h ∙ tree_leaf)

  module _ (xs : List N) (k : ℕ) (more : 2 ≤ length xs) (part : k ≡ split (length xs)) where
    -- a place in the left part
    pub path_more_left : (i : ℕ) (inner : List (Link N)) (b : N) → i < k → path join (take k xs) i ≡ Some inner → root join (drop k xs) ≡ Some b
        → path join xs i ≡ Some (inner ++ link Right b ∷ [])
    path_more_left i inner b h e f =
        let n : ℕ = length xs in
        let same : Some (path_under join (tree (length (take k xs))) b (take k xs) i) ≡ Some inner =
        sym (path_is (take k xs) b i (omega (arith, front join xs k more part))) ∙ e in
        let bare : path_under join (tree (length (take k xs))) b (take k xs) i ≡ inner = cc in
        let deeper : path_under join (tree k) b (take (leaves (tree k)) xs) i ≡ inner =
        ap (λ m. path_under join (tree k) b (take m xs) i) (size join xs k more part) ∙ (ap (λ m. path_under join (tree m) b (take k xs) i) (sym (front join xs k more part)) ∙ bare) in
        path_is xs b i (omega (arith, (parts n more).1))
        ∙ (ap (λ t. Some (path_under join t b xs i)) (whole join xs k more part)
        ∙ (ap Some (path_left (tree k) (tree (length xs - k)) b xs i (omega (arith, size join xs k more part)))
        ∙ (ap (λ x. Some (path_under join (tree k) b (take (leaves (tree k)) xs) i ++ link Right x ∷ [])) (right_root join xs k more part b b f)
        ∙ ap (λ ys. Some (ys ++ link Right b ∷ [])) deeper)))

    -- a place in the right part
    pub path_more_right : (i : ℕ) (inner : List (Link N)) (b : N) → k ≤ i → i < length xs → path join (drop k xs) (i - k) ≡ Some inner
        → root join (take k xs) ≡ Some b → path join xs i ≡ Some (inner ++ link Left b ∷ [])
    path_more_right i inner b h l e f =
        let n : ℕ = length xs in
        let same : Some (path_under join (tree (length (drop k xs))) b (drop k xs) (i - k)) ≡ Some inner =
        sym (path_is (drop k xs) b (i - k) (omega (arith, back join xs k more part))) ∙ e in
        let bare : path_under join (tree (length (drop k xs))) b (drop k xs) (i - k) ≡ inner = cc in
        let deeper : path_under join (tree (length xs - k)) b (drop (leaves (tree k)) xs) (i - leaves (tree k)) ≡ inner =
        ap (λ m. path_under join (tree (length xs - k)) b (drop m xs) (i - m)) (size join xs k more part)
        ∙ (ap (λ m. path_under join (tree m) b (drop k xs) (i - k)) (sym (back join xs k more part)) ∙ bare) in
        path_is xs b i l
        ∙ (ap (λ t. Some (path_under join t b xs i)) (whole join xs k more part)
        ∙ (ap Some (path_right (tree k) (tree (length xs - k)) b xs i (omega (arith, size join xs k more part)))
        ∙ (ap (λ x. Some (path_under join (tree (length xs - k)) b (drop (leaves (tree k)) xs) (i - leaves (tree k)) ++ link Left x ∷ [])) (left_root join xs k more part b b f)
        ∙ ap (λ ys. Some (ys ++ link Left b ∷ [])) deeper)))

  -- a place that has a path is in the list
  placed : (xs : List N) (i : ℕ) (links : List (Link N)) → path join xs i ≡ Some links → i < length xs
  placed xs i links e =
      elim (cases_lt i (length xs))
      [ inl h ↦ h | inr past ↦ let none = path_past xs i past in let z : ◌≡◌ {A = ℕ} 0 1 = cc in absurd (omega arith) ]

  pub path_law : PathLaw join
  path_law xs i links e d =
      let h : i < length xs = placed xs i links e in
      let same : Some (path_under join (tree (length xs)) d xs i) ≡ Some links = sym (path_is xs d i h) ∙ e in
      let bare : path_under join (tree (length xs)) d xs i ≡ links = cc in
      let sized : leaves (tree (length xs)) ≡ length xs = leaves_tree (length xs) (omega arith) in
      root_is join xs d (omega arith)
      ∙ ap Some (sym (path_followed (tree (length xs)) d xs i sized (omega (arith, sized))) ∙ ap (followed join (get_or xs i d)) bare)

  pub shape_law : ShapeLaw join
  shape_law [] i links e = absurd (omega (arith, placed [] i links e))
  shape_law (x ∷ xs) i links e =
      let n : ℕ = suc (length xs) in
      let h : i < n = placed (x ∷ xs) i links e in
      let same : Some (path_under join (tree n) x (x ∷ xs) i) ≡ Some links = sym (path_is (x ∷ xs) x i h) ∙ e in
      let bare : path_under join (tree n) x (x ∷ xs) i ≡ links = cc in
      ap (map (λ (s : Link N). s.side)) (sym bare) ∙ path_sides (tree n) x (x ∷ xs) i

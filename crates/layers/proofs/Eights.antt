-- The groups of a list: where an item stands among them, and where its way leads.
use Rattle.std.proofs.Common.{◌≡◌, ℕ, ◌+◌, ◌-◌, ◌*◌, ◌/◌, ◌%◌, ◌<◌, ◌≤◌, min, ltb, List, [], ◌∷◌, ◌++◌, length, get_or, take, drop, Some, Ok, Option, unwrap_or, map, sym, refl, ap, ◌∙◌, inl, inr, arith}
use Rattle.std.specs.List.{slice_get, range_with_len}
use Rattle.std.proofs.lemmas.List.{append-nil, nil_from_length, length-append, length-map, length-take, length-drop, take_all, drop_all, take_at, drop_at, drop-drop, take-take, drop-take, get_or-take, get_or-drop}
use Rattle.std.proofs.lemmas.List.FromFn.{length-map-range_with_len, map-range_with_len_more, get_or-map-range_with_len}
use Rattle.std.proofs.lemmas.Option.{slice_get-get_or}
use Rattle.std.proofs.lemmas.Bool.{cond-true, cond-false, lt-ltb, le-ltb, cases_lt}
use Rattle.digest.specs.declared.value.Digest.{Digest}
use Rattle.digest.specs.Messages.{empty_message}
use Rattle.tree.specs.Trees.{root, path, followed, shape}
use Rattle.tree.specs.Answers.{path_answer}
use Rattle.tree.proofs.Roots.{root_is}
use Rattle.tree.proofs.Paths.{path_is, path_law, shape_law}
use Rattle.tree.proofs.ShapeLaws.{shape_short}
use Rattle.pile.specs.Meaning.{Way, round_join}
use Rattle.layers.proofs.Ways.{nth_is}
use Rattle.layers.specs.Layered.{Lowers}
use Rattle.layers.specs.Grouping.{group, groups, group_root, group_roots, group_path, grouping}

-- what is there, is its own value
some_value : {A : Type 0} (o : Option A) (x d : A) → o ≡ Some x → o ≡ Some (unwrap_or o d)
some_value o x d e = e ∙ ap Some (sym (ap (λ p. unwrap_or p d) e))

-- a list cut after its first eight
pub first_group : (xs chunk rest : List Digest) → xs ≡ chunk ++ rest → length chunk ≡ min 8 (length xs) → (chunk ≡ take 8 xs) × (rest ≡ drop 8 xs)
first_group xs chunk rest parts size =
    let sum = ap length parts ∙ length-append chunk rest in
    elim (cases_lt (length xs) 8) [
      | inl short ↦
          let none : rest ≡ [] = nil_from_length rest (omega arith) in
          let all : chunk ≡ xs = sym (append-nil chunk) ∙ (ap (λ ys. chunk ++ ys) (sym none) ∙ sym parts) in
          (all ∙ sym (take_all 8 xs (omega arith)), none ∙ sym (drop_all 8 xs (omega arith)))
      | inr long ↦
          let whole : length chunk ≡ 8 = omega arith in
          (sym (take_at chunk rest 8 whole) ∙ ap (take 8) (sym parts), sym (drop_at chunk rest 8 whole) ∙ ap (drop 8) (sym parts))
    ]

pub length_group : (items : List Digest) (j : ℕ) → length (group items j) ≡ min 8 (length items - 8 * j)
length_group items j = length-take 8 (drop (8 * j) items) ∙ ap (min 8) (length-drop (8 * j) items)

-- the groups that remain after a cut between groups are whole
pub group_cut : (items : List Digest) (j n : ℕ) → j < n → group (take (8 * n) items) j ≡ group items j
group_cut items j n h =
    let size : 8 * n ≡ 8 * j + 8 * (n - j) = omega arith in
    ap (λ m. take 8 (drop (8 * j) (take m items))) size
    ∙ (ap (take 8) (drop-take (8 * j) (8 * (n - j)) items) ∙ take-take 8 (8 * (n - j)) (drop (8 * j) items) (omega arith))

-- place i stands in group i / 8, at i % 8
pub in_group : (items : List Digest) (i : ℕ) → i < length items → i % 8 < length (group items (i / 8))
in_group items i h = omega (arith, length_group items (i / 8))

pub item_at : (items : List Digest) (i : ℕ) (d : Digest) → get_or (group items (i / 8)) (i % 8) d ≡ get_or items i d
item_at items i d =
    let place : 8 * (i / 8) + i % 8 ≡ i = omega arith in
    get_or-take 8 (drop (8 * (i / 8)) items) (i % 8) d (omega arith)
    ∙ (get_or-drop (8 * (i / 8)) items (i % 8) d ∙ ap (λ k. get_or items k d) place)

-- three links suffice for a path
pub shape_three : (items : List Digest) (i : ℕ) → length (shape (length (group items (i / 8))) (i % 8)) ≤ 3
shape_three items i = shape_short 3 (length (group items (i / 8))) (i % 8) (omega (arith, length_group items (i / 8)))

pub path_answered : (items : List Digest) (i room : ℕ) → i < length items → 3 ≤ room
    → path_answer (length (group items (i / 8))) (i % 8) room ≡ Ok (length (shape (length (group items (i / 8))) (i % 8)))
path_answered items i room h enough =
    let n : ℕ = length (group items (i / 8)) in
    let size : ℕ = length (shape n (i % 8)) in
    cond-true (ltb (i % 8) n) _ _ (lt-ltb (i % 8) n (in_group items i h))
    ∙ cond-false (ltb room size) _ _ (le-ltb room size (omega (arith, shape_three items i)))

module _ (digested : List ℕ → Digest) where
  abbrev join : Digest → Digest → Digest
  join = round_join digested

  pub root_there : (items : List Digest) → 1 ≤ length items → root join items ≡ Some (group_root digested items)
  root_there items h =
      some_value (root join items) _ (digested empty_message) (root_is join items (digested empty_message) h)

  pub path_there : (items : List Digest) (i : ℕ) → i < length items
      → path join (group items (i / 8)) (i % 8) ≡ Some (group_path digested items i)
  path_there items i h =
      some_value (path join (group items (i / 8)) (i % 8)) _ [] (path_is join (group items (i / 8)) (digested empty_message) (i % 8) (in_group items i h))

  -- how long the path of a place is
  pub path_length : (items : List Digest) (i : ℕ) → i < length items
      → length (group_path digested items i) ≡ length (shape (length (group items (i / 8))) (i % 8))
  path_length items i h =
      sym (length-map (group_path digested items i) (λ link. link.side))
      ∙ ap length (shape_law join (group items (i / 8)) (i % 8) (group_path digested items i) (path_there items i h))

  pub path_three : (items : List Digest) (i : ℕ) → i < length items → length (group_path digested items i) ≤ 3
  path_three items i h = omega (arith, path_length items i h, shape_three items i)

  pub length_roots : (items : List Digest) → length (group_roots digested items) ≡ groups (length items)
  length_roots items = length-map-range_with_len (λ j. group_root digested (group items j)) 0 (groups (length items))

  -- the groups' roots up to a place between groups, and what remains of the list from there
  pub record RootsSoFar (items roots rest : List Digest) : Type 0 where
    pub so : roots ≡ map (λ j. group_root digested (group items j)) (range_with_len 0 (length roots))
    pub from : rest ≡ drop (8 * length roots) items
    pub near : 8 * length roots < length items + 8

  -- the root of the group that comes next
  pub roots_more : (items roots rest chunk left : List Digest) → RootsSoFar items roots rest → rest ≡ chunk ++ left → length chunk ≡ min 8 (length rest)
      → 0 < length rest → RootsSoFar items (roots ++ group_root digested chunk ∷ []) left
  roots_more items roots rest chunk left far parts size some =
      let n : ℕ = length roots in
      let root : ℕ → Digest = λ j. group_root digested (group items j) in
      let cut = first_group rest chunk left parts size in
      let more : length (roots ++ group_root digested chunk ∷ []) ≡ n + 1 = length-append roots (group_root digested chunk ∷ []) in
      let here : group_root digested chunk ≡ root n = ap (group_root digested) (cut.0 ∙ ap (take 8) far.from) in
      let on : 8 + 8 * n ≡ 8 * (n + 1) = omega arith in
      record {
        so =
            ap (λ xs. roots ++ xs ∷ []) here
            ∙ (ap (λ xs. xs ++ root n ∷ []) far.so
            ∙ (sym (map-range_with_len_more root 0 n n (omega arith)) ∙ ap (λ k. map root (range_with_len 0 k)) (sym more)));
        from =
            cut.1
            ∙ (ap (drop 8) far.from
            ∙ (drop-drop 8 (8 * n) items ∙ (ap (λ k. drop k items) (omega arith) ∙ ap (λ k. drop (8 * k) items) (sym more))));
        near = omega (arith, more, ap length far.from, length-drop (8 * n) items);
      }

  pub roots_all : (items roots rest : List Digest) → RootsSoFar items roots rest → length rest ≡ 0 → roots ≡ group_roots digested items
  roots_all items roots rest far none =
      let count : length roots ≡ groups (length items) = omega (arith, far.near, ap length far.from, length-drop (8 * length roots) items) in
      far.so ∙ ap (λ n. map (λ j. group_root digested (group items j)) (range_with_len 0 n)) count

  -- the root of each group goes down as the item of its number
  pub root_at : (items : List Digest) (j : ℕ) → j < groups (length items)
      → slice_get (group_roots digested items) j ≡ Some (group_root digested (group items j))
  root_at items j h =
      slice_get-get_or (group_roots digested items) j (digested empty_message) (omega (arith, length_roots items))
      ∙ ap Some (get_or-map-range_with_len (λ k. group_root digested (group items k)) 0 (groups (length items)) j j (digested empty_message) h (omega arith))

  -- the path in the group leads to the group's root
  pub to_root : (items : List Digest) (i : ℕ) (item : Digest) → slice_get items i ≡ Some item
      → followed join item (group_path digested items i) ≡ group_root digested (group items (i / 8))
  to_root items i item e =
      let at = nth_is items i item e in
      let h : i < length items = at.0 in
      let ws : Way = group_path digested items i in
      let law = path_law join (group items (i / 8)) (i % 8) ws (path_there items i h) item in
      let there = root_there (group items (i / 8)) (omega (arith, in_group items i h)) in
      let start : get_or (group items (i / 8)) (i % 8) item ≡ item = item_at items i item ∙ at.1 in
      let from = ap (λ x. followed join x ws) start in
      cc

  pub grouping_lowers : Lowers 8 3 digested (grouping digested)
  grouping_lowers =
      record {
        spots = λ i. refl;
        covers = λ n. refl;
        linked = refl;
        placed = λ i n. (λ h. omega arith, λ h. omega arith);
        filled = λ items n. (λ h. omega (arith, length_roots items), λ h. omega (arith, length_roots items));
        parted = λ items i n h. ap (λ xs. unwrap_or (path join xs (i % 8)) []) (group_cut items (i / 8) n (omega arith));
        short = path_three;
        leads = λ items i item e.
            let h = nth_is items i item e in
            root_at items (i / 8) (omega (arith, h.0)) ∙ ap Some (sym (to_root items i item e));
      }

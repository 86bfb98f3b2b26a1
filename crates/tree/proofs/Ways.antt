-- The siblings of a place: what they are in each part, and the shape and the path that they make.
use Rattle.std.proofs.Common.{◌≡◌, subst, ℕ, zero, suc, ◌+◌, ◌-◌, ◌<◌, ◌≤◌, ltb, List, [], ◌∷◌, ◌++◌, map, reverse, length, take, drop, set, Option, Some, None, sym, refl, ap, ◌∙◌, inl, inr, arith}
use Rattle.std.proofs.lemmas.List.{append_assoc, nil_from_length, length-map, length-set, length_push, length-reverse, reverse-append, take-take, drop-drop, drop-take}
use Rattle.std.proofs.Math.Seq.{take-length}
use Rattle.std.proofs.lemmas.Slice.{between_from_start}
use Rattle.std.proofs.lemmas.List.Edits.{length-between}
use Rattle.std.proofs.lemmas.Grind.{drop-set_at}
use Rattle.std.proofs.lemmas.Bool.{cond-true, cond-false, lt-ltb, le-ltb, cases_lt}
use Rattle.std.specs.List.{between}
use Rattle.std.specs.Iterator.{YieldsFirst}
use Rattle.std.specs.Iterator.Adapters.{zip_first, zip_second, zip_steps, rev_source, rev_steps}
use Rattle.std.specs.Range.{range_steps_back}
use Rattle.std.specs.declared.iter.Rev.{Rev}
use Rattle.std.specs.declared.iter.Zip.{Zip}
use Rattle.std.specs.declared.ops.Range.{Range}
use Rattle.tree.specs.declared.descent.Sibling.{Sibling}
use Rattle.tree.specs.declared.descent.Siblings.{Siblings}
use Rattle.tree.specs.declared.link.Side.{Side}
use Rattle.tree.specs.declared.link.Side.TheVariants.{Right, Left}
use Rattle.tree.specs.declared.link.Link.{Link}
use Rattle.tree.specs.Answers.{over}
use Rattle.tree.specs.Split.{split}
use Rattle.tree.specs.Trees.{node, leaves, tree, grown, root_under, root, path, shape, siblings_under, siblings}
use Rattle.tree.proofs.Grown.{parts, tree_node, leaves_tree}
use Rattle.tree.proofs.Roots.{root_is}
use Rattle.tree.proofs.Paths.{link, path_one, path_more_left, path_more_right}
use Rattle.tree.proofs.ShapeLaws.{shape_none, shape_left, shape_right}

abbrev pub sibling : Side → ℕ → ℕ → Sibling
sibling side low end = record { side = side; low = low; end = end }

-- a first sibling, its places told by other numbers that are equal
pub sibling_same : {side : Side} {first behind : ℕ} {all rest : List Sibling} (low end : ℕ)
    → all ≡ sibling side low end ∷ rest → low ≡ first → end ≡ behind → all ≡ sibling side first behind ∷ rest
sibling_same low end is low_is end_is = cc

none_under : (n low i : ℕ) → n < 2 → siblings_under (tree n) low i ≡ []
unfolding tree grown
none_under zero low i h = refl
none_under (suc zero) low i h = refl
none_under (suc (suc n)) low i h = absurd (omega arith)

pub siblings_none : (low end i : ℕ) → end - low < 2 → siblings low end i ≡ []
siblings_none low end i h = none_under (end - low) low i h

module _ (low k end i : ℕ) (more : 2 ≤ end - low) (part : k ≡ split (end - low)) where
  inner : (0 < k) × (low + k < end)
  inner =
      let p = parts (end - low) more in
      (omega (arith, part, p.0), omega (arith, more, part, p.1))

  whole : tree (end - low) ≡ node (tree k) (tree (end - low - k))
  whole = rw part (tree_node (end - low) more)

  front : leaves (tree k) ≡ k
  front = leaves_tree k inner.0

  back : leaves (tree (end - low - k)) ≡ end - low - k
  back = leaves_tree (end - low - k) (omega (arith, inner))

  -- the place is in the left part
  pub siblings_left : i < low + k → siblings low end i ≡ sibling Right (low + k) end ∷ siblings low (low + k) i
  siblings_left h =
      let same : low + k - low ≡ k = omega arith in
      let all : low + leaves (tree k) + leaves (tree (end - low - k)) ≡ end = omega (arith, front, back, inner) in
      ap (λ t. siblings_under t low i) whole
      ∙ (cond-true (ltb i (low + leaves (tree k))) _ _ (lt-ltb i (low + leaves (tree k)) (omega (arith, front)))
      ∙ (ap (λ m. sibling Right (low + leaves (tree k)) m ∷ siblings_under (tree k) low i) all
      ∙ (ap (λ m. sibling Right (low + m) end ∷ siblings_under (tree k) low i) front
      ∙ ap (λ m. sibling Right (low + k) end ∷ siblings_under (tree m) low i) (sym same))))

  -- the place is in the right part
  pub siblings_right : low + k ≤ i → siblings low end i ≡ sibling Left low (low + k) ∷ siblings (low + k) end i
  siblings_right h =
      let same : end - low - k ≡ end - (low + k) = omega arith in
      ap (λ t. siblings_under t low i) whole
      ∙ (cond-false (ltb i (low + leaves (tree k))) _ _ (le-ltb i (low + leaves (tree k)) (omega (arith, front)))
      ∙ (ap (λ m. sibling Left low (low + m) ∷ siblings_under (tree (end - low - k)) (low + m) i) front
      ∙ ap (λ m. sibling Left low (low + k) ∷ siblings_under (tree m) (low + k) i) same))

-- what siblings make, the last first
abbrev pub upward : {A : Type 0} → (Sibling → A) → List Sibling → List A
upward f way = reverse (map f way)

pub upward_more : {A : Type 0} (f : Sibling → A) (s : Sibling) (way : List Sibling) → upward f (s ∷ way) ≡ upward f way ++ f s ∷ []
upward_more f s way = reverse-append (f s ∷ []) (map f way)

pub length-upward : {A : Type 0} (f : Sibling → A) (way : List Sibling) → length (upward f way) ≡ length way
length-upward f way = length-reverse (map f way) ∙ length-map way f

-- the parts of a range
pub front_part : {A : Type 0} (xs : List A) (low k end : ℕ) → low + k ≤ end → take k (between low end xs) ≡ between low (low + k) xs
front_part xs low k end within =
    let same : k ≡ low + k - low = omega arith in
    take-take k (end - low) (drop low xs) (omega arith) ∙ ap (λ n. take n (drop low xs)) same

pub back_part : {A : Type 0} (xs : List A) (low k end : ℕ) → low + k ≤ end → drop k (between low end xs) ≡ between (low + k) end xs
back_part xs low k end within =
    let size : end - low ≡ k + (end - (low + k)) = omega arith in
    ap (λ n. drop k (take n (drop low xs))) size
    ∙ (drop-take k (end - (low + k)) (drop low xs) ∙ ap (take (end - (low + k))) (drop-drop k low xs))

-- the sides of the siblings are the shape
sides_none : (low end i : ℕ) → end - low < 2 → shape (end - low) (i - low) ≡ upward (λ s. s.side) (siblings low end i)
sides_none low end i h =
    shape_none (end - low) (i - low) (omega arith) ∙ sym (ap (upward (λ s. s.side)) (siblings_none low end i h))

sides_below : (most low end i : ℕ) → end - low ≤ most → low ≤ i → shape (end - low) (i - low) ≡ upward (λ s. s.side) (siblings low end i)
sides_below zero low end i b h = sides_none low end i (omega arith)
sides_below (suc most) low end i b h =
    elim (cases_lt 1 (end - low)) [
      | inr one ↦ sides_none low end i (omega arith)
      | inl more ↦
          let k : ℕ = split (end - low) in
          let p : (0 < k) × (low + k < end) = inner low k end i more refl in
          elim (cases_lt i (low + k)) [
            | inl l ↦
                let same : k ≡ low + k - low = omega arith in
                shape_left (end - low) k (i - low) more refl (omega arith)
                ∙ (ap (λ n. shape n (i - low) ++ Right ∷ []) same
                ∙ (ap (λ ss. ss ++ Right ∷ []) (sides_below most low (low + k) i (omega (arith, p)) h)
                ∙ (sym (upward_more (λ s. s.side) (sibling Right (low + k) end) (siblings low (low + k) i))
                ∙ sym (ap (upward (λ s. s.side)) (siblings_left low k end i more refl l)))))
            | inr r ↦
                let same : end - low - k ≡ end - (low + k) = omega arith in
                let there : i - low - k ≡ i - (low + k) = omega arith in
                shape_right (end - low) k (i - low) more refl (omega arith)
                ∙ (ap (λ n. shape n (i - low - k) ++ Left ∷ []) same
                ∙ (ap (λ j. shape (end - (low + k)) j ++ Left ∷ []) there
                ∙ (ap (λ ss. ss ++ Left ∷ []) (sides_below most (low + k) end i (omega (arith, p)) r)
                ∙ (sym (upward_more (λ s. s.side) (sibling Left low (low + k)) (siblings (low + k) end i))
                ∙ sym (ap (upward (λ s. s.side)) (siblings_right low k end i more refl r))))))
          ]
    ]

pub sides_is : (n i : ℕ) → shape n i ≡ upward (λ s. s.side) (siblings 0 n i)
sides_is n i =
    let all : n - 0 ≡ n = omega arith in
    let there : i - 0 ≡ i = omega arith in
    sym (ap (λ m. shape m i) all) ∙ (sym (ap (shape (n - 0)) there) ∙ sides_below n 0 n i (omega arith) (omega arith))

module _ {N : Type 0} (join : N → N → N) (xs : List N) (d : N) where
  -- the root over a sibling's leaves; d stands for a node that is not there
  abbrev pub root_over : ℕ → ℕ → N
  root_over low end = root_under join (tree (length (between low end xs))) d (between low end xs)

  -- the link to a sibling
  abbrev pub link_over : Sibling → Link N
  link_over s = link s.side (root_over s.low s.end)

  root_is_over : (low end : ℕ) → low < end → end ≤ length xs → root join (between low end xs) ≡ Some (root_over low end)
  root_is_over low end some within = root_is join (between low end xs) d (omega (arith, length-between xs low end within))

  -- the links to the siblings are the path
  path_none : (low end i : ℕ) → end - low < 2 → low ≤ i → i < end → end ≤ length xs
      → path join (between low end xs) (i - low) ≡ Some (upward link_over (siblings low end i))
  path_none low end i one h l within =
      let size : length (between low end xs) ≡ end - low = length-between xs low end within in
      path_one join (between low end xs) (i - low) (omega arith) (omega arith)
      ∙ sym (ap (λ way. Some (upward link_over way)) (siblings_none low end i one))

  path_below : (most low end i : ℕ) → end - low ≤ most → low ≤ i → i < end → end ≤ length xs
      → path join (between low end xs) (i - low) ≡ Some (upward link_over (siblings low end i))
  path_below zero low end i b h l within = absurd (omega arith)
  path_below (suc most) low end i b h l within =
      elim (cases_lt 1 (end - low)) [
        | inr one ↦ path_none low end i (omega arith) h l within
        | inl more ↦
            let k : ℕ = split (end - low) in
            let p : (0 < k) × (low + k < end) = inner low k end i more refl in
            let ys : List N = between low end xs in
            let size : length ys ≡ end - low = length-between xs low end within in
            let cut : k ≡ split (length ys) = sym (ap split size) in
            let front_is : take k ys ≡ between low (low + k) xs = front_part xs low k end (omega (arith, p)) in
            let back_is : drop k ys ≡ between (low + k) end xs = back_part xs low k end (omega (arith, p)) in
            elim (cases_lt i (low + k)) [
              | inl left ↦
                  path_more_left join ys k (omega arith) cut (i - low) (upward link_over (siblings low (low + k) i))
                  (root_over (low + k) end) (omega arith)
                  (ap (λ zs. path join zs (i - low)) front_is ∙ path_below most low (low + k) i (omega (arith, p)) h left (omega (arith, p)))
                  (ap (root join) back_is ∙ root_is_over (low + k) end p.1 within)
                  ∙ (ap Some (sym (upward_more link_over (sibling Right (low + k) end) (siblings low (low + k) i)))
                  ∙ sym (ap (λ way. Some (upward link_over way)) (siblings_left low k end i more refl left)))
              | inr right ↦
                  let there : i - low - k ≡ i - (low + k) = omega arith in
                  path_more_right join ys k (omega arith) cut (i - low) (upward link_over (siblings (low + k) end i))
                  (root_over low (low + k)) (omega arith) (omega arith)
                  (ap (λ zs. path join zs (i - low - k)) back_is
                  ∙ (ap (path join (between (low + k) end xs)) there ∙ path_below most (low + k) end i (omega (arith, p)) right l within))
                  (ap (root join) front_is ∙ root_is_over low (low + k) (omega (arith, p)) (omega (arith, p)))
                  ∙ (ap Some (sym (upward_more link_over (sibling Left low (low + k)) (siblings (low + k) end i)))
                  ∙ sym (ap (λ way. Some (upward link_over way)) (siblings_right low k end i more refl right)))
            ]
      ]

  -- a link with a sibling's side and root
  pub link_is : (s : Sibling) (l : Link N) → s.low < s.end → s.end ≤ length xs → l.side ≡ s.side → root join (between s.low s.end xs) ≡ Some l.sibling
      → l ≡ link_over s
  link_is s l some within side is =
      let same : Some (root_over s.low s.end) ≡ Some l.sibling = sym (root_is_over s.low s.end some within) ∙ is in
      let bare : root_over s.low s.end ≡ l.sibling = cc in
      ap (λ x. link x l.sibling) side ∙ ap (link s.side) (sym bare)

pub path_is_upward : {N : Type 0} (join : N → N → N) (xs : List N) (end i : ℕ) (d : N) → i < end → end ≤ length xs
    → path join (between 0 end xs) i ≡ Some (upward (link_over join xs d) (siblings 0 end i))
path_is_upward join xs end i d l within =
    let there : i - 0 ≡ i = omega arith in
    sym (ap (path join (between 0 end xs)) there) ∙ path_below join xs d end 0 end i (omega arith) (omega arith) l within

-- each has leaves, which are among the first n
pub Inside : ℕ → List Sibling → Type 0
Inside n [] = Unit {0}
Inside n (s ∷ way) = (s.low < s.end) × (s.end ≤ n) × Inside n way

inside_none : (n low end i : ℕ) → end - low < 2 → Inside n (siblings low end i)
unfolding Inside
inside_none n low end i one = subst (Inside n) (sym (siblings_none low end i one)) tt

pub inside : (most n low end i : ℕ) → end - low ≤ most → end ≤ n → Inside n (siblings low end i)
unfolding Inside
inside zero n low end i b within = inside_none n low end i (omega arith)
inside (suc most) n low end i b within =
    elim (cases_lt 1 (end - low)) [
      | inr one ↦ inside_none n low end i (omega arith)
      | inl more ↦
          let k : ℕ = split (end - low) in
          let p : (0 < k) × (low + k < end) = inner low k end i more refl in
          elim (cases_lt i (low + k)) [
            | inl l ↦
                subst (Inside n) (sym (siblings_left low k end i more refl l))
                (p.1, within, inside most n low (low + k) i (omega (arith, p)) (omega (arith, p)))
            | inr r ↦
                subst (Inside n) (sym (siblings_right low k end i more refl r))
                (omega (arith, p), omega (arith, p), inside most n (low + k) end i (omega (arith, p)) within)
          ]
    ]

-- one more item before those behind
pub over_set : {A : Type 0} (items old : List A) (x : A) (n : ℕ) → n ≡ length items → n < length old
    → over items (set old n x) ≡ over (items ++ x ∷ []) old
over_set items old x n e h =
    let m : ℕ = length items in
    ap (λ ys. items ++ ys) (drop-set_at old n m x (sym e) h)
    ∙ (ap (λ (j : ℕ). items ++ (x ∷ drop (j + 1) old)) e
    ∙ (sym (append_assoc items (x ∷ []) (drop (m + 1) old)) ∙ ap (λ (j : ℕ). (items ++ x ∷ []) ++ drop j old) (sym (length_push items x))))

-- what a loop goes through that writes a way: the places of its sides, from the last down to the first, beside its siblings
abbrev pub Downward : Type 0
Downward = Zip (Rev (Range ℕ)) Siblings

abbrev pub places_left : Downward → Range ℕ
places_left z = rev_source (zip_first z)

abbrev pub way_of : Siblings → List Sibling
way_of w = siblings w.low w.end w.place

abbrev pub Steps : Downward → Option (ℕ × Sibling) → Downward → Type 0
Steps = zip_steps (rev_steps (range_steps_back (λ a b. b - a) (λ a b. b ≡ a + 1))) (YieldsFirst way_of)

-- what is made of a way's siblings goes before what is written: each has a place to come, and then the list is `final`
pub record Writing {A D : Type 0} (f : D → Sibling → A) (n : ℕ) (z : Downward) (now final : List A) : Type 0 where
  pub start : (places_left z).start ≡ 0
  pub counted : (places_left z).end ≡ length (way_of (zip_second z))
  pub room : (places_left z).end ≤ length now
  pub inside : Inside n (way_of (zip_second z))
  pub same : (d : D) → over (upward (f d) (way_of (zip_second z))) now ≡ final

module _ {A D : Type 0} {f : D → Sibling → A} {n : ℕ} {z : Downward} {now final : List A}
    (writing : Writing f n z now final) (at : ℕ) (s : Sibling) (t : Downward) (step : Steps z (Some (at, s)) t) where
  pub writing_next : (s.low < s.end) × (s.end ≤ n)
  unfolding Inside
  writing_next =
      let first : Inside n (s ∷ way_of (zip_second t)) = subst (Inside n) step.1 writing.inside in
      (first.0, first.1)

  pub writing_more : (x : A) → ((d : D) → x ≡ f d s) → Writing f n t (set now at x) final
  unfolding Inside
  writing_more x x_is =
      let rest = way_of (zip_second t) in
      let first : Inside n (s ∷ rest) = subst (Inside n) step.1 writing.inside in
      let size : (places_left z).end ≡ length rest + 1 = omega (arith, writing.counted, ap length step.1) in
      let place = step.0.1 in
      record {
        start = step.0.0 ∙ writing.start;
        counted = omega (arith, place.2, size);
        room = omega (arith, writing.room, place.2, length-set now at x);
        inside = first.2;
        same = λ d.
            over_set (upward (f d) rest) now x at (omega (arith, size, place.1, place.2, length-upward (f d) rest)) (omega (arith, writing.room, place.1, place.2))
            ∙ (ap (λ y. over (upward (f d) rest ++ y ∷ []) now) (x_is d)
            ∙ (ap (λ items. over items now) (sym (upward_more (f d) s rest))
            ∙ (ap (λ w. over (upward (f d) w) now) (sym step.1) ∙ writing.same d)));
      }

pub length-siblings : (n i : ℕ) → length (siblings 0 n i) ≡ length (shape n i)
length-siblings n i = sym (ap length (sides_is n i) ∙ length-upward (λ s. s.side) (siblings 0 n i))

-- at the start nothing is written
pub writing_none : {A D : Type 0} (f : D → Sibling → A) (n i : ℕ) {count : ℕ} {old final : List A} {z zipped : Downward} {places : Rev (Range ℕ)} {w : Siblings}
    → z ≡ zipped → zip_first zipped ≡ places → rev_source places ≡ record { start = 0; end = count } → zip_second zipped ≡ w → way_of w ≡ siblings 0 n i
    → count ≡ length (shape n i) → count ≤ length old → ((d : D) → over (upward (f d) (siblings 0 n i)) old ≡ final) → Writing f n z old final
writing_none f n i {count} {old} {final} {z} same_zip first source second way counted room same =
    let range : places_left z ≡ record { start = 0; end = count } = ap places_left same_zip ∙ (ap (λ r. rev_source r) first ∙ source) in
    let is : way_of (zip_second z) ≡ siblings 0 n i = ap (λ y. way_of (zip_second y)) same_zip ∙ (ap way_of second ∙ way) in
    record {
      start = ap (λ r. r.start) range;
      counted = ap (λ r. r.end) range ∙ (counted ∙ sym (ap length is ∙ length-siblings n i));
      room = omega (arith, ap (λ r. r.end) range, room);
      inside = subst (Inside n) (sym is) (inside n n 0 n i (omega arith) (omega arith));
      same = λ d. ap (λ w. over (upward (f d) w) old) is ∙ same d;
    }

-- at the end everything is: where no place is left or no sibling, neither is
pub writing_all : {A D : Type 0} {f : D → Sibling → A} {n : ℕ} {z : Downward} {now final : List A} → Writing f n z now final → Steps z None z
    → (ds : List D) → 1 ≤ length ds → now ≡ final
writing_all writing end [] h = absurd (omega arith)
writing_all {f = f} {z = z} {now = now} writing end (d ∷ ds) h =
    let is : way_of (zip_second z) ≡ [] = elim end [
      | inl u ↦ nil_from_length _ (omega (arith, writing.start, writing.counted, u.1.1.0))
      | inr u ↦ u.1.0
    ] in
    ap (λ w. over (upward (f d) w) now) (sym is) ∙ writing.same d

pub path_upward : {N : Type 0} (join : N → N → N) (xs : List N) (i : ℕ) (d : N) → i < length xs
    → path join xs i ≡ Some (upward (link_over join xs d) (siblings 0 (length xs) i))
path_upward join xs i d l =
    ap (λ ys. path join ys i) (sym (take-length xs) ∙ sym (between_from_start xs (length xs)))
    ∙ path_is_upward join xs (length xs) i d l (omega arith)

-- Trees that stand side by side, taken apart and joined.
use Rattle.std.proofs.Common.{◌≡◌, reverse, ℕ, zero, suc, ◌+◌, ◌-◌, ◌*◌, ◌/◌, ◌%◌, ◌^◌, ◌<◌, ◌≤◌, List, [], ◌∷◌, ◌++◌, length, get_or, take, drop, w32, set, Some, sym, refl, ap, ◌∙◌, subst, arith, pow_pos}
use Rattle.std.proofs.lemmas.List.{append_assoc, append-nil, reverse-append, length-append, length_push, length-take-le, take-take, take_at, drop_at, take_more, take_more_set, same_from_push}
use Rattle.std.proofs.lemmas.Nat.Bits.{bit_at_lowest, bit_at-suc, bit_at-trailing_ones}
use Rattle.std.specs.Int.{bit_at, trailing_ones}
use Rattle.std.specs.List.{fold, reduce}
use Rattle.tree.specs.Split.{Splits, split}
use Rattle.tree.specs.Trees.{root}
use Rattle.tree.proofs.Splits.{split_splits, splits_unique, twice}
use Rattle.tree.proofs.Roots.{root_one, root_more}
use Rattle.calendar.specs.Forests.{Perfect, Stands, bare, even, odd, Holds}
use Rattle.calendar.specs.declared.forest.Forest.{Forest}

-- the first 2 ^ h nodes of at most twice as many are a part of the tree
first_part : (h n : ℕ) → 2 ^ h < n → n ≤ 2 * 2 ^ h → 2 ^ h ≡ split n
first_part h n more most =
    let some : 0 < 2 ^ h = pow_pos h in
    let splits : Splits n (2 ^ h) = ((h, refl), more, most) in
    splits_unique n (2 ^ h) (split n) splits (split_splits n (omega arith))

nothing_pushed : {N : Type 0} (xs : List N) (y : N) → [] ≡ xs ++ y ∷ [] → ⊥
nothing_pushed xs y e = omega (arith, ap length e, length_push xs y)

-- the last of the first `top` elements
pub front_last : {N : Type 0} (xs : List N) (top : ℕ) (d : N) → 1 ≤ top → top ≤ length xs
    → take top xs ≡ take (top - 1) xs ++ get_or xs (top - 1) d ∷ []
front_last xs top d some within =
    let back : top - 1 + 1 ≡ top = omega arith in
    ap (λ m. take m xs) (sym back) ∙ take_more xs (top - 1) d (omega arith)

-- trees of 2 ^ h nodes and more, the last of them of 2 ^ h
pub record Last {N : Type 0} (join : N → N → N) (h c : ℕ) (peaks nodes : List N) : Type 0 where
  pub before : List N
  pub early : List N
  pub late : List N
  pub peak : N
  pub stands : Stands join (suc h) c before early
  pub perfect : Perfect join h late peak
  pub peaks_are : peaks ≡ before ++ peak ∷ []
  pub nodes_are : nodes ≡ early ++ late

-- trees of 2 ^ h nodes and more, the last of them with the root `peak`
pub record Lowest {N : Type 0} (join : N → N → N) (h : ℕ) (before : List N) (peak : N) (nodes : List N) : Type 0 where
  pub height : ℕ
  pub count : ℕ
  pub early : List N
  pub late : List N
  pub taller : h ≤ height
  pub stands : Stands join (suc height) count before early
  pub perfect : Perfect join height late peak
  pub nodes_are : nodes ≡ early ++ late

-- a perfect tree put down behind the others: it is joined with the last `joins` of them, and is then the last
pub record Fed {N : Type 0} (join : N → N → N) (h n joins : ℕ) (peaks nodes : List N) (y : N) : Type 0 where
  pub front : List N
  pub back : List N
  pub peaks_are : peaks ≡ front ++ back
  pub joined : length back ≡ joins
  pub stands : Stands join h (n + 1) (front ++ fold (λ peak last. join last peak) y (reverse back) ∷ []) nodes

module _ {N : Type 0} (join : N → N → N) where
  -- a perfect tree and at most as many nodes behind it
  pub joined_root : (h : ℕ) (xs ys : List N) (a b : N) → Perfect join h xs a → 1 ≤ length ys → length ys ≤ 2 ^ h → root join ys ≡ Some b
      → root join (xs ++ ys) ≡ Some (join a b)
  joined_root h xs ys a b perfect some most is =
      let k : ℕ = 2 ^ h in
      let all : length (xs ++ ys) ≡ length xs + length ys = length-append xs ys in
      let size : length xs ≡ 2 ^ h = perfect.0 in
      let positive : 0 < 2 ^ h = pow_pos h in
      root_more join (xs ++ ys) k (omega arith) (first_part h (length (xs ++ ys)) (omega arith) (omega arith)) a b
      (ap (root join) (take_at xs ys k size) ∙ perfect.1) (ap (root join) (drop_at xs ys k size) ∙ is)

  -- two trees of one height are one tree of the next
  pub perfect_joined : (h : ℕ) (xs ys : List N) (a b : N) → Perfect join h xs a → Perfect join h ys b → Perfect join (suc h) (xs ++ ys) (join a b)
  perfect_joined h xs ys a b left right =
      let positive : 0 < 2 ^ h = pow_pos h in
      let l : length xs ≡ 2 ^ h = left.0 in
      let r : length ys ≡ 2 ^ h = right.0 in (
        omega (arith, length-append xs ys, twice h),
        joined_root h xs ys a b left (omega arith) (omega arith) right.1,
      )

  -- no tree of this height
  pub even_part : {h n : ℕ} {peaks nodes : List N} → Stands join h n peaks nodes → (c : ℕ) → n ≡ 2 * c → Stands join (suc h) c peaks nodes
  even_part {h} bare c e = let none : 0 ≡ c = omega arith in subst (λ m. Stands join (suc h) m [] []) none bare
  even_part {h} {n} {peaks} {nodes} (even d is above) c e =
      let same : d ≡ c = omega arith in
      subst (λ m. Stands join (suc h) m peaks nodes) same above
  even_part (odd d before early late y is above perfect p q) c e = absurd (omega arith)

  -- a tree of this height is the last
  pub odd_part : {h n : ℕ} {peaks nodes : List N} → Stands join h n peaks nodes → (c : ℕ) → n ≡ 1 + 2 * c → Last join h c peaks nodes
  odd_part bare c e = absurd (omega arith)
  odd_part (even d is above) c e = absurd (omega arith)
  odd_part {h} (odd d before early late y is above perfect p q) c e =
      let same : d ≡ c = omega arith in
      record {
        before = before;
        early = early;
        late = late;
        peak = y;
        stands = subst (λ m. Stands join (suc h) m before early) same above;
        perfect = perfect;
        peaks_are = p;
        nodes_are = q;
      }

  pub last_tree : {h n : ℕ} {peaks nodes : List N} → Stands join h n peaks nodes → (before : List N) (y : N) → peaks ≡ before ++ y ∷ []
      → Lowest join h before y nodes
  last_tree bare before y e = absurd (nothing_pushed before y e)
  last_tree (even c is above) before y e =
      let l = last_tree above before y e in
      record {
        height = l.height;
        count = l.count;
        early = l.early;
        late = l.late;
        taller = omega (arith, l.taller);
        stands = l.stands;
        perfect = l.perfect;
        nodes_are = l.nodes_are;
      }
  last_tree {h} (odd c others early late x is above perfect p q) before y e =
      let same = same_from_push others before x y (sym p ∙ e) in
      record {
        height = h;
        count = c;
        early = early;
        late = late;
        taller = omega arith;
        stands = subst (λ ps. Stands join (suc h) c ps early) same.0 above;
        perfect = subst (λ z. Perfect join h late z) same.1 perfect;
        nodes_are = q;
      }

  -- no trees over no nodes
  pub no_trees : {h n : ℕ} {peaks nodes : List N} → Stands join h n peaks nodes → peaks ≡ [] → nodes ≡ []
  no_trees bare e = refl
  no_trees (even c is above) e = no_trees above e
  no_trees (odd c before early late y is above perfect p q) e = absurd (nothing_pushed before y (sym e ∙ p))

  -- no more trees than digits
  pub few : {h n : ℕ} {peaks nodes : List N} → Stands join h n peaks nodes → (k : ℕ) → n < 2 ^ k → length peaks ≤ k
  few bare k b = omega arith
  few (even c is above) zero b = few above 0 (omega arith)
  few (even c is above) (suc k) b = omega (arith, few above k (omega (arith, twice k)))
  few (odd c before early late y is above perfect p q) zero b = absurd (omega arith)
  few (odd c before early late y is above perfect p q) (suc k) b =
      omega (arith, few above k (omega (arith, twice k)), ap length p, length_push before y)

  reverse_push : (xs : List N) (x : N) → reverse (xs ++ x ∷ []) ≡ x ∷ reverse xs
  reverse_push xs x = reverse-append xs (x ∷ [])

  -- the number's lowest digits are `joins` ones and a zero
  pub fed : (joins h n : ℕ) {peaks nodes : List N} → Stands join h n peaks nodes → (late : List N) (y : N) → Perfect join h late y
      → bit_at n joins ≡ 0 → ((i : ℕ) → i < joins → bit_at n i ≡ 1) → Fed join h n joins peaks (nodes ++ late) y
  fed zero h n {peaks} {nodes} stands late y perfect none ones =
      let even_digit : n % 2 ≡ 0 = sym (bit_at_lowest n) ∙ none in
      let above = even_part stands (n / 2) (omega arith) in
      record {
        front = peaks;
        back = [];
        peaks_are = sym (append-nil peaks);
        joined = refl;
        stands = odd (n / 2) peaks nodes late y (omega arith) above perfect refl refl;
      }
  fed (suc joins) h n {peaks} {nodes} stands late y perfect none ones =
      let odd_digit : n % 2 ≡ 1 = sym (bit_at_lowest n) ∙ ones 0 (omega arith) in
      let l = odd_part stands (n / 2) (omega arith) in
      let more =
      fed joins (suc h) (n / 2) l.stands (l.late ++ late) (join l.peak y) (perfect_joined h l.late late l.peak y l.perfect perfect)
      (sym (bit_at-suc n joins) ∙ none) (λ i below. sym (bit_at-suc n i) ∙ ones (suc i) (omega (arith, below))) in
      let nodes_are : l.early ++ (l.late ++ late) ≡ nodes ++ late = sym (ap (λ ys. ys ++ late) l.nodes_are ∙ append_assoc l.early l.late late) in
      let peak_is : fold (λ peak last. join last peak) (join l.peak y) (reverse more.back) ≡ fold (λ peak last. join last peak) y (reverse (more.back ++ l.peak ∷ [])) =
      ap (fold (λ peak last. join last peak) y) (sym (reverse_push more.back l.peak)) in
      record {
        front = more.front;
        back = more.back ++ l.peak ∷ [];
        peaks_are = l.peaks_are ∙ (ap (λ ps. ps ++ l.peak ∷ []) more.peaks_are ∙ append_assoc more.front more.back (l.peak ∷ []));
        joined = omega (arith, more.joined, length_push more.back l.peak);
        stands =
            even (n / 2 + 1) (omega arith)
            (subst (λ z. Stands join (suc h) (n / 2 + 1) (more.front ++ z ∷ []) (nodes ++ late)) peak_is
            (subst (λ ns. Stands join (suc h) (n / 2 + 1) (more.front ++ fold (λ peak last. join last peak) (join l.peak y) (reverse more.back) ∷ []) ns) nodes_are more.stands));
      }

  module _ (forest : Forest N) (nodes : List N) (holds : Holds join forest nodes) where
    -- below 2 ^ 31 nodes leave room for one more tree
    pub room : forest.count < 2 ^ 31 → forest.top < 32
    room below =
        omega (arith, few holds.3 31 below, length-take-le forest.top forest.peaks (omega (arith, holds.0, holds.1)), holds.1)

    module _ (below : forest.count < 2 ^ 31) (x : N) where
      last_joined : Fed join 0 forest.count (trailing_ones w32 forest.count) (take forest.top forest.peaks) (nodes ++ x ∷ []) x
      last_joined =
          let digits = bit_at-trailing_ones w32 forest.count (omega arith) in
          fed (trailing_ones w32 forest.count) 0 forest.count holds.3 (x ∷ []) x (refl, root_one join (x ∷ []) x refl) digits.1 digits.2

      -- one tree for each of these ones, and the others
      kept_many : length last_joined.front + trailing_ones w32 forest.count ≡ forest.top
      kept_many =
          omega (
            arith,
            length-append last_joined.front last_joined.back,
            last_joined.joined,
            ap length last_joined.peaks_are,
            length-take-le forest.top forest.peaks (omega (arith, holds.0, holds.1)),
          )

      pub enough : trailing_ones w32 forest.count ≤ forest.top
      enough = omega (arith, kept_many)

      pub fed_stands : (kept : ℕ) (y : N) → kept ≡ forest.top - trailing_ones w32 forest.count
          → y ≡ fold (λ peak last. join last peak) x (reverse (drop kept (take forest.top forest.peaks)))
          → Stands join 0 (forest.count + 1) (take (kept + 1) (set forest.peaks kept y)) (nodes ++ x ∷ [])
      fed_stands kept y kept_is y_is =
          let size : length last_joined.front ≡ kept = omega (arith, kept_many, kept_is) in
          let front : take kept forest.peaks ≡ last_joined.front =
          sym (take-take kept forest.top forest.peaks (omega (arith, kept_is))) ∙ (ap (take kept) last_joined.peaks_are ∙ take_at last_joined.front last_joined.back kept size) in
          let back : drop kept (take forest.top forest.peaks) ≡ last_joined.back =
          ap (drop kept) last_joined.peaks_are ∙ drop_at last_joined.front last_joined.back kept size in
          let y_same : fold (λ peak last. join last peak) x (reverse last_joined.back) ≡ y =
          sym (y_is ∙ ap (λ ps. fold (λ peak last. join last peak) x (reverse ps)) back) in
          let peaks_same : last_joined.front ++ y ∷ [] ≡ take (kept + 1) (set forest.peaks kept y) =
          sym (take_more_set forest.peaks kept y (omega (arith, room below, kept_is, holds.0)) ∙ ap (λ ps. ps ++ y ∷ []) front) in
          subst (λ ps. Stands join 0 (forest.count + 1) ps (nodes ++ x ∷ [])) peaks_same
          (subst (λ z. Stands join 0 (forest.count + 1) (last_joined.front ++ z ∷ []) (nodes ++ x ∷ [])) y_same last_joined.stands)

  -- the trees, and behind them the root of other nodes, no more than the last tree has
  joined_behind : {h n : ℕ} {peaks nodes : List N} → Stands join h n peaks nodes → (late : List N) (y : N) → 1 ≤ length late → length late ≤ 2 ^ h
      → root join late ≡ Some y → root join (nodes ++ late) ≡ Some (fold (λ peak before. join before peak) y (reverse peaks))
  joined_behind bare late y some most is = is
  joined_behind {h} (even c e above) late y some most is = joined_behind above late y some (omega (arith, twice h)) is
  joined_behind {h} (odd c before early last z e above perfect p q) late y some most is =
      let more : length (last ++ late) ≡ length last + length late = length-append last late in
      ap (λ nodes. root join (nodes ++ late)) q
      ∙ (ap (root join) (append_assoc early last late)
      ∙ (joined_behind above (last ++ late) (join z y) (omega arith) (omega (arith, twice h, perfect.0)) (joined_root h last late z y perfect some most is)
      ∙ sym (ap (λ peaks. Some (fold (λ peak before. join before peak) y peaks)) (ap reverse p ∙ reverse_push before z))))

  pub whole_root : {h n : ℕ} {peaks nodes : List N} → Stands join h n peaks nodes
      → root join nodes ≡ reduce (λ peak before. join before peak) (reverse peaks)
  whole_root bare = refl
  whole_root (even c e above) = whole_root above
  whole_root {h} (odd c before early last z e above perfect p q) =
      ap (root join) q
      ∙ (joined_behind above last z (omega (arith, perfect.0, pow_pos h)) (omega (arith, perfect.0, twice h)) perfect.1
      ∙ sym (ap (reduce (λ peak before. join before peak)) (ap reverse p ∙ reverse_push before z)))

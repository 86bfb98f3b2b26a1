-- The shape of a place: it tells the place, it is short, and it grows by one side for each parting.
use Rattle.std.proofs.Common.{◌≡◌, ℕ, zero, suc, ◌+◌, ◌-◌, ◌*◌, ◌^◌, ◌<◌, ◌≤◌, ltb, List, [], ◌∷◌, ◌++◌, length, sym, refl, ap, ◌∙◌, inl, inr, arith, pow_mono}
use Rattle.std.proofs.lemmas.List.{length_push, same_from_push}
use Rattle.std.proofs.lemmas.Bool.{cond-true, cond-false, lt-ltb, le-ltb, cases_lt}
use Rattle.tree.specs.declared.link.Side.{Side}
use Rattle.tree.specs.declared.link.Side.TheVariants.{Right, Left}
use Rattle.tree.specs.Split.{doubled, split}
use Rattle.tree.specs.Trees.{Tree, leaf, node, leaves, grown, tree, shape_under, shape, second_shape}
use Rattle.tree.specs.Laws.{PlaceLaw, LengthLaw, Examples}
use Rattle.tree.proofs.Splits.{split_splits, twice}
use Rattle.tree.proofs.Grown.{parts, tree_node, leaves_tree}

under_left : (left right : Tree) (i : ℕ) → i < leaves left → shape_under (node left right) i ≡ shape_under left i ++ Right ∷ []
under_left left right i h = cond-true (ltb i (leaves left)) _ _ (lt-ltb i (leaves left) h)

under_right : (left right : Tree) (i : ℕ) → leaves left ≤ i
    → shape_under (node left right) i ≡ shape_under right (i - leaves left) ++ Left ∷ []
under_right left right i h = cond-false (ltb i (leaves left)) _ _ (le-ltb i (leaves left) h)

pub shape_none : (n i : ℕ) → n ≤ 1 → shape n i ≡ []
unfolding tree grown
shape_none zero i h = refl
shape_none (suc zero) i h = refl
shape_none (suc (suc n)) i h = absurd (omega arith)

-- a place in the left part
pub shape_left : (n k i : ℕ) → 2 ≤ n → k ≡ split n → i < k → shape n i ≡ shape k i ++ Right ∷ []
shape_left n k i h e l =
    let size : leaves (tree k) ≡ k = leaves_tree k (omega (arith, (parts n h).0)) in
    let whole : tree n ≡ node (tree k) (tree (n - k)) = rw e (tree_node n h) in
    ap (λ t. shape_under t i) whole ∙ under_left (tree k) (tree (n - k)) i (omega (arith, size))

-- a place in the right part
pub shape_right : (n k i : ℕ) → 2 ≤ n → k ≡ split n → k ≤ i → shape n i ≡ shape (n - k) (i - k) ++ Left ∷ []
shape_right n k i h e l =
    let size : leaves (tree k) ≡ k = leaves_tree k (omega (arith, (parts n h).0)) in
    let whole : tree n ≡ node (tree k) (tree (n - k)) = rw e (tree_node n h) in
    ap (λ t. shape_under t i) whole
    ∙ (under_right (tree k) (tree (n - k)) i (omega (arith, size)) ∙ ap (λ m. shape_under (tree (n - k)) (i - m) ++ Left ∷ []) size)

pub length_left : (n k i : ℕ) → 2 ≤ n → k ≡ split n → i < k → length (shape n i) ≡ length (shape k i) + 1
length_left n k i h e l = ap length (shape_left n k i h e l) ∙ length_push (shape k i) Right

pub length_right : (n k i : ℕ) → 2 ≤ n → k ≡ split n → k ≤ i → length (shape n i) ≡ length (shape (n - k) (i - k)) + 1
length_right n k i h e l = ap length (shape_right n k i h e l) ∙ length_push (shape (n - k) (i - k)) Left

-- two places with one shape are one place
apart : (xs ys : List Side) → xs ++ Right ∷ [] ≡ ys ++ Left ∷ [] → ⊥
apart xs ys e = let last : Right ≡ Left = (same_from_push xs ys Right Left e).1 in let z : ◌≡◌ {A = ℕ} 0 1 = cc in omega arith

place_under : (t : Tree) (i j : ℕ) → i < leaves t → j < leaves t → shape_under t i ≡ shape_under t j → i ≡ j
place_under leaf i j h k e = omega arith
place_under (node left right) i j h k e =
    let size : ℕ = leaves left in
    elim (cases_lt i size) [
      | inl il ↦ elim (cases_lt j size) [
        | inl jl ↦
            place_under left i j il jl
            (same_from_push (shape_under left i) (shape_under left j) Right Right (sym (under_left left right i il) ∙ (e ∙ under_left left right j jl))).0
        | inr jr ↦
            absurd (apart (shape_under left i) (shape_under right (j - size)) (sym (under_left left right i il) ∙ (e ∙ under_right left right j jr)))
      ]
      | inr ir ↦ elim (cases_lt j size) [
        | inl jl ↦
            absurd (apart (shape_under left j) (shape_under right (i - size)) (sym (under_left left right j jl) ∙ (sym e ∙ under_right left right i ir)))
        | inr jr ↦
            let same : i - size ≡ j - size =
            place_under right (i - size) (j - size) (omega arith) (omega arith)
            (same_from_push (shape_under right (i - size)) (shape_under right (j - size)) Left Left
            (sym (under_right left right i ir) ∙ (e ∙ under_right left right j jr))).0 in
            omega arith
      ]
    ]

pub place_law : PlaceLaw
place_law n i j h k e =
    let sized : leaves (tree n) ≡ n = leaves_tree n (omega arith) in
    place_under (tree n) i j (omega (arith, sized)) (omega (arith, sized)) e

-- a power of two below twice another is at most the other
power_below : (i j : ℕ) → 2 ^ i < 2 * 2 ^ j → 2 ^ i ≤ 2 ^ j
power_below i j h =
    elim (cases_lt j i)
    [ inl above ↦ absurd (omega (arith, twice j, pow_mono {i = suc j} {j = i} above)) | inr below ↦ pow_mono {i = i} {j = j} below ]

-- the parts of at most 2 ^ (j + 1) leaves have at most 2 ^ j
pub halves : (n j : ℕ) → 2 ≤ n → n ≤ 2 ^ suc j → (split n ≤ 2 ^ j) × (n - split n ≤ 2 ^ j)
halves n j h b =
    let s = split_splits n h in
    let low : split n ≤ 2 ^ j =
    let i : ℕ = s.0.0 in
    let is : split n ≡ 2 ^ i = s.0.1 in
    omega (arith, power_below i j (omega (arith, twice j, s.1))) in
    (low, omega (arith, s.2))

-- at most 2 ^ j leaves have at most j sides
pub shape_short : (j n i : ℕ) → n ≤ 2 ^ j → length (shape n i) ≤ j
shape_short zero n i b = omega (arith, ap length (shape_none n i (omega arith)))
shape_short (suc j) n i b =
    elim (cases_lt 1 n) [
      | inr one ↦ omega (arith, ap length (shape_none n i one))
      | inl more ↦
          let k : ℕ = split n in
          let q = halves n j more b in
          elim (cases_lt i k) [
            | inl l ↦ omega (arith, length_left n k i more refl l, shape_short j k i q.0)
            | inr r ↦ omega (arith, length_right n k i more refl r, shape_short j (n - k) (i - k) q.1)
          ]
    ]

pub length_law : LengthLaw
length_law p second h k = shape_short 31 (p + 1) second (omega arith)

-- no place among three has two sides to the left
nowhere : (second : ℕ) → second ≤ 2 → second_shape 2 second ≡ Left ∷ Left ∷ [] → ⊥
unfolding split doubled tree grown
nowhere zero h e = let z : ◌≡◌ {A = ℕ} 0 1 = cc in omega arith
nowhere (suc zero) h e = let z : ◌≡◌ {A = ℕ} 0 1 = cc in omega arith
nowhere (suc (suc zero)) h e = let z : ◌≡◌ {A = ℕ} 0 1 = cc in omega arith
nowhere (suc (suc (suc second))) h e = omega arith

pub examples : Examples
unfolding split doubled tree grown
examples = (refl, refl, refl, refl, refl, refl, nowhere)

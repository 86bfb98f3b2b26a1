-- The tree over n leaves is a leaf, or the tree over the first `split n` beside that over the rest.
use Rattle.std.proofs.Common.{◌≡◌, ℕ, zero, suc, ◌-◌, ◌<◌, ◌≤◌, ltb, sym, refl, ap, ◌∙◌, inl, inr, arith}
use Rattle.std.proofs.lemmas.Bool.{cond-true, cond-false, lt-ltb, le-ltb, cases_lt}
use Rattle.tree.specs.Split.{split}
use Rattle.tree.specs.Trees.{leaf, node, leaves, grown, tree}
use Rattle.tree.proofs.Splits.{split_splits}

-- both parts of n leaves have leaves
pub parts : (n : ℕ) → 2 ≤ n → (0 < split n) × (split n < n)
parts n h =
    let s = split_splits n h in
    (omega (arith, s.1, s.2), s.1)

grown_leaf : (depth n : ℕ) → n ≤ 1 → grown depth n ≡ leaf
unfolding grown
grown_leaf zero n h = refl
grown_leaf (suc depth) n h = cond-false (ltb 1 n) _ _ (le-ltb 1 n h)

grown_node : (depth n : ℕ) → 2 ≤ n → grown (suc depth) n ≡ node (grown depth (split n)) (grown depth (n - split n))
unfolding grown
grown_node depth n h = cond-true (ltb 1 n) _ _ (lt-ltb 1 n h)

-- the depth does not matter once it is enough
grown_same : (d e n : ℕ) → n ≤ suc d → n ≤ suc e → grown d n ≡ grown e n
grown_same zero e n h k = let one : n ≤ 1 = omega arith in grown_leaf 0 n one ∙ sym (grown_leaf e n one)
grown_same (suc d) zero n h k = let one : n ≤ 1 = omega arith in grown_leaf (suc d) n one ∙ sym (grown_leaf 0 n one)
grown_same (suc d) (suc e) n h k =
    elim (cases_lt 1 n) [
      | inl more ↦
          let p = parts n more in
          let left : grown d (split n) ≡ grown e (split n) =
          grown_same d e (split n) (omega (arith, p.1)) (omega (arith, p.1)) in
          let right : grown d (n - split n) ≡ grown e (n - split n) =
          grown_same d e (n - split n) (omega (arith, p.0)) (omega (arith, p.0)) in
          grown_node d n more
          ∙ (ap (λ t. node t (grown d (n - split n))) left
          ∙ (ap (λ t. node (grown e (split n)) t) right ∙ sym (grown_node e n more)))
      | inr one ↦ grown_leaf (suc d) n one ∙ sym (grown_leaf (suc e) n one)
    ]

pub tree_leaf : tree 1 ≡ leaf
unfolding tree
tree_leaf = grown_leaf 1 1 (omega arith)

pub tree_node : (n : ℕ) → 2 ≤ n → tree n ≡ node (tree (split n)) (tree (n - split n))
unfolding tree
tree_node zero h = absurd (omega arith)
tree_node (suc d) h =
    let n : ℕ = suc d in
    let p = parts n h in
    grown_node d n h
    ∙ (ap (λ t. node t (grown d (n - split n))) (grown_same d (split n) (split n) (omega (arith, p.1)) (omega arith))
    ∙ ap (λ t. node (grown (split n) (split n)) t) (grown_same d (n - split n) (n - split n) (omega (arith, p.0)) (omega arith)))

leaves_under : (bound n : ℕ) → n ≤ bound → 1 ≤ n → leaves (tree n) ≡ n
leaves_under zero n h k = absurd (omega arith)
leaves_under (suc bound) n h k =
    elim (cases_lt 1 n) [
      | inl more ↦
          let p = parts n more in
          let left : leaves (tree (split n)) ≡ split n = leaves_under bound (split n) (omega (arith, p.1)) p.0 in
          let right : leaves (tree (n - split n)) ≡ n - split n = leaves_under bound (n - split n) (omega (arith, p.0)) (omega (arith, p.1)) in
          ap leaves (tree_node n more) ∙ omega (arith, left, right, p.1)
      | inr one ↦ let only : n ≡ 1 = omega arith in ap (λ m. leaves (tree m)) only ∙ (ap leaves tree_leaf ∙ sym only)
    ]

pub leaves_tree : (n : ℕ) → 1 ≤ n → leaves (tree n) ≡ n
leaves_tree n h = leaves_under n n (omega arith) h

-- The steps of the code: the root of an only node, a root from two parts, and one link followed.
use Rattle.std.proofs.Common.{◌≡◌, ℕ, ◌+◌, ◌<◌, ◌≤◌, List, length, get_or, take, drop, Some, sym, ap, ◌∙◌, arith}
use Rattle.std.proofs.lemmas.List.{at_drop_more, at_drop_all}
use Rattle.tree.specs.declared.link.Link.{Link}
use Rattle.tree.specs.Split.{split}
use Rattle.tree.specs.Trees.{root, step, followed}
use Rattle.tree.proofs.Roots.{root_one, root_more}

module _ {N : Type 0} (join : N → N → N) where
  -- the root of an only node, as it is read
  pub root_read : (xs : List N) (x : N) → 1 ≤ length xs → length xs < 2 → x ≡ get_or xs 0 x → root join xs ≡ Some x
  root_read xs x h k e = root_one join xs x (omega arith) ∙ ap Some (sym e)

  -- the root of a list of more than one node, parted at k: from the roots of its parts
  pub root_joined : (xs left right : List N) (k : ℕ) (a b r : N) → 2 ≤ length xs → k ≡ split (length xs) → left ≡ take k xs → right ≡ drop k xs
      → root join left ≡ Some a → root join right ≡ Some b → r ≡ join a b → root join xs ≡ Some r
  root_joined xs left right k a b r more part front back l m e =
      root_more join xs k more part a b (ap (root join) (sym front) ∙ l) (ap (root join) (sym back) ∙ m) ∙ ap Some (sym e)

  -- one link more
  pub followed_more : (links : List (Link N)) (i : ℕ) (item : Link N) (reached next start : N) → i < length links
      → item ≡ get_or links i item → next ≡ step join reached item.side item.sibling
      → followed join reached (drop i links) ≡ followed join start links → followed join next (drop (i + 1) links) ≡ followed join start links
  followed_more links i item reached next start h is e inv =
      let rest : List (Link N) = drop (i + 1) links in
      let at : N → Link N → N = λ x l. followed join (step join x l.side l.sibling) rest in
      ap (λ x. followed join x rest) e ∙ (ap (at reached) is ∙ (sym (at_drop_more (followed join reached) links i item h) ∙ inv))

  pub followed_all : (links : List (Link N)) (i : ℕ) (reached start : N) → length links ≤ i
      → followed join reached (drop i links) ≡ followed join start links → reached ≡ followed join start links
  followed_all links i reached start h inv = sym (at_drop_all (followed join reached) links i h) ∙ inv

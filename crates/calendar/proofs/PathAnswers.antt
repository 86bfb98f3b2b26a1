-- What a path is refused for, and how many links it has.
use Rattle.std.proofs.Common.{◌≡◌, ℕ, ◌+◌, ◌-◌, ◌^◌, ◌<◌, ◌≤◌, cond, ltb, leb, List, length, Some, None, Ok, Err, sym, ap, ◌∙◌, inl, inr, arith}
use Rattle.std.proofs.lemmas.List.Edits.{length-between}
use Rattle.std.proofs.lemmas.Bool.{cases_lt, cond-true, cond-false, lt-ltb, le-ltb, le-leb, lt-leb}
use Rattle.tree.specs.declared.refusal.PathRefusal.TheVariants.{Absent, Short}
use Rattle.tree.specs.Answers.{path_answer, sides_answer}
use Rattle.tree.specs.Trees.{shape, second_shape}
use Rattle.calendar.specs.Published.{published}
use Rattle.calendar.proofs.Rows.{published_there, published_short, published_late}

absent : (n i lent : ℕ) → n ≤ i → Err Absent ≡ path_answer n i lent
absent n i lent past = sym (cond-false (ltb i n) _ _ (le-ltb i n past))

-- the sides of a second that the publication does not have, or that comes too late
sides_late : (p i : ℕ) → 2 ^ 31 ≤ p → sides_answer p i ≡ None
sides_late p i late = cond-false (ltb p (2 ^ 31)) _ _ (le-ltb p (2 ^ 31) late)

sides_early : (p i : ℕ) → p < 2 ^ 31 → sides_answer p i ≡ cond (leb i p) (Some (length (second_shape p i))) None
sides_early p i early = cond-true (ltb p (2 ^ 31)) _ _ (lt-ltb p (2 ^ 31) early)

pub sides_some : (p i count : ℕ) → Some count ≡ sides_answer p i → (p < 2 ^ 31) × (i ≤ p) × (count ≡ length (second_shape p i))
sides_some p i count e =
    elim (cases_lt p (2 ^ 31)) [
      | inr late ↦ let none : Some count ≡ None = e ∙ sides_late p i late in let z : ◌≡◌ {A = ℕ} 0 1 = cc in absurd (omega arith)
      | inl early ↦ elim (cases_lt p i) [
        | inl past ↦
            let none : Some count ≡ None = e ∙ (sides_early p i early ∙ cond-false (leb i p) _ _ (lt-leb i p past)) in
            let z : ◌≡◌ {A = ℕ} 0 1 = cc in
            absurd (omega arith)
        | inr within ↦
            let found : Some count ≡ Some (length (second_shape p i)) = e ∙ (sides_early p i early ∙ cond-true (leb i p) _ _ (le-leb i p within)) in
            (early, within, cc)
      ]
    ]

sides_none : (p i : ℕ) → None ≡ sides_answer p i → p < 2 ^ 31 → p < i
sides_none p i e early =
    elim (cases_lt p i) [
      | inl past ↦ past
      | inr within ↦
          let found : None ≡ Some (length (second_shape p i)) = e ∙ (sides_early p i early ∙ cond-true (leb i p) _ _ (le-leb i p within)) in
          let z : ◌≡◌ {A = ℕ} 0 1 = cc in
          absurd (omega arith)
    ]

module _ {N : Type 0} (p i lent : ℕ) (row : List N) where
  size : p < length row → p < 2 ^ 31 → length (published p row) ≡ p + 1
  size there early =
      let whole : p + 1 - 0 ≡ p + 1 = omega arith in
      ap length (published_there p row there early) ∙ (length-between row 0 (p + 1) (omega arith) ∙ whole)

  -- no such publication
  pub row_short : length row ≤ p → Err Absent ≡ path_answer (length (published p row)) i lent
  row_short short = absent (length (published p row)) i lent (omega (arith, ap length (published_short p row short)))

  -- no such publication, or no such second of it
  pub no_sides : None ≡ sides_answer p i → Err Absent ≡ path_answer (length (published p row)) i lent
  no_sides e =
      elim (cases_lt p (2 ^ 31)) [
        | inr late ↦ absent (length (published p row)) i lent (omega (arith, ap length (published_late p row late)))
        | inl early ↦ elim (cases_lt p (length row)) [
          | inr short ↦ row_short short
          | inl there ↦ absent (length (published p row)) i lent (omega (arith, size there early, sides_none p i e early))
        ]
      ]

  module _ (there : p < length row) (early : p < 2 ^ 31) (within : i ≤ p) (count : ℕ) (counted : count ≡ length (second_shape p i)) where
    inside : path_answer (length (published p row)) i lent ≡ cond (ltb lent (length (shape (p + 1) i))) (Err Short) (Ok (length (shape (p + 1) i)))
    inside =
        ap (λ n. path_answer n i lent) (size there early)
        ∙ cond-true (ltb i (p + 1)) _ _ (lt-ltb i (p + 1) (omega arith))

    pub links_short : lent < count → Err Short ≡ path_answer (length (published p row)) i lent
    links_short short = sym (inside ∙ cond-true (ltb lent (length (shape (p + 1) i))) _ _ (lt-ltb lent (length (shape (p + 1) i)) (omega arith)))

    pub links_enough : count ≤ lent → Ok count ≡ path_answer (length (published p row)) i lent
    links_enough enough =
        sym (inside ∙ (cond-false (ltb lent (length (shape (p + 1) i))) _ _ (le-ltb lent (length (shape (p + 1) i)) (omega arith)) ∙ ap Ok (sym counted)))

-- The first bad side among links that are gone through one after another.
use Rattle.std.proofs.Common.{◌≡◌, ℕ, ◌+◌, ◌*◌, Bool, cond, ltb, List, [], ◌∷◌, length, get_or, Some, None, Option, sym, refl, ap, ◌∙◌, inl, inr, arith}
use Rattle.std.specs.List.{position_from, position_or_len}
use Rattle.std.proofs.lemmas.Iterator.Adapters.{position_from-zero}
use Rattle.std.specs.Option.{option_map}
use Rattle.std.proofs.lemmas.Bool.{cases_Bool, cond-true, cond-false}
use Rattle.layout.specs.Faults.{bad_side}

abbrev pub bad : List ℕ → Bool
bad link = ltb 1 (get_or link 0 0)

-- it stands 33 bytes further for each link before it
side_from : (links : List (List ℕ)) (k place : ℕ) → place ≡ 48 + 33 * k
    → bad_side place links ≡ option_map (λ n. 48 + 33 * n) (position_from bad k links)
side_from [] k place here = refl
side_from (link ∷ links) k place here =
    elim (cases_Bool (bad link)) [
      | inl over ↦ cond-true _ _ _ over ∙ ap Some here ∙ ap (option_map (λ n. 48 + 33 * n)) (sym (cond-true _ _ _ over))
      | inr good ↦ cond-false _ _ _ good ∙ side_from links (k + 1) (place + 33) (omega arith) ∙ ap (option_map (λ n. 48 + 33 * n)) (sym (cond-false _ _ _ good))
    ]

pub side_at : (links : List (List ℕ)) {found : Option ℕ}
    → found ≡ cond (ltb (position_or_len bad links) (length links)) (Some (position_or_len bad links)) None
    → bad_side 48 links ≡ option_map (λ n. 48 + 33 * n) found
side_at links is = rw (is, position_from-zero bad links) (side_from links 0 48 refl)

-- The items of a list under their masks, and where their ways lead.
use Rattle.std.proofs.Common.{◌≡◌, ℕ, zero, suc, ◌+◌, ◌<◌, List, [], ◌∷◌, length, get_or, Some, refl, ap, ◌∙◌, arith}
use Rattle.std.proofs.lemmas.Option.{slice_get-get_or}
use Rattle.digest.specs.declared.value.Digest.{Digest}
use Rattle.digest.specs.declared.seed.Seed.{Seed}
use Rattle.pile.specs.Meaning.{round_join}
use Rattle.layers.specs.Masking.{mask_at, masked_from, masked, masking}
use Rattle.layers.proofs.Ways.{nth_is}
use Rattle.layers.specs.Layered.{Lowers}

module _ (digested : List ℕ → Digest) (seed : Seed) (second : ℕ) where
  length_from : (i : ℕ) (items : List Digest) → length (masked_from digested seed second i items) ≡ length items
  length_from i [] = refl
  length_from i (item ∷ items) = ap suc (length_from (i + 1) items)

  from_at : (i : ℕ) (items : List Digest) (k : ℕ) (d : Digest) → k < length items
      → get_or (masked_from digested seed second i items) k d ≡ round_join digested (mask_at digested seed second (i + k)) (get_or items k d)
  from_at i [] k d h = absurd (omega arith)
  from_at i (item ∷ items) zero d h =
      let here : i ≡ i + 0 = omega arith in
      ap (λ j. round_join digested (mask_at digested seed second j) item) here
  from_at i (item ∷ items) (suc k) d h =
      let next : (i + 1) + k ≡ i + suc k = omega arith in
      from_at (i + 1) items k d (omega arith)
      ∙ ap (λ j. round_join digested (mask_at digested seed second j) (get_or items k d)) next

  pub length_masked : (items : List Digest) → length (masked digested seed second items) ≡ length items
  length_masked items = length_from 0 items

  -- what goes down at a place
  pub masked_at : (items : List Digest) (k : ℕ) (d : Digest) → k < length items
      → get_or (masked digested seed second items) k d ≡ round_join digested (mask_at digested seed second k) (get_or items k d)
  masked_at items k d h =
      let here : 0 + k ≡ k = omega arith in
      from_at 0 items k d h ∙ ap (λ j. round_join digested (mask_at digested seed second j) (get_or items k d)) here

  pub masking_lowers : Lowers 1 1 digested (masking digested seed second)
  masking_lowers =
      record {
        spots = λ i. omega arith;
        covers = λ n. omega arith;
        linked = refl;
        placed = λ i n. (λ h. h, λ h. h);
        filled = λ items n. (λ h. omega (arith, length_masked items), λ h. omega (arith, length_masked items));
        parted = λ items i n h. refl;
        short = λ items i h. omega arith;
        leads = λ items i item e.
            let at = nth_is items i item e in
            slice_get-get_or (masked digested seed second items) i item (omega (arith, at.0, length_masked items))
            ∙ ap Some (masked_at items i item at.0 ∙ ap (round_join digested (mask_at digested seed second i)) at.1);
      }

-- Entries and their seconds, by the bytes that print them.
use Rattle.std.proofs.Common.{◌≡◌, ℕ, ◌<◌, List, [], ◌∷◌, map, length, get_or, Some, refl, ap, ◌∙◌, arith}
use Rattle.std.specs.List.{slice_get}
use Rattle.std.proofs.lemmas.List.{length-map, get_or-map}
use Rattle.std.proofs.lemmas.Option.{slice_get-get_or}
use Rattle.roots.specs.Entries.{second_in, entry_of, listed, seconds_of}

module _ (raws : List (List ℕ)) where
  pub length_listed : length (listed raws) ≡ length raws
  length_listed = length-map raws entry_of

  pub length_seconds : length (seconds_of (listed raws)) ≡ length raws
  length_seconds = length-map (listed raws) (λ entry. entry.second) ∙ length_listed

  module _ (i : ℕ) (here : i < length raws) where
    pub nth_listed : slice_get (listed raws) i ≡ Some (entry_of (get_or raws i []))
    nth_listed =
        slice_get-get_or (listed raws) i (entry_of []) (omega (arith, length_listed))
        ∙ ap Some (get_or-map entry_of raws i [] (entry_of []) here)

    pub second_at : get_or (seconds_of (listed raws)) i 0 ≡ second_in (get_or raws i [])
    second_at =
        get_or-map (λ entry. entry.second) (listed raws) i (entry_of []) 0 (omega (arith, length_listed))
        ∙ ap (λ entry. entry.second) (get_or-map entry_of raws i [] (entry_of []) here)

pub seconds_listed : (raws : List (List ℕ)) → map second_in raws ≡ seconds_of (listed raws)
seconds_listed [] = refl
seconds_listed (raw ∷ later) = ap (λ xs. second_in raw ∷ xs) (seconds_listed later)

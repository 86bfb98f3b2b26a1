-- What a layer answers of a way, from what the pile below answers.
use Rattle.std.proofs.Common.{◌≡◌, ℕ, ◌+◌, ◌<◌, ◌≤◌, min, cond, ltb, List, [], ◌∷◌, ◌++◌, length, get_or, drop, Some, None, Ok, Err, Option, Result, sym, refl, ap, ◌∙◌, inl, inr, arith}
use Rattle.std.specs.List.{slice_get}
use Rattle.std.proofs.lemmas.List.{length-append}
use Rattle.std.proofs.lemmas.Option.{slice_get-get_or, slice_get_past}
use Rattle.std.proofs.lemmas.Bool.{cond-true, cond-false, lt-ltb, le-ltb, cases_lt}
use Rattle.tree.specs.declared.link.Link.{Link}
use Rattle.tree.specs.Trees.{step, followed}
use Rattle.pile.specs.declared.refusal.CommitRefusal.{CommitRefusal}
use Rattle.pile.specs.declared.refusal.WayRefusal.{WayRefusal}
use Rattle.pile.specs.declared.refusal.WayRefusal.TheVariants.{Absent, Short}
use Rattle.pile.specs.Meaning.{Meaning, Way}
use Rattle.pile.specs.Answers.{told, way_length, way_answer, way_written}
use Rattle.pile.proofs.Answered.{length_there, length_absent, way_absent, way_short, way_fits}
use Rattle.layers.specs.Behind.{behind, behind_answer, behind_written}

-- one path after another
pub followed_append : {N : Type 0} (join : N → N → N) (a b : List (Link N)) (x : N)
    → followed join x (a ++ b) ≡ followed join (followed join x a) b
followed_append join [] b x = refl
followed_append join (link ∷ a) b x = followed_append join a b (step join x link.side link.sibling)

-- an item that is there, and its place
pub nth_is : {X : Type 0} (xs : List X) (i : ℕ) (x : X) → slice_get xs i ≡ Some x → (i < length xs) × (get_or xs i x ≡ x)
nth_is xs i x e =
    elim (cases_lt i (length xs)) [
      | inl h ↦ (h, let same = slice_get-get_or xs i x h in cc)
      | inr past ↦ let none = slice_get_past xs i past in cc
    ]

-- what is answered is no refusal
pub no_refusal : {P : Type 0} (r : Result (Unit {0}) CommitRefusal) (refusal : CommitRefusal) → r ≡ Ok tt → r ≡ Err refusal → P
no_refusal r refusal ok err = cc

pub no_none : {A P : Type 0} (o : Option A) (x : A) → o ≡ Some x → o ≡ None → P
no_none o x some none = cc

module _ (below : Meaning) (front : Way) (place room : ℕ) where
  pub behind_absent : length below.round ≤ place → behind_answer below front place room ≡ Err Absent
  behind_absent h = cond-false (ltb place (length below.round)) _ _ (le-ltb place (length below.round) h)

  there : place < length below.round
      → behind_answer below front place room
      ≡ cond (ltb room (length (behind below front place))) (Err Short) (Ok (length (behind below front place)))
  there h = cond-true (ltb place (length below.round)) _ _ (lt-ltb place (length below.round) h)

  pub behind_short : place < length below.round → room < length (behind below front place) → behind_answer below front place room ≡ Err Short
  behind_short h k =
      there h ∙ cond-true (ltb room (length (behind below front place))) _ _ (lt-ltb room (length (behind below front place)) k)

  pub behind_fits : place < length below.round → length (behind below front place) ≤ room
      → behind_answer below front place room ≡ Ok (length (behind below front place))
  behind_fits h k =
      there h ∙ cond-false (ltb room (length (behind below front place))) _ _ (le-ltb room (length (behind below front place)) k)

-- a layer over a pile: its place is there exactly where the place below is, and its way is that behind its own links
pub record Over (layer below : Meaning) (place lower : ℕ) (front : Way) : Type 0 where
  pub inside : lower < length below.round → place < length layer.round
  pub outside : length below.round ≤ lower → length layer.round ≤ place
  pub way : lower < length below.round → get_or layer.ways place [] ≡ behind below front lower

module _ {layer below : Meaning} {place lower : ℕ} {front : Way} (over : Over layer below place lower front) where
  pub same_answer : (room : ℕ) → behind_answer below front lower room ≡ way_answer layer place room
  same_answer room =
      elim (cases_lt lower (length below.round)) [
        | inr past ↦ behind_absent below front lower room past ∙ sym (way_absent layer place room (over.outside past))
        | inl h ↦
            let way = over.way h in
            let size = ap length way in
            elim (cases_lt room (length (behind below front lower))) [
              | inl less ↦ behind_short below front lower room h less ∙ sym (way_short layer place room (over.inside h) (omega arith))
              | inr enough ↦
                  behind_fits below front lower room h enough
                  ∙ (ap Ok (sym size) ∙ sym (way_fits layer place room (over.inside h) (omega arith)))
            ]
      ]

  pub same_written : (links : Way) (r : Result ℕ WayRefusal) → r ≡ behind_answer below front lower (length links)
      → behind_written below front lower links r ≡ way_written layer place links r
  same_written links (Err refusal) e = refl
  same_written links (Ok count) e =
      elim (cases_lt lower (length below.round)) [
        | inl h ↦ ap (λ w. w ++ drop count links) (sym (over.way h))
        | inr past ↦
            let none = behind_absent below front lower (length links) past in
            cc
      ]

  -- a way's length, from that of the way below
  pub longer : (rest : ℕ) → way_length below lower ≡ Some rest → way_length layer place ≡ Some (min (rest + length front) 255)
  longer rest e =
      elim (cases_lt lower (length below.round)) [
        | inl h ↦
            let same : Some (told (length (get_or below.ways lower []))) ≡ Some rest = sym (length_there below lower h) ∙ e in
            let short : told (length (get_or below.ways lower [])) ≡ rest = cc in
            let size : length (get_or layer.ways place []) ≡ length front + length (get_or below.ways lower []) =
            ap length (over.way h) ∙ length-append front (get_or below.ways lower []) in
            length_there layer place (over.inside h) ∙ ap Some (omega (arith, size, short))
        | inr past ↦
            let none = length_absent below lower past in
            cc
      ]

-- What holds of a layer of any kind, from what its kind's lowering is.
use Rattle.std.proofs.Common.{◌≡◌, ℕ, ◌+◌, ◌<◌, ◌≤◌, min, ltb, refl, List, [], ◌∷◌, ◌++◌, length, get_or, take, Some, None, Ok, Option, sym, ap, ◌∙◌, inl, inr, arith}
use Rattle.std.specs.List.{slice_get}
use Rattle.std.specs.Option.{option_map}
use Rattle.std.proofs.lemmas.List.{length-append, length-take, take_all, get_or_past, nil_from_length}
use Rattle.std.proofs.lemmas.List.FromFn.{length-map-range_with_len, get_or-map-range_with_len}
use Rattle.std.proofs.lemmas.Bool.{cond-true, cond-false, lt-ltb, le-ltb, cases_lt}
use Rattle.digest.specs.declared.value.Digest.{Digest}
use Rattle.tree.specs.Trees.{followed}
use Rattle.pile.specs.Meaning.{Meaning, Sealed, Way, Law, EmptyLaw, round_join}
use Rattle.pile.specs.Answers.{committed}
use Rattle.layers.specs.Layered.{Lowering, Lowers, layered_round, layered_way, layered_ways, layered_meaning, layered_seal, front_answer}
use Rattle.layers.proofs.Ways.{followed_append, nth_is, Over}

pub front_is : (w : Lowering) (items : List Digest) (i : ℕ) → i < length items → front_answer w items i ≡ Some (w.front items i)
front_is w items i h = cond-true (ltb i (length items)) (Some (w.front items i)) None (lt-ltb i (length items) h)

module _ (w : Lowering) (items : List Digest) (i : ℕ) (answer : Option Way) (is : answer ≡ front_answer w items i) where
  -- what an answer tells of the place
  pub front_there : (way : Way) → answer ≡ Some way → (i < length items) × (way ≡ w.front items i)
  front_there way e =
      elim (cases_lt i (length items)) [
        | inl h ↦ let some = front_is w items i h in (h, cc)
        | inr past ↦
            let none = cond-false (ltb i (length items)) (Some (w.front items i)) None (le-ltb i (length items) past) in
            cc
      ]

module _ (w : Lowering) (items : List Digest) (i : ℕ) (answer : Option ℕ) (is : answer ≡ option_map length (front_answer w items i)) where
  -- what an answer tells of the place, and of the links
  pub links_there : (n : ℕ) → answer ≡ Some n → (i < length items) × (n ≡ length (w.front items i))
  links_there n e =
      elim (cases_lt i (length items)) [
        | inl h ↦ let some = ap (option_map length) (front_is w items i h) in (h, cc)
        | inr past ↦
            let none = cond-false (ltb i (length items)) (Some (w.front items i)) None (le-ltb i (length items) past) in
            let gone = ap (option_map length) none in
            cc
      ]

  pub links_absent : answer ≡ None → length items ≤ i
  links_absent e =
      elim (cases_lt i (length items)) [
        | inl h ↦ let some = ap (option_map length) (front_is w items i h) in cc
        | inr past ↦ past
      ]

module _ {width links : ℕ} {digested : List ℕ → Digest} {w : Lowering} (laws : Lowers width links digested w) where
  way_at : (items : List Digest) (below : List Way) (i : ℕ) → i < length items
      → get_or (layered_ways w items below) i [] ≡ layered_way w items below i
  way_at items below i h = get_or-map-range_with_len (layered_way w items below) 0 (length items) i i [] h (omega arith)

  -- no way is longer than the links of an item's own and the way below
  pub layered_short : (items : List Digest) (below : List Way) (deepest : ℕ) → ((i : ℕ) → length (get_or below i []) ≤ deepest)
      → (i : ℕ) → length (get_or (layered_ways w items below) i []) ≤ w.links + deepest
  layered_short items below deepest short i =
      elim (cases_lt i (length items)) [
        | inl h ↦
            omega (
              arith,
              ap length (way_at items below i h),
              length-append (w.front items i) (get_or below (w.spot i) []),
              laws.short items i h,
              short (w.spot i),
            )
        | inr past ↦
            let size = length-map-range_with_len (layered_way w items below) 0 (length items) in
            omega (arith, ap length (get_or_past (layered_ways w items below) i [] (omega (arith, size))))
      ]

  -- a layer's way, by the pile below
  pub layered_over : (stored : List Digest) (m : Meaning) (place : ℕ) → place < length stored
      → Over (layered_meaning w stored m) m place (w.spot place) (w.front stored place)
  layered_over stored m place h =
      let n : ℕ = length m.round in
      let size = length-take (w.covered n) stored in
      record {
        inside = λ k. let c = (laws.placed place n).0 k in omega (arith, size);
        outside = λ k.
            elim (cases_lt place (w.covered n)) [
              | inl near ↦ let c = (laws.placed place n).1 near in absurd (omega arith)
              | inr past ↦ omega (arith, size)
            ];
        way = λ k.
            let c = (laws.placed place n).0 k in
            way_at (take (w.covered n) stored) m.ways place (omega (arith, size))
            ∙ ap (λ xs. xs ++ get_or m.ways (w.spot place) []) (laws.parted stored place n c);
      }

  -- nothing of a list is cut off that has gone down whole
  uncut : (items round : List Digest) → round ≡ w.lowered items → layered_round w items round ≡ items
  uncut items round e =
      take_all (w.covered (length round)) items ((laws.filled items (length round)).0 (omega (arith, ap length e)))

  -- what goes down is not too long below
  pub lowered_fits : {before : Lowering} (earlier : Lowers width links digested before) (m : Meaning) (items : List Digest)
      → length items ≤ min 256 (before.covered m.most) → length (w.lowered items) ≤ m.most
  lowered_fits earlier m items h = (laws.filled items m.most).1 (omega (arith, laws.covers m.most, earlier.covers m.most))

  pub layered_after : {before : Lowering} (earlier : Lowers width links digested before) (m : Meaning) (items : List Digest) (sealed : Sealed) (stored : List Digest)
      → layered_meaning w items (committed m (w.lowered items) sealed (Ok tt))
      ≡ committed (layered_meaning before stored m) items (layered_seal w items sealed) (Ok tt)
  layered_after {before} earlier m items sealed stored =
      let built : List Digest → ℕ → ℕ → Meaning = λ xs most deepest. record {
        row = m.row ++ sealed.digest ∷ [];
        round = xs;
        ways = layered_ways w xs sealed.ways;
        most = min 256 most;
        span = m.span;
        deepest = deepest + m.deepest;
      } in
      ap (λ xs. built xs (w.covered m.most) w.links) (uncut items (w.lowered items) refl)
      ∙ (ap (λ n. built items n w.links) (laws.covers m.most ∙ sym (earlier.covers m.most))
      ∙ ap (built items (before.covered m.most)) (laws.linked ∙ sym earlier.linked))

  -- the law holds of a layer, since it holds of the pile below
  pub layered_law : (m : Meaning) (items : List Digest) → m.round ≡ w.lowered items → Law digested m → Law digested (layered_meaning w items m)
  layered_law m items e law i item there =
      let join = round_join digested in
      let same = uncut items m.round e in
      let at : slice_get items i ≡ Some item = ap (λ xs. slice_get xs i) (sym same) ∙ there in
      let h : i < length items = (nth_is items i item at).0 in
      let down : Digest = followed join item (w.front items i) in
      let below : slice_get m.round (w.spot i) ≡ Some down = ap (λ xs. slice_get xs (w.spot i)) e ∙ laws.leads items i item at in
      let way : get_or (layered_ways w (layered_round w items m.round) m.ways) i [] ≡ layered_way w items m.ways i =
      ap (λ xs. get_or (layered_ways w xs m.ways) i []) same ∙ way_at items m.ways i h in
      law (w.spot i) down below
      ∙ ap Some (sym (ap (followed join item) way ∙ followed_append join (w.front items i) (get_or m.ways (w.spot i) []) item))

  pub layered_empty : (m : Meaning) (items : List Digest) → m.round ≡ w.lowered items → EmptyLaw digested m → EmptyLaw digested (layered_meaning w items m)
  layered_empty m items e law none =
      let short : length items ≤ 0 = omega (arith, ap length (uncut items m.round e), ap length none) in
      let down = (laws.filled items 0).1 (omega arith) in
      law (e ∙ nil_from_length (w.lowered items) (omega arith))

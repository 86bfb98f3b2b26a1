-- Seconds that rise strictly, and the test of them.
use Rattle.std.proofs.Common.{◌≡◌, ℕ, zero, suc, ◌+◌, ◌^◌, ◌<◌, ◌≤◌, true, false, ◌&&◌, ltb, leb, List, [], ◌∷◌, map, length, get_or, drop, sym, refl, ap, ◌∙◌, arith}
use Rattle.std.proofs.lemmas.List.{drop_more, drop_all, length-map, get_or-map}
use Rattle.std.proofs.lemmas.Bool.{and_parts, and_left, and_right, le-leb, lt-leb, lt-ltb, le-ltb, leb-true, ltb-true}
use Rattle.roots.specs.Entries.{rising}
use Rattle.roots.specs.Laws.{RisingLaw}

-- one second more
module _ (low second : ℕ) (later : List ℕ) where
  rising_more : low ≤ second → second < 2 ^ 31 → rising low (second ∷ later) ≡ rising (second + 1) later
  rising_more h k =
      ap (λ b. b && (ltb second (2 ^ 31) && rising (second + 1) later)) (le-leb low second h)
      ∙ ap (λ b. b && rising (second + 1) later) (lt-ltb second (2 ^ 31) k)

  rising_below : second < low → rising low (second ∷ later) ≡ false
  rising_below h = and_left (leb low second) (ltb second (2 ^ 31) && rising (second + 1) later) (lt-leb low second h)

  rising_beyond : 2 ^ 31 ≤ second → rising low (second ∷ later) ≡ false
  rising_beyond h =
      and_right (leb low second) (ltb second (2 ^ 31) && rising (second + 1) later)
      (and_left (ltb second (2 ^ 31)) (rising (second + 1) later) (le-ltb second (2 ^ 31) h))

  pub rising_parts : rising low (second ∷ later) ≡ true → (low ≤ second) × (second < 2 ^ 31) × (rising (second + 1) later ≡ true)
  rising_parts e =
      let p = and_parts (leb low second) (ltb second (2 ^ 31) && rising (second + 1) later) e in
      let q = and_parts (ltb second (2 ^ 31)) (rising (second + 1) later) p.1 in
      (leb-true low second p.0, ltb-true second (2 ^ 31) q.0, q.1)

-- the test, as a loop goes through what has the seconds
module _ {X : Type 0} (second-of : X → ℕ) (items : List X) (i low : ℕ) where
  pub ends : length items ≤ i → rising low (drop i (map second-of items)) ≡ true
  ends h = ap (rising low) (drop_all i (map second-of items) (omega (arith, length-map items second-of)))

  module _ (item : X) (second : ℕ) (here : i < length items) (at : item ≡ get_or items i item) (is : second ≡ second-of item) where
    later : List ℕ
    later = drop (i + 1) (map second-of items)

    opened : rising low (drop i (map second-of items)) ≡ rising low (second ∷ later)
    unfolding later
    opened =
        let value : get_or (map second-of items) i 0 ≡ second = get_or-map second-of items i item 0 here ∙ ap second-of (sym at) ∙ sym is in
        ap (rising low) (drop_more (map second-of items) i 0 (omega (arith, length-map items second-of)) ∙ ap (λ s. s ∷ drop (i + 1) (map second-of items)) value)

    pub goes_on : low ≤ second → second < 2 ^ 31 → rising (second + 1) (drop (i + 1) (map second-of items)) ≡ rising low (drop i (map second-of items))
    unfolding later
    goes_on h k = sym (opened ∙ rising_more low second later h k)

    pub stops_below : second < low → rising low (drop i (map second-of items)) ≡ false
    stops_below h = opened ∙ rising_below low second later h

    pub stops_beyond : 2 ^ 31 ≤ second → rising low (drop i (map second-of items)) ≡ false
    stops_beyond h = opened ∙ rising_beyond low second later h

-- what the test says of each second
pub at_least : (low : ℕ) (seconds : List ℕ) → rising low seconds ≡ true → (k : ℕ) → k < length seconds → low ≤ get_or seconds k 0
at_least low [] e k h = absurd (omega arith)
at_least low (s ∷ later) e zero h = (rising_parts low s later e).0
at_least low (s ∷ later) e (suc k) h =
    let p = rising_parts low s later e in
    let more = at_least (s + 1) later p.2 k (omega arith) in
    omega (arith, p.0, more)

pub strictly : (low : ℕ) (seconds : List ℕ) → rising low seconds ≡ true → (i j : ℕ) → i < j → j < length seconds
    → get_or seconds i 0 < get_or seconds j 0
strictly low [] e i j h k = absurd (omega arith)
strictly low (s ∷ later) e i zero h k = absurd (omega arith)
strictly low (s ∷ later) e zero (suc j) h k =
    let more = at_least (s + 1) later (rising_parts low s later e).2 j (omega arith) in omega (arith, more)
strictly low (s ∷ later) e (suc i) (suc j) h k = strictly (s + 1) later (rising_parts low s later e).2 i j (omega arith) (omega arith)

bounded : (low : ℕ) (seconds : List ℕ) → rising low seconds ≡ true → (i : ℕ) → i < length seconds → get_or seconds i 0 < 2 ^ 31
bounded low [] e i h = absurd (omega arith)
bounded low (s ∷ later) e zero h = (rising_parts low s later e).1
bounded low (s ∷ later) e (suc i) h = bounded (s + 1) later (rising_parts low s later e).2 i (omega arith)

rises_from : (low : ℕ) (seconds : List ℕ) → ((k : ℕ) → k < length seconds → low ≤ get_or seconds k 0)
    → ((i j : ℕ) → i < j → j < length seconds → get_or seconds i 0 < get_or seconds j 0)
    → ((i : ℕ) → i < length seconds → get_or seconds i 0 < 2 ^ 31) → rising low seconds ≡ true
rises_from low [] least order bound = refl
rises_from low (s ∷ later) least order bound =
    rising_more low s later (least 0 (omega arith)) (bound 0 (omega arith))
    ∙ rises_from (s + 1) later (λ k h. omega (arith, order 0 (suc k) (omega arith) (omega arith)))
    (λ i j h k. order (suc i) (suc j) (omega arith) (omega arith)) (λ i h. bound (suc i) (omega arith))

pub rising_law : RisingLaw
rising_law seconds =
    (λ e. (strictly 0 seconds e, bounded 0 seconds e), λ o. rises_from 0 seconds (λ k h. omega arith) o.0 o.1)

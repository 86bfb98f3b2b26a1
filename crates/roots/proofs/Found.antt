-- What a look-up finds in a list whose seconds rise.
use Rattle.std.proofs.Common.{◌≡◌, ℕ, zero, suc, ◌+◌, ◌<◌, ◌≤◌, true, eqb, List, [], ◌∷◌, length, get_or, Some, None, sym, refl, ap, ◌∙◌, ap₂, ⊎_elim, arith}
use Rattle.std.specs.List.{slice_get}
use Rattle.std.proofs.lemmas.Bool.{cond-true, cond-false, eq-eqb, ne_eqb, cases_Bool, eqb-true}
use Rattle.digest.specs.declared.value.Digest.{Digest}
use Rattle.roots.specs.declared.entry.Entry.{Entry}
use Rattle.roots.specs.Entries.{seconds_of, rising, looked_up}
use Rattle.roots.specs.Laws.{FoundLaw, Stands}
use Rattle.roots.proofs.Rises.{rising_parts}

-- the first entry, or a later one
module _ (entry : Entry) (later : List Entry) (second : ℕ) where
  pub here : entry.second ≡ second → looked_up (entry ∷ later) second ≡ Some entry.root
  here e = cond-true (eqb entry.second second) _ _ (eq-eqb entry.second second e)

  pub behind : (entry.second ≡ second → ⊥) → looked_up (entry ∷ later) second ≡ looked_up later second
  behind ne = cond-false (eqb entry.second second) _ _ (ne_eqb entry.second second ne)

-- a second that no entry has
pub missing : (entries : List Entry) (second : ℕ) → ((k : ℕ) → k < length entries → get_or (seconds_of entries) k 0 ≡ second → ⊥)
    → looked_up entries second ≡ None
missing [] second none = refl
missing (entry ∷ later) second none =
    behind entry later second (none 0 (omega arith)) ∙ missing later second (λ k h. none (suc k) (omega arith))

least : (low : ℕ) (entries : List Entry) (place : ℕ) (entry : Entry) → rising low (seconds_of entries) ≡ true
    → slice_get entries place ≡ Some entry → low ≤ entry.second
least low [] place entry e at = let z : ◌≡◌ {A = ℕ} 0 1 = cc in absurd (omega arith)
least low (first ∷ later) zero entry e at =
    let same : first ≡ entry = cc in
    omega (arith, ap (λ x. x.second) same, (rising_parts low first.second (seconds_of later) e).0)
least low (first ∷ later) (suc place) entry e at =
    let p = rising_parts low first.second (seconds_of later) e in
    omega (arith, p.0, least (first.second + 1) later place entry p.2 at)

-- an entry of a rising list is found
pub found : (low : ℕ) (entries : List Entry) (place : ℕ) (entry : Entry) → rising low (seconds_of entries) ≡ true
    → slice_get entries place ≡ Some entry → looked_up entries entry.second ≡ Some entry.root
found low [] place entry e at = let z : ◌≡◌ {A = ℕ} 0 1 = cc in absurd (omega arith)
found low (first ∷ later) zero entry e at =
    let same : first ≡ entry = cc in
    here first later entry.second (ap (λ x. x.second) same) ∙ ap (λ x. Some x.root) same
found low (first ∷ later) (suc place) entry e at =
    let p = rising_parts low first.second (seconds_of later) e in
    let more = least (first.second + 1) later place entry p.2 at in
    behind first later entry.second (λ same. omega (arith, more, same))
    ∙ found (first.second + 1) later place entry p.2 at

same_entry : (entry : Entry) (second : ℕ) (root : Digest) → entry.second ≡ second → entry.root ≡ root
    → entry ≡ record { second = second; root = root }
same_entry entry second root e f = ap₂ (λ s r. record { second = s; root = r }) e f

stands : (entries : List Entry) (second : ℕ) (root : Digest) → looked_up entries second ≡ Some root → Stands entries second root
stands [] second root e = let z : ◌≡◌ {A = ℕ} 0 1 = cc in absurd (omega arith)
stands (entry ∷ later) second root e =
    ⊎_elim
    (λ t.
    let at : entry.second ≡ second = eqb-true entry.second second t in
    let is : entry.root ≡ root = let told = here entry later second at in cc in
    (0, ap Some (same_entry entry second root at is)))
    (λ t.
    let told : looked_up later second ≡ looked_up (entry ∷ later) second = sym (cond-false (eqb entry.second second) _ _ t) in
    let there = stands later second root (told ∙ e) in
    (suc there.0, there.1))
    (cases_Bool (eqb entry.second second))

pub found_law : FoundLaw
found_law entries e second root =
    (stands entries second root, λ s. found 0 entries s.0 (record { second = second; root = root }) e s.1)

-- The head's ways, which have no links, and the digest of an empty second.
use Rattle.std.proofs.Common.{◌≡◌, ℕ, zero, suc, ◌≤◌, List, [], ◌∷◌, length, get_or, Some, Ok, refl, ap, ◌∙◌, arith}
use Rattle.digest.specs.declared.value.Digest.{Digest}
use Rattle.pile.specs.Meaning.{Meaning, EmptyLaw}
use Rattle.pile.specs.Answers.{committed}
use Rattle.pile.proofs.Lasts.{nth_last}
use Rattle.pile.specs.Head.{no_ways, head_digest, head_seal}

-- no way has a link
pub no_way : (items : List Digest) (i : ℕ) → get_or (no_ways items) i [] ≡ []
no_way [] i = refl
no_way (item ∷ items) zero = refl
no_way (item ∷ items) (suc i) = no_way items i

pub short : (items : List Digest) (i : ℕ) → length (get_or (no_ways items) i []) ≤ 0
short items i = omega (arith, ap length (no_way items i))

pub head_empty : (digested : List ℕ → Digest) (m : Meaning) (items : List Digest)
    → EmptyLaw digested (committed m items (head_seal digested items) (Ok tt))
head_empty digested m items e =
    nth_last m.row (head_digest digested items) ∙ ap (λ l. Some (head_digest digested l)) e

-- Masking: each item goes down hidden by a mask, and a way takes the mask first.
use Rattle.std.specs.Prelude.{ℕ, ◌+◌, List, [], ◌∷◌}
use Rattle.digest.specs.declared.value.Digest.{Digest}
use Rattle.digest.specs.declared.seed.Seed.{Seed}
use Rattle.digest.specs.Messages.{mask_message}
use Rattle.tree.specs.declared.link.Side.TheVariants.{Left}
use Rattle.pile.specs.Meaning.{Meaning, Sealed, round_join}
use Rattle.layers.specs.Layered.{Lowering, layered_meaning, layered_seal, layered_fresh}

module _ (digested : List ℕ → Digest) (seed : Seed) (second : ℕ) where
  -- the mask of a place in the list of this second
  abbrev pub mask_at : ℕ → Digest
  mask_at i = digested (mask_message seed second i)

  -- the items from place i on, each under its mask: mask left, item right
  abbrev pub masked_from : ℕ → List Digest → List Digest
  masked_from i [] = []
  masked_from i (item ∷ items) = round_join digested (mask_at i) item ∷ masked_from (i + 1) items

  -- what goes down in the place of a list
  abbrev pub masked : List Digest → List Digest
  masked items = masked_from 0 items

  -- each item goes down at its place; a way is the mask, which stands on the left, then the way below
  abbrev pub masking : Lowering
  masking =
      record {
        lowered = masked;
        front = λ items i. record { side = Left; sibling = mask_at i } ∷ [];
        spot = λ i. i;
        covered = λ n. n;
        links = 1;
      }

  -- what a masking means that stored a list, in this second, over a pile
  abbrev pub masking_meaning : List Digest → Meaning → Meaning
  masking_meaning stored below = layered_meaning masking stored below

  -- what a list gets, of what its masked items get below
  abbrev pub masking_seal : List Digest → Sealed → Sealed
  masking_seal items below = layered_seal masking items below

-- what a masking means that has stored no list
abbrev pub masking_fresh : Meaning → Meaning
masking_fresh below = layered_fresh (λ n. n) 1 below

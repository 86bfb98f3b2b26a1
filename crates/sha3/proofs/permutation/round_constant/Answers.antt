use Rattle.std.proofs.Common.{◌≡◌, ℕ, inl, inr, Some, None, get_or, refl, ◌∙◌}
use Rattle.std.specs.List.{slice_get}
use Rattle.std.proofs.lemmas.Bool.{cases_lt, cond_above, cond_below}
use Rattle.std.proofs.lemmas.Option.{slice_get-get_or, slice_get_past}
use Rattle.digest.proofs.Copied.{copied_is}
use Rattle.sha3.specs.Keccak.{constants, packed, unpacked}
use Rattle.sha3.specs.Tables.{constant_of}
use Rattle.sha3.proofs.permutation.round_constant.Goals as goal

constant_is : (k : ℕ) → slice_get constants k ≡ constant_of k
unfolding constants packed
constant_is k = elim (cases_lt k 24) [
  | inl h ↦ slice_get-get_or constants k 0 h ∙ cond_below k 24 (Some (get_or constants k 0)) None h
  | inr h ↦ slice_get_past constants k h ∙ cond_above k 24 (Some (get_or constants k 0)) None None h refl
]

pub returns : goal.returns
unfolding constants packed unpacked
returns c = c.copied.ensures ∙ copied_is constants c.args.k c.get.result c.get.ensures.lookup ∙ constant_is c.args.k

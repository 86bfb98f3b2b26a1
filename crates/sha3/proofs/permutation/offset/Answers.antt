use Rattle.std.proofs.Common.{ℕ, get_or, ap}
use Rattle.sha3.specs.Keccak.{place, lane, walk, offsets, offsets_after}
use Rattle.sha3.proofs.permutation.offset.Goals as goal

pub returns : goal.returns
unfolding lane offsets offsets_after walk place
returns c = ap (λ (i : ℕ). get_or offsets i 0) c.place.ensures.value

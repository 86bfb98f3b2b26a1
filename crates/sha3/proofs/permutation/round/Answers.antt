use Rattle.sha3.specs.Keccak.{place, lane, first_added}
use Rattle.sha3.proofs.permutation.round.Goals as goal

pub returns : goal.returns
unfolding first_added lane place
returns c = cc

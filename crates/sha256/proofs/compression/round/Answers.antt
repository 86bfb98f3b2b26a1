use Rattle.sha256.specs.Words.{Σ0, Σ1}
use Rattle.sha256.specs.Keyed.{keyed_round}
use Rattle.sha256.specs.Sha256.{turned, T₂}
use Rattle.sha256.proofs.compression.round.Goals as goal

pub returns : goal.returns
unfolding keyed_round turned T₂ Σ0 Σ1
returns c = cc

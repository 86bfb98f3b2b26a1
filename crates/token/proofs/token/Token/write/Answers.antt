use Rattle.layout.proofs.ReadBack.{read_law}
use Rattle.token.proofs.token.Token.write.Goals as goal

pub returns-then-out-length-clause-same : goal.returns-then-out-length-clause-same
returns-then-out-length-clause-same c = read_law

pub returns-clause-same : goal.returns-clause-same
returns-clause-same c = read_law

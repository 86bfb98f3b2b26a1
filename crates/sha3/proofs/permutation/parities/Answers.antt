use Rattle.std.proofs.Common.{rules}
use Rattle.sha3.specs.Keccak.{parity, parities}
use Rattle.digest.proofs.Made.{made}
use Rattle.sha3.proofs.permutation.parities.Goals as goal

pub returns : goal.returns
unfolding parities parity
returns c = made _ _ _ (parity c.args.a.now) 5 (λ i y q l called. search rules) c.from_fn.ensures.items

use Rattle.std.proofs.Common.{rules}
use Rattle.sha3.specs.Keccak.{effect, effects, rotl}
use Rattle.digest.proofs.Made.{made}
use Rattle.sha3.proofs.permutation.effects.Goals as goal

pub returns : goal.returns
unfolding effects effect rotl
returns c = made _ _ _ (effect c.args.c.now) 5 (λ i y q l called. search rules) c.from_fn.ensures.items

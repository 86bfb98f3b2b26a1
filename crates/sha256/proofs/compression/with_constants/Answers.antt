use Rattle.std.proofs.Common.{rules}
use Rattle.sha256.specs.Constants.{K}
use Rattle.sha256.specs.Keyed.{key, keyed}
use Rattle.digest.proofs.Made.{made}
use Rattle.sha256.proofs.compression.with_constants.Goals as goal

pub returns : goal.returns
unfolding keyed key K
returns c = made _ _ _ (key c.args.w.now) 64 (λ i y q l called. search rules) c.from_fn.ensures.items

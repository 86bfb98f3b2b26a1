use Rattle.std.proofs.Common.{length, Ok, Err, ap, ◌∙◌, arith}
use Rattle.std.proofs.lemmas.Bool.{cond_above}
use Rattle.digest.specs.declared.refusal.Refusal.TheVariants.{TooLong}
use Rattle.sha256.specs.Sha256.{sha256}
use Rattle.digest.proofs.SameDigest.{same_digest}
use Rattle.sha256.proofs.hash.Sha256Hash.digest.Goals as goal

pub returns : goal.returns
unfolding sha256
returns c =
    let m = c.args.message.now in
    cond_above 65536 (length m) (Err TooLong) (Ok (sha256 m)) (Ok c.from.result) (omega arith)
    (ap Ok (same_digest c.from.result (sha256 m) (c.from.ensures ∙ c.hashed.ensures)))

use Rattle.std.proofs.Common.{◌≡◌, ◌≤◌, length, Ok, ap, arith}
use Rattle.std.proofs.lemmas.Bool.{cond_above}
use Rattle.sha3.specs.Sha3.{soaked, squeezed, sha3_256}
use Rattle.digest.proofs.SameDigest.{same_digest}
use Rattle.sha3.proofs.hash.Sha3Hash.digest.Goals as goal

pub returns : goal.returns
unfolding sha3_256
returns c =
    let message = c.args.message.now in
    let bytes : c.from.result.bytes ≡ squeezed (soaked message) = cc in
    let short : length message ≤ 65536 = omega arith in
    cond_above _ _ _ _ _ short (ap Ok (same_digest c.from.result (sha3_256 message) bytes))

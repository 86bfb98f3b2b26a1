use Rattle.std.proofs.Common.{◌≡◌, Decides, ap, rules}
use Rattle.digest.proofs.SameDigest.{same_digest}
use Rattle.digest.proofs.value.Digest.is_same.Goals as goal

pub returns : goal.returns
returns c =
    let bytes : Decides c.eq.result (c.args.self.now.bytes ≡ c.args.other.now.bytes) = search rules in
    (λ yes. same_digest _ _ (bytes.0 yes), λ same. bytes.1 (ap (λ d. d.bytes) same))

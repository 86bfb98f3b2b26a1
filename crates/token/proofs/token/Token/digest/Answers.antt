use Rattle.std.proofs.Common.{length, sym, ap, ◌∙◌, arith}
use Rattle.std.proofs.lemmas.List.{take_all}
use Rattle.wire.proofs.Digests.{digest_is}
use Rattle.token.proofs.token.Token.digest.Goals as goal

pub returns : goal.returns
returns c =
    let d = c.from.result in
    let xs = c.args.self.now.recorded.now in
    sym (digest_is d xs (c.from.ensures ∙ sym (take_all 32 xs (omega (arith, d.whole, ap length c.from.ensures)))))

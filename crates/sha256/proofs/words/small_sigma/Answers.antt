use Rattle.std.proofs.Common.{◌∙◌}
use Rattle.sha256.specs.Words.{σ}
use Rattle.sha256.proofs.Turns.{turned_right}
use Rattle.sha256.proofs.words.small_sigma.Goals as goal

pub returns : goal.returns
unfolding σ
returns g c =
    let x = c.args.x in
    let a = c.rotate_right.ensures ∙ turned_right g.row.A x c.requires.a in
    let b = c.rotate_right-2.ensures ∙ turned_right g.row.B x c.requires.b in
    cc

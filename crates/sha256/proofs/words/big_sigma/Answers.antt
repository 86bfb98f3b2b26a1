use Rattle.std.proofs.Common.{◌∙◌}
use Rattle.sha256.specs.Words.{Σ}
use Rattle.sha256.proofs.Turns.{turned_right}
use Rattle.sha256.proofs.words.big_sigma.Goals as goal

pub returns : goal.returns
unfolding Σ
returns g c =
    let x = c.args.x in
    let a = c.rotate_right.ensures ∙ turned_right g.row.A x c.requires.a in
    let b = c.rotate_right-2.ensures ∙ turned_right g.row.B x c.requires.b in
    let d = c.rotate_right-3.ensures ∙ turned_right g.row.C x c.requires.c in
    cc

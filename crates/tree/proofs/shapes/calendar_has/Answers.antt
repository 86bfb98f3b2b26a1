use Rattle.std.proofs.lemmas.Bool.{leb-true, le-leb}
use Rattle.tree.proofs.ShapeLaws.{place_law, length_law, examples}
use Rattle.tree.proofs.shapes.calendar_has.Goals as goal

pub returns : goal.returns
returns c =
    let p = c.args.publication in
    let second = c.args.second in
    record { value = (leb-true second p, le-leb second p); apart = place_law; short = length_law; examples = examples }

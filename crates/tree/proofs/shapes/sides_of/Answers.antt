use Rattle.std.proofs.Common.{length, ap, ◌∙◌, inl, arith}
use Rattle.std.proofs.lemmas.Iterator.Consumers.{count_from_yields_List, YieldsList-from_first}
use Rattle.tree.specs.Trees.{siblings}
use Rattle.tree.proofs.ShapeLaws.{shape_short}
use Rattle.tree.proofs.Ways.{length-siblings}
use Rattle.tree.proofs.shapes.sides_of.Goals as goal

pub count-requires-clause-fits : goal.count-requires-clause-fits
count-requires-clause-fits c =
    inl (omega (arith, shape_short 64 c.args.n c.args.place (omega arith), length-siblings c.args.n c.args.place, ap length c.new.ensures.way))

pub returns : goal.returns
returns c =
    count_from_yields_List c.new.result _ c.count.ensures.ran
    (YieldsList-from_first (λ x. x) (λ way. siblings way.low way.end way.place) (siblings 0 c.args.n c.args.place) c.new.ensures.way)
    ∙ length-siblings c.args.n c.args.place

use Rattle.std.proofs.Common.{rules, tests}
use Rattle.std.proofs.lemmas.Iterator.{YieldsList-from_slice}
use Rattle.std.proofs.lemmas.Iterator.Search.{position_from_yields_List}
use Rattle.layout.proofs.Sides.{bad, side_at}
use Rattle.layout.proofs.checking.bad_side.Goals as goal

pub returns-in_err-place : goal.returns-in_err-place
returns-in_err-place c =
    search (rules, side_at c.args.links.now (position_from_yields_List bad _ _ c.position.result c.position.ensures.ran (YieldsList-from_slice c.args.links.now cc) (λ x b q k. search (rules, tests))))

pub returns : goal.returns
returns c =
    search (rules, side_at c.args.links.now (position_from_yields_List bad _ _ c.position.result c.position.ensures.ran (YieldsList-from_slice c.args.links.now cc) (λ x b q k. search (rules, tests))))

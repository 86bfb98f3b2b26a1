use Rattle.std.proofs.lemmas.Slice.Eq.{slice_eq-Decides}
use Rattle.tree.proofs.SideTest.{side_test}
use Rattle.tree.proofs.shapes.same.Goals as goal

pub returns : goal.returns
returns c = slice_eq-Decides side_test _ _ _ c.eq.ensures

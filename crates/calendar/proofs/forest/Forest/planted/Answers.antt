use Rattle.std.proofs.Common.{[], ◌∷◌, refl, arith}
use Rattle.tree.proofs.Roots.{root_one}
use Rattle.calendar.specs.Forests.{bare, odd}
use Rattle.calendar.proofs.forest.Forest.planted.Goals as goal

pub returns : goal.returns
returns g c =
    let x = c.args.first in
    (refl, omega arith, refl, odd 0 [] [] (x ∷ []) x refl bare (refl, root_one g.J.Joining.joined (x ∷ []) x refl) refl refl)

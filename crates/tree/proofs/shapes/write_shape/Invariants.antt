use Rattle.std.proofs.Common.{ℕ}
use Rattle.tree.specs.Answers.{over}
use Rattle.tree.specs.Trees.{shape}
use Rattle.tree.proofs.Ways.{Writing}
use Rattle.tree.proofs.shapes.write_shape.Given as goal

abbrev pub invariant-loop-at : goal.invariant-loop-at
invariant-loop-at l = Writing (λ (d : ℕ) s. s.side) l.n l.at-iterator l.out (over (shape l.n l.place) l.fn.out)

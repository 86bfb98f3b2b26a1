-- The sides of a path by their numbers.
use Rattle.std.specs.Prelude.{ℕ, ◌==◌, if◌then◌else◌, Ok, Err, Result}
use Rattle.tree.specs.declared.link.Side.{Side}
use Rattle.tree.specs.declared.link.Side.TheVariants.{Right, Left}
use Rattle.tree.specs.declared.link.UnknownSide.{UnknownSide}

-- 0: the sibling stands on the right; 1: on the left
abbrev pub side_number : Side → ℕ
side_number Right = 0
side_number Left = 1

-- the side that a number names; no other number names one
abbrev pub side_answer : ℕ → Result Side UnknownSide
side_answer n = if n == 0 then Ok Right else if n == 1 then Ok Left else Err (record { 0 = n })

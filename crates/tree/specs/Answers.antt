-- What the functions answer, and what they leave in the lists that are lent to them.
use Rattle.std.specs.Prelude.{ℕ, ◌^◌, cond, List, ◌++◌, length, drop, Some, None, Ok, Err, Option, Result, nat_le, nat_lt}
use Rattle.tree.specs.declared.link.Link.{Link}
use Rattle.tree.specs.declared.link.Side.{Side}
use Rattle.tree.specs.declared.refusal.PathRefusal.{PathRefusal}
use Rattle.tree.specs.declared.refusal.PathRefusal.TheVariants.{Absent, Short}
use Rattle.tree.specs.Split.{split}
use Rattle.tree.specs.Trees.{shape, second_shape}

-- a tree of one leaf has no parts
abbrev pub split_answer : ℕ → Option ℕ
split_answer n = cond (nat_lt 1 n) (Some (split n)) None

-- items at the front, and behind them what stood there before
abbrev pub over : {A : Type 0} → List A → List A → List A
over items old = items ++ drop (length items) old

-- the length of the path of place i among n nodes, where the place is there and enough links are lent
abbrev pub path_answer : ℕ → ℕ → ℕ → Result ℕ PathRefusal
path_answer n i lent =
    cond (nat_lt i n) (cond (nat_lt lent (length (shape n i))) (Err Short) (Ok (length (shape n i)))) (Err Absent)

-- the path written over the links lent; a place with no path leaves them
abbrev pub path_over : {N : Type 0} → Option (List (Link N)) → List (Link N) → List (Link N)
path_over None old = old
path_over (Some links) old = over links old

-- a refusal leaves the links as they were
abbrev pub links_after : {N : Type 0} → Result ℕ PathRefusal → Option (List (Link N)) → List (Link N) → List (Link N)
links_after (Ok count) links old = path_over links old
links_after (Err refusal) links old = old

-- how many sides a second has under a publication below 2 ^ 31
abbrev pub sides_answer : ℕ → ℕ → Option ℕ
sides_answer p second = cond (nat_lt p (2 ^ 31)) (cond (nat_le second p) (Some (length (second_shape p second))) None) None

-- a second that is not the publication's leaves the sides as they were
abbrev pub sides_after : Option ℕ → List Side → List Side → List Side
sides_after (Some count) sides old = over sides old
sides_after None sides old = old

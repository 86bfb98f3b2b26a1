-- What a publication closes.
use Rattle.std.specs.Prelude.{ℕ, suc, ◌^◌, cond, ◌&&◌, List, [], length, take, nat_lt}

-- the nodes of the seconds 0 to p; none where the row has no second p, or p is 2 ^ 31 or more
abbrev pub published : {N : Type 0} → ℕ → List N → List N
published p row = cond (nat_lt p (length row) && nat_lt p (2 ^ 31)) (take (suc p) row) []

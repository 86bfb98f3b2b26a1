-- Tests in their order: the first one that holds tells the fault.
use Rattle.std.specs.Prelude.{Bool, cond, List, [], ◌∷◌, Some, None, Ok, Err, Option, Result}

-- a fault where a test holds
abbrev pub when : {F : Type 0} → Bool → F → Option F
when test fault = cond test (Some fault) None

-- the first fault of a list
abbrev pub first : {F : Type 0} → List (Option F) → Option F
first [] = None
first (None ∷ rest) = first rest
first (Some fault ∷ rest) = Some fault

-- the fault, or where there is none an answer
abbrev pub unless : {A F : Type 0} → Option F → A → Result A F
unless None answer = Ok answer
unless (Some fault) answer = Err fault

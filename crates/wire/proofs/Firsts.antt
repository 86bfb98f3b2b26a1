-- Going down a list of tests.
use Rattle.std.proofs.Common.{◌≡◌, ℕ, Bool, true, false, List, ◌∷◌, Some, None, Ok, Err, Option, refl, ap, arith}
use Rattle.wire.specs.Faults.{when, first, unless}

module _ {F : Type 0} (rest : List (Option F)) where
  -- a test that does not hold is passed
  pub passed : (test : Bool) (fault : F) → test ≡ false → first (when test fault ∷ rest) ≡ first rest
  passed test fault e = ap (λ b. first (when b fault ∷ rest)) e

  -- a test that holds tells its fault
  pub stopped : (test : Bool) (fault : F) → test ≡ true → first (when test fault ∷ rest) ≡ Some fault
  stopped test fault e = ap (λ b. first (when b fault ∷ rest)) e

  -- where no fault is told, no test holds
  pub none_held : (test : Bool) (fault : F) → first (when test fault ∷ rest) ≡ None → (test ≡ false) × (first rest ≡ None)
  none_held true fault e = let z : ◌≡◌ {A = ℕ} 0 1 = cc in absurd (omega arith)
  none_held false fault e = (refl, e)

-- an answer without a fault
pub unless_ok : {A F : Type 0} (fault : Option F) (a b : A) → unless fault a ≡ Ok b → (fault ≡ None) × (a ≡ b)
unless_ok None a b e = (refl, cc)
unless_ok (Some f) a b e = let z : ◌≡◌ {A = ℕ} 0 1 = cc in absurd (omega arith)

pub unless_err : {A F : Type 0} (fault : Option F) (a : A) (f : F) → unless fault a ≡ Err f → fault ≡ Some f
unless_err None a f e = let z : ◌≡◌ {A = ℕ} 0 1 = cc in absurd (omega arith)
unless_err (Some g) a f e = cc

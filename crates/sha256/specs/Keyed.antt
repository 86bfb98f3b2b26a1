-- The schedule with each round's constant added beforehand, as the program keeps it.
use Rattle.std.specs.Prelude.{ℕ, List, map, slice_index_or}
use Rattle.std.specs.List.{range_with_len}
use Rattle.sha256.specs.declared.state.State.{State}
use Rattle.sha256.specs.Words.{◌⊞◌, Ch, Σ1}
use Rattle.sha256.specs.Constants.{K}
use Rattle.sha256.specs.Sha256.{turned, T₂}

-- entry t of a keyed schedule
unfoldable pub key : List ℕ → ℕ → ℕ
key W t = slice_index_or K t 0 ⊞ slice_index_or W t 0

unfoldable pub keyed : List ℕ → List ℕ
keyed W = map (key W) (range_with_len 0 64)

-- a round, with its entry of the keyed schedule
unfoldable pub keyed_round : State → ℕ → State
keyed_round s x = turned s (s.h ⊞ Σ1 s.e ⊞ Ch s.e s.f s.g ⊞ x) (T₂ s)

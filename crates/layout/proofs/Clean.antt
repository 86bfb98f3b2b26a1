-- What holds of bytes without a fault.
use Rattle.std.proofs.Common.{◌≡◌, ℕ, ◌^◌, ◌<◌, ◌≤◌, true, List, ◌∷◌, get_or, Some, None, Option, sym, refl, ◌∙◌, arith}
use Rattle.std.specs.Option.{option_map}
use Rattle.std.proofs.lemmas.Bool.{not-false, eqb-true, ltb-false, leb-false}
use Rattle.wire.specs.Bytes.{pair_at, number_at}
use Rattle.wire.specs.Faults.{first}
use Rattle.wire.proofs.Firsts.{none_held}
use Rattle.layout.specs.declared.fault.Fault.{Fault}
use Rattle.layout.specs.declared.fault.Fault.TheVariants.{Side}
use Rattle.layout.specs.Faults.{marked, bad_side, token_fault, Headed}
use Rattle.layout.specs.Parts.{links_in}

pub record Clean (number : ℕ) (bytes : List ℕ) : Type 0 where
  pub head : Headed number bytes
  pub mark : marked bytes ≡ true
  pub version : pair_at bytes 3 ≡ 1
  pub hash : get_or bytes 5 0 ≡ number
  pub sides : bad_side 48 (links_in bytes) ≡ None
  pub early : number_at bytes 42 < 2 ^ 31
  pub covered : number_at bytes 38 ≤ number_at bytes 42

no_side : (side : Option ℕ) (rest : List (Option Fault)) → first (option_map Side side ∷ rest) ≡ None → (side ≡ None) × (first rest ≡ None)
no_side None rest e = (refl, e)
no_side (Some place) rest e = let z : ◌≡◌ {A = ℕ} 0 1 = cc in absurd (omega arith)

pub clean : (number : ℕ) (bytes : List ℕ) → token_fault number bytes ≡ None → Clean number bytes
unfolding token_fault
clean number bytes e =
    let short = none_held _ _ _ e in
    let mark = none_held _ _ _ short.1 in
    let version = none_held _ _ _ mark.1 in
    let hash = none_held _ _ _ version.1 in
    let round = none_held _ _ _ hash.1 in
    let calendar = none_held _ _ _ round.1 in
    let size = none_held _ _ _ calendar.1 in
    let side = no_side _ _ size.1 in
    let publication = none_held _ _ _ side.1 in
    let second = none_held _ _ _ publication.1 in
    record {
      head =
          record {
            long = ltb-false _ _ short.0;
            round_short = ltb-false _ _ round.0;
            calendar_short = ltb-false _ _ calendar.0;
            size = eqb-true _ _ (not-false _ size.0);
            rest = e ∙ sym size.1;
          };
      mark = not-false _ mark.0;
      version = eqb-true _ _ (not-false _ version.0);
      hash = eqb-true _ _ (not-false _ hash.0);
      sides = side.0;
      early = leb-false _ _ publication.0;
      covered = ltb-false _ _ second.0;
    }

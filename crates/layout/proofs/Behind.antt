-- The tests behind the head, by what a check saw.
use Rattle.std.proofs.Common.{◌≡◌, ℕ, ◌-◌, ◌/◌, ◌^◌, ◌<◌, ◌≤◌, List, length, drop, take, Some, None, Ok, Err, Option, sym, ap, ◌∙◌, arith}
use Rattle.std.proofs.lemmas.List.{take_rest}
use Rattle.wire.specs.Faults.{unless}
use Rattle.std.specs.Simd.{first_chunks}
use Rattle.wire.specs.Bytes.{number_at}
use Rattle.wire.proofs.Numbers.{told_is}
use Rattle.layout.specs.declared.fault.Fault.{Fault}
use Rattle.layout.specs.declared.fault.Fault.TheVariants.{Side, Publication, Second}
use Rattle.layout.specs.Faults.{bad_side, token_fault, check_answer, Headed}
use Rattle.layout.specs.Parts.{links_in}
use Rattle.layout.proofs.Faulted.{at_side, at_publication, at_second, past_all}
use Rattle.layout.proofs.Links.{links_are}
use Rattle.layout.proofs.Longest.{length_in}

-- the answer where a fault is told, or none
pub answered : (number : ℕ) (bytes : List ℕ) {told : Option Fault} → token_fault number bytes ≡ told → unless told tt ≡ check_answer number bytes
answered number bytes e = ap (λ fault. unless fault tt) (sym e)

module _ (number : ℕ) (bytes : List ℕ) (h : Headed number bytes) {links : List (List ℕ)}
    (cut : links ≡ first_chunks 33 (length (take (length bytes - 48) (drop 48 bytes)) / 33) (take (length bytes - 48) (drop 48 bytes))) where
  -- the links that are looked through are the token's
  seen : links ≡ links_in bytes
  seen = cut ∙ links_are bytes _ h.long h.size (take_rest bytes 48)

  pub few : length links ≤ 95
  few = omega (arith, ap length seen, length_in bytes, h.round_short, h.calendar_short)

  pub at_place : {place : ℕ} → bad_side 48 links ≡ Some place → Err (Side place) ≡ check_answer number bytes
  at_place e = answered number bytes (at_side number bytes h.rest _ (ap (bad_side 48) (sym seen) ∙ e))

  module _ (good : bad_side 48 links ≡ None) where
    pub at_late : 2 ^ 31 ≤ number_at bytes 42 → Err Publication ≡ check_answer number bytes
    at_late late = answered number bytes (at_publication number bytes h.rest (ap (bad_side 48) (sym seen) ∙ good) late)

    module _ (early : number_at bytes 42 < 2 ^ 31) where
      pub at_uncovered : number_at bytes 42 < number_at bytes 38 → Err Second ≡ check_answer number bytes
      at_uncovered later = answered number bytes (at_second number bytes h.rest (ap (bad_side 48) (sym seen) ∙ good) early later)

      pub faultless : number_at bytes 38 ≤ number_at bytes 42 → Ok tt ≡ check_answer number bytes
      faultless covered = answered number bytes (past_all number bytes h.rest (ap (bad_side 48) (sym seen) ∙ good) early covered)

-- the tests in their order
pub ruleset tests = (few, at_place, at_late, at_uncovered, faultless, told_is)

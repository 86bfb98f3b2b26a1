use Rattle.std.proofs.Common.{◌≡◌, ℕ, List, None, Ok, sym, ap, ◌∙◌, arith}
use Rattle.layout.specs.Content.{layout}
use Rattle.layout.specs.Faults.{token_fault}
use Rattle.wire.specs.Faults.{unless}
use Rattle.layout.specs.Parts.{parts_of, content}
use Rattle.layout.proofs.Clean.{clean}
use Rattle.wire.proofs.Firsts.{unless_ok}
use Rattle.layout.proofs.ReadBack.{read_back}
use Rattle.token.proofs.reading.read.Goals as goal

pub parted-requires : goal.parted-requires
parted-requires g c =
    let bytes : List ℕ = c.args.bytes.now in
    let number : ℕ = g.H.Hash.NUMBER in
    let ok = clean number bytes (unless_ok (token_fault number bytes) _ _ (sym c.in_ok-check.ensures.answer)).0 in
    (ok.head.long, ok.head.size)

pub returns : goal.returns
returns g c =
    let bytes : List ℕ = c.args.bytes.now in
    let number : ℕ = g.H.Hash.NUMBER in
    let none : token_fault number bytes ≡ None = (unless_ok (token_fault number bytes) _ _ (sym c.in_ok-check.ensures.answer)).0 in
    record {
      answer = ap Ok c.parted.ensures ∙ ap (λ fault. unless fault (parts_of bytes)) (sym none);
      back =
          ap (λ p. layout number (content p)) c.parted.ensures
          ∙ read_back number bytes (clean number bytes none) (λ k low. omega (arith, c.type_inv.bytes k));
    }

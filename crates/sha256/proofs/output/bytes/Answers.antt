use Rattle.std.proofs.Common.{rules, ◌/◌, ◌%◌, [], ◌∷◌, get_or}
use Rattle.sha256.specs.Words.{word_bytes}
use Rattle.digest.proofs.Made.{made}
use Rattle.sha256.proofs.output.bytes.Goals as goal

pub returns : goal.returns
returns c =
    let s = c.args.s in
    made _ _ _ (λ i. get_or (word_bytes (get_or (s.a ∷ s.b ∷ s.c ∷ s.d ∷ s.e ∷ s.f ∷ s.g ∷ s.h ∷ []) (i / 4) 0)) (i % 4) 0) 32 (λ i y q l called. search rules) c.from_fn.ensures.items

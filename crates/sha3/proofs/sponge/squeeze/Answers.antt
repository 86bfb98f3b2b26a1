use Rattle.std.proofs.Common.{◌≡◌, ◌/◌, ◌%◌, get_or, ◌∙◌, rules, arith}
use Rattle.std.specs.Int.{w64, to_le_bytes}
use Rattle.sha3.specs.Sha3.{byte, squeezed}
use Rattle.digest.proofs.Made.{made}
use Rattle.sha3.proofs.Words.{byte_of}
use Rattle.sha3.proofs.sponge.squeeze.Goals as goal

pub returns : goal.returns
unfolding squeezed byte
returns c =
    let a = c.args.a.now in
    made _ _ _ (byte a) 32
    (λ i y q l called.
    let here : y ≡ get_or (to_le_bytes w64 (get_or a (i / 8) 0)) (i % 8) 0 = search rules in
    (search rules, here ∙ byte_of (get_or a (i / 8) 0) (i % 8) (omega arith)))
    c.from_fn.ensures.items

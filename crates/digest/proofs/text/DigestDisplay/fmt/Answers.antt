use Rattle.std.proofs.Common.{◌/◌, ◌%◌, ◌<◌, length, get_or, refl, ap, ◌∙◌, rules}
use Rattle.std.proofs.Output.{has_written_append, has_written_of_eq}
use Rattle.digest.specs.Text.{digit_of}
use Rattle.digest.proofs.Hexadecimal.{written_more}
use Rattle.digest.proofs.text.DigestDisplay.fmt.Goals as goal

pub loop-byte-preserved : goal.loop-byte-preserved
loop-byte-preserved g c plain =
    let lt : c.loop-byte.byte-index < length c.args.self.now.bytes = search rules in
    let before = c.loop-byte.invariant plain in
    let high = c.in_ok-write_char.ensures.writes before.plain refl in
    let low = c.in_ok-write_char-2.ensures.writes high.plain refl in
    let both = has_written_append g.W.Write.write_str_gives _ _ _ _ _ (has_written_append g.W.Write.write_str_gives _ _ _ _ _ before high) low in
    let text =
    written_more c.args.self.now.bytes c.loop-byte.byte-index c.digit.result c.digit-in-loop-byte.result lt
    (c.digit.ensures.value ∙ ap (λ xs. digit_of (get_or xs c.loop-byte.byte-index 0 / 16)) c.as_bytes-byte-items.ensures)
    c.digit.ensures.ascii
    (c.digit-in-loop-byte.ensures.value ∙ ap (λ xs. digit_of (get_or xs c.loop-byte.byte-index 0 % 16)) c.as_bytes-byte-items.ensures)
    c.digit-in-loop-byte.ensures.ascii in
    has_written_of_eq g.W.Write.write_str_gives _ _ _ _ text both

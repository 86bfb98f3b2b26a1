use Rattle.std.proofs.Common.{[], ◌∷◌, ap, ◌∙◌, arith}
use Rattle.writer.specs.Said.{said}
use Rattle.writer.proofs.LaidOut.{laid_out}
use Rattle.writer.proofs.writing.lay_out.Goals as goal

pub returns-clause-after : goal.returns-clause-after
returns-clause-after g c =
    laid_out g.H.Hash.NUMBER (said c.args.fields.now) c.args.out.now
    (c.copy_from_slice.ensures.after ∙ ap (λ n. 72 ∷ 67 ∷ 84 ∷ 0 ∷ 1 ∷ n ∷ []) c.NUMBER.ensures)
    (c.copy_from_slice-2.ensures.after ∙ c.as_bytes.ensures)
    (c.copy_from_slice-3.ensures.after ∙ c.to_be_bytes.ensures)
    (c.copy_from_slice-4.ensures.after ∙ c.to_be_bytes-2.ensures)
    c.copy_from_slice-5.ensures.after c.put_links.ensures c.put_links-2.ensures _ _ (omega arith) (omega arith)

-- Bytes are a token exactly where they are the layout of a whole content.
use Rattle.std.proofs.Common.{sym, ap, ◌∙◌}
use Rattle.layout.specs.Faults.{parsed}
use Rattle.layout.specs.Laws.{TokenLaw}
use Rattle.layout.proofs.Longest.{longest_law}
use Rattle.layout.proofs.ReadBack.{read_law}
use Rattle.layout.proofs.WrittenBack.{written_law}

pub token_law : TokenLaw
token_law number bytes t fits =
    (λ e. ((longest_law number bytes t e).0, read_law number bytes t fits e), λ w. ap (parsed number) (sym w.1) ∙ written_law number t w.0)

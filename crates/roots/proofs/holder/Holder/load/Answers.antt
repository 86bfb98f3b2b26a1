use Rattle.roots.proofs.ReadBack.{reads_back}
use Rattle.roots.proofs.Rises.{rising_law}
use Rattle.roots.proofs.holder.Holder.load.Goals as goal

pub returns-in_err-self-clause-order : goal.returns-in_err-self-clause-order
returns-in_err-self-clause-order g c = rising_law

pub returns-in_err-self-clause-back : goal.returns-in_err-self-clause-back
returns-in_err-self-clause-back g c = reads_back

pub returns-clause-order : goal.returns-clause-order
returns-clause-order g c = rising_law

pub returns-clause-back : goal.returns-clause-back
returns-clause-back g c = reads_back

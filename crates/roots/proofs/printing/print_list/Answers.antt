use Rattle.roots.proofs.Written.{written_law}
use Rattle.roots.proofs.printing.print_list.Goals as goal

pub returns-then-entries-gt-MOST-clause-law : goal.returns-then-entries-gt-MOST-clause-law
returns-then-entries-gt-MOST-clause-law g c = written_law

pub returns-then-not-rises-clause-law : goal.returns-then-not-rises-clause-law
returns-then-not-rises-clause-law g c = written_law

pub returns-then-out-length-clause-law : goal.returns-then-out-length-clause-law
returns-then-out-length-clause-law g c = written_law

pub returns-clause-law : goal.returns-clause-law
returns-clause-law g c = written_law

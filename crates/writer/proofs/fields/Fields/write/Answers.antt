use Rattle.std.proofs.Common.{arith}
use Rattle.layout.proofs.WrittenBack.{written_law}
use Rattle.writer.specs.Said.{said}
use Rattle.writer.proofs.fields.Fields.write.Goals as goal

pub returns-then-self-gt-MOST_ROUND-clause-law : goal.returns-then-self-gt-MOST_ROUND-clause-law
returns-then-self-gt-MOST_ROUND-clause-law g c = written_law

pub returns-then-self-gt-MOST_CALENDAR-clause-law : goal.returns-then-self-gt-MOST_CALENDAR-clause-law
returns-then-self-gt-MOST_CALENDAR-clause-law g c = written_law

pub returns-then-self-ge-PUBLICATIONS-clause-law : goal.returns-then-self-ge-PUBLICATIONS-clause-law
returns-then-self-ge-PUBLICATIONS-clause-law g c = written_law

pub returns-then-self-clause-law : goal.returns-then-self-clause-law
returns-then-self-clause-law g c = written_law

pub returns-then-out-self-clause-law : goal.returns-then-out-self-clause-law
returns-then-out-self-clause-law g c = written_law

pub returns-clause-reads : goal.returns-clause-reads
returns-clause-reads g c =
    written_law g.H.Hash.NUMBER (said c.args.self.now)
    (record { round_short = omega arith; calendar_short = omega arith; early = omega arith; covered = omega arith })

pub returns-clause-law : goal.returns-clause-law
returns-clause-law g c = written_law

use Rattle.std.proofs.Common.{sym, ◌∙◌}
use Rattle.calendar.proofs.Hills.{whole_root}
use Rattle.calendar.proofs.forest.Forest.whole.Goals as goal

pub returns : goal.returns
returns g c xs holds = whole_root g.J.Joining.joined holds.3 ∙ sym c.joined_back.ensures

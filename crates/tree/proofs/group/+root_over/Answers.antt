use Rattle.std.proofs.Common.{arith}
use Rattle.tree.proofs.Steps.{root_read, root_joined}
use Rattle.tree.proofs.group.+root_over.Goals as goal

pub returns-in_default : goal.returns-in_default
returns-in_default g t c =
    root_read g.J.Joining.joined c.args.nodes.now c.index-nodes-0.result c.requires (omega (arith, c.in_default.ensures.none)) c.index-nodes-0.is

pub returns : goal.returns
returns g t c =
    let parts = c.in-Some.ensures.parts in
    root_joined g.J.Joining.joined c.args.nodes.now _ _ c.in-Some.middle c.root_over.result c.root_over-2.result c.join.result
    parts.0 parts.1 c.split_at.ensures.front c.split_at.ensures.back c.root_over.ensures c.root_over-2.ensures c.join.ensures

use Rattle.std.proofs.Common.{◌≡◌, Some, rules}
use Rattle.zb_tokens.specs.Board.{node_with}
use Rattle.zb_values.proofs.awaited.waits_itself_at.Goals as goal

pub returns-in-Some : goal.returns-in-Some
returns-in-Some c =
    let there : node_with c.args.model.now c.args.cell.now.node ≡ Some c.in-Some.node.now = search rules in
    rw there c.waits_itself.ensures

use Rattle.std.proofs.Common.{◌≡◌, Some, true, false, rules}
use Rattle.zb_faults.specs.Elements.{is_exclusive_gateway}
use Rattle.zb_tokens.specs.Board.{node_with}
use Rattle.zb_values.proofs.exit.leave_in.Goals as goal

pub returns-then-is_exclusive_gateway : goal.returns-then-is_exclusive_gateway
returns-then-is_exclusive_gateway c =
    let there : node_with c.args.model.now c.args.cell.now.node ≡ Some c.in-Some.node.now = search rules in
    let is : is_exclusive_gateway c.in-Some.node.now.kind ≡ true = search rules in
    rw (there, is) c.leave_at.ensures

pub returns-else-is_exclusive_gateway : goal.returns-else-is_exclusive_gateway
returns-else-is_exclusive_gateway c =
    let there : node_with c.args.model.now c.args.cell.now.node ≡ Some c.in-Some.node.now = search rules in
    let is : is_exclusive_gateway c.in-Some.node.now.kind ≡ false = search rules in
    rw (there, is) (rw there at c.left_by_all.ensures)

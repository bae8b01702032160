use Rattle.std.proofs.Common.{◌≡◌, Some, None, position, rules}
use Rattle.std.specs.Str.{bytes_eq}
use Rattle.zb_process.specs.declared.model.Node.{Node}
use Rattle.zb_board.proofs.PlaceLemmas.{found_at, none_at}
use Rattle.zb_values.proofs.mappings.mapped_in.Goals as goal

pub returns-in-Some : goal.returns-in-Some
returns-in-Some c =
    let is : position (λ (n : Node). bytes_eq n.id c.args.cell.now.node) c.args.model.now.nodes ≡ Some c.in-Some.number = search rules in
    rw (found_at (λ (n : Node). bytes_eq n.id c.args.cell.now.node) c.args.model.now.nodes c.in-Some.number is).0 c.mapped.ensures

pub returns-in-None : goal.returns-in-None
returns-in-None c =
    let is : position (λ (n : Node). bytes_eq n.id c.args.cell.now.node) c.args.model.now.nodes ≡ None = search rules in
    rw (none_at (λ (n : Node). bytes_eq n.id c.args.cell.now.node) c.args.model.now.nodes is) (search rules)

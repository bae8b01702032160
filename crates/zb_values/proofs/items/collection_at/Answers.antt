use Rattle.std.proofs.Common.{◌≡◌, Some, None, position, rules}
use Rattle.std.specs.Str.{bytes_eq}
use Rattle.zb_process.specs.declared.model.Node.{Node}
use Rattle.zb_board.proofs.PlaceLemmas.{found_item, none_at}
use Rattle.zb_values.proofs.items.collection_at.Goals as goal

pub returns-in-Some : goal.returns-in-Some
returns-in-Some c =
    let nodes = c.args.model.now.nodes in
    let is : position (λ (n : Node). bytes_eq n.id c.args.id.now) nodes ≡ Some c.in-Some.number = search rules in
    let item = found_item (λ (n : Node). bytes_eq n.id c.args.id.now) nodes c.in-Some.number is in
    rw item.2 (c.collection_of.ensures item.0 item.1)

pub returns-in-None : goal.returns-in-None
returns-in-None c =
    let is : position (λ (n : Node). bytes_eq n.id c.args.id.now) c.args.model.now.nodes ≡ None = search rules in
    rw (none_at (λ (n : Node). bytes_eq n.id c.args.id.now) c.args.model.now.nodes is) (search rules)

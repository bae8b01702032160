use Rattle.std.proofs.Common.{◌≡◌, Some, None, map, position, slice_get, rules}
use Rattle.std.specs.Str.{bytes_eq}
use Rattle.zb_process.specs.declared.model.Node.{Node}
use Rattle.zb_tokens.specs.Catches.{awaited}
use Rattle.zb_board.proofs.PlaceLemmas.{found_item, none_at}
use Rattle.zb_values.proofs.catches.openings_for.Goals as goal

pub openings_in-requires : goal.openings_in-requires
openings_in-requires g c =
    let nodes = c.args.model.now.nodes in
    let is : position (λ (n : Node). bytes_eq n.id c.args.cell.now.node) nodes ≡ Some c.in-Some.number = search rules in
    let item = found_item (λ (n : Node). bytes_eq n.id c.args.cell.now.node) nodes c.in-Some.number is in
    let numbers : c.as_slice.result.now ≡ c.in_ok-numbers-in-Some.numbers = search rules in
    (awaited c.args.model.now c.args.cell.now item.0, rw numbers (c.in_ok-numbers-in-Some.ensures item.0 item.1))

pub returns-in_ok-numbers-in-Some : goal.returns-in_ok-numbers-in-Some
returns-in_ok-numbers-in-Some g c =
    let nodes = c.args.model.now.nodes in
    let is : position (λ (n : Node). bytes_eq n.id c.args.cell.now.node) nodes ≡ Some c.in-Some.number = search rules in
    let item = found_item (λ (n : Node). bytes_eq n.id c.args.cell.now.node) nodes c.in-Some.number is in
    let numbers : c.as_slice.result.now ≡ c.in_ok-numbers-in-Some.numbers = search rules in
    let named : map (slice_get nodes) c.as_slice.result.now ≡ map Some (awaited c.args.model.now c.args.cell.now item.0) = rw numbers (c.in_ok-numbers-in-Some.ensures item.0 item.1) in
    rw item.2 (c.openings_in.ensures (awaited c.args.model.now c.args.cell.now item.0) named)

pub returns-in-None : goal.returns-in-None
returns-in-None g c =
    let is : position (λ (n : Node). bytes_eq n.id c.args.cell.now.node) c.args.model.now.nodes ≡ None = search rules in
    rw (none_at (λ (n : Node). bytes_eq n.id c.args.cell.now.node) c.args.model.now.nodes is) (search rules)

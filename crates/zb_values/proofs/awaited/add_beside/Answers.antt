use Rattle.std.proofs.Common.{◌≡◌, [], true, filter, map, slice_get, refl, sym, append-nil, rules}
use Rattle.zb_tokens.specs.Board.{is_inner}
use Rattle.zb_tokens.specs.Catches.{waits_beside}
use Rattle.zb_values.proofs.AwaitedLemmas.{none_pass}
use Rattle.zb_values.proofs.awaited.add_beside.Goals as goal

pub returns-then-is_inner : goal.returns-then-is_inner
returns-then-is_inner c =
    let nodes = c.args.model.now.nodes in
    let inner : is_inner c.args.cell.now ≡ true = search rules in
    let p = waits_beside c.args.model.now c.args.cell.now c.args.at.now in
    let none : filter p nodes ≡ [] = none_pass p nodes (λ n. rw inner refl) in
    rw none (sym (append-nil (map (slice_get nodes) c.args.numbers.now)))

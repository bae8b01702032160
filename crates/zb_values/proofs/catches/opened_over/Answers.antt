use Rattle.std.proofs.Common.{refl, rules, ◌≡◌, Ok}
use Rattle.zb_tokens.specs.Catches.{items_of, seen_with}
use Rattle.zb_tokens.specs.Names.{value_seen}
use Rattle.zb_values.proofs.catches.opened_over.Goals as goal

pub returns-in-Ok : goal.returns-in-Ok
returns-in-Ok c =
    let names = seen_with c.args.inputs (value_seen c.args.game.now c.args.cell.now.key) in
    let items : items_of names c.args.game.now c.args.cell.now ≡ Ok c.in-Ok.items = search rules in
    rw items (search rules)

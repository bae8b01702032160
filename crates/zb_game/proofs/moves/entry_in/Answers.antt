use Rattle.std.proofs.Common.{refl, rules}
use Rattle.zb_places.proofs.EntryLemmas.{entry_at-found}
use Rattle.zb_game.proofs.moves.entry_in.Goals as goal

pub returns-in_ok-node-in-Some : goal.returns-in_ok-node-in-Some
returns-in_ok-node-in-Some c =
    let way = entry_at-found c.args.model.now c.args.token.now.spot c.in-OnFlow.id _ c.in-Some.flow.now (search rules) c.as_str.ensures c.in-Some.ensures in
    rw (way, c.in_ok-node-in-Some.ensures, c.in_ok-via-in-Some.ensures, c.way_by.ensures, c.as_str-in-Some.ensures, c.as_str-in-Some-2.ensures) refl

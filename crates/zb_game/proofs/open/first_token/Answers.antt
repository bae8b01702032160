use Rattle.std.proofs.Common.{◌≡◌, true, Some, refl, sym, rules}
use Rattle.zb_tokens.specs.Board.{start_in, scope_id, holds_tokens, model_under}
use Rattle.zb_game.proofs.open.first_token.Goals as goal

pub returns-clause-known : goal.returns-clause-known
returns-clause-known c =
    let cell = c.args.cell.now in
    let m = c.in-Some.model.now in
    let under : model_under c.args.game.now cell.definition ≡ Some m = sym c.in-Some.ensures in
    let scope : holds_tokens m cell ≡ true = search rules in
    let start : start_in m (scope_id cell) ≡ Some c.in-Some-start_in.start.now = rw (← c.scope_id.ensures) (sym c.in-Some-start_in.ensures) in
    rw (under, scope, start, c.in_ok-id.ensures) refl

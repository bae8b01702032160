use Rattle.std.proofs.Common.{◌≡◌, ◌∷◌, [], Some, ap, sym, ◌∙◌}
use Rattle.zb_tokens.specs.MoveOpen.{first_tokens}
use Rattle.zb_game.proofs.BoardLemmas.{opened, opened_alone}
use Rattle.zb_game.proofs.open.open.Goals as goal

pub returns-in_ok-add_token-in-Some-token-clause-played : goal.returns-in_ok-add_token-in-Some-token-clause-played
returns-in_ok-add_token-in-Some-token-clause-played c =
    let gets : first_tokens c.args.game.now c.in-Some.cell.now ≡ Some (c.in-Some-token.token ∷ []) = rw c.in-Some-token.is at c.in_ok-token.ensures.known in
    opened c.args.game.now c.args.opening _ _ _ (sym c.in-Some.ensures) gets c.in_ok-put_items.ensures.put ∙ ap Some (sym c.in_ok-add_token-in-Some-token.ensures)

pub returns-in-None-clause-played : goal.returns-in-None-clause-played
returns-in-None-clause-played c =
    let gets : first_tokens c.args.game.now c.in-Some.cell.now ≡ Some [] = rw c.in-None.is at c.in_ok-token.ensures.known in
    opened_alone c.args.game.now c.args.opening _ _ (sym c.in-Some.ensures) gets c.in_ok-put_items.ensures.put ∙ ap Some (sym c.look_at.ensures)

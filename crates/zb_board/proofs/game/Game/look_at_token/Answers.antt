use Rattle.std.proofs.Common.{◌≡◌, true, ap, ◌∙◌, rules}
use Rattle.zb_table.specs.Rows.{row_at}
use Rattle.zb_tokens.specs.Board.{Board}
use Rattle.zb_places.specs.Places.{held_tokens}
use Rattle.zb_places.proofs.HeldLemmas.{number_in}
use Rattle.zb_board.specs.Indexed.{stays_out}
use Rattle.zb_board.proofs.ComingLemmas.{rests_at, rests_nowhere}
use Rattle.zb_board.proofs.IndexedLemmas.{kept_looked_token}
use Rattle.zb_board.proofs.game.Game.look_at_token.Goals as goal

pub invariant_of-self : goal.invariant_of-self
invariant_of-self c = λ ascends.
    let b : Board = record { models = c.self.inside.models; cells = c.self.inside.cells; tokens = held_tokens c.self.inside.tokens; incidents = c.self.inside.incidents } in
    let token = c.in-Some.token.now in
    let rests : stays_out c.args.self.now token ≡ true = search rules in
    let here : stays_out b token ≡ true = ap (λ (x : Board). stays_out x token) c.self.view_is ∙ rests in
    kept_looked_token _ _ _ _ _ _ _ (c.self.invariant ascends) c.args.number _
    (rests_at b (row_at number_in c.args.number c.self.inside.tokens) token c.in-Some.ensures.row here) c.forget.ensures

pub invariant_of-self-in-None : goal.invariant_of-self-in-None
invariant_of-self-in-None c = λ ascends.
    let b : Board = record { models = c.self.inside.models; cells = c.self.inside.cells; tokens = held_tokens c.self.inside.tokens; incidents = c.self.inside.incidents } in
    kept_looked_token _ _ _ _ _ _ _ (c.self.invariant ascends) c.args.number _
    (rests_nowhere b (row_at number_in c.args.number c.self.inside.tokens) c.in-None.ensures.row) c.forget-in-None.ensures

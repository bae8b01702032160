use Rattle.std.proofs.Common.{◌≡◌, [], ◌∷◌, ◌++◌, true, refl, ap, ◌∙◌}
use Rattle.std.specs.List.{list_any}
use Rattle.zb_groups.specs.declared.held.Held.{Held}
use Rattle.zb_tokens.specs.Board.{Board}
use Rattle.zb_tokens.specs.declared.board.Token.{Token}
use Rattle.zb_tokens.specs.MoveEnter.{stands_at}
use Rattle.zb_places.specs.Places.{held_tokens}
use Rattle.zb_board.proofs.ComingLemmas.{awaited_behind}
use Rattle.zb_board.proofs.IndexedLemmas.{kept_token}
use Rattle.zb_board.proofs.game.Game.add_behind.Goals as goal

pub invariant_of-self-2 : goal.invariant_of-self-2
invariant_of-self-2 c = λ ascends.
    let rows = c.self.inside.tokens in
    let token = c.args.token in
    let b : Board = record { models = c.self.inside.models; cells = c.self.inside.cells; tokens = held_tokens rows; incidents = c.self.inside.incidents } in
    let new : Held Token = record { number = c.in_ok-push.field-0; row = token } in
    let added : c.push.new.self ≡ rows ++ new ∷ [] = c.in_ok-push.ensures.row in
    let there : list_any (stands_at token.scope token.spot) b.tokens ≡ true = ap (λ (x : Board). list_any (stands_at token.scope token.spot) x.tokens) c.self.view_is ∙ c.requires in
    rw added (kept_token _ _ _ _ _ _ _ (c.self.invariant ascends) new c.self.inside.coming (rw (← added) c.push.ensures.order) refl (awaited_behind b new c.self.inside.coming c.self.inside.coming rows refl there))

use Rattle.std.proofs.Common.{option_map, ap, ◌∙◌}
use Rattle.std.specs.List.{find}
use Rattle.zb_tokens.specs.Board.{Board}
use Rattle.zb_tokens.specs.Forced.{can_enter}
use Rattle.zb_places.proofs.HeldLemmas.{number_in}
use Rattle.zb_pairs.proofs.FoundLemmas.{first_is_found}
use Rattle.zb_board.proofs.FirstLemmas.{read_first, read_none}
use Rattle.zb_board.proofs.game.Game.first_of_all.Goals as goal

pub returns-in-Some : goal.returns-in-Some
returns-in-Some c =
    let p = can_enter c.args.self.now in
    let rows = c.self.inside.tokens in
    c.get.ensures.row ∙ (read_first p rows c.in-Some.number c.in-Some.ensures.order (c.in-Some.ensures.first ∙ ap (option_map number_in) (first_is_found (λ h. p h.row) rows)) ∙ ap (λ (x : Board). find p x.tokens) c.self.view_is)

pub returns-in-None : goal.returns-in-None
returns-in-None c =
    let p = can_enter c.args.self.now in
    let rows = c.self.inside.tokens in
    read_none p rows (c.in-None.ensures.first ∙ ap (option_map number_in) (first_is_found (λ h. p h.row) rows)) ∙ ap (λ (x : Board). find p x.tokens) c.self.view_is

use Rattle.std.proofs.Common.{sym, ap, ◌∙◌}
use Rattle.zb_tokens.specs.Board.{Board}
use Rattle.zb_tokens.specs.Incidents.{incident_at, incident_on}
use Rattle.zb_board.proofs.IndexedLemmas.{incident_kept, none_kept}
use Rattle.zb_board.proofs.game.Game.incident_on.Goals as goal

pub returns-in-Some : goal.returns-in-Some
returns-in-Some c =
    c.incident.ensures
    ∙ (ap (λ (b : Board). incident_at b c.in-Some.key.now) (sym c.self.view_is)
    ∙ (incident_kept _ _ _ _ _ _ _ (c.self.invariant c.if-not-self.false) c.args.cell c.in-Some.key.now (sym c.in-Some.ensures.value)
    ∙ ap (λ (b : Board). incident_on b c.args.cell) c.self.view_is))

pub returns-in-None : goal.returns-in-None
returns-in-None c =
    sym (ap (λ (b : Board). incident_on b c.args.cell) (sym c.self.view_is) ∙ none_kept _ _ _ _ _ _ _ (c.self.invariant c.if-not-self.false) c.args.cell (sym c.in-None.ensures.value))

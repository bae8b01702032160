use Rattle.std.proofs.Common.{◌≡◌, true, ap, ◌∙◌, rules}
use Rattle.zb_table.specs.Rows.{are_below}
use Rattle.zb_tokens.specs.Board.{Board}
use Rattle.zb_tokens.specs.Incidents.{incident_on}
use Rattle.zb_tokens.specs.declared.board.Incident.{Incident}
use Rattle.zb_board.proofs.IndexedLemmas.{kept_raised}
use Rattle.zb_board.proofs.game.Game.raise.Goals as goal
use Rattle.zb_board.proofs.game.Game.raise.Goals.{then-self, else-self}

pub invariant_of-self-2 : goal.invariant_of-self-2
invariant_of-self-2 c = λ ascends. elim c.if-self.branch [
  | then-self w ↦
      let i = c.args.i in
      let alone : w.comes_alone-ascends.result ≡ true = search rules in
      let below = ap (λ (b : Board). are_below (λ (x : Incident). x.key) i.key b.incidents) c.self.view_is ∙ w.comes_alone-ascends.ensures.below alone in
      let free = ap (λ (b : Board). incident_on b i.cell) c.self.view_is ∙ w.comes_alone-ascends.ensures.alone alone in
      rw c.in_ok-push.ensures.added (kept_raised _ _ _ _ _ _ _ (c.self.invariant w.if-self.true) i _ below free c.in_ok-insert.ensures.updates.0)
  | else-self w ↦ absurd (search rules)
]

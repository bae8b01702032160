use Rattle.std.proofs.Common.{◌≡◌, ℕ, ◌==◌, ◌&&◌, false, cond, sym, ap, ◌∙◌, rules}
use Rattle.std.specs.List.{find, list_any}
use Rattle.zb_pairs.specs.Pairs.{has_pair}
use Rattle.zb_groups.specs.declared.held.Held.{Held}
use Rattle.zb_tokens.specs.declared.board.Cell.{Cell}
use Rattle.zb_tokens.specs.declared.board.Token.{Token}
use Rattle.zb_tokens.specs.Board.{Board, cell_at}
use Rattle.zb_places.specs.Places.{held_tokens}
use Rattle.zb_places.proofs.HeldLemmas.{any_row, none_passing}
use Rattle.zb_arrivals.proofs.EditLemmas.{mapped_from}
use Rattle.zb_arrivals.proofs.SplitLemmas.{or_kept}
use Rattle.zb_board.specs.Searches.{has_token}
use Rattle.zb_board.proofs.EditedLemmas.{there}
use Rattle.zb_board.proofs.IndexedLemmas.{kept_away}
use Rattle.zb_board.proofs.game.Game.take_out.Goals as goal
use Rattle.zb_board.proofs.game.Game.take_out.Goals.{then-self, else-self}

pub invariant_of-self-2 : goal.invariant_of-self-2
invariant_of-self-2 c = λ ascends. elim c.if-self.branch [
  | then-self w ↦
      let r = mapped_from (λ (x : Cell). x.scope) (cell_at c.args.self.now c.args.key) c.args.around c.requires in
      let cell = r.0 in
      let around : cell.scope ≡ c.args.around = r.2 in
      let cells = c.self.inside.cells in
      let its = there cells c.args.key cell (ap (λ (b : Board). find (λ (x : Cell). x.key == c.args.key) b.cells) c.self.view_is ∙ r.1) in
      let kept = c.self.invariant w.if-self.true in
      let fewer : (s k : ℕ) → has_pair c.note_gone.new.children s k ≡ cond ((c.args.around == s) && (c.args.key == k)) false (has_pair c.self.inside.children s k) = c.in_ok-none_left.ensures.fewer in
      let none : w.has_token.result ≡ false = search rules in
      let nobody : list_any (λ (t : Token). t.scope == c.args.key) (held_tokens c.self.inside.tokens) ≡ false = ap (λ (b : Board). has_token b c.args.key) c.self.view_is ∙ (sym w.has_token.ensures ∙ none) in
      let empty = none_passing (λ (h : Held Token). h.row.scope == c.args.key) c.self.inside.tokens (sym (any_row (λ (t : Token). t.scope == c.args.key) c.self.inside.tokens) ∙ nobody) in
      let left = c.remove.ensures ∙ ap (λ o. or_kept o cells) its.gone in
      rw left (kept_away _ _ _ _ _ _ _ kept its.place cell _ _ _ its.within its.at (rw (around, its.own) fewer) c.in_ok-none_left.ensures.order
      (rw its.own c.in_ok-none_left.ensures.ready) (rw its.own c.in_ok-none_left.ensures.calling) (rw (around, its.own) c.in_ok-none_left.ensures.woken) (rw its.own empty))
  | else-self w ↦ absurd (search rules)
]

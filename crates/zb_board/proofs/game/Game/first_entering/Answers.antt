use Rattle.std.proofs.Common.{ap, subst, ◌∙◌, rules}
use Rattle.std.specs.Bool.{IsTrue}
use Rattle.std.specs.List.{find}
use Rattle.std.proofs.lemmas.Iterator.Adapters.{option_map_id}
use Rattle.zb_tokens.specs.Board.{Board}
use Rattle.zb_tokens.specs.Forced.{can_enter}
use Rattle.zb_board.proofs.ComingLemmas.{IsAwaited}
use Rattle.zb_board.proofs.FirstLemmas.{all_waiting, first_coming, read_first, read_none}
use Rattle.zb_board.proofs.game.Game.first_entering.Goals as goal

pub returns-in-Some : goal.returns-in-Some
returns-in-Some c =
    let b = c.args.self.now in
    let rows = c.self.inside.tokens in
    let coming = c.self.inside.coming in
    let ascends : IsTrue c.self.inside.ascends = search rules in
    let awaited = subst (λ (x : Board). IsAwaited x rows coming) c.self.view_is (c.self.invariant ascends).awaited in
    let first = first_coming (can_enter b) rows coming (c.self.invariant ascends).tokens_ascend c.in-Some.ensures.order (all_waiting b coming rows awaited) in
    c.get.ensures.row ∙ (read_first (can_enter b) rows c.in-Some.number (c.self.invariant ascends).tokens_ascend (c.in-Some.ensures.key ∙ (option_map_id _ ∙ first)) ∙ ap (λ (x : Board). find (can_enter b) x.tokens) c.self.view_is)

pub returns-in-None : goal.returns-in-None
returns-in-None c =
    let b = c.args.self.now in
    let rows = c.self.inside.tokens in
    let coming = c.self.inside.coming in
    let ascends : IsTrue c.self.inside.ascends = search rules in
    let awaited = subst (λ (x : Board). IsAwaited x rows coming) c.self.view_is (c.self.invariant ascends).awaited in
    let first = first_coming (can_enter b) rows coming (c.self.invariant ascends).tokens_ascend c.in-None.ensures.order (all_waiting b coming rows awaited) in
    read_none (can_enter b) rows (c.in-None.ensures.key ∙ (option_map_id _ ∙ first)) ∙ ap (λ (x : Board). find (can_enter b) x.tokens) c.self.view_is

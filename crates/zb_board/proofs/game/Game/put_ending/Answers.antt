use Rattle.std.proofs.Common.{◌≡◌, ◌==◌, is_none, true, false, refl, ap, ◌∙◌, rules}
use Rattle.std.specs.List.{find}
use Rattle.zb_tokens.specs.Board.{Board}
use Rattle.zb_tokens.specs.declared.board.Cell.{Cell}
use Rattle.zb_tokens.specs.MoveLeave.{with_end}
use Rattle.zb_arrivals.proofs.EditLemmas.{found_none}
use Rattle.zb_arrivals.proofs.SplitLemmas.{or_kept}
use Rattle.zb_board.proofs.EditedLemmas.{none_there, some_there}
use Rattle.zb_tokens.specs.Doom.{calls_off}
use Rattle.zb_board.proofs.EndingLemmas.{below_met, or_true}
use Rattle.zb_board.proofs.IndexedLemmas.{kept_within}
use Rattle.zb_board.proofs.game.Game.put_ending.Goals as goal

pub returns-then-is_none : goal.returns-then-is_none
returns-then-is_none c =
    let cells = c.args.self.now.cells in
    let none : is_none (find (λ (x : Cell). x.key == c.args.key) cells) ≡ true = search rules in
    rw ((found_none (λ (x : Cell). x.key == c.args.key) cells (none_there cells c.args.key none)).1 with_end) refl

pub invariant_of-self-2 : goal.invariant_of-self-2
invariant_of-self-2 c = λ ascends.
    let cells = c.self.inside.cells in
    let found : is_none (find (λ (x : Cell). x.key == c.args.key) c.args.self.now.cells) ≡ false = search rules in
    let r = some_there cells c.args.key (ap (λ (b : Board). is_none (find (λ (x : Cell). x.key == c.args.key) b.cells)) c.self.view_is ∙ found) in
    let cell = r.0 in
    let its = r.1 in
    let kept = c.self.invariant ascends in
    let made = c.in_ok-edit.ensures ∙ ap (λ o. or_kept o cells) (its.made with_end) in
    rw made (kept_within _ _ _ _ _ _ _ kept its.place cell cell.variables true true _ _ its.within its.at c.in_ok-call_off.ensures.still c.in_ok-call_off.ensures.others
    (λ is. or_true (calls_off cell)) (λ _. below_met _ _ cell.key _ kept.cells_ascend kept.newer kept.children_right (rw its.own c.in_ok-call_off.ensures.woken))
    (λ _. rw its.own c.in_ok-call_off.ensures.noted))

pub returns : goal.returns
returns c =
    let cells = c.self.inside.cells in
    let found : is_none (find (λ (x : Cell). x.key == c.args.key) c.args.self.now.cells) ≡ false = search rules in
    let r = some_there cells c.args.key (ap (λ (b : Board). is_none (find (λ (x : Cell). x.key == c.args.key) b.cells)) c.self.view_is ∙ found) in
    let its = r.1 in
    let made = its.made with_end in
    rw (← c.self.view_is, c.in_ok-edit.ensures, made) refl

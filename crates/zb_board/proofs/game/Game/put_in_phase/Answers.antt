use Rattle.std.proofs.Common.{◌≡◌, ℕ, ◌==◌, is_none, true, false, refl, ap, ◌∙◌, rules}
use Rattle.std.specs.List.{find}
use Rattle.zb_tokens.specs.declared.board.Phase.TheVariants as phases
use Rattle.zb_tokens.specs.Board.{Board, in_phase, is_phase}
use Rattle.zb_tokens.specs.declared.board.Cell.{Cell}
use Rattle.zb_arrivals.proofs.EditLemmas.{found_none}
use Rattle.zb_arrivals.proofs.SplitLemmas.{or_kept}
use Rattle.zb_board.proofs.EditedLemmas.{none_there, some_there}
use Rattle.zb_board.specs.Indexed.{is_kept}
use Rattle.zb_board.proofs.EndingLemmas.{below_met, calls_by}
use Rattle.zb_board.proofs.RestLemmas.{calling_on}
use Rattle.zb_board.proofs.IndexedLemmas.{kept_changed, calls_as}
use Rattle.zb_board.proofs.game.Game.put_in_phase.Goals as goal

pub returns-then-is_none-clause-none : goal.returns-then-is_none-clause-none
returns-then-is_none-clause-none c = λ _.
    let cells = c.args.self.now.cells in
    let none : is_none (find (λ (x : Cell). x.key == c.args.key) cells) ≡ true = search rules in
    (found_none (λ (x : Cell). x.key == c.args.key) cells (none_there cells c.args.key none)).1 (in_phase c.args.phase c.args.owed)

pub invariant_of-self-2 : goal.invariant_of-self-2
invariant_of-self-2 c = λ ascends.
    let cells = c.self.inside.cells in
    let kept = c.self.invariant ascends in
    let found : is_none (find (λ (x : Cell). x.key == c.args.key) c.args.self.now.cells) ≡ false = search rules in
    let r = some_there cells c.args.key (ap (λ (b : Board). is_none (find (λ (x : Cell). x.key == c.args.key) b.cells)) c.self.view_is ∙ found) in
    let cell = r.0 in
    let its = r.1 in
    let calls : (k : ℕ) → is_kept c.self.inside.calling k ≡ true → is_kept c.note_phase.new.calling k ≡ true = c.in_ok-note_phase.ensures.others in
    let still : (k : ℕ) → is_kept c.self.inside.ready k ≡ true → is_kept c.note_phase.new.ready k ≡ true = λ k is. c.in_ok-note_phase.ensures.still k (c.in_ok-keep.ensures.others k is) in
    let own : is_kept c.note_phase.new.ready c.args.key ≡ true = c.in_ok-note_phase.ensures.still c.args.key c.in_ok-keep.ensures.kept in
    let off = is_phase c.args.phase phases.Terminating in
    let made = c.in_ok-edit.ensures ∙ ap (λ o. or_kept o cells) (its.made (in_phase c.args.phase c.args.owed)) in
    rw made (kept_changed _ _ _ _ _ _ _ kept its.place cell (in_phase c.args.phase c.args.owed cell) off _ _ its.within its.at refl refl refl still calls
    (calls_by off (is_phase cell.phase phases.Terminating) cell.ending)
    (λ is. below_met _ _ cell.key _ kept.cells_ascend kept.newer kept.children_right (rw its.own (c.in_ok-note_phase.ensures.woken is)))
    (λ moves. rw its.own own) (λ ends. rw its.own own)
    (calling_on _ _ cell c.args.phase c.args.owed calls (rw its.own c.in_ok-note_phase.ensures.noted) (calls_as _ _ _ _ _ _ _ kept its.place cell its.within its.at)))

pub returns-clause-put : goal.returns-clause-put
returns-clause-put c =
    let cells = c.self.inside.cells in
    let found : is_none (find (λ (x : Cell). x.key == c.args.key) c.args.self.now.cells) ≡ false = search rules in
    let r = some_there cells c.args.key (ap (λ (b : Board). is_none (find (λ (x : Cell). x.key == c.args.key) b.cells)) c.self.view_is ∙ found) in
    let its = r.1 in
    let made = its.made (in_phase c.args.phase c.args.owed) in
    rw (← c.self.view_is, c.in_ok-edit.ensures, made) refl

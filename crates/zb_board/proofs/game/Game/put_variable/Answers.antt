use Rattle.std.proofs.Common.{◌≡◌, ◌==◌, is_none, true, false, refl, ap, ◌∙◌, rules}
use Rattle.std.specs.List.{find}
use Rattle.zb_tokens.specs.Board.{Board}
use Rattle.zb_tokens.specs.declared.board.Cell.{Cell}
use Rattle.zb_tokens.specs.MoveAssign.{with_variable}
use Rattle.zb_arrivals.proofs.EditLemmas.{found_none}
use Rattle.zb_arrivals.proofs.SplitLemmas.{or_kept}
use Rattle.zb_board.proofs.EditedLemmas.{none_there, some_there}
use Rattle.zb_board.proofs.IndexedLemmas.{kept_within, calls_as}
use Rattle.zb_board.proofs.game.Game.put_variable.Goals as goal

pub returns-then-is_none-clause-none : goal.returns-then-is_none-clause-none
returns-then-is_none-clause-none c = λ _.
    let cells = c.args.self.now.cells in
    let none : is_none (find (λ (x : Cell). x.key == c.args.key) cells) ≡ true = search rules in
    (found_none (λ (x : Cell). x.key == c.args.key) cells (none_there cells c.args.key none)).1 (with_variable c.args.name c.args.value)

pub invariant_of-self-2 : goal.invariant_of-self-2
invariant_of-self-2 c = λ ascends.
    let cells = c.self.inside.cells in
    let kept = c.self.invariant ascends in
    let found : is_none (find (λ (x : Cell). x.key == c.args.key) c.args.self.now.cells) ≡ false = search rules in
    let r = some_there cells c.args.key (ap (λ (b : Board). is_none (find (λ (x : Cell). x.key == c.args.key) b.cells)) c.self.view_is ∙ found) in
    let cell = r.0 in
    let its = r.1 in
    let made = c.in_ok-edit.ensures ∙ ap (λ o. or_kept o cells) (its.made (with_variable c.args.name c.args.value)) in
    rw made (kept_within _ _ _ _ _ _ _ kept its.place cell (with_variable c.args.name c.args.value cell).variables cell.ending false _ _ its.within its.at (λ k is. is) (λ k is. is) (λ is. rw is refl) (λ is. absurd (cc)) (calls_as _ _ _ _ _ _ _ kept its.place cell its.within its.at))

pub returns-clause-put : goal.returns-clause-put
returns-clause-put c =
    let cells = c.self.inside.cells in
    let found : is_none (find (λ (x : Cell). x.key == c.args.key) c.args.self.now.cells) ≡ false = search rules in
    let r = some_there cells c.args.key (ap (λ (b : Board). is_none (find (λ (x : Cell). x.key == c.args.key) b.cells)) c.self.view_is ∙ found) in
    let its = r.1 in
    let made = its.made (with_variable c.args.name c.args.value) in
    rw (← c.self.view_is, c.in_ok-edit.ensures, made) refl

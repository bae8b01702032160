use Rattle.std.proofs.Common.{◌≡◌, ℕ, ◌==◌, is_none, true, false, refl, ap, ◌∙◌, rules}
use Rattle.std.specs.List.{find}
use Rattle.std.proofs.lemmas.Bool.{or_left}
use Rattle.zb_tokens.specs.Board.{Board}
use Rattle.zb_tokens.specs.declared.board.Cell.{Cell}
use Rattle.zb_tokens.specs.Doom.{calls_off}
use Rattle.zb_arrivals.proofs.EditLemmas.{found_none}
use Rattle.zb_arrivals.proofs.SplitLemmas.{or_kept}
use Rattle.zb_board.specs.Indexed.{is_kept}
use Rattle.zb_board.proofs.EditedLemmas.{none_there, some_there}
use Rattle.zb_board.proofs.IndexedLemmas.{kept_changed, calls_as}
use Rattle.zb_board.proofs.game.Game.change.Goals as goal

pub returns-then-is_none-clause-none : goal.returns-then-is_none-clause-none
returns-then-is_none-clause-none g c = λ _.
    let cells = c.args.self.now.cells in
    let none : is_none (find (λ (x : Cell). x.key == c.args.key) cells) ≡ true = search rules in
    (found_none (λ (x : Cell). x.key == c.args.key) cells (none_there cells c.args.key none)).1 (g.E.Edit.edits c.args.edit)

pub invariant_of-self-2 : goal.invariant_of-self-2
invariant_of-self-2 g c = λ ascends.
    let cells = c.self.inside.cells in
    let kept = c.self.invariant ascends in
    let found : is_none (find (λ (x : Cell). x.key == c.args.key) c.args.self.now.cells) ≡ false = search rules in
    let r = some_there cells c.args.key (ap (λ (b : Board). is_none (find (λ (x : Cell). x.key == c.args.key) b.cells)) c.self.view_is ∙ found) in
    let cell = r.0 in
    let its = r.1 in
    let made = c.in_ok-edit.ensures ∙ ap (λ o. or_kept o cells) (its.made (g.E.Edit.edits c.args.edit)) in
    let edit = g.E.Edit.edits c.args.edit in
    let stays = c.requires cell in
    rw made (kept_changed _ _ _ _ _ _ _ kept its.place cell (edit cell) false _ _ its.within its.at stays.key stays.scope stays.definition
    c.in_ok-keep.ensures.others (λ k is. is) (λ is. or_left (calls_off cell) false (stays.calls is)) (λ is. absurd (cc)) (λ moves. rw (stays.key, its.own) c.in_ok-keep.ensures.kept) (λ ends. rw (stays.key, its.own) c.in_ok-keep.ensures.kept)
    (λ calls. ap (λ (k : ℕ). is_kept c.self.inside.calling k) stays.key ∙ calls_as _ _ _ _ _ _ _ kept its.place cell its.within its.at (stays.calls calls)))

pub returns-clause-put : goal.returns-clause-put
returns-clause-put g c =
    let cells = c.self.inside.cells in
    let found : is_none (find (λ (x : Cell). x.key == c.args.key) c.args.self.now.cells) ≡ false = search rules in
    let r = some_there cells c.args.key (ap (λ (b : Board). is_none (find (λ (x : Cell). x.key == c.args.key) b.cells)) c.self.view_is ∙ found) in
    let its = r.1 in
    let made = its.made (g.E.Edit.edits c.args.edit) in
    rw (← c.self.view_is, c.in_ok-edit.ensures, made) refl

use Rattle.std.proofs.Common.{List, is_some, refl, sym, ap, ◌∙◌}
use Rattle.std.specs.List.{find}
use Rattle.zb_arrivals.proofs.EditLemmas.{found_none}
use Rattle.zb_tokens.specs.declared.board.Cell.{Cell}
use Rattle.zb_tokens.specs.Board.{leaves_in}
use Rattle.zb_board.proofs.LeavingLemmas.{first_leaving, found_leaving, now_up}
use Rattle.zb_board.proofs.TallyLemmas.{unmapped}
use Rattle.zb_board.proofs.game.Game.take_one_leaving.Goals as goal

pub take_out-requires : goal.take_out-requires
take_out-requires c =
    let kept = c.self.invariant c.if-not-self.false in
    let keys = c.first_under_that.ensures in
    let found = found_leaving _ _ c.self.view_is c.self.inside.children kept.children_right kept.cells_ascend c.args.scope keys.order _ c.in-Some.ensures.key in
    let ascend = now_up _ _ c.self.view_is c.self.inside.children kept.children_right kept.cells_ascend c.args.scope keys.order _ c.in-Some.ensures.key in
    (first_leaving c.args.self.now c.args.scope c.in-Some.key ascend found).around

pub returns-in_ok-take_out-in-Some-clause-one : goal.returns-in_ok-take_out-in-Some-clause-one
returns-in_ok-take_out-in-Some-clause-one c =
    let kept = c.self.invariant c.if-not-self.false in
    let keys = c.first_under_that.ensures in
    let found = found_leaving _ _ c.self.view_is c.self.inside.children kept.children_right kept.cells_ascend c.args.scope keys.order _ c.in-Some.ensures.key in
    let ascend = now_up _ _ c.self.view_is c.self.inside.children kept.children_right kept.cells_ascend c.args.scope keys.order _ c.in-Some.ensures.key in
    sym (ap is_some (first_leaving c.args.self.now c.args.scope c.in-Some.key ascend found).found)

pub returns-in_ok-take_out-in-Some-clause-left : goal.returns-in_ok-take_out-in-Some-clause-left
returns-in_ok-take_out-in-Some-clause-left c =
    let kept = c.self.invariant c.if-not-self.false in
    let keys = c.first_under_that.ensures in
    let found = found_leaving _ _ c.self.view_is c.self.inside.children kept.children_right kept.cells_ascend c.args.scope keys.order _ c.in-Some.ensures.key in
    let ascend = now_up _ _ c.self.view_is c.self.inside.children kept.children_right kept.cells_ascend c.args.scope keys.order _ c.in-Some.ensures.key in
    c.in_ok-take_out-in-Some.ensures ∙ ap (λ (cs : List Cell). record c.args.self.now { cells = cs }) (first_leaving c.args.self.now c.args.scope c.in-Some.key ascend found).gone

pub returns-in-None-clause-one : goal.returns-in-None-clause-one
returns-in-None-clause-one c =
    let kept = c.self.invariant c.if-not-self.false in
    let keys = c.first_under_that.ensures in
    let found = found_leaving _ _ c.self.view_is c.self.inside.children kept.children_right kept.cells_ascend c.args.scope keys.order _ c.in-None.ensures.key in
    sym (ap is_some (unmapped (λ (x : Cell). x.key) (find (leaves_in c.args.scope) c.args.self.now.cells) found))

pub returns-in-None-clause-left : goal.returns-in-None-clause-left
returns-in-None-clause-left c =
    let kept = c.self.invariant c.if-not-self.false in
    let keys = c.first_under_that.ensures in
    let found = found_leaving _ _ c.self.view_is c.self.inside.children kept.children_right kept.cells_ascend c.args.scope keys.order _ c.in-None.ensures.key in
    let none = (found_none (leaves_in c.args.scope) c.args.self.now.cells (unmapped (λ (x : Cell). x.key) (find (leaves_in c.args.scope) c.args.self.now.cells) found)).0 in
    rw none refl

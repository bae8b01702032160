use Rattle.std.proofs.Common.{◌≡◌, not, true, false, Option, IfOk, sym, ap, subst, ◌∙◌}
use Rattle.zb_model.specs.declared.record.Rejection.{Rejection}
use Rattle.zb_views.specs.Definitions.{definitions}
use Rattle.zb_step.proofs.OwnLemmas.{create_reason}
use Rattle.zb_step.proofs.create.reason.Goals as goal

pub returns-then-has_message_start : goal.returns-then-has_message_start
returns-then-has_message_start c = λ es is.
    let command = c.args.command.now in
    let keeps = c.definitions-definitions.ensures es is in
    let latest = rw c.as_str-process.ensures at (c.definition_for.ensures (definitions es) keeps) in
    let asked = rw c.as_str-process.ensures at (c.in-Some.ensures (definitions es) keeps) in
    let some = c.is_none.ensures ∙ ap not c.if-is_none.false in
    let starts = sym c.if-has_message_start.true ∙ c.has_message_start.ensures es is in
    subst (λ (r : Option Rejection). IfOk c.message_started.result (λ rejection. rejection ≡ r)) (sym (create_reason es command c.definition_for.result c.in-Some.asked latest some asked true starts))
    (rw c.as_str-process.ensures at c.message_started.ensures)

pub returns : goal.returns
returns c = λ es is.
    let command = c.args.command.now in
    let keeps = c.definitions-definitions.ensures es is in
    let latest = rw c.as_str-process.ensures at (c.definition_for.ensures (definitions es) keeps) in
    let asked = rw c.as_str-process.ensures at (c.in-Some.ensures (definitions es) keeps) in
    let some = c.is_none.ensures ∙ ap not c.if-is_none.false in
    let starts = sym c.if-has_message_start.false ∙ c.has_message_start.ensures es is in
    sym (create_reason es command c.definition_for.result c.in-Some.asked latest some asked false starts)

use Rattle.std.proofs.Common.{◌≡◌, List, Some, map, filter, sym, ap, subst, ◌∙◌}
use Rattle.zb_exchange_records.specs.declared.message.MessagePublished.{MessagePublished}
use Rattle.zb_model.specs.declared.record.Event.{Event}
use Rattle.zb_views.specs.Messages.{buffered}
use Rattle.zb_lists.proofs.ListedLemmas.{keys_listed}
use Rattle.zb_state.specs.declared.facts.Facts.{Facts}
use Rattle.zb_tables.specs.Messages.{is_addressed}
use Rattle.zb_state.specs.State.{IsStateOf}
use Rattle.zb_state.proofs.state.State.messages_of.Goals as goal

pub returns : goal.returns
returns c =
    let name = c.args.name.now in
    let correlation_key = c.args.correlation_key.now in
    subst (λ (f : Facts). (es : List Event) → IsStateOf es f → c.labelled.result.now ≡ map (λ m. m.key) (filter (is_addressed name correlation_key) (buffered es))) c.self.view_is
    (λ es is.
    keys_listed (λ (m : MessagePublished). m.key) (λ m. Some m.deadline) (λ m. Some (m.name, m.correlation_key)) c.self.inside.facts.messages c.self.inside.listing.messages name correlation_key c.labelled.result.now
    c.self.invariant.ascend c.self.invariant.rows.messages_listed c.labelled.ensures.keys c.labelled.ensures.order ∙ ap (λ (ms : List MessagePublished). map (λ (m : MessagePublished). m.key) (filter (is_addressed name correlation_key) ms)) (sym is.messages))

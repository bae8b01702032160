use Rattle.std.proofs.Common.{◌==◌, ◌&&◌, nat_le, Option, ℕ, List, false, is_some, ap, ◌∙◌}
use Rattle.std.specs.List.{list_any}
use Rattle.std.specs.Option.{option_map_or}
use Rattle.zb_exchange_records.specs.declared.message.MessagePublished.{MessagePublished}
use Rattle.zb_views.specs.Messages.{is_past_deadline}
use Rattle.zb_tables.proofs.MessageLemmas.{has_by_deadline, due_by_deadline}
use Rattle.zb_tables.proofs.messages.Messages.deadline_of.Goals as goal

pub returns-clause-buffered : goal.returns-clause-buffered
returns-clause-buffered c =
    ap is_some c.deadline_among.ensures.deadline
    ∙ (has_by_deadline c.args.key c.self.inside.rows ∙ ap (λ (ms : List MessagePublished). list_any (λ m. m.key == c.args.key) ms) c.self.view_is)

pub returns-clause-due : goal.returns-clause-due
returns-clause-due c = λ moment.
    ap (λ (found : Option ℕ). option_map_or (λ deadline. nat_le deadline moment) found false) c.deadline_among.ensures.deadline
    ∙ (due_by_deadline moment c.args.key c.self.inside.rows c.deadline_among.ensures.order
    ∙ ap (λ (ms : List MessagePublished). list_any (λ m. (m.key == c.args.key) && is_past_deadline moment m) ms) c.self.view_is)

use Rattle.std.proofs.Common.{List, ap, ◌∙◌}
use Rattle.std.specs.List.{list_any}
use Rattle.zb_views.specs.Distributions.{is_that}
use Rattle.zb_record.specs.declared.sending.Sending.{Sending}
use Rattle.zb_record.specs.Sendings.{distributions_sent}
use Rattle.zb_outbox.proofs.KeyLaws.{any_to_key}
use Rattle.zb_outbox.proofs.outbox.Outbox.is_sent_to.Goals as goal

pub returns : goal.returns
returns c =
    c.any_under.ensures ∙ (any_to_key c.args.definition c.args.partition c.self.inside.sent ∙ ap (λ (ss : List Sending). list_any (is_that c.args.definition c.args.partition) (distributions_sent ss)) c.self.view_is)

use Rattle.std.proofs.Common.{◌==◌, List, ap, ◌∙◌}
use Rattle.std.specs.List.{list_any}
use Rattle.zb_record.specs.declared.sending.Sending.{Sending}
use Rattle.zb_record.specs.Sendings.{distributions_sent}
use Rattle.zb_outbox.proofs.KeyLaws.{any_of_key}
use Rattle.zb_outbox.proofs.outbox.Outbox.is_sent.Goals as goal

pub returns : goal.returns
returns c =
    c.any_under.ensures ∙ (any_of_key c.args.definition c.self.inside.sent ∙ ap (λ (ss : List Sending). list_any (λ d. d.definition == c.args.definition) (distributions_sent ss)) c.self.view_is)

use Rattle.std.proofs.Common.{Bool, filter, not, sym, ap, ◌∙◌}
use Rattle.zb_record.specs.declared.sending.Sending.{Sending}
use Rattle.zb_record.specs.Sendings.{ends_sending}
use Rattle.zb_outbox.proofs.KeyLaws.{ended_key, none_ended}
use Rattle.zb_outbox.proofs.outbox.Outbox.end.Goals as goal

pub returns-in-Some : goal.returns-in-Some
returns-in-Some c =
    let e = c.args.event.now in
    c.end_under.ensures ∙ (ap (λ (passes : Sending → Bool). filter (λ s. not (passes s)) c.self.inside.sent) (ended_key e c.in-Some.key (sym c.in-Some.ensures))
    ∙ ap (filter (λ s. not (ends_sending e s))) c.self.view_is)

pub returns-in_default : goal.returns-in_default
returns-in_default c = sym (none_ended c.args.event.now c.args.self.now (sym c.in_default.ensures))

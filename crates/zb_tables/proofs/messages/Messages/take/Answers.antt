use Rattle.std.proofs.Common.{◌≡◌, ◌==◌, None, filter, not, false, refl, sym, ap, ◌∙◌, rules}
use Rattle.std.specs.Option.{option_map_or}
use Rattle.std.proofs.lemmas.Result.{on_ok_weaker}
use Rattle.zb_exchange_records.specs.declared.message.MessagePublished.{MessagePublished}
use Rattle.zb_model.specs.declared.record.Event.{Event}
use Rattle.zb_model.specs.declared.record.Event.TheVariants as events
use Rattle.zb_views.specs.Messages.{message_told, expiry_told}
use Rattle.zb_tables.proofs.MessageLemmas.{published, expired}
use Rattle.zb_tables.proofs.messages.Messages.take.Goals as goal

pub returns-in-MessagePublished-clause-ok : goal.returns-in-MessagePublished-clause-ok
returns-in-MessagePublished-clause-ok c = λ before.
    on_ok_weaker c.add.result (λ is. is ∙ sym (published before c.args.event c.args.self.now c.in-MessagePublished.message (ap message_told c.in-MessagePublished.is))) c.add.ensures.ok

-- any other event publishes none
unpublished : (e : Event) → ((m : MessagePublished) → e ≡ events.MessagePublished m → ⊥) → message_told e ≡ None
unpublished (events.MessagePublished m) other = absurd (other m refl)
unpublished e other = refl

pub returns-in_default : goal.returns-in_default
returns-in_default c =
    let none : message_told c.args.event ≡ None = unpublished c.args.event c.in_default.not-MessagePublished in
    let key : c.expiry_in.result ≡ expiry_told c.args.event = search rules in
    record {
      ok = λ before. (c.end.ensures ∙ ap (λ found. filter (λ m. not (option_map_or (λ k. m.key == k) found false)) c.args.self.now) key) ∙ sym (expired before c.args.event c.args.self.now none);
      err = tt;
    }

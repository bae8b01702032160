use Rattle.std.proofs.Common.{◌≡◌, Some, sym, ◌∙◌, rules}
use Rattle.std.proofs.lemmas.Result.{on_ok_weaker}
use Rattle.zb_views.specs.Messages.{message_told}
use Rattle.zb_tables.proofs.MessageLemmas.{published}
use Rattle.zb_tables.proofs.messages.Messages.apply.Goals as goal

pub returns-in-Ok-clause-ok : goal.returns-in-Ok-clause-ok
returns-in-Ok-clause-ok c = λ before.
    let told : message_told c.args.event.now ≡ Some c.in-Ok.message = search rules in
    on_ok_weaker c.add.result (λ is. is ∙ sym (published before c.args.event.now c.args.self.now c.in-Ok.message told)) c.add.ensures.ok

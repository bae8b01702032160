use Rattle.zb_step.proofs.expire.reason.Goals as goal

pub returns-in-Some : goal.returns-in-Some
returns-in-Some c = λ es is. rw (c.messages.ensures es is, ← c.in-Some.ensures.buffered, ← c.in-Some.ensures.due c.args.moment) c.reason_to_wait.ensures

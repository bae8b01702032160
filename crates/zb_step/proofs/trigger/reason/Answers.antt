use Rattle.zb_step.proofs.trigger.reason.Goals as goal

pub returns-in-Some : goal.returns-in-Some
returns-in-Some c = λ es is. rw (c.timers.ensures es is, ← c.in-Some.ensures.timer) (c.reason_to_hold.ensures es is)

pub returns-in-None : goal.returns-in-None
returns-in-None c = λ es is. rw (c.timers.ensures es is, ← c.in-None.ensures.timer) c.no_such.ensures

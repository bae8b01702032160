use Rattle.zb_step.proofs.time_out.reason.Goals as goal

pub returns-in-Some : goal.returns-in-Some
returns-in-Some c = λ es is. rw (c.jobs.ensures es is, ← c.in-Some.ensures.job) c.reason_to_keep.ensures

pub returns-in-None : goal.returns-in-None
returns-in-None c = λ es is. rw (c.jobs.ensures es is, ← c.in-None.ensures.job) c.no_such.ensures

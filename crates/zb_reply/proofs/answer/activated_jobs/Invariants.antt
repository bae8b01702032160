use Rattle.std.proofs.Common.{◌≡◌, ◌++◌, drop}
use Rattle.std.specs.List.{filter_map}
use Rattle.zb_reply.specs.Reply.{activated_job}
use Rattle.zb_reply.proofs.answer.activated_jobs.Given as goal

-- the jobs so far, and then those of the events that are left
abbrev pub invariant-loop-event : goal.invariant-loop-event
invariant-loop-event l = l.jobs ++ filter_map activated_job (drop l.event-index l.events) ≡ filter_map activated_job l.events

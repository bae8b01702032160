use Rattle.std.proofs.Common.{◌≡◌, drop}
use Rattle.zb_wire.specs.First.{first_told}
use Rattle.zb_reply.proofs.answer.first_told.Given as goal

-- the events that are left decide
abbrev pub invariant-loop-event : goal.invariant-loop-event
invariant-loop-event g l = first_told g.A.Answering.answer l.events ≡ first_told g.A.Answering.answer (drop l.event-index l.events)

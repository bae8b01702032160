-- Which events may show a move of the game.
use Rattle.std.specs.Prelude.{Bool, true, false}
use Rattle.zb_model.specs.declared.record.Event.{Event}
use Rattle.zb_model.specs.declared.record.Event.TheVariants as events

-- an event may show a move of the game
abbrev pub may_show : Event → Bool
may_show (events.ProcessCreated e) = true
may_show (events.ElementActivating e) = true
may_show (events.ElementActivated e) = true
may_show (events.ElementCompleting key) = true
may_show (events.ElementCompleted e) = true
may_show (events.ElementTerminating key) = true
may_show (events.ElementTerminated key) = true
may_show (events.SequenceFlowTaken e) = true
may_show (events.JobCompleted key) = true
may_show (events.JobErrorThrown e) = true
may_show (events.ProcessEventTriggered e) = true
may_show (events.VariableCreated e) = true
may_show (events.VariableUpdated e) = true
may_show (events.IncidentCreated e) = true
may_show (events.IncidentResolved e) = true
may_show _ = false

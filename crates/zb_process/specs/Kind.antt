-- The bytes of the kinds of nodes.
use Rattle.std.specs.Prelude.{ℕ, List, [], ◌∷◌}
use Rattle.zb_process.specs.declared.model.NodeKind.{NodeKind}
use Rattle.zb_process.specs.declared.model.NodeKind.TheVariants as kinds

-- the byte of a node's kind
abbrev pub kind_byte : NodeKind → ℕ
kind_byte kinds.StartEvent = 2
kind_byte kinds.MessageStartEvent = 3
kind_byte kinds.EndEvent = 4
kind_byte kinds.TerminateEndEvent = 5
kind_byte kinds.CompensationEndEvent = 6
kind_byte kinds.ServiceTask = 7
kind_byte kinds.ReceiveTask = 8
kind_byte kinds.SubProcess = 9
kind_byte kinds.ExclusiveGateway = 10
kind_byte kinds.ParallelGateway = 11
kind_byte kinds.EventBasedGateway = 12
kind_byte kinds.DateCatchEvent = 13
kind_byte kinds.DurationCatchEvent = 14
kind_byte kinds.MessageCatchEvent = 15
kind_byte kinds.ThrowEvent = 16
kind_byte kinds.CompensationThrowEvent = 17
kind_byte kinds.DateBoundaryEvent = 18
kind_byte kinds.DurationBoundaryEvent = 19
kind_byte kinds.MessageBoundaryEvent = 20
kind_byte kinds.ErrorBoundaryEvent = 21
kind_byte kinds.CompensationBoundaryEvent = 22

-- each kind
abbrev pub each_kind : List NodeKind
each_kind = kinds.StartEvent ∷ kinds.MessageStartEvent ∷ kinds.EndEvent ∷ kinds.TerminateEndEvent ∷ kinds.CompensationEndEvent ∷ kinds.ServiceTask ∷ kinds.ReceiveTask ∷ kinds.SubProcess
    ∷ kinds.ExclusiveGateway ∷ kinds.ParallelGateway ∷ kinds.EventBasedGateway ∷ kinds.DateCatchEvent ∷ kinds.DurationCatchEvent ∷ kinds.MessageCatchEvent ∷ kinds.ThrowEvent ∷ kinds.CompensationThrowEvent
    ∷ kinds.DateBoundaryEvent ∷ kinds.DurationBoundaryEvent ∷ kinds.MessageBoundaryEvent ∷ kinds.ErrorBoundaryEvent ∷ kinds.CompensationBoundaryEvent ∷ []

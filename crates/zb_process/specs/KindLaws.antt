-- Each kind of node is known by its byte. The layout of kinds holds this, so it stands beside the definitions.
use Rattle.std.proofs.Common.{◌≡◌, Some, refl}
use Rattle.zb_format.specs.Reading.{one_of}
use Rattle.zb_process.specs.declared.model.NodeKind.{NodeKind}
use Rattle.zb_process.specs.declared.model.NodeKind.TheVariants as kinds
use Rattle.zb_process.specs.Kind.{kind_byte, each_kind}

-- the byte of a kind of node finds that kind again
pub known_kind : (k : NodeKind) → one_of kind_byte each_kind (kind_byte k) ≡ Some k
known_kind kinds.StartEvent = refl
known_kind kinds.MessageStartEvent = refl
known_kind kinds.EndEvent = refl
known_kind kinds.TerminateEndEvent = refl
known_kind kinds.CompensationEndEvent = refl
known_kind kinds.ServiceTask = refl
known_kind kinds.ReceiveTask = refl
known_kind kinds.SubProcess = refl
known_kind kinds.ExclusiveGateway = refl
known_kind kinds.ParallelGateway = refl
known_kind kinds.EventBasedGateway = refl
known_kind kinds.DateCatchEvent = refl
known_kind kinds.DurationCatchEvent = refl
known_kind kinds.MessageCatchEvent = refl
known_kind kinds.ThrowEvent = refl
known_kind kinds.CompensationThrowEvent = refl
known_kind kinds.DateBoundaryEvent = refl
known_kind kinds.DurationBoundaryEvent = refl
known_kind kinds.MessageBoundaryEvent = refl
known_kind kinds.ErrorBoundaryEvent = refl
known_kind kinds.CompensationBoundaryEvent = refl

-- The layouts of rejections, commands and events.
use Rattle.std.proofs.Common.{ℕ, List, [], ◌∷◌, refl}
use Rattle.zb_format.specs.Kinds.{of_kinds}
use Rattle.zb_format.specs.Layout.{Layout, both, made, by_byte, text}
use Rattle.zb_model.specs.TableLaws.{command_spelled, command_back, event_spelled, event_back}
use Rattle.zb_model.specs.Commands.{commands_from_1, command_told}
use Rattle.zb_model.specs.Events.{events_from_1, event_told}
use Rattle.zb_model.specs.declared.record.Command.{Command}
use Rattle.zb_model.specs.declared.record.Event.{Event}
use Rattle.zb_model.specs.declared.record.RejectionKind.{RejectionKind}
use Rattle.zb_model.specs.declared.record.RejectionKind.TheVariants as kinds
use Rattle.zb_model.specs.declared.record.Rejection.{Rejection}

-- the byte of a rejection's kind
abbrev pub rejection_byte : RejectionKind → ℕ
rejection_byte kinds.InvalidArgument = 1
rejection_byte kinds.NotFound = 2
rejection_byte kinds.AlreadyExists = 3
rejection_byte kinds.InvalidState = 4

-- each kind of rejection
abbrev pub each_rejection : List RejectionKind
each_rejection = kinds.InvalidArgument ∷ kinds.NotFound ∷ kinds.AlreadyExists ∷ kinds.InvalidState ∷ []

-- the kind of a rejection
unfoldable pub rejection_kind : Layout RejectionKind
rejection_kind = by_byte rejection_byte each_rejection (elim [ kinds.InvalidArgument ↦ refl | kinds.NotFound ↦ refl | kinds.AlreadyExists ↦ refl | kinds.InvalidState ↦ refl ])

-- a rejection: its kind and its reason
unfoldable pub rejection : Layout Rejection
rejection = made (λ r. (r.kind, r.reason)) (λ p. record { kind = p.0; reason = p.1 }) (λ r. refl) (λ p. refl) (both rejection_kind text)

-- a command, by its number and its fields
unfoldable pub command : Layout Command
command = of_kinds commands_from_1 (λ c. (command_told c).value) command_spelled command_back

-- an event, by its number and its fields
unfoldable pub event : Layout Event
event = of_kinds events_from_1 (λ e. (event_told e).value) event_spelled event_back

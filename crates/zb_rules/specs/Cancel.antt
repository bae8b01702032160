-- Cancelling an instance of a process (BPMN 2.0.2, 13.3.2; the records as in Zeebe).
use Rattle.std.specs.Prelude.{ℕ, List, ◌++◌, codes, Bool, false, not, if◌then◌else◌, Option, Some, None}
use Rattle.std.specs.Fmt.{decimal}
use Rattle.std.specs.Option.{option_map_or}
use Rattle.zb_model.specs.declared.record.Event.{Event}
use Rattle.zb_model.specs.declared.record.Event.TheVariants as events
use Rattle.zb_model.specs.declared.record.Rejection.{Rejection}
use Rattle.zb_model.specs.declared.record.RejectionKind.TheVariants as kinds
use Rattle.zb_tokens.specs.declared.board.Phase.TheVariants as phases
use Rattle.zb_tokens.specs.Board.{Board, cell_at, is_phase, is_root}
use Rattle.zb_rules.specs.Applies.{holds_of_game}
use Rattle.zb_rules.specs.Making.{Making}
use Rattle.zb_rules.specs.Behind.{with_events_behind}

-- what is told where no instance has this key
abbrev pub no_instance : ℕ → List ℕ
no_instance key = codes "no instance " ++ decimal key

-- and where it is being terminated
abbrev pub instance_terminates : ℕ → List ℕ
instance_terminates key = codes "instance " ++ (decimal key ++ codes " is being terminated")

-- on a board a root has this key
abbrev pub has_root : ℕ → Board → Bool
has_root key b = option_map_or is_root (cell_at b key) false

-- on a board the cell with this key is terminating
abbrev pub is_terminating : ℕ → Board → Bool
is_terminating key b = option_map_or (λ c. is_phase c.phase phases.Terminating) (cell_at b key) false

-- the rejection of a cancel, if there is a reason for one
abbrev pub reason_to_cancel : List Event → ℕ → Option Rejection
reason_to_cancel before key = if not (holds_of_game (has_root key) before) then Some (record { kind = kinds.NotFound; reason = no_instance key })
    else if holds_of_game (is_terminating key) before then Some (record { kind = kinds.InvalidState; reason = instance_terminates key })
    else None

-- the root begins to terminate, with the events behind that; what is in it is then forced to end (BPMN 2.0.2, 13.3.2; Zeebe, the records)
abbrev pub cancelled : (p moment key : ℕ) → Making
cancelled p moment key = with_events_behind p moment (events.ElementTerminating key)

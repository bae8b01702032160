-- Going on with what is forced, where a batch was full before nobody was (own; the records as in Zeebe).
use Rattle.std.specs.Prelude.{List, codes, Bool, is_none, if◌then◌else◌, Option, Some, None}
use Rattle.zb_model.specs.declared.record.Event.{Event}
use Rattle.zb_model.specs.declared.record.Rejection.{Rejection}
use Rattle.zb_model.specs.declared.record.RejectionKind.TheVariants as kinds
use Rattle.zb_tokens.specs.Forced.{next_mover}
use Rattle.zb_rules.specs.Applies.{holds_of_game}

-- nobody is forced to move in the game of some events
abbrev pub is_quiet : List Event → Bool
is_quiet es = holds_of_game (λ b. is_none (next_mover b)) es

-- the rejection of a command to go on, if there is a reason for one: nobody is forced
abbrev pub reason_to_continue : List Event → Option Rejection
reason_to_continue before = if is_quiet before then Some (record { kind = kinds.InvalidState; reason = codes "nothing to continue" }) else None

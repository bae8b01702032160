-- A step triggers no timer before its moment: only the command to trigger it does, and that is rejected before.
use Rattle.std.proofs.Common.{◌≡◌, ℕ, ◌≤◌, nat_le, List, Bool, true, false, not, if◌then◌else◌, IsTrue, Option, Some, None, refl, ap, subst, arith}
use Rattle.std.specs.Option.{option_map_or}
use Rattle.std.specs.List.{list_any}
use Rattle.std.proofs.lemmas.Bool.Decides.{nat_tests}
use Rattle.zb_model.specs.declared.record.Command.{Command}
use Rattle.zb_model.specs.declared.record.Command.TheVariants as commands
use Rattle.zb_model.specs.declared.record.Event.{Event}
use Rattle.zb_model.specs.declared.record.Event.TheVariants as events
use Rattle.zb_model.specs.declared.record.RejectionKind.TheVariants as kinds
use Rattle.zb_model.specs.declared.record.Outcome.{Outcome}
use Rattle.zb_views.specs.declared.timer.Timer.{Timer}
use Rattle.zb_views.specs.Timers.{timer_at}
use Rattle.zb_views.specs.View.{events_in}
use Rattle.zb_rules.specs.Applies.{holds_of_game}
use Rattle.zb_rules.specs.Reason.{reason_for}
use Rattle.zb_rules.specs.Step.{IsOutcomeOf}
use Rattle.zb_rules.specs.TimerEvents.{triggers, IsDueBy}
use Rattle.zb_rules.specs.Trigger.{no_timer, timer_not_due, cell_not_waiting, waits_for, timer_in_wrong_state, reason_to_hold}
use Rattle.zb_rules.proofs.KindsLaws.{step_kind, command_told}

-- a command in whose step a timer is triggered is the one to trigger it
trigger_of : (e : Event) (command : Command) (timer : ℕ) → IsTrue (step_kind command e) → IsTrue (triggers timer e) → command ≡ commands.TimerTrigger timer
trigger_of (events.TimerTriggered fired) (commands.TimerTrigger key) timer is fires = let same : key ≡ timer = grind (arith, nat_tests) in ap commands.TimerTrigger same
trigger_of (events.TimerTriggered fired) command timer is fires = absurd (cc)
trigger_of e command timer is fires = absurd (cc)

module _ (p n moment : ℕ) (es : List Event) where
  held_due : (t : Timer) (due waits : Bool) → nat_le t.due moment ≡ due
      → (if not due then Some (timer_in_wrong_state (timer_not_due t.key)) else if not waits then Some (timer_in_wrong_state (cell_not_waiting t.cell)) else None) ≡ None → t.due ≤ moment
  held_due t true waits at none = grind (arith, nat_tests)
  held_due t false waits at none = absurd (cc)

  -- against which there is a reason before the timer is due
  found_due : (timer : ℕ) (found : Option Timer) → timer_at timer es ≡ found → option_map_or (reason_to_hold es moment) found (Some (record { kind = kinds.NotFound; reason = no_timer timer })) ≡ None → IsDueBy es timer moment
  found_due timer None at none = absurd (cc)
  found_due timer (Some t) at none = record { row = t; there = at; due = held_due t (nat_le t.due moment) (holds_of_game (waits_for t) es) refl none }

  -- what a command leads to triggers no timer but one that is due
  pub triggered_on_time : (command : Command) (outcome : Outcome) → IsOutcomeOf p n moment es command outcome → (timer : ℕ) → IsTrue (list_any (triggers timer) (events_in outcome)) → IsDueBy es timer moment
  triggered_on_time command outcome is timer fires =
      let told = command_told p n moment es (triggers timer) (λ c. c ≡ commands.TimerTrigger timer) (λ e c. trigger_of e c timer) command outcome is fires in
      found_due timer (timer_at timer es) refl (subst (λ (c : Command). reason_for es moment c ≡ None) told.0 told.1)

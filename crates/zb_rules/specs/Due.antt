-- Which command is due first.
use Rattle.std.specs.Prelude.{ℕ, List, ◌++◌, map, filter, Bool, nat_le, is_none, Option, option_map, ◌≡◌, ◌≤◌, Contains}
use Rattle.zb_exchange_records.specs.declared.message.MessagePublished.{MessagePublished}
use Rattle.zb_model.specs.declared.record.Command.{Command}
use Rattle.zb_model.specs.declared.record.Command.TheVariants as commands
use Rattle.zb_model.specs.declared.record.Event.{Event}
use Rattle.zb_table.specs.Earliest.{earliest}
use Rattle.zb_views.specs.declared.job.Job.{Job}
use Rattle.zb_views.specs.Jobs.{jobs, is_activated}
use Rattle.zb_views.specs.Messages.{buffered}
use Rattle.zb_views.specs.declared.timer.Timer.{Timer}
use Rattle.zb_views.specs.Timers.{timers}
use Rattle.zb_rules.specs.declared.alarm.Alarm.{Alarm}
use Rattle.zb_rules.specs.Trigger.{reason_to_trigger}

-- a message expires at its deadline (own)
abbrev pub alarm_of_message : MessagePublished → Alarm
alarm_of_message m = record { moment = m.deadline; key = m.key; command = commands.MessageExpire m.key }

-- a job is taken back at its deadline from the worker that has it (Zeebe, job timeout)
abbrev pub alarm_of_job : Job → Alarm
alarm_of_job j = record { moment = j.deadline; key = j.key; command = commands.JobTimeOut j.key }

-- the jobs that workers have
abbrev pub jobs_given : List Event → List Job
jobs_given es = filter (λ j. is_activated j.phase) (jobs es)

-- a timer is triggered from the moment on at which it is due (Zeebe, timers)
abbrev pub alarm_of_timer : Timer → Alarm
alarm_of_timer t = record { moment = t.due; key = t.key; command = commands.TimerTrigger t.key }

-- the timers against whose trigger there is no reason once they are due: the cells of the others don't wait, and will be gone (Zeebe, timers)
abbrev pub timers_awaited : List Event → List Timer
timers_awaited es = filter (λ t. is_none (reason_to_trigger es t.due t.key)) (timers es)

-- all that time makes due, now or later
abbrev pub alarms : List Event → List Alarm
alarms es = map alarm_of_message (buffered es) ++ (map alarm_of_job (jobs_given es) ++ map alarm_of_timer (timers_awaited es))

-- when it is due, and its key
abbrev pub place_of_alarm : Alarm → ℕ × ℕ
place_of_alarm a = (a.moment, a.key)

-- it is due now
abbrev pub has_come_due : ℕ → Alarm → Bool
has_come_due now a = nat_le a.moment now

-- of all that is due now, what none of the others comes before, by the moment and then by the key
abbrev pub due_first : ℕ → List Event → Option Alarm
due_first now es = earliest place_of_alarm (filter (has_come_due now) (alarms es))

-- the command that is due first, if one is due now
abbrev pub due_command : ℕ → List Event → Option Command
due_command now es = option_map (λ a. a.command) (due_first now es)

-- of all that is due now it is the first, by the moment and then by the key
pub record IsFirstDue (now : ℕ) (es : List Event) (a : Alarm) : Type 0 where
  pub waits : Contains (alarms es) a
  pub due : a.moment ≤ now
  pub first : (other : Alarm) → Contains (alarms es) other → other.moment ≤ now → (a.moment ≤ other.moment) × (a.moment ≡ other.moment → a.key ≤ other.key)

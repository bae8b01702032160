-- What is due, by its moment and its key.
use Rattle.std.specs.Prelude.{ℕ}
use Rattle.zb_model.specs.declared.record.Command.TheVariants as commands
use Rattle.zb_model.specs.declared.record.Command.{Command}
use Rattle.zb_rules.specs.declared.alarm.Alarm.{Alarm}
use Rattle.zb_state.specs.declared.state.due.Due.{Due}
use Rattle.zb_state.specs.declared.state.due.DueKind.{DueKind}
use Rattle.zb_state.specs.declared.state.due.DueKind.TheVariants as kinds

-- the expiry of a message at this moment, which has this key (own)
abbrev pub expiry_at : (ℕ × ℕ) → Alarm
expiry_at at = record { moment = at.0; key = at.1; command = commands.MessageExpire at.1 }

-- the time-out of a job at this moment, which has this key (own)
abbrev pub time_out_at : (ℕ × ℕ) → Alarm
time_out_at at = record { moment = at.0; key = at.1; command = commands.JobTimeOut at.1 }

-- the trigger of a timer at this moment, which has this key (own)
abbrev pub trigger_at : (ℕ × ℕ) → Alarm
trigger_at at = record { moment = at.0; key = at.1; command = commands.TimerTrigger at.1 }

-- the command by which what is due of a kind comes about (own)
abbrev pub command_for : DueKind → ℕ → Command
command_for kinds.Expiry key = commands.MessageExpire key
command_for kinds.TimeOut key = commands.JobTimeOut key
command_for kinds.Trigger key = commands.TimerTrigger key

-- what is due, with its command (own)
abbrev pub alarm_of : Due → Alarm
alarm_of due = record { moment = due.moment; key = due.key; command = command_for due.kind due.key }

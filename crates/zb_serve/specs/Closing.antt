-- What the server promises of a run: the clauses of its top call.
use Rattle.std.specs.Prelude.{◌≡◌, ◌≢◌, ◌⊎◌, ℕ, List, [], length, map, Bool, IsTrue}
use Rattle.std.specs.List.{AllZip}
use Rattle.zb_store.specs.declared.volume.Volume.{Volume}
use Rattle.zb_words.specs.declared.plan.ServePlan.{ServePlan}
use Rattle.zb_serve.specs.Setting.{setting_of}
use Rattle.zb_serve.specs.Words.{IsPlanned}
use Rattle.zb_serve.specs.Ends.{Devices, told_of, ends_of, crashes_of, IsSafe}
use Rattle.zb_serve.specs.Cause.{status_of}
use Rattle.zb_serve.specs.Served.{answer_of_run, IsRun}
use Rattle.zb_serve.specs.Slots.{AreAllSlotsLeft}
use Rattle.zb_session.specs.declared.session.Session.{Session}
use Rattle.zb_serve.specs.declared.run.Closed.{Closed}
use Rattle.zb_serve.specs.declared.run.Cause.TheVariants as causes

-- a real clock at hand: whether it tells what it is to read, and what that is, by the number of the
-- reading
pub record ClockAtHand : Type 0 where
  pub tells : Bool
  pub upcoming : ℕ → ℕ

-- the clock at hand that tells so
abbrev pub clock_at_hand : Bool → (ℕ → ℕ) → ClockAtHand
clock_at_hand tells upcoming = record { tells = tells; upcoming = upcoming }

-- there was no memory to read the words, and nothing was touched
pub record IsUnheard {S K D : Type 0} (volumes : List (Volume D))
    (closed : Closed S K D) : Type 0 where
  pub memory : closed.cause ≡ causes.Memory
  pub unopened : (closed.stamps.items ≡ []) × (closed.units ≡ 0)
  pub untouched : closed.volumes.items ≡ volumes

-- the words, a clock, and what was handed in led to this
pub record Closes {S K D : Type 0} (devices : Devices S K D) (clock : ClockAtHand)
    (words : List (List ℕ)) (sessions : List (Session S K)) (volumes : List (Volume D))
    (closed : Closed S K D) : Type 0 where
  -- the status is that of the cause
  pub status : closed.status ≡ status_of closed.cause
  -- It is a question of usage exactly where the words or the numbers can't be served. Nothing was
  -- touched then.
  pub usage : closed.cause ≡ causes.Usage → (plan : ServePlan)
      → IsPlanned words (length sessions) (length volumes) plan → ⊥
  pub unopened : closed.cause ≡ causes.Usage → (closed.stamps.items ≡ []) × (closed.units ≡ 0)
  pub untouched : closed.cause ≡ causes.Usage → closed.volumes.items ≡ volumes
  -- no session is touched before the logs are open
  pub unread : closed.stamps.items ≡ [] → closed.sessions.items ≡ sessions
  -- nor is a log that was there before put at risk where none was opened
  pub spared : closed.stamps.items ≡ [] → IsTrue (told_of devices).images
      → AllZip (IsSafe devices.disk) volumes closed.volumes.items
  -- everything is handed back in order, and the slots for snapshots as a run leaves them
  pub same_sessions : length closed.sessions.items ≡ length sessions
  pub same_volumes : length closed.volumes.items ≡ length volumes
  pub slots : AreAllSlotsLeft volumes closed.volumes.items
  -- what the run is, by the plan of the words: its causes, its logs, its sessions, the units of
  -- work behind the last line, and what a crash leaves, now and ever
  pub run : closed.cause ≢ causes.Usage → IsUnheard volumes closed
      ⊎ ((plan : ServePlan)
      × IsPlanned words (length sessions) (length volumes) plan
      × IsRun (told_of devices) (setting_of plan clock.tells clock.upcoming)
      (ends_of devices sessions closed.sessions.items volumes closed.volumes.items)
      (crashes_of devices.disk volumes closed.volumes.items)
      (answer_of_run closed.cause (map (λ list. list.items) closed.stamps.items) closed.units))

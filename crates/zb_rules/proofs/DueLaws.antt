-- Laws of what is due first.
use Rattle.std.proofs.Common.{◌≡◌, get_or, ℕ, ◌≤◌, ◌<◌, ◌==◌, nat_le, List, [], ◌∷◌, map, filter, ◌++◌, Bool, true, false, not, ◌&&◌, is_none, if◌then◌else◌, IsTrue, Option, Some, None, option_map, All, Contains, refl, sym, subst, arith}
use Rattle.std.specs.List.{list_any}
use Rattle.std.specs.Option.{option_map_or}
use Rattle.std.proofs.lemmas.Bool.Decides.{nat_tests}
use Rattle.std.proofs.lemmas.List.Elements.{All-nil, All-cons, All-weaker, All-contains, All-filter, All-contains_itself, filter_passes, All-append, All-map}
use Rattle.zb_exchange_records.specs.declared.message.MessagePublished.{MessagePublished}
use Rattle.zb_model.specs.declared.record.Command.{Command}
use Rattle.zb_model.specs.declared.record.Command.TheVariants as commands
use Rattle.zb_model.specs.declared.record.Event.{Event}
use Rattle.zb_views.specs.declared.job.Job.{Job}
use Rattle.zb_views.specs.Jobs.{jobs, is_activated}
use Rattle.zb_views.specs.Messages.{buffered, is_buffered, is_past_deadline}
use Rattle.zb_rules.specs.Expire.{is_due_at}
use Rattle.zb_rules.specs.Reason.{reason_for}
use Rattle.zb_rules.specs.Own.{IsSupported}
use Rattle.zb_rules.specs.declared.alarm.Alarm.{Alarm}
use Rattle.zb_rules.specs.Due.{alarm_of_message, alarm_of_job, alarm_of_timer, jobs_given, timers_awaited, alarms, place_of_alarm, has_come_due, due_first, due_command, IsFirstDue}
use Rattle.zb_table.specs.Earliest.{is_earlier}
use Rattle.zb_table.proofs.EarliestLaws.{not_before, any_of, any_kept, earliest_found, earliest_none}
use Rattle.zb_rules.proofs.GivenJobLaws.{given_found}
use Rattle.zb_model.specs.declared.record.Rejection.{Rejection}
use Rattle.zb_model.specs.declared.record.RejectionKind.TheVariants as kinds
use Rattle.zb_views.specs.declared.timer.Timer.{Timer}
use Rattle.zb_views.specs.Timers.{timers, timer_at}
use Rattle.zb_rules.specs.Shown.{holds_of_game}
use Rattle.zb_rules.specs.Trigger.{no_timer, timer_not_due, cell_not_waiting, waits_for, timer_in_wrong_state, reason_to_hold, reason_to_trigger}

-- from the moment of an alarm on there is no reason against its command
abbrev IsUnrefused : List Event → Alarm → Type 0
IsUnrefused es a = (moment : ℕ) → a.moment ≤ moment → reason_for es moment a.command ≡ None

module _ (es : List Event) where
  message_unrefused : (m : MessagePublished) → Contains (buffered es) m → IsUnrefused es (alarm_of_message m)
  message_unrefused m waits moment later =
      let same : (m.key == m.key) ≡ true = grind (arith, nat_tests) in
      let come : nat_le m.deadline moment ≡ true = grind (arith, nat_tests, later) in
      let there : is_buffered m.key es ≡ true = any_of (λ x. x.key == m.key) (buffered es) m waits same in
      let due : is_due_at moment m.key es ≡ true = any_of (λ x. (x.key == m.key) && is_past_deadline moment x) (buffered es) m waits (rw (same, come) refl) in
      rw (there, due) refl

  job_unrefused : (j : Job) → Contains (jobs es) j → IsTrue (is_activated j.phase) → IsUnrefused es (alarm_of_job j)
  job_unrefused j waits active moment later =
      let r = given_found es j waits active in
      let found = r.1 in
      let its = r.2 in
      let come : nat_le r.0.deadline moment ≡ true = (let same = r.3 in grind (arith, nat_tests, later)) in
      rw (found, its, come) refl

  none_later : (t : Timer) (moment : ℕ) → t.due ≤ moment → (found : Option Timer) → option_map_or (reason_to_hold es t.due) found (Some (record { kind = kinds.NotFound; reason = no_timer t.key })) ≡ None
      → option_map_or (reason_to_hold es moment) found (Some (record { kind = kinds.NotFound; reason = no_timer t.key })) ≡ None
  none_later t moment later None none = absurd (cc)
  none_later t moment later (Some x) none = by_tests (nat_le x.due t.due) (holds_of_game (waits_for x) es) refl refl none
    where
      by_tests : (due waits : Bool) → nat_le x.due t.due ≡ due → holds_of_game (waits_for x) es ≡ waits
          → (if not due then Some (timer_in_wrong_state (timer_not_due x.key)) else if not waits then Some (timer_in_wrong_state (cell_not_waiting x.cell)) else None) ≡ None → reason_to_hold es moment x ≡ None
      by_tests false waits is its none = absurd (cc)
      by_tests true false is its none = absurd (cc)
      by_tests true true is its none =
          let come : nat_le x.due moment ≡ true = grind (arith, nat_tests, later, is) in
          rw (come, its) refl

  timer_unrefused : (t : Timer) → IsTrue (is_none (reason_to_trigger es t.due t.key)) → IsUnrefused es (alarm_of_timer t)
  timer_unrefused t none moment later = none_later t moment later (timer_at t.key es) (nothing_there (reason_to_trigger es t.due t.key) none)
    where
      nothing_there : (o : Option Rejection) → IsTrue (is_none o) → o ≡ None
      nothing_there None is = refl
      nothing_there (Some r) is = absurd (cc)

  all_unrefused : All (IsUnrefused es) (alarms es)
  all_unrefused =
      let messages = All-weaker (Contains (buffered es)) (λ (m : MessagePublished). IsUnrefused es (alarm_of_message m)) message_unrefused (buffered es) (All-contains_itself (buffered es)) in
      let there = All-filter (λ (j : Job). is_activated j.phase) (Contains (jobs es)) (jobs es) (All-contains_itself (jobs es)) in
      let active = filter_passes (λ (j : Job). is_activated j.phase) (jobs es) in
      let given : All (λ (j : Job). IsUnrefused es (alarm_of_job j)) (jobs_given es) = λ k d within. job_unrefused (get_or (jobs_given es) k d) (there k d within) (active k d within) in
      let awaited : All (λ (t : Timer). IsUnrefused es (alarm_of_timer t)) (timers_awaited es) = All-weaker (λ (t : Timer). IsTrue (is_none (reason_to_trigger es t.due t.key))) (λ (t : Timer). IsUnrefused es (alarm_of_timer t)) timer_unrefused (timers_awaited es) (filter_passes (λ (t : Timer). is_none (reason_to_trigger es t.due t.key)) (timers es)) in
      All-append (IsUnrefused es) (map alarm_of_message (buffered es)) (map alarm_of_job (jobs_given es) ++ map alarm_of_timer (timers_awaited es)) (All-map (IsUnrefused es) alarm_of_message (buffered es) messages)
      (All-append (IsUnrefused es) (map alarm_of_job (jobs_given es)) (map alarm_of_timer (timers_awaited es)) (All-map (IsUnrefused es) alarm_of_job (jobs_given es) given) (All-map (IsUnrefused es) alarm_of_timer (timers_awaited es) awaited))

-- what holds of each command by which a message expires, a job is taken back or a timer is triggered holds of the command of each alarm
pub all_alarms : (P : Command → Type 0) → ((key : ℕ) → P (commands.MessageExpire key)) → ((key : ℕ) → P (commands.JobTimeOut key)) → ((key : ℕ) → P (commands.TimerTrigger key)) → (es : List Event) → All (λ (a : Alarm). P a.command) (alarms es)
all_alarms P expires comes_back triggers es =
    let Has : Alarm → Type 0 = λ a. P a.command in
    All-append Has (map alarm_of_message (buffered es)) (map alarm_of_job (jobs_given es) ++ map alarm_of_timer (timers_awaited es))
    (All-map Has alarm_of_message (buffered es) (λ k d within. expires (get_or (buffered es) k d).key))
    (All-append Has (map alarm_of_job (jobs_given es)) (map alarm_of_timer (timers_awaited es))
    (All-map Has alarm_of_job (jobs_given es) (λ k d within. comes_back (get_or (jobs_given es) k d).key))
    (All-map Has alarm_of_timer (timers_awaited es) (λ k d within. triggers (get_or (timers_awaited es) k d).key)))

-- what is due first
module _ (now : ℕ) (es : List Event) where
  due_kept : (a : Alarm) → Contains (filter (has_come_due now) (alarms es)) a → Contains (alarms es) a × (has_come_due now a ≡ true)
  due_kept a has = (
    All-contains (Contains (alarms es)) (filter (has_come_due now) (alarms es)) a (All-filter (has_come_due now) (Contains (alarms es)) (alarms es) (All-contains_itself (alarms es))) has,
    All-contains (λ a. has_come_due now a ≡ true) (filter (has_come_due now) (alarms es)) a (filter_passes (has_come_due now) (alarms es)) has,
  )

  -- no other one comes before it
  none_before : (a other : Alarm) → list_any (λ x. is_earlier (place_of_alarm x) (place_of_alarm a)) (filter (has_come_due now) (alarms es)) ≡ false
      → Contains (alarms es) other → other.moment ≤ now → (t : Bool) → is_earlier (place_of_alarm other) (place_of_alarm a) ≡ t → is_earlier (place_of_alarm other) (place_of_alarm a) ≡ false
  none_before a other none has due false before = before
  none_before a other none has due true before =
      let Beats : Alarm → Bool = λ x. is_earlier (place_of_alarm x) (place_of_alarm a) in
      let is : has_come_due now other ≡ true = grind (arith, nat_tests) in
      let any = any_of (λ x. has_come_due now x && Beats x) (alarms es) other has (rw (is, before) refl) in
      absurd (let kept = any_kept Beats (has_come_due now) (alarms es) in cc)

  -- the alarm that is due is due first
  pub due_is_first : (a : Alarm) → due_first now es ≡ Some a → IsFirstDue now es a
  due_is_first a is =
      let found = earliest_found place_of_alarm (filter (has_come_due now) (alarms es)) a is in
      let kept = due_kept a found.0 in
      record {
        waits = kept.0;
        due = grind (arith, nat_tests, kept.1);
        first = λ other has due. not_before (place_of_alarm other) (place_of_alarm a) (none_before a other found.1 has due (is_earlier (place_of_alarm other) (place_of_alarm a)) refl);
      }

  -- where none is kept as due, each moment lies ahead
  none_kept : (xs : List Alarm) → filter (has_come_due now) xs ≡ [] → All (λ a. now < a.moment) xs
  none_kept [] none = All-nil (λ a. now < a.moment)
  none_kept (a ∷ xs) none = by_test (none_kept xs) (has_come_due now a) refl none
    where
      by_test : (filter (has_come_due now) xs ≡ [] → All (λ a. now < a.moment) xs) → (t : Bool) → has_come_due now a ≡ t → (if t then a ∷ filter (has_come_due now) xs else filter (has_come_due now) xs) ≡ []
          → All (λ a. now < a.moment) (a ∷ xs)
      by_test behind true due none = absurd (cc)
      by_test behind false late none = All-cons (λ a. now < a.moment) a xs (grind (arith, nat_tests)) (behind none)

  -- where none is due, each moment lies ahead
  none_is_due : due_first now es ≡ None → All (λ a. now < a.moment) (alarms es)
  none_is_due none = none_kept (alarms es) (earliest_none place_of_alarm (filter (has_come_due now) (alarms es)) none)

  by_alarm : (found : Option Alarm) (command : Command) → due_first now es ≡ found → option_map (λ (a : Alarm). a.command) found ≡ Some command → (a : Alarm) × (command ≡ a.command) × IsFirstDue now es a
  by_alarm None command found is = absurd (cc)
  by_alarm (Some a) command found is = (a, (let same : a.command ≡ command = cc in sym same), due_is_first a found)

  -- the command that is due is that of the alarm that is due first
  pub due_command_first : (command : Command) → due_command now es ≡ Some command → (a : Alarm) × (command ≡ a.command) × IsFirstDue now es a
  due_command_first command is = by_alarm (due_first now es) command refl is

  no_alarm : (found : Option Alarm) → option_map (λ (a : Alarm). a.command) found ≡ None → found ≡ None
  no_alarm None is = refl
  no_alarm (Some a) is = absurd (cc)

  -- where no command is due, each alarm lies ahead
  pub due_command_none : due_command now es ≡ None → All (λ a. now < a.moment) (alarms es)
  due_command_none is = none_is_due (no_alarm (due_first now es) is)

  -- from its moment on there is no reason against it
  pub due_command_unrefused : (moment : ℕ) (command : Command) → now ≤ moment → due_command now es ≡ Some command → reason_for es moment command ≡ None
  due_command_unrefused moment command later is =
      let r = due_command_first command is in
      let a = r.0 in
      let due = r.2.due in
      let none = All-contains (IsUnrefused es) (alarms es) a (all_unrefused es) r.2.waits in
      subst (λ (c : Command). reason_for es moment c ≡ None) (sym r.1) (none moment (omega (arith, due, later)))

  -- and of the command that is due
  pub due_command_has : (P : Command → Type 0) → ((key : ℕ) → P (commands.MessageExpire key)) → ((key : ℕ) → P (commands.JobTimeOut key)) → ((key : ℕ) → P (commands.TimerTrigger key)) → (command : Command) → due_command now es ≡ Some command → P command
  due_command_has P expires comes_back triggers command is =
      let r = due_command_first command is in
      subst P (sym r.1) (All-contains (λ (a : Alarm). P a.command) (alarms es) r.0 (all_alarms P expires comes_back triggers es) r.2.waits)

  -- a command that is due is one that is run so far
  pub due_command_is_run : (command : Command) → due_command now es ≡ Some command → IsSupported command
  due_command_is_run = due_command_has IsSupported (λ key. tt) (λ key. tt) (λ key. tt)

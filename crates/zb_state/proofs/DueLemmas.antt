-- What is due first, by the tables of the messages, of the jobs and of the timers.
use Rattle.std.proofs.Common.{◌≡◌, ℕ, List, [], ◌∷◌, ◌++◌, map, filter, get_or, nat_le, Bool, true, false, not, if◌then◌else◌, cond, is_none, Option, Some, None, option_map, All, refl, sym, ap, ◌∙◌, arith}
use Rattle.std.proofs.lemmas.Bool.Decides.{nat_tests}
use Rattle.std.proofs.lemmas.List.Elements.{filter-append, All-head, All-tail}
use Rattle.zb_exchange_records.specs.declared.message.MessagePublished.{MessagePublished}
use Rattle.zb_model.specs.declared.record.Command.{Command}
use Rattle.zb_model.specs.declared.record.Event.{Event}
use Rattle.zb_table.specs.Earliest.{earliest, place_in_time, is_due, first_due, earlier_option}
use Rattle.zb_table.specs.Rows.{Ascend}
use Rattle.zb_table.proofs.Ascending.{finds_own}
use Rattle.zb_views.specs.declared.job.Job.{Job}
use Rattle.zb_views.specs.declared.timer.Timer.{Timer}
use Rattle.zb_views.specs.Jobs.{jobs, is_activated}
use Rattle.zb_views.specs.Messages.{buffered}
use Rattle.zb_views.specs.Timers.{timers, timer_at}
use Rattle.zb_jobs.proofs.EarlierLaws.{earliest_append, filter_mapped, earliest_mapped}
use Rattle.zb_jobs.specs.Table.{place_of_job, due_job}
use Rattle.zb_timers.specs.Table.{place_of_timer, due_timer}
use Rattle.zb_tokens.specs.Board.{Board}
use Rattle.zb_rules.specs.declared.alarm.Alarm.{Alarm}
use Rattle.zb_rules.specs.Shown.{board_of}
use Rattle.zb_rules.specs.Trigger.{waits_for, reason_to_trigger, timer_in_wrong_state, cell_not_waiting}
use Rattle.zb_rules.specs.Due.{alarm_of_message, alarm_of_job, alarm_of_timer, jobs_given, timers_awaited, place_of_alarm, has_come_due, due_command}
use Rattle.zb_state.specs.Listing.{given_until}
use Rattle.zb_state.specs.Alarms.{expiry_at, time_out_at, trigger_at}

-- lists by two questions that have the same answer for each of their things
filter_same : {A : Type 0} (p q : A → Bool) (xs : List A) → All (λ (x : A). p x ≡ q x) xs → filter p xs ≡ filter q xs
filter_same p q [] same = refl
filter_same p q (x ∷ xs) same =
    rw (All-head (λ y. p y ≡ q y) x xs same) (ap (λ l. cond (q x) (x ∷ l) l) (filter_same p q xs (All-tail (λ y. p y ≡ q y) x xs same)))

-- there is no reason against the trigger of a timer that is there where its cell waits for it, once it is due
awaited_one : (es : List Event) (b : Board) (t : Timer) → board_of es ≡ Some b → timer_at t.key es ≡ Some t → is_none (reason_to_trigger es t.due t.key) ≡ waits_for t b
awaited_one es b t is found =
    let come : nat_le t.due t.due ≡ true = grind (arith, nat_tests) in
    rw (found, come, is) (by_test (waits_for t b))
  where
    by_test : (w : Bool) → is_none (if not w then Some (timer_in_wrong_state (cell_not_waiting t.cell)) else None) ≡ w
    by_test true = refl
    by_test false = refl

pub awaited_is : (es : List Event) (b : Board) → board_of es ≡ Some b → Ascend (λ t. t.key) 0 (timers es) → timers_awaited es ≡ filter (λ t. waits_for t b) (timers es)
awaited_is es b is up =
    filter_same (λ t. is_none (reason_to_trigger es t.due t.key)) (λ t. waits_for t b) (timers es)
    (λ i d within. awaited_one es b (get_or (timers es) i d) is (finds_own (λ (t : Timer). t.key) 0 (timers es) i d within up))

abbrev message_due : ℕ → List MessagePublished → Option MessagePublished
message_due now ms = first_due (λ m. m.key) (λ m. Some m.deadline) now ms

-- the alarms of messages, of jobs, and of timers
earliest_message : (now : ℕ) (ms : List MessagePublished) → earliest place_of_alarm (filter (has_come_due now) (map alarm_of_message ms)) ≡ option_map alarm_of_message (message_due now ms)
earliest_message now ms =
    ap (earliest place_of_alarm) (filter_mapped alarm_of_message (has_come_due now) ms) ∙ earliest_mapped alarm_of_message place_of_alarm (filter (λ m. nat_le m.deadline now) ms)

earliest_job : (now : ℕ) (js : List Job) → earliest place_of_alarm (filter (has_come_due now) (map alarm_of_job js)) ≡ option_map alarm_of_job (earliest place_of_job (filter (λ j. nat_le j.deadline now) js))
earliest_job now js =
    ap (earliest place_of_alarm) (filter_mapped alarm_of_job (has_come_due now) js) ∙ earliest_mapped alarm_of_job place_of_alarm (filter (λ j. nat_le j.deadline now) js)

earliest_timer : (now : ℕ) (ts : List Timer) → earliest place_of_alarm (filter (has_come_due now) (map alarm_of_timer ts)) ≡ option_map alarm_of_timer (due_timer now ts)
earliest_timer now ts =
    ap (earliest place_of_alarm) (filter_mapped alarm_of_timer (has_come_due now) ts) ∙ earliest_mapped alarm_of_timer place_of_alarm (filter (λ t. nat_le t.due now) ts)

-- by their moments and keys
expiry_of : (found : Option MessagePublished) → option_map alarm_of_message found ≡ option_map expiry_at (option_map (place_in_time (λ m. m.key) (λ m. Some m.deadline)) found)
expiry_of None = refl
expiry_of (Some m) = refl

time_out_of : (found : Option Job) → option_map alarm_of_job found ≡ option_map time_out_at (option_map place_of_job found)
time_out_of None = refl
time_out_of (Some j) = refl

trigger_of : (found : Option Timer) → option_map alarm_of_timer found ≡ option_map trigger_at (option_map place_of_timer found)
trigger_of None = refl
trigger_of (Some t) = refl

-- until when a worker has a job, and its key
abbrev given_place : Job → ℕ × ℕ
given_place = place_in_time (λ j. j.key) given_until

-- those that are due, by their deadlines and keys
same_places : (now : ℕ) (js : List Job) → map given_place (filter (is_due (λ j. j.key) given_until now) js) ≡ map place_of_job (filter (λ j. nat_le j.deadline now) (filter (λ j. is_activated j.phase) js))
same_places now [] = refl
same_places now (j ∷ js) = by_tests (is_activated j.phase) (nat_le j.deadline now) refl refl (same_places now js)
  where
    by_tests : (t u : Bool) → is_activated j.phase ≡ t → nat_le j.deadline now ≡ u
        → map given_place (filter (is_due (λ o. o.key) given_until now) js) ≡ map place_of_job (filter (λ o. nat_le o.deadline now) (filter (λ o. is_activated o.phase) js))
        → map given_place (filter (is_due (λ o. o.key) given_until now) (j ∷ js)) ≡ map place_of_job (filter (λ o. nat_le o.deadline now) (filter (λ o. is_activated o.phase) (j ∷ js)))
    by_tests true true has come later = rw (has, come, later) (rw has refl)
    by_tests true false has late later = rw (has, late) later
    by_tests false u hasnt come later = rw hasnt later

-- the job that is due first
pub first_job_place : (now : ℕ) (js : List Job) → option_map given_place (first_due (λ j. j.key) given_until now js) ≡ option_map place_of_job (due_job now js)
first_job_place now js =
    sym (earliest_mapped given_place (λ p. p) (filter (is_due (λ j. j.key) given_until now) js))
    ∙ (ap (earliest (λ (p : ℕ × ℕ). p)) (same_places now js)
    ∙ earliest_mapped place_of_job (λ p. p) (filter (λ j. nat_le j.deadline now) (filter (λ j. is_activated j.phase) js)))

-- the earliest of three lists
earliest_of_three : (now : ℕ) (xs ys zs : List Alarm) → earliest place_of_alarm (filter (has_come_due now) (xs ++ (ys ++ zs)))
    ≡ earlier_option place_of_alarm (earliest place_of_alarm (filter (has_come_due now) xs))
    (earlier_option place_of_alarm (earliest place_of_alarm (filter (has_come_due now) ys)) (earliest place_of_alarm (filter (has_come_due now) zs)))
earliest_of_three now xs ys zs =
    let due = filter (has_come_due now) in
    ap (earliest place_of_alarm) (filter-append (has_come_due now) xs (ys ++ zs) ∙ ap (λ l. due xs ++ l) (filter-append (has_come_due now) ys zs))
    ∙ (earliest_append place_of_alarm (due xs) (due ys ++ due zs)
    ∙ ap (earlier_option place_of_alarm (earliest place_of_alarm (due xs))) (earliest_append place_of_alarm (due ys) (due zs)))

-- the command that is due first, by what is due first in each
pub first_by_tables : (now : ℕ) (es : List Event) (b : Board) (ms : List MessagePublished) (js : List Job) (ts : List Timer) (message job timer : Option (ℕ × ℕ)) (command : Option Command)
    → board_of es ≡ Some b → Ascend (λ t. t.key) 0 (timers es) → buffered es ≡ ms → jobs es ≡ js → timers es ≡ ts
    → message ≡ option_map (place_in_time (λ m. m.key) (λ m. Some m.deadline)) (first_due (λ m. m.key) (λ m. Some m.deadline) now ms) → job ≡ option_map place_of_job (due_job now js)
    → timer ≡ option_map place_of_timer (due_timer now (filter (λ t. waits_for t b) ts))
    → command ≡ option_map (λ (a : Alarm). a.command) (earlier_option place_of_alarm (option_map expiry_at message) (earlier_option place_of_alarm (option_map time_out_at job) (option_map trigger_at timer)))
    → command ≡ due_command now es
first_by_tables now es b ms js ts message job timer command is_board up buffers has have is_message is_job is_timer is =
    let awaited = awaited_is es b is_board up in
    let expiry : earliest place_of_alarm (filter (has_come_due now) (map alarm_of_message (buffered es))) ≡ option_map expiry_at message =
    rw (is_message, sym buffers) (earliest_message now (buffered es) ∙ expiry_of (message_due now (buffered es))) in
    let time_out : earliest place_of_alarm (filter (has_come_due now) (map alarm_of_job (jobs_given es))) ≡ option_map time_out_at job =
    rw (is_job, sym has) (earliest_job now (jobs_given es) ∙ time_out_of (due_job now (jobs es))) in
    let trigger : earliest place_of_alarm (filter (has_come_due now) (map alarm_of_timer (timers_awaited es))) ≡ option_map trigger_at timer =
    rw (is_timer, sym have, awaited) (earliest_timer now (filter (λ t. waits_for t b) (timers es)) ∙ trigger_of (due_timer now (filter (λ t. waits_for t b) (timers es)))) in
    is ∙ sym (ap (option_map (λ (a : Alarm). a.command)) (earliest_of_three now (map alarm_of_message (buffered es)) (map alarm_of_job (jobs_given es)) (map alarm_of_timer (timers_awaited es))
    ∙ rw (expiry, time_out, trigger) refl))

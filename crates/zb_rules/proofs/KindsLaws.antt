-- Each event of a step is of a kind to which its command leads, or of one that may follow: one walk over commands, turns and what stands beside the events of moves.
use Rattle.std.proofs.Common.{◌≡◌, ℕ, ◌-◌, ◌==◌, List, [], ◌∷◌, ◌++◌, map, filter, Bool, true, false, ◌||◌, if◌then◌else◌, IsTrue, Option, Some, None, refl, sym, ap, ◌∙◌, subst, append-nil, append_assoc, arith}
use Rattle.std.proofs.lemmas.Bool.Decides.{nat_tests}
use Rattle.std.specs.Option.{IfSome, option_map_or}
use Rattle.std.specs.List.{AllByRecursion, find, list_any, range_with_len}
use Rattle.std.proofs.lemmas.Bool.{or_left}
use Rattle.zb_base.specs.declared.vars.Variable.{Variable}
use Rattle.zb_exchange_records.specs.declared.job.JobBatchActivate.{JobBatchActivate}
use Rattle.zb_exchange_records.specs.declared.job.JobFailure.{JobFailure}
use Rattle.zb_instance_records.specs.declared.happening.IncidentKind.TheVariants as incident_kinds
use Rattle.zb_model.specs.declared.record.Command.{Command}
use Rattle.zb_model.specs.declared.record.Command.TheVariants as commands
use Rattle.zb_model.specs.declared.record.Event.{Event}
use Rattle.zb_model.specs.declared.record.Event.TheVariants as events
use Rattle.zb_model.specs.declared.record.Outcome.{Outcome}
use Rattle.zb_model.specs.declared.record.Outcome.TheVariants as outcomes
use Rattle.zb_model.specs.declared.record.Rejection.{Rejection}
use Rattle.zb_views.specs.declared.timer.Timer.{Timer}
use Rattle.zb_views.specs.Definitions.{definition_for}
use Rattle.zb_views.specs.Distributions.{is_distributed}
use Rattle.zb_views.specs.Jobs.{job_on, job_at, offered}
use Rattle.zb_views.specs.Timers.{timer_at, timers, timers_on}
use Rattle.zb_views.specs.Messages.{message_at}
use Rattle.zb_views.specs.Subscriptions.{wants_messages, subscriptions, subscription_at, opened_in}
use Rattle.zb_views.specs.ProcessSubscriptions.{process_subscriptions, process_subscription_at, is_being_deleted}
use Rattle.zb_views.specs.declared.process_subscription.ProcessSubscription.{ProcessSubscription}
use Rattle.zb_views.specs.declared.subscription.Subscription.{Subscription}
use Rattle.zb_views.specs.View.{events_in, next_key}
use Rattle.zb_tokens.specs.declared.board.Assignments.{Assignments}
use Rattle.zb_tokens.specs.declared.board.Awaited.{Awaited}
use Rattle.zb_tokens.specs.declared.board.Awaited.TheVariants as awaiteds
use Rattle.zb_tokens.specs.declared.board.Move.{Move}
use Rattle.zb_tokens.specs.declared.board.Move.TheVariants as moves
use Rattle.zb_tokens.specs.declared.board.Mover.{Mover}
use Rattle.zb_tokens.specs.Board.{Board, cell_at}
use Rattle.zb_tokens.specs.Forced.{next_mover, move_of}
use Rattle.zb_tokens.specs.Mappings.{assignments_of}
use Rattle.zb_tokens.specs.MoveTrigger.{is_interrupting}
use Rattle.zb_tokens.proofs.GameLaws.{found_passes}
use Rattle.zb_rules.specs.Acknowledge.{finished_if_last}
use Rattle.zb_rules.specs.Activate.{job_given, given_out, each_given_out, batch_told}
use Rattle.zb_rules.specs.Applies.{holds_of_game}
use Rattle.zb_rules.specs.Behind.{repair_event, job_canceled_on, job_of, job_made_on, opened_by, catch_opened, catches_opened_on, timers_canceled_on, closing_of, closed_one, subscriptions_on, subscriptions_closed_on, catches_closed_on, resolved_on, ended_on, halted_on, events_behind, with_events_behind}
use Rattle.zb_rules.specs.Complete.{results}
use Rattle.zb_exchange_records.specs.declared.message.MessagePublished.{MessagePublished}
use Rattle.zb_views.specs.Starts.{started_instances}
use Rattle.zb_rules.specs.Create.{variable_event, instance_under}
use Rattle.zb_rules.specs.Publish.{message_under, expiry_of}
use Rattle.zb_rules.specs.Starts.{may_start, starting_definition, instance_started, started_of, starts_of, starters, next_starter, started_behind}
use Rattle.zb_exchange_records.specs.declared.subscription.MessageSubscriptionDelete.{MessageSubscriptionDelete}
use Rattle.zb_rules.specs.Correlate.{fits_message, correlating_event, correlated_by, correlated_all, next_message, next_correlated, next_subscription, passed_on}
use Rattle.zb_rules.specs.Subscribe.{unkept_message, deleted_with}
use Rattle.zb_rules.specs.Deploy.{sent_to}
use Rattle.zb_rules.specs.Fail.{failure_told, stopped}
use Rattle.zb_rules.specs.InFront.{set_all, assigning, events_in_front}
use Rattle.zb_rules.specs.Kinds.{Carries, AllCarry, comes_beside, may_follow, may_lead_to}
use Rattle.zb_rules.specs.Making.{Making, just, and_then, each_made}
use Rattle.zb_rules.specs.Own.{own, own_events}
use Rattle.zb_rules.specs.Reason.{reason_for}
use Rattle.zb_rules.specs.Resolve.{incident_in}
use Rattle.zb_rules.specs.Settling.{in_events, turn_of, turn, AreTurns, joined}
use Rattle.zb_rules.specs.Shown.{board_of, event_of}
use Rattle.zb_rules.specs.Step.{IsAcceptance, IsOutcomeBy, IsOutcomeOf}
use Rattle.zb_rules.specs.Receive.{closed_after, brought, event_of_subscription, receive_events}
use Rattle.zb_rules.specs.Trigger.{event_of_timer, trigger_events}
use Rattle.zb_rules.specs.Update.{is_named_in, set_in, place_of, set_by, set_each}
use Rattle.zb_rules.proofs.MadeLaws.{made_of_any, mapped_holds, mapped_passes, chained_holds}

-- all of two lists, one behind the other
pub all_joined : {A : Type 0} (P : A → Type 0) (xs ys : List A) → AllByRecursion P xs → AllByRecursion P ys → AllByRecursion P (xs ++ ys)
all_joined P [] ys first later = later
all_joined P (x ∷ xs) ys first later = (first.0, all_joined P xs ys first.1 later)

-- where one property leads to another
pub all_weaker : {A : Type 0} (P Q : A → Type 0) → ((x : A) → P x → Q x) → (xs : List A) → AllByRecursion P xs → AllByRecursion Q xs
all_weaker P Q leads [] all = tt
all_weaker P Q leads (x ∷ xs) all = (leads x all.0, all_weaker P Q leads xs all.1)

-- each of these events is of a kind
abbrev pub EachOf : (Event → Bool) → List Event → Type 0
EachOf kind es = AllByRecursion (λ e. IsTrue (kind e)) es

-- each of these events, behind those before it, has this relation to them
abbrev pub From : (List Event → Event → Type 0) → (before es : List Event) → Type 0
From R before [] = Unit {0}
From R before (e ∷ es) = R before e × From R (before ++ e ∷ []) es

pub from_joined : (R : List Event → Event → Type 0) (before xs ys : List Event) → From R before xs → From R (before ++ xs) ys → From R before (xs ++ ys)
from_joined R before [] ys first later = subst (λ (l : List Event). From R l ys) (append-nil before) later
from_joined R before (x ∷ xs) ys first later = (first.0, from_joined R (before ++ x ∷ []) xs ys first.1 (subst (λ (l : List Event). From R l ys) (sym (append_assoc before (x ∷ []) xs)) later))

pub from_weaker : (P Q : List Event → Event → Type 0) → ((before : List Event) (e : Event) → P before e → Q before e) → (before es : List Event) → From P before es → From Q before es
from_weaker P Q leads before [] all = tt
from_weaker P Q leads before (e ∷ es) all = (leads before e all.0, from_weaker P Q leads (before ++ e ∷ []) es all.1)

-- the event is of a kind, and closes a subscription with what that was given, if it closes one
abbrev pub Listed : (Event → Bool) → List Event → Event → Type 0
Listed kind before e = IsTrue (kind e) × Carries before e

-- so each is of the kind
pub kinds_in : (kind : Event → Bool) (before es : List Event) → From (Listed kind) before es → EachOf kind es
kinds_in kind before [] all = tt
kinds_in kind before (e ∷ es) all = (all.0.0, kinds_in kind (before ++ e ∷ []) es all.1)

-- and closes what it closes so
pub carried_in : (kind : Event → Bool) (before es : List Event) → From (Listed kind) before es → AllCarry before es
carried_in kind before [] all = tt
carried_in kind before (e ∷ es) all = (all.0.1, carried_in kind (before ++ e ∷ []) es all.1)

-- each of those that are made has this relation, whatever was before
abbrev pub Makes : (List Event → Event → Type 0) → Making → Type 0
Makes R make = (before : List Event) → From R before (make before)

module _ (R : List Event → Event → Type 0) where
  pub then_makes : (first second : Making) → Makes R first → Makes R second → Makes R (and_then first second)
  then_makes first second one two before = from_joined R before (first before) (second (before ++ first before)) (one before) (two (before ++ first before))

  each_makes : {A : Type 0} (make : A → Making) → ((x : A) → Makes R (make x)) → (xs : List A) → Makes R (each_made make xs)
  each_makes make makes [] before = tt
  each_makes make makes (x ∷ xs) before = then_makes (make x) (each_made make xs) (makes x) (each_makes make makes xs) before

  mapped_are : {A : Type 0} (make : A → Event) → ((x : A) (before : List Event) → R before (make x)) → (xs : List A) (before : List Event) → From R before (map make xs)
  mapped_are make are [] before = tt
  mapped_are make are (x ∷ xs) before = (are x before, mapped_are make are xs (before ++ make x ∷ []))

  some_are : {A : Type 0} (before : List Event) (make : A → List Event) → ((x : A) → From R before (make x)) → (found : Option A) → From R before (option_map_or make found [])
  some_are before make are None = tt
  some_are before make are (Some x) = are x

  tested_are : (before : List Event) (t : Bool) (es more : List Event) → From R before es → From R before more → From R before (if t then es else more)
  tested_are before true es more first later = first
  tested_are before false es more first later = later

-- an event by which a variable is set
abbrev pub sets_variable : Event → Bool
sets_variable (events.VariableCreated e) = true
sets_variable (events.VariableUpdated e) = true
sets_variable e = false

abbrev pub Sets : List Event → Event → Type 0
Sets before e = IsTrue (sets_variable e)

-- what sets variables one by one, and does nothing else
set_makes : (local : Bool) (scope : ℕ) (vs : List Variable) → Makes Sets (set_each local scope vs)
set_makes local scope vs = each_makes Sets (set_by local scope)
    (λ v before. some_are Sets before (λ cell. set_in cell v before) (λ cell. tested_are Sets before (holds_of_game (is_named_in cell v.name) before) _ _ (refl, tt) (refl, tt)) (place_of local scope v.name before)) vs

pub assigning_makes : (assignments : Option Assignments) → Makes Sets (assigning assignments)
assigning_makes assignments before = some_are Sets before (λ s. set_all s before) (λ s. set_makes s.local s.scope s.variables before) assignments

sets_in : (before es : List Event) → From Sets before es → EachOf sets_variable es
sets_in before [] all = tt
sets_in before (e ∷ es) all = (all.0, sets_in (before ++ e ∷ []) es all.1)

-- the events in front of that of a move set variables
pub front_are : (b : Board) (move : Move) (before : List Event) → EachOf sets_variable (events_in_front b move before)
front_are b move before = sets_in before (events_in_front b move before) (assigning_makes (assignments_of b move) before)

abbrev pub Beside : List Event → Event → Type 0
Beside = Listed comes_beside

pub variable_beside : (before : List Event) (e : Event) → IsTrue (sets_variable e) → Beside before e
variable_beside before (events.VariableCreated e) sets = (refl, tt)
variable_beside before (events.VariableUpdated e) sets = (refl, tt)
variable_beside before e sets = absurd (cc)

-- so they may stand beside it
pub front_beside : (b : Board) (move : Move) → Makes Beside (events_in_front b move)
front_beside b move before = from_weaker Sets Beside variable_beside before (events_in_front b move before) (assigning_makes (assignments_of b move) before)

-- what opens for a cell is such an event
opened_are : (key cell : ℕ) (node : List ℕ) (event : Awaited) (before : List Event) → Beside before (opened_by key cell node event)
opened_are key cell node (awaiteds.Time due) before = (refl, tt)
opened_are key cell node (awaiteds.Message m) before = (refl, tt)

-- a subscription that closes is there
pub closing_carries : (key : ℕ) (before : List Event) (s : ProcessSubscription) → process_subscription_at key before ≡ Some s → Carries before (closing_of s)
closing_carries key before s at =
    let its : (s.key == key) ≡ true = found_passes (λ (x : ProcessSubscription). x.key == key) (process_subscriptions before) s at in
    let same : s.key ≡ key = grind (arith, nat_tests, its) in
    (s, subst (λ (k : ℕ). process_subscription_at k before ≡ Some s) (sym same) at, refl)

one_closed_makes : (key : ℕ) → Makes Beside (closed_one key)
one_closed_makes key before = made_of_any (From Beside before) (λ s. if is_being_deleted s.phase then [] else closing_of s ∷ []) (process_subscription_at key before) tt
    (λ s at. tested_are Beside before (is_being_deleted s.phase) [] (closing_of s ∷ []) tt ((refl, closing_carries key before s at), tt))

closed_makes : (cell : ℕ) → Makes Beside (catches_closed_on cell)
closed_makes cell = then_makes Beside (timers_canceled_on cell) (subscriptions_closed_on cell) (λ before. mapped_are Beside (λ t. events.TimerCanceled t.key) (λ t earlier. (refl, tt)) (timers_on cell before) before)
    (λ before. each_makes Beside closed_one one_closed_makes (subscriptions_on cell before) before)

ended_makes : (seen : List Event) (cell : ℕ) → Makes Beside (ended_on seen cell)
ended_makes seen cell = then_makes Beside (job_canceled_on seen cell) (and_then (catches_closed_on cell) (resolved_on cell)) (λ before. some_are Beside before (λ job. events.JobCanceled job.key ∷ []) (λ job. ((refl, tt), tt)) (job_on cell seen))
    (then_makes Beside (catches_closed_on cell) (resolved_on cell) (closed_makes cell) (λ before. some_are Beside before (λ i. repair_event i ∷ []) (λ i. ((refl, tt), tt)) _))

-- those by which a message starts an instance
start_makes : (p : ℕ) (m : MessagePublished) (process : List ℕ) → Makes Beside (started_of p m process)
start_makes p m process before = some_are Beside before (λ d. if may_start m process before then instance_started (next_key p before) d m else [])
    (λ d. tested_are Beside before (may_start m process before) (instance_started (next_key p before) d m) [] ((refl, tt), ((refl, tt), mapped_are Beside (variable_event (next_key p before)) (λ v earlier. (refl, tt)) m.variables _)) tt)
    (starting_definition m.name process before)

restarted_makes : (p : ℕ) (seen : List Event) (instance : ℕ) → Makes Beside (started_behind p seen instance)
restarted_makes p seen instance before = some_are Beside before (λ s. option_map_or (λ m. started_of p m s.process before) (next_starter s before) [])
    (λ s. some_are Beside before (λ m. started_of p m s.process before) (λ m. start_makes p m s.process before) (next_starter s before))
    (find (λ s. s.instance == instance) (started_instances seen))

-- and so may those behind it
pub behind_beside : (p moment : ℕ) (seen : List Event) (e : Event) → Makes Beside (events_behind p moment seen e)
behind_beside p moment seen (events.ElementActivating e) = λ before. from_weaker Sets Beside variable_beside before _ (set_makes true e.key _ before)
behind_beside p moment seen (events.ElementActivated e) = then_makes Beside (job_made_on p e.key) (catches_opened_on p moment e.key)
    (λ before. some_are Beside before (λ n. job_of p e.key n before) (λ n. ((refl, tt), tt)) _) (λ before. each_makes Beside (catch_opened p e.key) (λ o earlier. (opened_are (next_key p earlier) e.key o.node o.event earlier, tt)) _ before)
behind_beside p moment seen (events.ElementCompleting key) = closed_makes key
behind_beside p moment seen (events.ElementTerminating key) = ended_makes seen key
behind_beside p moment seen (events.ProcessEventTriggered e) = λ before. tested_are Beside before (holds_of_game (is_interrupting e.cell e.node) before) (halted_on e.cell before) []
    ((refl, tt), ended_makes before e.cell (before ++ events.ElementTerminating e.cell ∷ [])) tt
behind_beside p moment seen (events.ElementCompleted e) = restarted_makes p seen e.key
behind_beside p moment seen (events.ElementTerminated key) = restarted_makes p seen key
behind_beside p moment seen e = λ before. tt

or_follows : (e : Event) → (comes_beside e || may_follow e) ≡ may_follow e
or_follows (events.ElementActivating e) = refl
or_follows e = refl

pub beside_follows : (e : Event) → IsTrue (comes_beside e) → IsTrue (may_follow e)
beside_follows e beside = sym (or_follows e) ∙ or_left (comes_beside e) (may_follow e) beside

pub listed_by : (kind other : Event → Bool) → ((e : Event) → IsTrue (kind e) → IsTrue (other e)) → (before : List Event) (e : Event) → Listed kind before e → Listed other before e
listed_by kind other leads before e is = (leads e is.0, is.1)

-- an event of a kind, and those behind it, where what may stand beside one is of that kind
pub with_behind : (kind : Event → Bool) → ((e : Event) → IsTrue (comes_beside e) → IsTrue (kind e)) → (p moment : ℕ) (e : Event) → ((before : List Event) → Listed kind before e) → Makes (Listed kind) (with_events_behind p moment e)
with_behind kind beside p moment e is before = (is before, from_weaker Beside (Listed kind) (listed_by comes_beside kind beside) _ _ (behind_beside p moment before e (before ++ e ∷ [])))

-- the event of a forced move may follow, and closes nothing
abbrev is_forced_kind : Event → Bool
is_forced_kind (events.ProcessMessageSubscriptionDeleting e) = false
is_forced_kind e = may_follow e

event_follows : (b : Board) (move : Move) → option_map_or is_forced_kind (event_of b move) true ≡ true
event_follows b (moves.Enter x) = mapped_passes is_forced_kind _ (λ c. refl) (cell_at b x.scope)
event_follows b (moves.Inner x) = mapped_passes is_forced_kind _ (λ c. refl) (cell_at b x.body)
event_follows b (moves.Undo x) = mapped_passes is_forced_kind _ (λ c. refl) (cell_at b x.event)
event_follows b move = refl

forced_listed : (e : Event) → IsTrue (is_forced_kind e) → (before : List Event) → Listed may_follow before e
forced_listed (events.ProcessMessageSubscriptionDeleting e) is before = absurd (cc)
forced_listed e is before = (is, tt)

abbrev pub Follows : List Event → Event → Type 0
Follows = Listed may_follow

turn_of_follows : (p moment : ℕ) (es : List Event) (b : Board) (mover : Mover) (made : List Event) → turn_of p moment es b mover ≡ Some made → From Follows es made
turn_of_follows p moment es b mover made is = chained_holds (From Follows es) _ (move_of b moment (next_key p es) mover) made (λ move found z led.
    mapped_holds (From Follows es) (λ e. in_events p moment b move e es) (event_of b move) z (λ e told.
    then_makes Follows (events_in_front b move) (with_events_behind p moment e)
    (λ before. from_weaker Beside Follows (listed_by comes_beside may_follow beside_follows) before (events_in_front b move before) (front_beside b move before))
    (with_behind may_follow beside_follows p moment e (forced_listed e (sym (ap (λ (o : Option Event). option_map_or is_forced_kind o true) told) ∙ event_follows b move))) es) led) is

turn_follows : (p moment : ℕ) (es made : List Event) → turn p moment es ≡ Some made → From Follows es made
unfolding turn
turn_follows p moment es made is = chained_holds (From Follows es) _ (board_of es) made (λ b found z led.
    chained_holds (From Follows es) _ (next_mover b) z (λ mover next y came. turn_of_follows p moment es b mover y came) led) is

-- what comes of what is forced may follow
pub turns_follow : (p moment : ℕ) (es : List Event) (count : ℕ) (turns : List (List Event)) → AreTurns p moment es count turns → From Follows es (joined turns)
turns_follow p moment es count [] are = tt
turns_follow p moment es count (made ∷ turns) are = from_joined Follows es made (joined turns) (turn_follows p moment es made are.1) (turns_follow p moment (es ++ made) _ turns are.2)

-- a command makes this itself
abbrev pub own_kind : Command → Event → Bool
own_kind command e = comes_beside e || may_lead_to command e

beside_own : (command : Command) (e : Event) → IsTrue (comes_beside e) → IsTrue (own_kind command e)
beside_own command e beside = or_left (comes_beside e) (may_lead_to command e) beside

abbrev pub OwnOf : Command → List Event → Event → Type 0
OwnOf command = Listed (own_kind command)

beside_too : (command : Command) (before : List Event) (e : Event) → Beside before e → OwnOf command before e
beside_too command = listed_by comes_beside (own_kind command) (beside_own command)

set_own : (command : Command) (make : Making) → Makes Sets make → Makes (OwnOf command) make
set_own command make sets before = from_weaker Sets (OwnOf command) (λ earlier e is. beside_too command earlier e (variable_beside earlier e is)) before (make before) (sets before)

given_makes : (moment : ℕ) (c : JobBatchActivate) (keys : List ℕ) → Makes (OwnOf (commands.JobBatchActivate c)) (each_given_out moment c keys)
given_makes moment c = let R = OwnOf (commands.JobBatchActivate c) in each_makes R (given_out moment c)
    (λ key before. some_are R before (λ j. option_map_or (λ b. events.JobActivated (job_given moment c b j) ∷ []) (board_of before) [])
    (λ j. some_are R before (λ b. events.JobActivated (job_given moment c b j) ∷ []) (λ b. ((refl, tt), tt)) (board_of before)) (job_at key before))

stopped_makes : (p : ℕ) (c : JobFailure) → Makes (OwnOf (commands.JobFail c)) (stopped p c)
stopped_makes p c before = let R = OwnOf (commands.JobFail c) in tested_are R before (c.retries == 0) _ []
    (some_are R before (λ j. events.IncidentCreated (record { key = next_key p before; kind = incident_kinds.JobNoRetries; cell = j.cell; job = c.key; text = c.text }) ∷ []) (λ j. ((refl, tt), tt)) (job_at c.key before)) tt

module _ (R : List Event → Event → Type 0) (correlates : (m : MessagePublished) (s : Subscription) (before : List Event) → R before (correlating_event m s)) where
  -- what begins to correlate messages
  correlated_makes : (m : MessagePublished) → Makes R (correlated_all m)
  correlated_makes m before = each_makes R (correlated_by m)
      (λ key earlier. some_are R earlier (λ s. if fits_message m s earlier then correlating_event m s ∷ [] else []) (λ s. tested_are R earlier (fits_message m s earlier) (correlating_event m s ∷ []) [] (correlates m s earlier, tt) tt) (subscription_at key earlier))
      (map (λ s. s.key) (filter (wants_messages m.name m.correlation_key) (subscriptions before))) before

  next_makes : (key : ℕ) → Makes R (next_correlated key)
  next_makes key before = some_are R before (λ s. option_map_or (λ m. correlating_event m s ∷ []) (next_message s before) [])
      (λ s. some_are R before (λ m. correlating_event m s ∷ []) (λ m. (correlates m s before, tt)) (next_message s before)) (subscription_at key before)

  passed_makes : (subscription message : ℕ) → Makes R (passed_on subscription message)
  passed_makes subscription message before = some_are R before (λ o. option_map_or (λ m. option_map_or (λ s. correlating_event m s ∷ []) (next_subscription m o.process before) []) (message_at message before) [])
      (λ o. some_are R before (λ m. option_map_or (λ s. correlating_event m s ∷ []) (next_subscription m o.process before) [])
      (λ m. some_are R before (λ s. correlating_event m s ∷ []) (λ s. (correlates m s before, tt)) (next_subscription m o.process before)) (message_at message before)) (opened_in subscription before)

-- each command makes itself what the table says
own_makes : (p n moment : ℕ) (command : Command) → IfSome (own p n moment command) (Makes (OwnOf command))
own_makes p n moment (commands.DeploymentCreate m) = λ before. ((refl, tt), ((refl, tt), mapped_are (OwnOf (commands.DeploymentCreate m)) (sent_to (next_key p before)) (λ q earlier. (refl, tt)) (range_with_len 2 (n - 1)) _))
own_makes p n moment (commands.CommandDistributionAcknowledge c) = let R = OwnOf (commands.CommandDistributionAcknowledge c) in
    then_makes R (just (events.CommandDistributionAcknowledged (record { key = c.key; partition = c.partition }))) (finished_if_last c.key) (λ before. ((refl, tt), tt))
    (λ before. tested_are R before (is_distributed c.key before) [] (events.CommandDistributionFinished c.key ∷ []) tt ((refl, tt), tt))
own_makes p n moment (commands.ProcessInstanceCreationCreate c) = let R = OwnOf (commands.ProcessInstanceCreationCreate c) in
    λ before. some_are R before (λ d. instance_under (next_key p before) d.key c) (λ d. ((refl, tt), ((refl, tt), mapped_are R (variable_event (next_key p before)) (λ v earlier. (refl, tt)) c.variables _))) (definition_for c.process c.version before)
own_makes p n moment (commands.ProcessInstanceCancel key) = let command = commands.ProcessInstanceCancel key in with_behind (own_kind command) (beside_own command) p moment (events.ElementTerminating key) (λ before. (refl, tt))
own_makes p n moment (commands.VariableDocumentUpdate c) = let command = commands.VariableDocumentUpdate c in
    then_makes (OwnOf command) (set_each c.local c.scope c.variables) (just (events.VariableDocumentUpdated c.scope)) (set_own command _ (set_makes c.local c.scope c.variables)) (λ before. ((refl, tt), tt))
own_makes p n moment (commands.JobBatchActivate c) = λ before. let keys = map (λ j. j.key) (offered c.kind c.most before) in
    then_makes (OwnOf (commands.JobBatchActivate c)) (each_given_out moment c keys) (batch_told p keys) (given_makes moment c keys) (λ es. ((refl, tt), tt)) before
own_makes p n moment (commands.JobComplete c) = λ before. ((refl, tt), set_own (commands.JobComplete c) (assigning (results c before)) (assigning_makes (results c before)) (before ++ events.JobCompleted c.key ∷ []))
own_makes p n moment (commands.JobFail c) = λ before. ((refl, tt), stopped_makes p c (before ++ failure_told c ∷ []))
own_makes p n moment (commands.TimerTrigger key) = let command = commands.TimerTrigger key in
    λ before. made_of_any (From (OwnOf command) before) (λ t. trigger_events p moment t before) (timer_at key before) tt (λ t found. (
      (found_passes (λ (x : Timer). x.key == key) (timers before) t found, tt),
      with_behind (own_kind command) (beside_own command) p moment (event_of_timer t) (λ earlier. (refl, tt)) (before ++ events.TimerTriggered t.key ∷ []),
    ))
own_makes p n moment (commands.IncidentResolve key) = λ before. some_are (OwnOf (commands.IncidentResolve key)) before (λ i. repair_event i ∷ []) (λ i. ((refl, tt), tt)) (incident_in key before)
own_makes p n moment (commands.MessagePublish c) = λ before.
    let R = OwnOf (commands.MessagePublish c) in
    let m = message_under (next_key p before) moment c in
    then_makes R (just (events.MessagePublished m)) (and_then (correlated_all m) (and_then (starts_of p m) (λ before. expiry_of m.key c))) (λ before. ((refl, tt), tt))
    (then_makes R (correlated_all m) (and_then (starts_of p m) (λ before. expiry_of m.key c)) (correlated_makes R (λ x s earlier. (refl, tt)) m)
    (then_makes R (starts_of p m) (λ before. expiry_of m.key c)
    (λ later. each_makes R (started_of p m) (λ process earlier. from_weaker Beside R (beside_too (commands.MessagePublish c)) earlier (started_of p m process earlier) (start_makes p m process earlier)) (starters m.name later) later)
    (λ later. tested_are R later (c.time_to_live == 0) (events.MessageExpired m.key ∷ []) [] ((refl, tt), tt) tt))) before
own_makes p n moment (commands.MessageSubscriptionCreate c) = let R = OwnOf (commands.MessageSubscriptionCreate c) in
    λ before. ((refl, tt), next_makes R (λ x s earlier. (refl, tt)) c.subscription (before ++ events.MessageSubscriptionCreated c ∷ []))
own_makes p n moment (commands.MessageSubscriptionCorrelate c) = let R = OwnOf (commands.MessageSubscriptionCorrelate c) in
    λ before. ((refl, tt), next_makes R (λ x s earlier. (refl, tt)) c.subscription (before ++ events.MessageSubscriptionCorrelated c ∷ []))
own_makes p n moment (commands.MessageSubscriptionReject c) = let R = OwnOf (commands.MessageSubscriptionReject c) in
    λ before. ((refl, tt), passed_makes R (λ x s earlier. (refl, tt)) c.subscription c.message (before ++ events.MessageSubscriptionRejected c ∷ []))
own_makes p n moment (commands.MessageSubscriptionDelete c) = λ before. deleted_are c before (unkept_message c before)
  where
    deleted_are : (c : MessageSubscriptionDelete) (before : List Event) (found : Option ℕ) → From (OwnOf (commands.MessageSubscriptionDelete c)) before (option_map_or (λ (m : ℕ). deleted_with c.subscription m before) found (events.MessageSubscriptionDeleted c.subscription ∷ []))
    deleted_are c before None = ((refl, tt), tt)
    deleted_are c before (Some m) =
        let e = events.MessageSubscriptionRejected (record { subscription = c.subscription; message = m }) in
        ((refl, tt), ((refl, tt), passed_makes (OwnOf (commands.MessageSubscriptionDelete c)) (λ x s earlier. (refl, tt)) c.subscription m ((before ++ e ∷ []) ++ events.MessageSubscriptionDeleted c.subscription ∷ [])))
own_makes p n moment (commands.ProcessMessageSubscriptionCorrelate c) = let command = commands.ProcessMessageSubscriptionCorrelate c in
    λ before. made_of_any (From (OwnOf command) before) (λ s. receive_events p moment c s before) (process_subscription_at c.subscription before) tt (λ s found.
    let brings = brought c.variables s before in
    let happens = with_events_behind p moment (event_of_subscription s) in (
      (refl, tt),
      then_makes (OwnOf command) (closed_after c.subscription) (and_then (assigning brings) happens)
          (λ earlier. made_of_any (From (OwnOf command) earlier) (λ s. if s.cancel then closing_of s ∷ [] else []) (process_subscription_at c.subscription earlier) tt
          (λ s at. tested_are (OwnOf command) earlier s.cancel (closing_of s ∷ []) [] ((refl, closing_carries c.subscription earlier s at), tt) tt))
          (then_makes (OwnOf command) (assigning brings) happens (set_own command (assigning brings) (assigning_makes brings))
          (with_behind (own_kind command) (beside_own command) p moment (event_of_subscription s) (λ earlier. (refl, tt))))
          (before ++ events.ProcessMessageSubscriptionCorrelated (record { subscription = c.subscription; message = c.message }) ∷ []),
    ))
own_makes p n moment command = search

-- an event of this kind may stand in a step of the command
abbrev pub step_kind : Command → Event → Bool
step_kind command e = may_follow e || may_lead_to command e

follows_in : (command : Command) (e : Event) → IsTrue (may_follow e) → IsTrue (step_kind command e)
follows_in command e follows = or_left (may_follow e) (may_lead_to command e) follows

own_in : (command : Command) (e : Event) → IsTrue (own_kind command e) → IsTrue (step_kind command e)
own_in command e is = grind (arith, or_follows e, is)

-- what one event that passes a test tells, some tell where one of them passes
any_tells : (kind test : Event → Bool) (Tells : Type 0) → ((e : Event) → IsTrue (kind e) → IsTrue (test e) → Tells) → (es : List Event) → EachOf kind es → IsTrue (list_any test es) → Tells
any_tells kind test Tells tells [] are any = absurd (cc)
any_tells kind test Tells tells (e ∷ es) are any = by_test (test e) refl (any_tells kind test Tells tells es are.1) any
  where
    by_test : (t : Bool) → test e ≡ t → (IsTrue (list_any test es) → Tells) → IsTrue (t || list_any test es) → Tells
    by_test true passes later any = tells e are.0 passes
    by_test false other later any = later any

module _ (p n moment : ℕ) (es : List Event) where
  own_listed : (command : Command) (made : List Event) → own_events p n es moment command ≡ Some made → From (OwnOf command) es made
  own_listed command made is = mapped_holds (From (OwnOf command) es) (λ make. make es) (own p n moment command) made
      (λ make found. subst (λ (o : Option Making). IfSome o (Makes (OwnOf command))) found (own_makes p n moment command) es) is

  -- each of a command's own events is one that it makes itself
  pub own_kinds : (command : Command) (made : List Event) → own_events p n es moment command ≡ Some made → EachOf (own_kind command) made
  own_kinds command made is = kinds_in (own_kind command) es made (own_listed command made is)

  rest_listed : (command : Command) (outcome : Outcome) → (a : IsAcceptance p n moment es command outcome) → From Follows (es ++ a.own) a.rest
  rest_listed command outcome a = subst (From Follows (es ++ a.own)) (sym a.settles.is) (turns_follow p moment (es ++ a.own) _ a.settles.turns a.settles.each)

  -- what is forced behind them may follow
  pub rest_follows : (command : Command) (outcome : Outcome) → (a : IsAcceptance p n moment es command outcome) → EachOf may_follow a.rest
  rest_follows command outcome a = kinds_in may_follow (es ++ a.own) a.rest (rest_listed command outcome a)

  abbrev InStep : Command → List Event → Event → Type 0
  InStep command = Listed (step_kind command)

  accepted_listed : (command : Command) (outcome : Outcome) → IsAcceptance p n moment es command outcome → From (InStep command) es (events_in outcome)
  accepted_listed command outcome a = subst (λ (o : Outcome). From (InStep command) es (events_in o)) (sym a.accepted)
      (from_joined (InStep command) es a.own a.rest
      (from_weaker (OwnOf command) (InStep command) (listed_by (own_kind command) (step_kind command) (own_in command)) es a.own (own_listed command a.own a.are_own))
      (from_weaker Follows (InStep command) (listed_by may_follow (step_kind command) (follows_in command)) (es ++ a.own) a.rest (rest_listed command outcome a)))

  listed_in : (reason : Option Rejection) (command : Command) (outcome : Outcome) → IsOutcomeBy reason outcome (IsAcceptance p n moment es command outcome) → From (InStep command) es (events_in outcome)
  listed_in None command outcome is = accepted_listed command outcome is
  listed_in (Some rejection) command outcome is = subst (λ (o : Outcome). From (InStep command) es (events_in o)) (sym is) tt

  -- each event of a step is one that may follow, or that its command makes itself
  pub kinds_of_steps : (command : Command) (outcome : Outcome) → IsOutcomeOf p n moment es command outcome → EachOf (step_kind command) (events_in outcome)
  kinds_of_steps command outcome is = kinds_in (step_kind command) es (events_in outcome) (listed_in (reason_for es moment command) command outcome is)

  -- and closes a subscription with what that was given, if it closes one
  pub closings_of_steps : (command : Command) (outcome : Outcome) → IsOutcomeOf p n moment es command outcome → AllCarry es (events_in outcome)
  closings_of_steps command outcome is = carried_in (step_kind command) es (events_in outcome) (listed_in (reason_for es moment command) command outcome is)

  pub closings_of_run : (command : Command) (outcome : Outcome) → IsAcceptance p n moment es command outcome → AllCarry es (events_in outcome)
  closings_of_run command outcome a = carried_in (step_kind command) es (events_in outcome) (accepted_listed command outcome a)

  -- where a step has an event that passes a test, its command is run, and is what such an event tells
  module _ (test : Event → Bool) (Tells : Command → Type 0) (tells : (e : Event) (command : Command) → IsTrue (step_kind command e) → IsTrue (test e) → Tells command) (command : Command) (outcome : Outcome) where
    told_by : (reason : Option Rejection) → reason_for es moment command ≡ reason → IsOutcomeBy reason outcome (IsAcceptance p n moment es command outcome) → IsTrue (list_any test (events_in outcome))
        → Tells command × (reason_for es moment command ≡ None) × IsAcceptance p n moment es command outcome
    told_by None none is any = (any_tells (step_kind command) test (Tells command) (λ e. tells e command) (events_in outcome) (kinds_in (step_kind command) es (events_in outcome) (accepted_listed command outcome is)) any, none, is)
    told_by (Some rejection) some is any = absurd (let none : IsTrue (list_any test (events_in (outcomes.Rejected rejection))) = subst (λ (o : Outcome). IsTrue (list_any test (events_in o))) is any in cc)

    pub command_told : IsOutcomeOf p n moment es command outcome → IsTrue (list_any test (events_in outcome)) → Tells command × (reason_for es moment command ≡ None) × IsAcceptance p n moment es command outcome
    command_told is any = told_by (reason_for es moment command) refl is any

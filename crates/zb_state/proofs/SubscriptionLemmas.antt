-- With what subscriptions that are there were opened, and the locks of their messages.
use Rattle.std.proofs.Common.{◌≡◌, ℕ, zero, suc, ◌==◌, ◌&&◌, List, [], ◌∷◌, ◌++◌, map, filter, not, is_some, Bool, true, false, if◌then◌else◌, bytes_eq, IsTrue, Option, Some, None, option_map, All, Contains, refl, sym, ap, ◌∙◌, subst, arith}
use Rattle.std.specs.List.{find}
use Rattle.std.specs.Option.{option_map_or}
use Rattle.std.proofs.lemmas.Bool.Decides.{nat_tests}
use Rattle.std.proofs.lemmas.List.Elements.{All-nil, All-cons, All-append, All-contains}
use Rattle.std.proofs.lemmas.Slice.Eq.{bytes_eq-Decides}
use Rattle.zb_exchange_records.specs.declared.subscription.MessageCorrelation.{MessageCorrelation}
use Rattle.zb_exchange_records.specs.declared.subscription.MessageSubscription.{MessageSubscription}
use Rattle.zb_exchange_records.specs.declared.subscription.SubscribedMessage.{SubscribedMessage}
use Rattle.zb_model.specs.declared.record.Event.{Event}
use Rattle.zb_model.specs.declared.record.Event.TheVariants as events
use Rattle.zb_tokens.specs.Board.{Board}
use Rattle.zb_views.specs.Standing.{left_by, begun_by, standing_by}
use Rattle.zb_views.specs.Subscriptions.{subscription_of, subscription_told, task_by, with_task, ends_subscription, subscription_sort, subscriptions, subscription_at, is_subscribed, opened_told, opened_in, wants_messages, lock_for, lock_told, lock_sort, is_lock, is_locked_for}
use Rattle.zb_exchange_records.specs.declared.message.MessagePublished.{MessagePublished}
use Rattle.zb_views.specs.Messages.{buffered, message_at}
use Rattle.zb_views.specs.declared.started.Started.{Started}
use Rattle.zb_rules.specs.Starts.{next_starter}
use Rattle.zb_views.specs.declared.lock.Lock.{Lock}
use Rattle.zb_views.specs.declared.subscription.Subscription.{Subscription}
use Rattle.zb_views.proofs.StandingLaws.{standing_more, each_left, one_more, some_gone}
use Rattle.zb_views.proofs.ToldLaws.{last_told_more}
use Rattle.zb_rules.specs.Correlate.{fits_message, begins_correlating, is_correlating, next_message}
use Rattle.zb_rules.proofs.AppliedLaws.{Advances, holds_of_all}
use Rattle.zb_rules.proofs.CorrelateLaws.{found_one, subscription_keyed}
use Rattle.zb_starts.specs.Change.{locks_by}
use Rattle.zb_starts.specs.declared.change.Change.TheVariants as changes
use Rattle.zb_state.specs.Starts.{lock_of}
use Rattle.zb_state.specs.State.{IsStateOf}
use Rattle.zb_state.specs.declared.facts.Facts.{Facts}

-- texts are compared either way round
turned_texts : (a b : List ℕ) → bytes_eq a b ≡ bytes_eq b a
turned_texts a b = by_tests (bytes_eq a b) (bytes_eq b a) refl refl
  where
    by_tests : (t u : Bool) → bytes_eq a b ≡ t → bytes_eq b a ≡ u → t ≡ u
    by_tests true true one other = refl
    by_tests false false one other = refl
    by_tests true false one other = let same : a ≡ b = (bytes_eq-Decides a b).0 one in let turned : bytes_eq b a ≡ true = (bytes_eq-Decides b a).1 (sym same) in absurd (cc (turned, other))
    by_tests false true one other = let same : b ≡ a = (bytes_eq-Decides b a).0 other in let turned : bytes_eq a b ≡ true = (bytes_eq-Decides a b).1 (sym same) in absurd (cc (turned, one))

-- a subscription was opened last for its process
record IsOpened (es : List Event) (s : Subscription) : Type 0 where
  opened : MessageSubscription
  is : opened_in s.key es ≡ Some opened
  process : opened.process ≡ s.process

abbrev AreOpenedAs : ℕ → List Event → Board → Type 0
AreOpenedAs p es b = All (IsOpened es) (subscriptions es)

-- one that is among others is found by its key
found_among : (key : ℕ) (ss : List Subscription) (s : Subscription) → Contains ss s → s.key ≡ key → is_some (find (λ x. x.key == key) ss) ≡ true
found_among key [] s (i, within, is) at = absurd (omega (arith, within))
found_among key (x ∷ ss) s (zero, within, is) at =
    let here : (x.key == key) ≡ true = (let one : x.key ≡ key = ap (λ (y : Subscription). y.key) is ∙ at in grind (arith, nat_tests, one)) in
    rw here refl
found_among key (x ∷ ss) s (suc i, within, is) at = by_test (x.key == key) (found_among key ss s (i, omega (arith, within), is) at)
  where
    by_test : (t : Bool) → is_some (find (λ (y : Subscription). y.key == key) ss) ≡ true → is_some (if t then Some x else find (λ y. y.key == key) ss) ≡ true
    by_test true later = refl
    by_test false later = later

-- an event that applies opens none that is there
none_opened : (p : ℕ) (before : List Event) (b : Board) (e : Event) (after : Board) → Advances p before b e after → (s : Subscription) → Contains (subscriptions before) s → opened_told s.key e ≡ None
none_opened p before b (events.MessageSubscriptionCreated c) after h s among = by_test (c.subscription == s.key) refl
  where
    by_test : (t : Bool) → (c.subscription == s.key) ≡ t → (if t then Some c else None) ≡ None
    by_test false other = refl
    by_test true here =
        let there : is_subscribed c.subscription before ≡ true = found_among c.subscription (subscriptions before) s among (grind (arith, nat_tests, here)) in
        let new : not (is_subscribed c.subscription before) ≡ true = h.own in
        absurd (cc (there, new))
none_opened p before b e after h s among = refl

-- no event changes the key or the process of a subscription
task_same : (e : Event) (s : Subscription) → ((task_by e s).key ≡ s.key) × ((task_by e s).process ≡ s.process)
task_same (events.MessageSubscriptionCorrelating e) s = by_test (s.key == e.subscription)
  where
    by_test : (t : Bool) → ((if t then with_task (Some e.message) s else s).key ≡ s.key) × ((if t then with_task (Some e.message) s else s).process ≡ s.process)
    by_test true = (refl, refl)
    by_test false = (refl, refl)
task_same (events.MessageSubscriptionCorrelated e) s = by_test (s.key == e.subscription)
  where
    by_test : (t : Bool) → ((if t then with_task None s else s).key ≡ s.key) × ((if t then with_task None s else s).process ≡ s.process)
    by_test true = (refl, refl)
    by_test false = (refl, refl)
task_same e s = (refl, refl)

told_opened : (before : List Event) (e : Event) → All (IsOpened (before ++ e ∷ [])) (begun_by (subscription_told e))
told_opened before (events.MessageSubscriptionCreated c) =
    let e = events.MessageSubscriptionCreated c in
    let itself : (c.subscription == c.subscription) ≡ true = grind (arith, nat_tests) in
    All-cons (IsOpened (before ++ e ∷ [])) (subscription_of c) []
    (record { opened = c; is = last_told_more (opened_told c.subscription) before e ∙ rw itself refl; process = refl })
    (All-nil (IsOpened (before ++ e ∷ [])))
told_opened before e = All-nil (IsOpened (before ++ e ∷ []))

opened_on : (p : ℕ) (before : List Event) (b : Board) (e : Event) (after : Board) → Advances p before b e after → AreOpenedAs p before b → AreOpenedAs p (before ++ e ∷ []) after
opened_on p before b e after h all =
    let P = IsOpened (before ++ e ∷ []) in
    subst (All P) (sym (standing_more subscription_sort before e))
    (All-append P (left_by subscription_sort before e (subscriptions before)) (begun_by (subscription_told e))
    (each_left subscription_sort P before e (subscriptions before) (λ s among lasts. still s among (All-contains (IsOpened before) (subscriptions before) s all among)))
    (told_opened before e))
  where
    still : (s : Subscription) → Contains (subscriptions before) s → IsOpened before s → IsOpened (before ++ e ∷ []) (task_by e s)
    still s among was =
        let same = task_same e s in
        record {
          opened = was.opened;
          is = ap (λ (k : ℕ). opened_in k (before ++ e ∷ [])) same.0 ∙ (last_told_more (opened_told s.key) before e ∙ rw (none_opened p before b e after h s among) (was.is));
          process = was.process ∙ sym same.1;
        }

module _ (es : List Event) (facts : Facts) (is : IsStateOf es facts) where
  -- the process of a subscription that is there is the one for which it was opened
  opened_for : (key : ℕ) (s : Subscription) → subscription_at key es ≡ Some s → IsOpened es s × (s.key ≡ key)
  opened_for key s at =
      let all = holds_of_all facts.place (AreOpenedAs facts.place) (opened_on facts.place) es facts.game (All-nil (IsOpened [])) is.applied is.game in
      (All-contains (IsOpened es) (subscriptions es) s all (found_one (λ (x : Subscription). x.key == key) (subscriptions es) s at).1, subscription_keyed key es s at)

  pub opened_process : (key : ℕ) (s : Subscription) → subscription_at key es ≡ Some s → option_map (λ (o : MessageSubscription). o.process) (opened_in key es) ≡ Some s.process
  opened_process key s at =
      let r = opened_for key s at in
      ap (λ (k : ℕ). option_map (λ (o : MessageSubscription). o.process) (opened_in k es)) (sym r.1) ∙ (ap (option_map (λ (o : MessageSubscription). o.process)) r.0.is ∙ ap Some r.0.process)

  -- the lock of a message for that process
  lock_there : (key message : ℕ) (s : Subscription) → subscription_at key es ≡ Some s → lock_of facts.tables.subscriptions key message ≡ Some (lock_for message s.process)
  lock_there key message s at = ap (λ (ss : List Subscription). lock_of ss key message) (sym is.subscriptions) ∙ ap (option_map (λ (x : Subscription). lock_for message x.process)) at

  -- a subscription that begins to correlate a message locks it for its process
  pub begun_locks : (e : MessageCorrelation) → IsTrue (begins_correlating e es) → (ls : List Lock)
      → standing_by lock_sort es (events.MessageSubscriptionCorrelating e) ls ≡ locks_by (option_map_or (λ l. changes.Locked l) (lock_of facts.tables.subscriptions e.subscription e.message) changes.Nothing) ls
  begun_locks e begins ls = by_found (subscription_at e.subscription es) refl begins
    where
      by_found : (found : Option Subscription) → subscription_at e.subscription es ≡ found → IsTrue (option_map_or (λ (s : Subscription). option_map_or (λ m. fits_message m s es) (message_at e.message es) false) found false)
          → standing_by lock_sort es (events.MessageSubscriptionCorrelating e) ls ≡ locks_by (option_map_or (λ l. changes.Locked l) (lock_of facts.tables.subscriptions e.subscription e.message) changes.Nothing) ls
      by_found None at begins = absurd (cc)
      by_found (Some s) at begins =
          let told : lock_told es (events.MessageSubscriptionCorrelating e) ≡ Some (lock_for e.message s.process) = by_opened (opened_in e.subscription es) (opened_process e.subscription s at) in
          one_more lock_sort es (events.MessageSubscriptionCorrelating e) ls (lock_for e.message s.process) told (λ l. refl) (λ l. refl)
          ∙ ap (λ (o : Option Lock). locks_by (option_map_or (λ l. changes.Locked l) o changes.Nothing) ls) (sym (lock_there e.subscription e.message s at))
        where
          by_opened : (o : Option MessageSubscription) → option_map (λ (x : MessageSubscription). x.process) o ≡ Some s.process → option_map (λ (x : MessageSubscription). lock_for e.message x.process) o ≡ Some (lock_for e.message s.process)
          by_opened None same = absurd (cc)
          by_opened (Some o) same = let one : o.process ≡ s.process = cc in ap (λ (p : List ℕ). Some (lock_for e.message p)) one

  -- one that gives a message up frees it for that
  pub given_up_frees : (e : SubscribedMessage) → IsTrue (is_correlating e.subscription e.message es) → (ls : List Lock)
      → standing_by lock_sort es (events.MessageSubscriptionRejected e) ls ≡ locks_by (option_map_or (λ l. changes.Freed l) (lock_of facts.tables.subscriptions e.subscription e.message) changes.Nothing) ls
  given_up_frees e correlates ls = by_found (subscription_at e.subscription es) refl correlates
    where
      by_found : (found : Option Subscription) → subscription_at e.subscription es ≡ found → IsTrue (option_map_or (λ (s : Subscription). option_map_or (λ m. m == e.message) s.correlating false) found false)
          → standing_by lock_sort es (events.MessageSubscriptionRejected e) ls ≡ locks_by (option_map_or (λ l. changes.Freed l) (lock_of facts.tables.subscriptions e.subscription e.message) changes.Nothing) ls
      by_found None at correlates = absurd (cc)
      by_found (Some s) at correlates =
          some_gone lock_sort es (events.MessageSubscriptionRejected e) ls (is_lock e.message s.process) refl (λ l. ap (λ (t : Bool). (l.message == e.message) && t) (by_opened l (opened_in e.subscription es) (opened_process e.subscription s at))) (λ l. refl)
          ∙ ap (λ (o : Option Lock). locks_by (option_map_or (λ l. changes.Freed l) o changes.Nothing) ls) (sym (lock_there e.subscription e.message s at))
        where
          by_opened : (l : Lock) (o : Option MessageSubscription) → option_map (λ (x : MessageSubscription). x.process) o ≡ Some s.process → option_map_or (λ (x : MessageSubscription). bytes_eq x.process l.process) o false ≡ bytes_eq l.process s.process
          by_opened l None same = absurd (cc)
          by_opened l (Some o) same = let one : o.process ≡ s.process = cc in ap (λ (p : List ℕ). bytes_eq p l.process) one ∙ turned_texts s.process l.process

  -- a subscription that is there may begin to correlate a message that is buffered
  pub begun_known : (e : MessageCorrelation) (s : Subscription) (m : MessagePublished) → Some s ≡ subscription_at e.subscription es → Some m ≡ find (λ x. x.key == e.message) facts.messages → begins_correlating e es ≡ fits_message m s es
  begun_known e s m found waits =
      ap (λ (o : Option Subscription). option_map_or (λ (x : Subscription). option_map_or (λ (y : MessagePublished). fits_message y x es) (message_at e.message es) false) o false) (sym found)
      ∙ (ap (λ (ms : List MessagePublished). option_map_or (λ (y : MessagePublished). fits_message y s es) (find (λ x. x.key == e.message) ms) false) is.messages
      ∙ ap (λ (o : Option MessagePublished). option_map_or (λ (y : MessagePublished). fits_message y s es) o false) (sym waits))

  -- and none that isn't
  pub begun_lost : (e : MessageCorrelation) (s : Subscription) → Some s ≡ subscription_at e.subscription es → None ≡ find (λ x. x.key == e.message) facts.messages → begins_correlating e es ≡ false
  begun_lost e s found waits =
      ap (λ (o : Option Subscription). option_map_or (λ (x : Subscription). option_map_or (λ (y : MessagePublished). fits_message y x es) (message_at e.message es) false) o false) (sym found)
      ∙ (ap (λ (ms : List MessagePublished). option_map_or (λ (y : MessagePublished). fits_message y s es) (find (λ x. x.key == e.message) ms) false) is.messages
      ∙ ap (λ (o : Option MessagePublished). option_map_or (λ (y : MessagePublished). fits_message y s es) o false) (sym waits))

-- where tests agree the first one that passes is the same
find_same : {A : Type 0} (p q : A → Bool) (xs : List A) → ((x : A) → p x ≡ q x) → find p xs ≡ find q xs
find_same p q [] same = refl
find_same {A} p q (x ∷ xs) same = rw (same x) (ap (λ (o : Option A). if q x then Some x else o) (find_same p q xs same))

-- where a subscription correlates a message it fits no other
pub none_fits : (s : Subscription) (es : List Event) (ms : List MessagePublished) → is_some s.correlating ≡ true → None ≡ find (λ m. fits_message m s es) ms
none_fits s es [] busy = refl
none_fits s es (m ∷ ms) busy = rw (unfit (wants_messages m.name m.correlation_key s) (not (is_locked_for m.key s.process es))) (none_fits s es ms busy)
  where
    unfit : (a b : Bool) → (a && not (is_some s.correlating) && b) ≡ false
    unfit true b = rw busy refl
    unfit false b = refl

-- the next message of a subscription that correlates none is the one that would start an instance with its texts
abbrev pub as_started : Subscription → Started
as_started s = record { instance = 0; process = s.process; name = s.name; correlation_key = s.correlation_key }

pub next_as_started : (s : Subscription) (es : List Event) → is_some s.correlating ≡ false → next_starter (as_started s) es ≡ next_message s es
next_as_started s es idle = find_same _ _ (buffered es) (λ m.
    by_tests (bytes_eq m.name s.name) (bytes_eq m.correlation_key s.correlation_key) (not (is_locked_for m.key s.process es))
    ∙ ap (λ (t : Bool). t && bytes_eq m.correlation_key s.correlation_key && not (is_some s.correlating) && not (is_locked_for m.key s.process es)) (turned_texts m.name s.name)
    ∙ ap (λ (t : Bool). bytes_eq s.name m.name && t && not (is_some s.correlating) && not (is_locked_for m.key s.process es)) (turned_texts m.correlation_key s.correlation_key))
  where
    by_tests : (a b c : Bool) → (a && b && c) ≡ (a && b && not (is_some s.correlating) && c)
    by_tests true true c = rw idle refl
    by_tests true false c = refl
    by_tests false b c = refl

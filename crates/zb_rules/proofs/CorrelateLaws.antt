-- What subscriptions begin to correlate applies, and so do the own events of what partitions ask of the home of messages.
use Rattle.std.proofs.Common.{◌≡◌, ◌≤◌, ℕ, zero, suc, ◌==◌, ◌&&◌, ◌||◌, List, [], ◌∷◌, ◌++◌, filter, is_some, Bool, true, false, not, if◌then◌else◌, IsTrue, Option, Some, None, All, Contains, refl, sym, ap, ◌∙◌, subst, append_assoc, append-nil, arith}
use Rattle.std.specs.List.{find, list_any}
use Rattle.std.specs.Option.{option_map_or, option_and_then}
use Rattle.std.specs.Str.{bytes_eq}
use Rattle.std.proofs.lemmas.Bool.Decides.{nat_tests}
use Rattle.std.proofs.lemmas.Bool.{and_parts}
use Rattle.std.proofs.lemmas.List.Elements.{All-nil, All-append, All-cons, All-contains}
use Rattle.zb_pairs.proofs.FoundLemmas.{none_kept, none_mapped}
use Rattle.zb_views.specs.OwnKeys.{HaveOwnKeys}
use Rattle.zb_views.proofs.OwnKeyLaws.{own_more, own_kept, own_mapped, own_found}
use Rattle.zb_exchange_records.specs.declared.message.MessagePublished.{MessagePublished}
use Rattle.zb_exchange_records.specs.declared.subscription.MessageSubscription.{MessageSubscription}
use Rattle.zb_exchange_records.specs.declared.subscription.MessageSubscriptionDelete.{MessageSubscriptionDelete}
use Rattle.zb_exchange_records.specs.declared.subscription.SubscribedMessage.{SubscribedMessage}
use Rattle.zb_model.specs.declared.record.Event.{Event}
use Rattle.zb_model.specs.declared.record.Event.TheVariants as events
use Rattle.zb_model.specs.declared.record.Rejection.{Rejection}
use Rattle.zb_views.specs.View.{counter_at, greatest_counter}
use Rattle.zb_views.proofs.ViewLaws.{greatest_counter_more, left_more}
use Rattle.zb_views.specs.Left.{left, leaves_deletion}
use Rattle.zb_views.specs.Messages.{buffered, message_at}
use Rattle.zb_views.specs.Processes.{processes}
use Rattle.zb_views.specs.Standing.{standing_by, left_by, begun_by}
use Rattle.zb_views.specs.Subscriptions.{subscription_of, subscription_told, ends_subscription, subscription_sort, subscriptions, subscription_at, is_subscribed, opened_in, task_by, with_task}
use Rattle.zb_views.specs.declared.subscription.Subscription.{Subscription}
use Rattle.zb_views.proofs.MessageLaws.{buffered_kept}
use Rattle.zb_views.proofs.StandingLaws.{standing_more, standing_keeps, each_left}
use Rattle.zb_tokens.specs.Board.{Board}
use Rattle.zb_rules.specs.Shown.{board_of}
use Rattle.zb_rules.specs.Sound.{HasKeys}
use Rattle.zb_rules.specs.Applies.{holds_own, applies, all_apply}
use Rattle.zb_rules.specs.Correlate.{fits_message, correlating_event, begins_correlating, is_correlating, correlated_by, next_message, next_correlated, next_subscription, passed_on}
use Rattle.zb_rules.specs.Subscribe.{reason_to_open, reason_to_take, reason_to_delete, opened, taken, turned_away, unkept_message, deleted_with, unsubscribed}
use Rattle.zb_rules.specs.Making.{each_made}
use Rattle.zb_rules.proofs.AppliedLaws.{Advances, holds_of_all, some_of}
use Rattle.zb_rules.proofs.StepLaws.{all_apply_on}
use Rattle.zb_rules.proofs.MadeLaws.{made_of_any}
use Rattle.zb_rules.proofs.MessageSoundLaws.{messages_known, known_alone}
use Rattle.zb_rules.proofs.OwnLaws.{silent_applies}
use Rattle.zb_rules.proofs.ProcessLaws.{processes_more}
use Rattle.zb_rules.proofs.SoundLaws.{board_is_there}

-- what is found passes, and is there
pub found_one : {A : Type 0} (passes : A → Bool) (xs : List A) (x : A) → find passes xs ≡ Some x → (passes x ≡ true) × Contains xs x
found_one passes [] x is = absurd (cc)
found_one {A} passes (y ∷ ys) x is = by_test (passes y) refl (λ rest. found_one passes ys x rest) is
  where
    by_test : (t : Bool) → passes y ≡ t → (find passes ys ≡ Some x → (passes x ≡ true) × Contains ys x) → (if t then Some y else find passes ys) ≡ Some x → (passes x ≡ true) × Contains (y ∷ ys) x
    by_test true so later is = let same : y ≡ x = cc in (ap passes (sym same) ∙ so, (zero, omega arith, same))
    by_test false so later is = let r = later is in (r.0, (suc r.1.0, omega (arith, r.1.1), r.1.2))

-- the subscription that is found has the key
pub subscription_keyed : (key : ℕ) (es : List Event) (s : Subscription) → subscription_at key es ≡ Some s → s.key ≡ key
subscription_keyed key es s is = let so = (found_one (λ (x : Subscription). x.key == key) (subscriptions es) s is).0 in grind (arith, nat_tests, so)

-- no event changes the key of a subscription
same_key : (e : Event) (s : Subscription) → (task_by e s).key ≡ s.key
same_key (events.MessageSubscriptionCorrelating e) s = by_test (s.key == e.subscription)
  where
    by_test : (t : Bool) → (if t then with_task (Some e.message) s else s).key ≡ s.key
    by_test true = refl
    by_test false = refl
same_key (events.MessageSubscriptionCorrelated e) s = by_test (s.key == e.subscription)
  where
    by_test : (t : Bool) → (if t then with_task None s else s).key ≡ s.key
    by_test true = refl
    by_test false = refl
same_key e s = refl

-- the key of a subscription that is there was named
abbrev AreNamed : ℕ → List Event → List Subscription → Type 0
AreNamed p es ss = All (λ s. counter_at p s.key ≤ greatest_counter p es) ss

subscriptions_named : (p : ℕ) (es : List Event) → AreNamed p es (subscriptions es)
subscriptions_named p es = standing_keeps subscription_sort (AreNamed p) (All-nil _) more es
  where
    told_named : (before : List Event) (e : Event) → AreNamed p (before ++ e ∷ []) (begun_by (subscription_told e))
    told_named before (events.MessageSubscriptionCreated s) =
        let more = greatest_counter_more p before (events.MessageSubscriptionCreated s ∷ []) in
        All-cons (λ (x : Subscription). counter_at p x.key ≤ greatest_counter p (before ++ events.MessageSubscriptionCreated s ∷ [])) (subscription_of s) [] (omega (arith, more)) (All-nil (λ (x : Subscription). counter_at p x.key ≤ greatest_counter p (before ++ events.MessageSubscriptionCreated s ∷ [])))
    told_named before e = All-nil _

    more : (before : List Event) (e : Event) (ss : List Subscription) → AreNamed p before ss → AreNamed p (before ++ e ∷ []) (standing_by subscription_sort before e ss)
    more before e ss named =
        let P : Subscription → Type 0 = λ s. counter_at p s.key ≤ greatest_counter p (before ++ e ∷ []) in
        All-append P (left_by subscription_sort before e ss) (begun_by (subscription_told e))
        (each_left subscription_sort P before e ss (λ s among lasts.
        let its : counter_at p s.key ≤ greatest_counter p before = All-contains (λ x. counter_at p x.key ≤ greatest_counter p before) ss s named among in
        let key : counter_at p (task_by e s).key ≡ counter_at p s.key = ap (counter_at p) (same_key e s) in
        omega (arith, its, key, greatest_counter_more p before (e ∷ []))))
        (told_named before e)

-- no two subscriptions that are there have one key
abbrev OwnOnes : ℕ → List Event → Board → Type 0
OwnOnes p es b = HaveOwnKeys (λ s. s.key) (subscriptions es)

own_on : (p : ℕ) (before : List Event) (b : Board) (e : Event) (after : Board) → Advances p before b e after → OwnOnes p before b → OwnOnes p (before ++ e ∷ []) after
own_on p before b e after h own = subst (HaveOwnKeys key_in) (sym (standing_more subscription_sort before e)) (by_event e h)
  where
    key_in : Subscription → ℕ
    key_in s = s.key

    left_own : (e : Event) → HaveOwnKeys key_in (left_by subscription_sort before e (subscriptions before))
    left_own e = own_mapped key_in (task_by e) (filter (λ s. not (ends_subscription e s)) (subscriptions before)) (same_key e) (own_kept key_in (λ s. not (ends_subscription e s)) (subscriptions before) own)

    no_more : (e : Event) → HaveOwnKeys key_in (left_by subscription_sort before e (subscriptions before) ++ [])
    no_more e = subst (HaveOwnKeys key_in) (sym (append-nil (left_by subscription_sort before e (subscriptions before)))) (left_own e)

    none_of : (found : Option Subscription) → IsTrue (not (is_some found)) → found ≡ None
    none_of None new = refl
    none_of (Some s) new = absurd (cc)

    by_event : (e : Event) → Advances p before b e after → HaveOwnKeys key_in (standing_by subscription_sort before e (subscriptions before))
    by_event (events.MessageSubscriptionCreated s) h =
        let e = events.MessageSubscriptionCreated s in
        let xs = subscriptions before in
        let none : find (λ (x : Subscription). x.key == s.subscription) xs ≡ None = none_of (find (λ (x : Subscription). x.key == s.subscription) xs) h.own in
        let kept : find (λ (x : Subscription). x.key == s.subscription) (filter (λ x. not (ends_subscription e x)) xs) ≡ None = none_kept (λ (x : Subscription). x.key == s.subscription) (λ x. not (ends_subscription e x)) xs none in
        let mapped = none_mapped (λ (x : Subscription). x.key == s.subscription) (task_by e) (filter (λ x. not (ends_subscription e x)) xs) (λ x. refl) kept in
        own_more key_in (left_by subscription_sort before e xs) (subscription_of s) (left_own e) mapped
    by_event e h = no_more e

pub subscriptions_own : (p : ℕ) (es : List Event) (b : Board) → board_of es ≡ Some b → IsTrue (all_apply p [] es) → HaveOwnKeys (λ s. s.key) (subscriptions es)
subscriptions_own p es b is apply = holds_of_all p (OwnOnes p) (own_on p) es b tt apply is

module _ (p : ℕ) (es : List Event) (apply : IsTrue (all_apply p [] es)) where
  board : (b : Board) × (board_of es ≡ Some b)
  board = some_of (board_of es) (board_is_there p es apply)

  -- an event that shows no move applies where its own condition holds
  quietly : (e : Event) → IsTrue (holds_own p es e) → ((b : Board) → board_of es ≡ Some b → IsTrue (applies p es e)) → IsTrue (applies p es e)
  quietly e own by = by board.0 board.1

  -- a buffered message is the one with its key
  message_found : (m : MessagePublished) → Contains (buffered es) m → message_at m.key es ≡ Some m
  message_found m among = known_alone p es m (messages_known p es board.0 board.1 apply) among

  -- a subscription that may correlate a message begins to
  correlating_applies : (m : MessagePublished) (key : ℕ) (s : Subscription) → Contains (buffered es) m → subscription_at key es ≡ Some s → fits_message m s es ≡ true → IsTrue (applies p es (correlating_event m s))
  correlating_applies m key s among at fits =
      let its : subscription_at s.key es ≡ Some s = ap (λ (k : ℕ). subscription_at k es) (subscription_keyed key es s at) ∙ at in
      let own : IsTrue (begins_correlating (record { subscription = s.key; message = m.key; variables = m.variables }) es) = rw (its, message_found m among, fits) refl in
      silent_applies p es board.0 (correlating_event m s) board.1 own refl

  one_applies : (e : Event) → IsTrue (applies p es e) → IsTrue (all_apply p es (e ∷ []))
  one_applies e is = rw is refl

  -- the subscription with a key, where it may
  pub correlated_applies : (m : MessagePublished) (key : ℕ) → Contains (buffered es) m → IsTrue (all_apply p es (correlated_by m key es))
  correlated_applies m key among =
      made_of_any (λ (x : List Event). IsTrue (all_apply p es x)) (λ (s : Subscription). if fits_message m s es then correlating_event m s ∷ [] else []) (subscription_at key es) refl (λ s at. by_test s at (fits_message m s es) refl)
    where
      by_test : (s : Subscription) → subscription_at key es ≡ Some s → (t : Bool) → fits_message m s es ≡ t → IsTrue (all_apply p es (if t then correlating_event m s ∷ [] else []))
      by_test s at false fits = refl
      by_test s at true fits = one_applies (correlating_event m s) (correlating_applies m key s among at fits)

  -- its next message
  pub next_applies : (key : ℕ) → IsTrue (all_apply p es (next_correlated key es))
  next_applies key =
      made_of_any (λ (x : List Event). IsTrue (all_apply p es x)) (λ (s : Subscription). option_map_or (λ m. correlating_event m s ∷ []) (next_message s es) []) (subscription_at key es) refl
      (λ s at. made_of_any (λ (x : List Event). IsTrue (all_apply p es x)) (λ (m : MessagePublished). correlating_event m s ∷ []) (next_message s es) refl
      (λ m next. let r = found_one (λ x. fits_message x s es) (buffered es) m next in one_applies (correlating_event m s) (correlating_applies m key s r.1 at r.0)))

  -- and the next subscription of a message that was given up
  pub passed_applies : (subscription message : ℕ) → IsTrue (all_apply p es (passed_on subscription message es))
  passed_applies subscription message =
      made_of_any (λ (x : List Event). IsTrue (all_apply p es x)) (λ (o : MessageSubscription). option_map_or (λ m. option_map_or (λ s. correlating_event m s ∷ []) (next_subscription m o.process es) []) (message_at message es) []) (opened_in subscription es) refl
      (λ o opened. made_of_any (λ (x : List Event). IsTrue (all_apply p es x)) (λ (m : MessagePublished). option_map_or (λ s. correlating_event m s ∷ []) (next_subscription m o.process es) []) (message_at message es) refl
      (λ m at. made_of_any (λ (x : List Event). IsTrue (all_apply p es x)) (λ (s : Subscription). correlating_event m s ∷ []) (next_subscription m o.process es) refl
      (λ s next.
      let r = found_one (λ x. bytes_eq x.process o.process && fits_message m x es) (subscriptions es) s next in
      let fits = (and_parts (bytes_eq s.process o.process) (fits_message m s es) r.0).1 in
      one_applies (correlating_event m s) (standing_applies m s (found_one (λ (x : MessagePublished). x.key == message) (buffered es) m at).1 r.1 fits))))
    where
      standing_applies : (m : MessagePublished) (s : Subscription) → Contains (buffered es) m → Contains (subscriptions es) s → fits_message m s es ≡ true → IsTrue (applies p es (correlating_event m s))
      standing_applies m s among there fits = correlating_applies m s.key s among (own_found (λ (x : Subscription). x.key) (subscriptions es) s (subscriptions_own p es board.0 board.1 apply) there) fits

  -- that a message is published and begins to be correlated leaves it buffered, and the keys as they were
  correlated_keys : (n : ℕ) (m : MessagePublished) (key : ℕ) → HasKeys p es n → Contains (buffered es) m → counter_at p m.key ≤ greatest_counter p es → HasKeys p (es ++ correlated_by m key es) n
  correlated_keys n m key keys among drawn = made_of_any (λ (x : List Event). HasKeys p (es ++ x) n) (λ (s : Subscription). if fits_message m s es then correlating_event m s ∷ [] else []) (subscription_at key es) none (λ s at. by_test s at (fits_message m s es))
    where
      none : HasKeys p (es ++ []) n
      none = subst (λ (l : List Event). HasKeys p l n) (sym (append-nil es)) keys

      by_test : (s : Subscription) → subscription_at key es ≡ Some s → (t : Bool) → HasKeys p (es ++ (if t then correlating_event m s ∷ [] else [])) n
      by_test s at false = none
      by_test s at true =
          let named : counter_at p s.key ≤ greatest_counter p es = All-contains (λ x. counter_at p x.key ≤ greatest_counter p es) (subscriptions es) s (subscriptions_named p es) (found_one (λ (x : Subscription). x.key == key) (subscriptions es) s at).1 in
          omega (arith, keys, named, drawn, greatest_counter_more p es (correlating_event m s ∷ []))

  correlated_processes : (m : MessagePublished) (key : ℕ) → processes (es ++ correlated_by m key es) ≡ processes es
  correlated_processes m key = by_found (subscription_at key es)
    where
      none : processes (es ++ []) ≡ processes es
      none = ap processes (append-nil es)

      by_test : (s : Subscription) (t : Bool) → processes (es ++ (if t then correlating_event m s ∷ [] else [])) ≡ processes es
      by_test s false = none
      by_test s true = processes_more es (correlating_event m s) ∙ append-nil (processes es)

      by_found : (found : Option Subscription) → processes (es ++ option_map_or (λ (s : Subscription). if fits_message m s es then correlating_event m s ∷ [] else []) found []) ≡ processes es
      by_found None = none
      by_found (Some s) = by_test s (fits_message m s es)

  correlated_buffered : (m : MessagePublished) (key : ℕ) → buffered (es ++ correlated_by m key es) ≡ buffered es
  correlated_buffered m key = by_found (subscription_at key es)
    where
      none : buffered (es ++ []) ≡ buffered es
      none = ap buffered (append-nil es)

      by_test : (s : Subscription) (t : Bool) → buffered (es ++ (if t then correlating_event m s ∷ [] else [])) ≡ buffered es
      by_test s false = none
      by_test s true = buffered_kept es (correlating_event m s) refl refl

      by_found : (found : Option Subscription) → buffered (es ++ option_map_or (λ (s : Subscription). if fits_message m s es then correlating_event m s ∷ [] else []) found []) ≡ buffered es
      by_found None = none
      by_found (Some s) = by_test s (fits_message m s es)

-- what holds behind all that begin to correlate a message that is published
pub record AreCorrelated (p n : ℕ) (m : MessagePublished) (es made : List Event) : Type 0 where
  pub applied : IsTrue (all_apply p es made)
  pub keys : HasKeys p (es ++ made) n
  pub among : Contains (buffered (es ++ made)) m
  pub same : processes (es ++ made) ≡ processes es

pub each_correlated : (p n : ℕ) (m : MessagePublished) (ks : List ℕ) (es : List Event) → IsTrue (all_apply p [] es) → HasKeys p es n → Contains (buffered es) m → counter_at p m.key ≤ greatest_counter p es → AreCorrelated p n m es (each_made (correlated_by m) ks es)
each_correlated p n m [] es apply keys among drawn = record {
  applied = refl;
  keys = subst (λ (l : List Event). HasKeys p l n) (sym (append-nil es)) keys;
  among = subst (λ (l : List Event). Contains (buffered l) m) (sym (append-nil es)) among;
  same = ap processes (append-nil es);
}
each_correlated p n m (key ∷ ks) es apply keys among drawn =
    let made = correlated_by m key es in
    let first = correlated_applies p es apply m key among in
    let over : IsTrue (all_apply p [] (es ++ made)) = rw (all_apply_on p [] es made, apply) first in
    let still : Contains (buffered (es ++ made)) m = subst (λ (l : List MessagePublished). Contains l m) (sym (correlated_buffered p es apply m key)) among in
    let rest = each_correlated p n m ks (es ++ made) over (correlated_keys p es apply n m key keys among drawn) still (omega (arith, drawn, greatest_counter_more p es made)) in
    let more = each_made (correlated_by m) ks (es ++ made) in
    record {
      applied = rw (all_apply_on p es made more, first) rest.applied;
      keys = subst (λ (l : List Event). HasKeys p l n) (append_assoc es made more) rest.keys;
      among = subst (λ (l : List Event). Contains (buffered l) m) (append_assoc es made more) rest.among;
      same = sym (ap processes (append_assoc es made more)) ∙ (rest.same ∙ correlated_processes p es apply m key);
    }

module _ (p : ℕ) (es : List Event) (apply : IsTrue (all_apply p [] es)) where
  -- an event that applies, and what applies behind it
  behind_one : (e : Event) (rest : List Event) → IsTrue (applies p es e) → (IsTrue (all_apply p [] (es ++ e ∷ [])) → IsTrue (all_apply p (es ++ e ∷ []) rest)) → IsTrue (all_apply p es (e ∷ rest))
  behind_one e rest first later =
      let over : IsTrue (all_apply p [] (es ++ e ∷ [])) = rw (all_apply_on p [] es (e ∷ []), apply, first) refl in
      rw first (later over)

  there : (b : Board) × (board_of es ≡ Some b)
  there = some_of (board_of es) (board_is_there p es apply)

  -- where a rejection has no reason
  not_there : (t : Bool) (r : Rejection) → (if t then Some r else None) ≡ None → t ≡ false
  not_there true r is = absurd (cc)
  not_there false r is = refl

  is_there : (t : Bool) (r : Rejection) → (if t then None else Some r) ≡ None → t ≡ true
  is_there true r is = refl
  is_there false r is = absurd (cc)

  pub open_applies : (c : MessageSubscription) → reason_to_open es c.subscription ≡ None → IsTrue (all_apply p es (opened c es))
  open_applies c none =
      let e = events.MessageSubscriptionCreated c in
      let new : is_subscribed c.subscription es ≡ false = not_there (is_subscribed c.subscription es) _ none in
      behind_one e (next_correlated c.subscription (es ++ e ∷ [])) (silent_applies p es there.0 e there.1 (rw new refl) refl) (λ over. next_applies p (es ++ e ∷ []) over c.subscription)

  pub take_applies : (c : SubscribedMessage) → reason_to_take es c ≡ None → IsTrue (all_apply p es (taken c es))
  take_applies c none =
      let e = events.MessageSubscriptionCorrelated c in
      behind_one e (next_correlated c.subscription (es ++ e ∷ [])) (silent_applies p es there.0 e there.1 (is_there (is_correlating c.subscription c.message es) _ none) refl) (λ over. next_applies p (es ++ e ∷ []) over c.subscription)

  pub turn_away_applies : (c : SubscribedMessage) → reason_to_take es c ≡ None → IsTrue (all_apply p es (turned_away c es))
  turn_away_applies c none =
      let e = events.MessageSubscriptionRejected c in
      behind_one e (passed_on c.subscription c.message (es ++ e ∷ [])) (silent_applies p es there.0 e there.1 (is_there (is_correlating c.subscription c.message es) _ none) refl) (λ over. passed_applies p (es ++ e ∷ []) over c.subscription c.message)

  -- a deletion that gives a message up
  give_up_applies : (s m : ℕ) → is_correlating s m es ≡ true → IsTrue (all_apply p es (deleted_with s m es))
  give_up_applies s m correlates =
      let e = events.MessageSubscriptionRejected (record { subscription = s; message = m }) in
      let over = es ++ e ∷ [] in
      let d = events.MessageSubscriptionDeleted s in
      behind_one e (d ∷ passed_on s m (over ++ d ∷ [])) (silent_applies p es there.0 e there.1 correlates refl) (λ applied.
      let itself : (s == s) ≡ true = grind (arith, nat_tests) in
      let says : leaves_deletion s (left over) ≡ true = ap (leaves_deletion s) (left_more es e) ∙ itself in
      let board = some_of (board_of over) (board_is_there p over applied) in
      let own : IsTrue (is_subscribed s over || leaves_deletion s (left over)) = or_right (is_subscribed s over) (leaves_deletion s (left over)) says in
      let first : IsTrue (applies p over d) = silent_applies p over board.0 d board.1 own refl in
      let both : IsTrue (all_apply p [] (over ++ d ∷ [])) = rw (all_apply_on p [] over (d ∷ []), applied, first) refl in
      rw first (passed_applies p (over ++ d ∷ []) both s m))
    where
      or_right : (a b : Bool) → b ≡ true → IsTrue (a || b)
      or_right true b is = refl
      or_right false b is = is

  pub delete_applies : (c : MessageSubscriptionDelete) → reason_to_delete es c.subscription ≡ None → IsTrue (all_apply p es (unsubscribed c es))
  delete_applies c none = by_found (unkept_message c es) refl
    where
      alone : IsTrue (all_apply p es (events.MessageSubscriptionDeleted c.subscription ∷ []))
      alone =
          let d = events.MessageSubscriptionDeleted c.subscription in
          let there_is : is_subscribed c.subscription es ≡ true = is_there (is_subscribed c.subscription es) _ none in
          let first : IsTrue (applies p es d) = silent_applies p es there.0 d there.1 (rw there_is refl) refl in
          rw first refl

      correlates : (m : ℕ) (found : Option Subscription) → subscription_at c.subscription es ≡ found → option_and_then (λ (s : Subscription). option_and_then (λ (x : ℕ). if list_any (λ key. key == x) c.keys then None else Some x) s.correlating) found ≡ Some m
          → is_correlating c.subscription m es ≡ true
      correlates m None at is = absurd (cc)
      correlates m (Some s) at is = rw at (by_task s.correlating is)
        where
          by_test : (x : ℕ) (t : Bool) → ◌≡◌ {A = Option ℕ} (if t then None else Some x) (Some m) → (x == m) ≡ true
          by_test x true is = absurd (cc)
          by_test x false is = let same : x ≡ m = cc in grind (arith, nat_tests, same)

          by_task : (task : Option ℕ) → option_and_then (λ (x : ℕ). if list_any (λ key. key == x) c.keys then None else Some x) task ≡ Some m → option_map_or (λ (x : ℕ). x == m) task false ≡ true
          by_task None is = absurd (cc)
          by_task (Some x) is = by_test x (list_any (λ key. key == x) c.keys) is

      by_found : (found : Option ℕ) → unkept_message c es ≡ found → IsTrue (all_apply p es (option_map_or (λ (m : ℕ). deleted_with c.subscription m es) found (events.MessageSubscriptionDeleted c.subscription ∷ [])))
      by_found None at = alone
      by_found (Some m) at = give_up_applies c.subscription m (correlates m (subscription_at c.subscription es) refl at)

-- What a log says of locks and of subscriptions is what its events tell of them.
use Rattle.std.proofs.Common.{◌≡◌, ℕ, ◌==◌, ◌&&◌, ◌||◌, not, List, [], ◌∷◌, ◌++◌, map, filter, Bool, true, false, if◌then◌else◌, Option, Some, None, option_map, refl, inl, inr, ap, sym, ◌∙◌, arith}
use Rattle.std.specs.List.{list_any}
use Rattle.std.specs.Option.{option_map_or, option_or}
use Rattle.std.specs.Str.{bytes_eq}
use Rattle.std.proofs.lemmas.Bool.{cases_eq, and_parts}
use Rattle.std.proofs.lemmas.Bool.Decides.{nat_tests}
use Rattle.std.proofs.lemmas.List.{map-append}
use Rattle.std.proofs.lemmas.List.Folds.{list_any-append}
use Rattle.zb_instance_records.specs.declared.deployment.ProcessDefinition.{ProcessDefinition}
use Rattle.zb_model.specs.declared.record.Event.{Event}
use Rattle.zb_model.specs.declared.record.Event.TheVariants as events
use Rattle.zb_views.specs.Processes.{process_told, process_in}
use Rattle.zb_views.specs.Standing.{begun_by, standing_by}
use Rattle.zb_views.specs.Subscriptions.{opened_told, opened_in, lock_for, lock_told, frees, lock_sort, is_lock, is_locked_for}
use Rattle.zb_views.specs.Told.{last_told}
use Rattle.zb_views.specs.declared.lock.Lock.{Lock}
use Rattle.zb_views.proofs.StandingLaws.{standing_keeps}
use Rattle.zb_once.specs.Tellings.{Terms, Telling}
use Rattle.zb_once.specs.Views.{said_last, said_about, terms_told, terms_of, defined_told, defined_process, is_for_process, is_defined_for, lock_by, is_locked}
use Rattle.zb_once.proofs.ViewLaws.{lock_more, eq_true, text_true}
use Rattle.zb_world.specs.Tellings.{terms_from, tells}

-- what is said last of the tellings is told last of the events
said_same : {A B : Type 0} (says : Telling → Option A) (tell : Event → Option B) (f : B → A) → ((e : Event) → says (tells e) ≡ option_map f (tell e)) → (es : List Event) → said_last says (map tells es) ≡ option_map f (last_told tell es)
said_same says tell f same [] = refl
said_same {A = A} {B = B} says tell f same (e ∷ es) = rw (said_same says tell f same es, same e) (either (last_told tell es) (tell e))
  where
    either : (later first : Option B) → option_or (option_map f later) (option_map f first) ≡ option_map f (option_or later first)
    either None first = refl
    either (Some x) first = refl

-- a key is asked for either way round
pub turned : (a b : ℕ) → (a == b) ≡ (b == a)
turned a b = elim (cases_eq a b) [
  | inl same ↦ let t : (a == b) ≡ true = grind (arith, nat_tests) in let u : (b == a) ≡ true = grind (arith, nat_tests) in t ∙ sym u
  | inr other ↦ let t : (a == b) ≡ false = grind (arith, nat_tests) in let differs : b ≡ a → ⊥ = λ x. other (sym x) in let u : (b == a) ≡ false = grind (arith, nat_tests) in t ∙ sym u
]

told_under : {A B : Type 0} (f : B → A) (asked key : ℕ) (b : B) → said_about asked key (f b) ≡ option_map f (if key == asked then Some b else None)
told_under {A = A} f asked key b = rw (turned asked key) (by_test (key == asked))
  where
    by_test : (t : Bool) → (if t then Some (f b) else None) ≡ option_map f (if t then Some b else None)
    by_test true = refl
    by_test false = refl

-- the terms of a subscription
terms_same : (s : ℕ) (es : List Event) → terms_of s (map tells es) ≡ option_map terms_from (opened_in s es)
terms_same s es = said_same (terms_told s) (opened_told s) terms_from by_event es
  where
    by_event : (e : Event) → terms_told s (tells e) ≡ option_map terms_from (opened_told s e)
    by_event (events.MessageSubscriptionCreated x) = told_under terms_from s x.subscription x
    by_event _ = refl

-- the process of a definition
abbrev pub process_of : ProcessDefinition → List ℕ
process_of d = d.model.process

pub process_same : (d : ℕ) (es : List Event) → defined_process d (map tells es) ≡ option_map process_of (process_in d es)
process_same d es = said_same (defined_told d) (process_told d) process_of by_event es
  where
    by_event : (e : Event) → defined_told d (tells e) ≡ option_map process_of (process_told d e)
    by_event (events.ProcessCreated x) = told_under process_of d x.key x
    by_event _ = refl

-- of the locks that an event leaves one passes, where it leaves or frees all that do
any_left : (test ends : Lock → Bool) (b : Bool) → ((x : Lock) → test x ≡ true → ends x ≡ b) → (xs : List Lock) → list_any test (map (λ x. x) (filter (λ x. not (ends x)) xs)) ≡ (if b then false else list_any test xs)
any_left test ends true are [] = refl
any_left test ends false are [] = refl
any_left test ends b are (x ∷ xs) = by_tests (ends x) (test x) refl refl (any_left test ends b are xs)
  where
    gone : (b rest : Bool) → true ≡ b → (rest : Bool) → (if b then false else rest) ≡ (if b then false else true)
    gone true first is rest = refl
    gone false first is rest = absurd (cc)

    stays : (b rest : Bool) → false ≡ b → true ≡ (if b then false else true)
    stays true rest is = absurd (cc)
    stays false rest is = refl

    by_tests : (ended passes : Bool) → ends x ≡ ended → test x ≡ passes → list_any test (map (λ x. x) (filter (λ x. not (ends x)) xs)) ≡ (if b then false else list_any test xs)
        → list_any test (map (λ x. x) (filter (λ x. not (ends x)) (x ∷ xs))) ≡ (if b then false else list_any test (x ∷ xs))
    by_tests true true is its later = rw (is, its) (later ∙ gone b true (sym is ∙ are x its) (list_any test xs))
    by_tests true false is its later = rw (is, its) later
    by_tests false true is its later = rw (is, its) (stays b true (sym is ∙ are x its))
    by_tests false false is its later = rw (is, its) later

module _ (message : ℕ) (process : List ℕ) (before : List Event) (xs : List Lock) where
  abbrev passes : Lock → Bool
  passes = is_lock message process

  abbrev was : Bool
  was = list_any passes xs

  -- a lock that passes is of the message and of the process
  its_message : (x : Lock) → passes x ≡ true → x.message ≡ message
  its_message x is = eq_true x.message message (and_parts (x.message == message) (bytes_eq x.process process) is).0

  its_process : (x : Lock) → passes x ≡ true → x.process ≡ process
  its_process x is = text_true x.process process (and_parts (x.message == message) (bytes_eq x.process process) is).1

  -- an event that frees all locks that pass, or none, and sets this one or none
  by_both : (e : Event) (b sets : Bool) → ((x : Lock) → passes x ≡ true → frees before e x ≡ b) → list_any passes (begun_by (lock_told before e)) ≡ sets
      → (if sets then true else if b then false else was) ≡ list_any passes (standing_by lock_sort before e xs)
  by_both e b sets ends begun = rw (list_any-append passes (map (λ x. x) (filter (λ x. not (frees before e x)) xs)) (begun_by (lock_told before e)), any_left passes (frees before e) b ends xs, begun) (by_test sets (if b then false else was))
    where
      by_test : (sets left : Bool) → (if sets then true else left) ≡ (left || sets)
      by_test true true = refl
      by_test true false = refl
      by_test false true = refl
      by_test false false = refl

  -- what is set for the process that is found, if one is
  set_for : {A : Type 0} (process_in : A → List ℕ) (found : Option A) (key : ℕ) → list_any passes (begun_by (option_map (λ x. lock_for key (process_in x)) found)) ≡ ((key == message) && option_map_or (λ x. bytes_eq (process_in x) process) found false)
  set_for process_in None key = by_test (key == message)
    where
      by_test : (t : Bool) → false ≡ (t && false)
      by_test true = refl
      by_test false = refl
  set_for process_in (Some x) key = by_test ((key == message) && bytes_eq (process_in x) process)
    where
      by_test : (t : Bool) → (t || false) ≡ t
      by_test true = refl
      by_test false = refl

  mapped_or : {A B : Type 0} (f : A → B) (test : B → Bool) (found : Option A) → option_map_or test (option_map f found) false ≡ option_map_or (λ x. test (f x)) found false
  mapped_or f test None = refl
  mapped_or f test (Some x) = refl

  -- whether the subscription or the definition is of the process
  for_same : (s : ℕ) → is_for_process s process (map tells before) ≡ option_map_or (λ x. bytes_eq x.process process) (opened_in s before) false
  for_same s = ap (λ (o : Option Terms). option_map_or (λ t. bytes_eq t.process process) o false) (terms_same s before) ∙ mapped_or terms_from (λ t. bytes_eq t.process process) (opened_in s before)

  defined_same : (d : ℕ) → is_defined_for d process (map tells before) ≡ option_map_or (λ x. bytes_eq x.model.process process) (process_in d before) false
  defined_same d = ap (λ (o : Option (List ℕ)). option_map_or (λ name. bytes_eq name process) o false) (process_same d before) ∙ mapped_or process_of (λ name. bytes_eq name process) (process_in d before)

  by_event : (e : Event) → lock_by (map tells before) message process (tells e) was ≡ list_any passes (standing_by lock_sort before e xs)
  by_event (events.MessageStartEventSubscriptionCorrelated e) =
      rw (defined_same e.definition) (by_both (events.MessageStartEventSubscriptionCorrelated e) false _ (λ x is. refl) (set_for process_of (process_in e.definition before) e.message))
  by_event (events.MessageSubscriptionCorrelating e) =
      rw (for_same e.subscription) (by_both (events.MessageSubscriptionCorrelating e) false _ (λ x is. refl) (set_for (λ x. x.process) (opened_in e.subscription before) e.message))
  by_event (events.MessageSubscriptionRejected e) =
      let b = (e.message == message) && option_map_or (λ s. bytes_eq s.process process) (opened_in e.subscription before) false in
      rw (for_same e.subscription) (by_both (events.MessageSubscriptionRejected e) b false (λ x is. rw (its_message x is, its_process x is, turned message e.message) refl) refl)
  by_event (events.MessageExpired key) = by_both (events.MessageExpired key) (key == message) false (λ x is. rw (its_message x is) (turned message key)) refl
  by_event e = by_both e false false (λ x is. refl) refl

-- a message is locked for a process as its events tell
pub locks_same : (message : ℕ) (process : List ℕ) (es : List Event) → is_locked message process (map tells es) ≡ is_locked_for message process es
locks_same message process es = standing_keeps lock_sort (λ (es : List Event) (xs : List Lock). is_locked message process (map tells es) ≡ list_any (is_lock message process) xs) refl one_more es
  where
    one_more : (before : List Event) (e : Event) (xs : List Lock) → is_locked message process (map tells before) ≡ list_any (is_lock message process) xs
        → is_locked message process (map tells (before ++ e ∷ [])) ≡ list_any (is_lock message process) (standing_by lock_sort before e xs)
    one_more before e xs same =
        ap (is_locked message process) (map-append tells before (e ∷ [])) ∙ (lock_more message process (map tells before) (tells e)
        ∙ (ap (lock_by (map tells before) message process (tells e)) same ∙ by_event message process before xs e))

-- What an event changes of the locks of messages, and of the instances that messages have started.
use Rattle.std.proofs.Common.{◌≡◌, ℕ, ◌+◌, ◌<◌, ◌≤◌, max, ◌==◌, nat_lt, List, [], ◌∷◌, ◌++◌, map, filter, Bool, true, false, ◌&&◌, not, cond, if◌then◌else◌, bytes_eq, IsTrue, Option, Some, None, option_map, All, Result, Ok, Err, OnOk, OnErr, refl, sym, ap, ◌∙◌, arith}
use Rattle.std.specs.Prelude.{⊤}
use Rattle.std.specs.declared.alloc.AllocError.{AllocError}
use Rattle.std.specs.List.{find, list_any}
use Rattle.std.specs.Option.{option_map_or, option_and_then}
use Rattle.std.proofs.lemmas.Bool.Decides.{nat_tests}
use Rattle.std.proofs.lemmas.List.Elements.{All-head, All-tail}
use Rattle.zb_base.specs.Key.{key_of}
use Rattle.zb_exchange_records.specs.declared.message.MessagePublished.{MessagePublished}
use Rattle.zb_instance_records.specs.declared.instance.ElementActivating.{ElementActivating}
use Rattle.zb_instance_records.specs.declared.instance.Role.TheVariants as roles
use Rattle.zb_instance_records.specs.declared.deployment.ProcessDefinition.{ProcessDefinition}
use Rattle.zb_process.specs.declared.model.Model.{Model}
use Rattle.zb_model.specs.declared.record.Event.{Event}
use Rattle.zb_model.specs.declared.record.Event.TheVariants as events
use Rattle.zb_table.specs.Rows.{Ascend, are_below}
use Rattle.zb_table.proofs.Ascending.{finds_own}
use Rattle.zb_table.proofs.Growing.{below_more, below_higher}
use Rattle.zb_views.specs.declared.job.Job.{Job}
use Rattle.zb_views.specs.declared.left.Left.{Left}
use Rattle.zb_views.specs.declared.left.Left.TheVariants as lefts
use Rattle.zb_views.specs.declared.lock.Lock.{Lock}
use Rattle.zb_views.specs.declared.started.Started.{Started}
use Rattle.zb_views.specs.Left.{left, leaves_root}
use Rattle.zb_views.specs.Messages.{buffered}
use Rattle.zb_views.specs.Processes.{process_in}
use Rattle.zb_views.specs.Standing.{standing_by}
use Rattle.zb_views.specs.Starts.{starter_in, started_by, started_told, started_sort}
use Rattle.zb_views.specs.Subscriptions.{lock_for, lock_sort, is_lock}
use Rattle.zb_views.specs.View.{counter_at, keys_in, greatest_among}
use Rattle.zb_views.proofs.CounterLaws.{counter_at-key_of}
use Rattle.zb_views.proofs.StandingLaws.{below_some, all_left, one_more, some_gone}
use Rattle.zb_tokens.specs.Board.{model_under, is_role}
use Rattle.zb_tokens.proofs.GameLaws.{both_left, both_right}
use Rattle.zb_rules.specs.Applies.{applies, holds_of_game, is_process_of, starts_with, begins_well}
use Rattle.zb_rules.specs.Starts.{next_starter}
use Rattle.zb_rules.specs.Correlate.{begins_correlating, is_correlating}
use Rattle.zb_rules.proofs.LeftLaws.{starter_left}
use Rattle.zb_rules.proofs.ProcessLaws.{model_there}
use Rattle.zb_starts.specs.Change.{begins_last, locks_by, instances_by}
use Rattle.zb_starts.specs.declared.change.Change.{Change}
use Rattle.zb_starts.specs.declared.change.Change.TheVariants as changes
use Rattle.zb_tables.specs.Messages.{is_addressed}
use Rattle.zb_state.specs.Changes.{change_by}
use Rattle.zb_state.proofs.SubscriptionLemmas.{begun_locks, given_up_frees}
use Rattle.zb_state.specs.Starts.{root_left, starter_among, locked_by, lock_of, begun_with, begin_by, root_told, BeginsRoot, IsChangeOf, are_starts_below}
use Rattle.zb_state.specs.State.{IsStateOf}
use Rattle.zb_tables.specs.Tables.{HaveTaken, Draws}
use Rattle.zb_state.specs.declared.facts.Facts.{Facts}
use Rattle.zb_tables.specs.declared.tables.Tables.{Tables}

abbrev instance_of : Started → ℕ
instance_of s = s.instance

-- the instance that begins is the root that is left to be said
begun_first : (ms : List MessagePublished) (what : Left) (e : ElementActivating) → BeginsRoot what (begun_with ms what e)
begun_first ms (lefts.Root begun) e = by_starter (starter_among ms (lefts.Root begun))
  where
    by_starter : (found : Option MessagePublished)
        → BeginsRoot (lefts.Root begun) (option_map_or (λ (m : MessagePublished). changes.Begun (record { instance = begun.key; process = e.node; name = m.name; correlation_key = e.started })) found changes.Nothing)
    by_starter None = tt
    by_starter (Some m) = refl
begun_first ms what e = tt

-- a lock that is set or freed begins none
no_root : (kind : Lock → Change) (left : Left) (lock : Option Lock) → ((l : Lock) → BeginsRoot left (kind l)) → BeginsRoot left (option_map_or kind lock changes.Nothing)
no_root kind left None none = tt
no_root kind left (Some l) none = none l

pub begins_root : (facts : Facts) (e : Event) → BeginsRoot facts.left (change_by facts e)
begins_root facts (events.ElementActivating e) = by_test ((e.scope == 0) && not (bytes_eq e.started []))
  where
    by_test : (t : Bool) → BeginsRoot facts.left (if t then begun_with facts.messages facts.left e else changes.Nothing)
    by_test true = begun_first facts.messages facts.left e
    by_test false = tt
begins_root facts (events.MessageStartEventSubscriptionCorrelated e) = by_model (model_under facts.game e.definition)
  where
    by_model : (found : Option Model) → BeginsRoot facts.left (option_map_or (λ (m : Model). changes.Locked (lock_for e.message m.process)) found changes.Nothing)
    by_model None = tt
    by_model (Some m) = tt
begins_root facts (events.MessageSubscriptionCorrelating e) = no_root changes.Locked facts.left (lock_of facts.tables.subscriptions e.subscription e.message) (λ l. tt)
begins_root facts (events.MessageSubscriptionRejected e) = no_root changes.Freed facts.left (lock_of facts.tables.subscriptions e.subscription e.message) (λ l. tt)
begins_root facts e = tt

module _ (es : List Event) (facts : Facts) (is : IsStateOf es facts) where
  -- a message that starts an instance is locked for its process
  locked_told : (message definition instance : ℕ) → IsChangeOf es (events.MessageStartEventSubscriptionCorrelated (record { message = message; definition = definition; instance = instance })) (locked_by facts.game message definition)
  locked_told message definition instance =
      rw (model_there facts.place es facts.game definition is.game is.applied) (by_process (process_in definition es) refl)
    where
      e : Event
      e = events.MessageStartEventSubscriptionCorrelated (record { message = message; definition = definition; instance = instance })

      by_process : (found : Option ProcessDefinition) → process_in definition es ≡ found
          → IsChangeOf es e (option_map_or (λ (m : Model). changes.Locked (lock_for message m.process)) (option_map (λ c. c.model) found) changes.Nothing)
      by_process None at = record {
        locks = λ ls. all_left lock_sort es e ls (rw at refl, λ l. refl, λ l. refl);
        starts = λ ss. all_left started_sort es e ss (refl, λ s. refl, λ s. refl);
      }
      by_process (Some c) at = record {
        locks = λ ls. one_more lock_sort es e ls (lock_for message c.model.process) (rw at refl) (λ l. refl) (λ l. refl);
        starts = λ ss. all_left started_sort es e ss (refl, λ s. refl, λ s. refl);
      }

  -- a root that begins with a correlation key is started by a message, and another cell, or one without a key, by none
  module _ (e : ElementActivating) (ss : List Started) where
    abbrev it : Event
    it = events.ElementActivating e

    unstarted : started_told es it ≡ None → standing_by started_sort es it ss ≡ ss
    unstarted none = all_left started_sort es it ss (none, λ s. refl, λ s. refl)

    abbrev row_of : ℕ → MessagePublished → Started
    row_of instance m = record { instance = instance; process = e.node; name = m.name; correlation_key = e.started }

    by_left : started_told es it ≡ started_by es e → bytes_eq e.started [] ≡ false → (what : Left) → left es ≡ what → IsTrue (leaves_root e.key e.definition what) → IsTrue (bytes_eq e.started (starts_with what es))
        → standing_by started_sort es it ss ≡ instances_by (begun_with facts.messages what e) ss
    by_left told full lefts.Nothing at leaves same = absurd (cc)
    by_left told full (lefts.Cancels job) at leaves same = absurd (cc)
    by_left told full (lefts.Deletes key) at leaves same = absurd (cc)
    by_left told full (lefts.Root begun) at leaves same = by_message begun.message refl
      where
        by_message : (o : Option ℕ) → begun.message ≡ o → standing_by started_sort es it ss ≡ instances_by (begun_with facts.messages (lefts.Root begun) e) ss
        by_message None starts =
            let none : IsTrue (bytes_eq e.started []) = rw starts at same in
            absurd (let both : true ≡ false = sym none ∙ full in cc)
        by_message (Some k) starts =
            let its = starter_left facts.place es facts.game begun k is.game is.applied at starts in
            let key : begun.key ≡ e.key = (let first : IsTrue (begun.key == e.key) = both_left (begun.key == e.key) _ leaves in grind (arith, nat_tests, first)) in
            let starter : starter_in e.key es ≡ Some its.message = ap (λ (instance : ℕ). starter_in instance es) (sym key) ∙ its.starts in
            let among : starter_among facts.messages (lefts.Root begun) ≡ Some its.message =
            ap (option_and_then (λ (n : ℕ). find (λ (m : MessagePublished). m.key == n) facts.messages)) starts ∙ (ap (find (λ (m : MessagePublished). m.key == k)) (sym is.messages) ∙ its.waits) in
            let row : started_told es it ≡ Some (row_of e.key its.message) = told ∙ ap (option_map (row_of e.key)) starter in
            one_more started_sort es it ss (row_of e.key its.message) row (λ s. refl) (λ s. refl)
            ∙ (ap (λ (instance : ℕ). ss ++ row_of instance its.message ∷ []) (sym key)
            ∙ ap (λ (o : Option MessagePublished). instances_by (option_map_or (λ (m : MessagePublished). changes.Begun (row_of begun.key m)) o changes.Nothing) ss) (sym among))

    by_tests : IsTrue (applies facts.place es it) → (root empty : Bool) → (e.scope == 0) ≡ root → bytes_eq e.started [] ≡ empty
        → standing_by started_sort es it ss ≡ instances_by (if root && not empty then begun_with facts.messages facts.left e else changes.Nothing) ss
    by_tests applied false empty at is_empty = unstarted (rw at refl)
    by_tests applied true true at is_empty = unstarted (rw (at, is_empty) refl)
    by_tests applied true false at is_empty =
        let own = both_left (begins_well facts.place es e) _ applied in
        let leaves = leaves_root e.key e.definition (left es) in
        let its = holds_of_game (is_process_of e.definition e.node) es in
        let via : Bool = bytes_eq e.via [] in
        let starts : Bool = bytes_eq e.started (starts_with (left es) es) in
        let begins : IsTrue (leaves && its && via && starts) = both_right (is_role e.role roles.Plain) _ (rw at at own) in
        let first : IsTrue leaves = both_left leaves its (both_left (leaves && its) via (both_left (leaves && its && via) starts begins)) in
        let last : IsTrue starts = both_right (leaves && its && via) starts begins in
        by_left (rw (at, is_empty) refl) is_empty (left es) refl first last
        ∙ ap (λ (what : Left). instances_by (begun_with facts.messages what e) ss) is.left

  -- a root that begins sets no lock
  unlocked : (e : ElementActivating) (ls : List Lock) → locks_by (begin_by facts.messages facts.left e) ls ≡ ls
  unlocked e ls = by_test ((e.scope == 0) && not (bytes_eq e.started []))
    where
      by_starter : (root : ℕ) (found : Option MessagePublished) → locks_by (option_map_or (λ (m : MessagePublished). changes.Begun (record { instance = root; process = e.node; name = m.name; correlation_key = e.started })) found changes.Nothing) ls ≡ ls
      by_starter root None = refl
      by_starter root (Some m) = refl

      by_left : (what : Left) → locks_by (begun_with facts.messages what e) ls ≡ ls
      by_left (lefts.Root begun) = by_starter begun.key (starter_among facts.messages (lefts.Root begun))
      by_left what = refl

      by_test : (t : Bool) → locks_by (if t then begun_with facts.messages facts.left e else changes.Nothing) ls ≡ ls
      by_test true = by_left facts.left
      by_test false = refl

  -- a lock that is set or freed starts no instance
  no_start : (kind : Lock → Change) (lock : Option Lock) (ss : List Started) → ((l : Lock) → instances_by (kind l) ss ≡ ss) → ss ≡ instances_by (option_map_or kind lock changes.Nothing) ss
  no_start kind None ss none = refl
  no_start kind (Some l) ss none = sym (none l)

  -- what an event that applies changes
  pub change_told : (e : Event) → IsTrue (applies facts.place es e) → IsChangeOf es e (change_by facts e)
  change_told (events.MessageStartEventSubscriptionCorrelated e) applied = locked_told e.message e.definition e.instance
  change_told (events.MessageExpired key) applied = record {
    locks = λ ls. some_gone lock_sort es (events.MessageExpired key) ls (λ l. l.message == key) refl (λ l. refl) (λ l. refl);
    starts = λ ss. all_left started_sort es (events.MessageExpired key) ss (refl, λ s. refl, λ s. refl);
  }
  change_told (events.ElementActivating e) applied = record {
    locks = λ ls. all_left lock_sort es (events.ElementActivating e) ls (refl, λ l. refl, λ l. refl) ∙ sym (unlocked e ls);
    starts = λ ss. by_tests e ss applied (e.scope == 0) (bytes_eq e.started []) refl refl;
  }
  change_told (events.ElementCompleted e) applied = record {
    locks = λ ls. all_left lock_sort es (events.ElementCompleted e) ls (refl, λ l. refl, λ l. refl);
    starts = λ ss. some_gone started_sort es (events.ElementCompleted e) ss (λ s. s.instance == e.key) refl (λ s. refl) (λ s. refl);
  }
  change_told (events.ElementTerminated key) applied = record {
    locks = λ ls. all_left lock_sort es (events.ElementTerminated key) ls (refl, λ l. refl, λ l. refl);
    starts = λ ss. some_gone started_sort es (events.ElementTerminated key) ss (λ s. s.instance == key) refl (λ s. refl) (λ s. refl);
  }
  change_told (events.MessageSubscriptionCorrelating e) applied = record {
    locks = begun_locks es facts is e (both_left (begins_correlating e es) _ applied);
    starts = λ ss. all_left started_sort es (events.MessageSubscriptionCorrelating e) ss (refl, λ s. refl, λ s. refl)
        ∙ no_start changes.Locked (lock_of facts.tables.subscriptions e.subscription e.message) ss (λ l. refl);
  }
  change_told (events.MessageSubscriptionRejected e) applied = record {
    locks = given_up_frees es facts is e (both_left (is_correlating e.subscription e.message es) _ applied);
    starts = λ ss. all_left started_sort es (events.MessageSubscriptionRejected e) ss (refl, λ s. refl, λ s. refl)
        ∙ no_start changes.Freed (lock_of facts.tables.subscriptions e.subscription e.message) ss (λ l. refl);
  }
  change_told e applied = record {
    locks = λ ls. all_left lock_sort es e ls (refl, λ l. refl, λ l. refl);
    starts = λ ss. all_left started_sort es e ss (refl, λ s. refl, λ s. refl);
  }

-- the keys of instances that are there, as an event is taken in
record AreStartsBelow (high : ℕ) (what : Left) (ss : List Started) : Type 0 where
  all : IsTrue (are_below instance_of high ss)
  root : IsTrue (option_map_or (λ root. nat_lt root high && are_below instance_of root ss) (root_left what) true)

each_starts_below : (high : ℕ) (what : Left) (ss : List Started) → IsTrue (are_starts_below high what ss) → AreStartsBelow high what ss
each_starts_below high what ss below = record { all = both_left (are_below instance_of high ss) _ below; root = both_right (are_below instance_of high ss) _ below }

-- an instance that begins has a greater key than all
pub has_place_in_starts : (high : ℕ) (what : Left) (ss : List Started) (change : Change) → IsTrue (are_starts_below high what ss) → BeginsRoot what change → IsTrue (begins_last change ss)
has_place_in_starts high what ss (changes.Begun s) below begins =
    let its : IsTrue (nat_lt s.instance high && are_below instance_of s.instance ss) = rw begins at (each_starts_below high what ss below).root in
    both_right (nat_lt s.instance high) _ its
has_place_in_starts high what ss change below begins = refl

-- the instances behind a change stay below a key that is at least as great
starts_changed : (high high' : ℕ) (what : Left) (ss : List Started) (change : Change) → high ≤ high' → IsTrue (are_starts_below high what ss) → BeginsRoot what change → IsTrue (are_below instance_of high' (instances_by change ss))
starts_changed high high' what ss (changes.Begun s) up below begins =
    let was = each_starts_below high what ss below in
    let its : IsTrue (nat_lt s.instance high && are_below instance_of s.instance ss) = rw begins at was.root in
    let less : IsTrue (nat_lt s.instance high) = both_left (nat_lt s.instance high) _ its in
    below_more instance_of high' ss s (grind (arith, nat_tests, less, up)) (below_higher instance_of high high' ss up was.all)
starts_changed high high' what ss (changes.Ended key) up below begins =
    below_some instance_of high' (λ s. not (s.instance == key)) ss (below_higher instance_of high high' ss up (each_starts_below high what ss below).all)
starts_changed high high' what ss change up below begins = below_higher instance_of high high' ss up (each_starts_below high what ss below).all

-- the root that an event leaves to be said has the next key, which is below the one behind all that it names
root_drawn : (p n n' : ℕ) (js : List Job) (e : Event) (root : ℕ) → n' ≡ max n (greatest_among p (keys_in e)) → Draws p n js e → root_told e ≡ Some root → (root ≡ key_of p (n + 1)) × (n + 1 ≤ n')
root_drawn p n n' js (events.ProcessInstanceCreationCreated e) root raised draws told =
    let same : e.key ≡ root = cc in
    let drawn : counter_at p e.key ≡ n + 1 = ap (counter_at p) draws.1 ∙ counter_at-key_of p (n + 1) draws.0 in
    (sym same ∙ draws.1, omega (arith, drawn, raised))
root_drawn p n n' js (events.MessageStartEventSubscriptionCorrelated e) root raised draws told =
    let same : e.instance ≡ root = cc in
    let drawn : counter_at p e.instance ≡ n + 1 = ap (counter_at p) draws.1 ∙ counter_at-key_of p (n + 1) draws.0 in
    (sym same ∙ draws.1, omega (arith, drawn, raised))
root_drawn p n n' js e root raised draws told = absurd (cc)

-- so they stay as the tables take an event in, which are empty where there was no memory
pub starts_below : (p n n' : ℕ) (what what' : Left) (e : Event) (change : Change) (old new : Tables) (result : Result ⊤ AllocError)
    → n' ≡ max n (greatest_among p (keys_in e)) → Draws p n old.jobs e → BeginsRoot what change → root_left what' ≡ root_told e → IsTrue (are_starts_below (key_of p (n + 1)) what old.starts.starts)
    → OnOk result (HaveTaken e change old new) → OnErr result (new.starts.starts ≡ [])
    → IsTrue (are_starts_below (key_of p (n' + 1)) what' new.starts.starts)
starts_below p n n' what what' e change old new (Ok done) raised draws begins told below took none = rw took.starts (together (root_told e) refl)
  where
    high : ℕ
    high = key_of p (n + 1)

    high' : ℕ
    high' = key_of p (n' + 1)

    up : high ≤ high'
    up = omega (arith, raised)

    together : (root : Option ℕ) → root_told e ≡ root → IsTrue (are_starts_below high' what' (instances_by change old.starts.starts))
    together None at = rw (starts_changed high high' what old.starts.starts change up below begins, told ∙ at) refl
    together (Some root) at =
        let drawn = root_drawn p n n' old.jobs e root raised draws at in
        let less : IsTrue (nat_lt root high') = (let is = drawn.0 in let count = drawn.1 in let below : root < high' = omega (arith, is, count) in grind (arith, nat_tests, below)) in
        let all : IsTrue (are_below instance_of root (instances_by change old.starts.starts)) = rw drawn.0 (starts_changed high high what old.starts.starts change (omega arith) below begins) in
        rw (starts_changed high high' what old.starts.starts change up below begins, told ∙ at, less, all) refl
starts_below p n n' what what' e change old new (Err fault) raised draws begins told below took none = rw none (together (root_told e) refl)
  where
    together : (root : Option ℕ) → root_told e ≡ root → IsTrue (are_starts_below (key_of p (n' + 1)) what' [])
    together None at = rw (told ∙ at) refl
    together (Some root) at =
        let drawn = root_drawn p n n' old.jobs e root raised draws at in
        let less : IsTrue (nat_lt root (key_of p (n' + 1))) = (let is = drawn.0 in let count = drawn.1 in let below : root < key_of p (n' + 1) = omega (arith, is, count) in grind (arith, nat_tests, below)) in
        rw (told ∙ at, less) refl

-- the first key of some under which no message is locked for a process
module _ (s : Started) (ls : List Lock) where
  abbrev is_free : ℕ → Bool
  is_free k = not (list_any (is_lock k s.process) ls)

  -- a message is the next one for an instance
  abbrev pub is_next : MessagePublished → Bool
  is_next m = bytes_eq m.name s.name && bytes_eq m.correlation_key s.correlation_key && is_free m.key

  first_among : (all ms : List MessagePublished) → All (λ m. find (λ x. x.key == m.key) all ≡ Some m) ms
      → option_and_then (λ (k : ℕ). find (λ m. m.key == k) all) (find is_free (map (λ m. m.key) (filter (is_addressed s.name s.correlation_key) ms))) ≡ find is_next ms
  first_among all [] found = refl
  first_among all (m ∷ ms) found =
      by_tests (bytes_eq m.name s.name) (bytes_eq m.correlation_key s.correlation_key) (is_free m.key) refl (first_among all ms (All-tail Own m ms found))
    where
      Own : MessagePublished → Type 0
      Own x = find (λ (y : MessagePublished). y.key == x.key) all ≡ Some x

      keys : List ℕ
      keys = map (λ (x : MessagePublished). x.key) (filter (is_addressed s.name s.correlation_key) ms)

      row_at : ℕ → Option MessagePublished
      row_at k = find (λ (x : MessagePublished). x.key == k) all

      by_free : (free : Bool) → option_and_then row_at (find is_free keys) ≡ find is_next ms → option_and_then row_at (if free then Some m.key else find is_free keys) ≡ (if free then Some m else find is_next ms)
      by_free true later = All-head Own m ms found
      by_free false later = later

      by_tests : (a b free : Bool) → is_free m.key ≡ free → option_and_then row_at (find is_free keys) ≡ find is_next ms
          → option_and_then row_at (find is_free (map (λ (x : MessagePublished). x.key) (cond (a && b) (m ∷ filter (is_addressed s.name s.correlation_key) ms) (filter (is_addressed s.name s.correlation_key) ms))))
          ≡ (if a && b && free then Some m else find is_next ms)
      by_tests true true free is later = rw is (by_free free later)
      by_tests true false free is later = later
      by_tests false b free is later = later

  pub first_there : (ms : List MessagePublished) → Ascend (λ m. m.key) 0 ms
      → option_and_then (λ (k : ℕ). find (λ m. m.key == k) ms) (find is_free (map (λ m. m.key) (filter (is_addressed s.name s.correlation_key) ms))) ≡ find is_next ms
  first_there ms up = first_among ms ms (λ i d within. finds_own (λ (m : MessagePublished). m.key) 0 ms i d within up)

-- the next message that starts an instance, by the keys of those of its name and correlation key
pub next_there : (es : List Event) (facts : Facts) → IsStateOf es facts → (s : Started) (keys : List ℕ) → keys ≡ map (λ m. m.key) (filter (is_addressed s.name s.correlation_key) (buffered es)) → Ascend (λ m. m.key) 0 facts.messages
    → option_and_then (λ (k : ℕ). find (λ m. m.key == k) facts.messages) (find (λ k. not (list_any (is_lock k s.process) facts.tables.starts.locks)) keys) ≡ next_starter s es
next_there es facts is s keys listed up =
    let ls = facts.tables.starts.locks in
    let free : ℕ → Bool = λ k. not (list_any (is_lock k s.process) ls) in
    ap (λ (ks : List ℕ). option_and_then (λ (k : ℕ). find (λ (m : MessagePublished). m.key == k) facts.messages) (find free ks)) (listed ∙ ap (λ (ms : List MessagePublished). map (λ (m : MessagePublished). m.key) (filter (is_addressed s.name s.correlation_key) ms)) is.messages)
    ∙ (first_there s ls facts.messages up
    ∙ (ap (find (is_next s ls)) (sym is.messages) ∙ ap (λ (l : List Lock). find (is_next s l) (buffered es)) (sym is.locks)))

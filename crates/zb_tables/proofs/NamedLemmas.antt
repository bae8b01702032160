-- An event leaves the rows as they are that it doesn't name.
use Rattle.std.proofs.Common.{◌≡◌, ℕ, ◌==◌, List, [], ◌∷◌, ◌++◌, map, filter, not, Bool, true, false, cond, get_or, All, Option, Some, None, option_map, refl, sym, ap, ◌∙◌, arith, append-nil}
use Rattle.std.specs.List.{find}
use Rattle.std.proofs.lemmas.Bool.Decides.{nat_tests}
use Rattle.std.proofs.lemmas.List.Elements.{All-nil, All-cons, All-head, All-tail}
use Rattle.std.specs.Option.{option_map_or}
use Rattle.zb_exchange_records.specs.declared.message.MessagePublished.{MessagePublished}
use Rattle.zb_model.specs.declared.record.Event.{Event}
use Rattle.zb_model.specs.declared.record.Event.TheVariants as events
use Rattle.zb_pairs.specs.Pairs.{is_number}
use Rattle.zb_pairs.proofs.FoundLemmas.{found_other}
use Rattle.zb_views.specs.Standing.{Sort, left_by, begun_by, standing_by}
use Rattle.zb_views.specs.declared.job.Job.{Job}
use Rattle.zb_views.specs.declared.timer.Timer.{Timer}
use Rattle.zb_views.specs.Messages.{message_sort, message_told}
use Rattle.zb_views.specs.Jobs.{job_sort, job_told}
use Rattle.zb_views.specs.Timers.{timer_sort, timer_told}
use Rattle.zb_jobs.specs.Table.{job_of_cell, HaveOwnCells}
use Rattle.zb_tables.specs.Named.{named_message, named_job, named_timer}

-- what holds of all holds of each of some
pub each : {A : Type 0} (P : A → Type 0) → ((x : A) → P x) → (xs : List A) → All P xs
each P all xs = λ i d within. all (get_or xs i d)

module _ {A : Type 0} (s : Sort A) (key : A → ℕ) (e : Event) (named : Option ℕ) where
  -- an event neither ends nor changes a thing that it doesn't name
  abbrev pub Leaves : A → Type 0
  Leaves x = is_number (key x) named ≡ false → (s.ends [] e x ≡ false) × (s.says [] e x ≡ x)

  module _ (keeps : (x : A) → key (s.says [] e x) ≡ key x) (k : ℕ) (other : is_number k named ≡ false) where
    left_stays : (xs : List A) → All Leaves xs → find (λ x. key x == k) (left_by s [] e xs) ≡ find (λ x. key x == k) xs
    left_stays [] leaves = refl
    left_stays (x ∷ xs) leaves = by_tests (key x == k) (s.ends [] e x) refl refl (left_stays xs (All-tail Leaves x xs leaves))
      where
        apart : (key x == k) ≡ true → is_number (key x) named ≡ false
        apart same = let is : key x ≡ k = grind (arith, nat_tests, same) in ap (λ (n : ℕ). is_number n named) is ∙ other

        by_tests : (t u : Bool) → (key x == k) ≡ t → s.ends [] e x ≡ u → find (λ y. key y == k) (left_by s [] e xs) ≡ find (λ y. key y == k) xs
            → find (λ y. key y == k) (map (s.says [] e) (cond (not u) (x ∷ filter (λ y. not (s.ends [] e y)) xs) (filter (λ y. not (s.ends [] e y)) xs))) ≡ cond t (Some x) (find (λ y. key y == k) xs)
        by_tests true true same ends later = absurd (let stays = All-head Leaves x xs leaves (apart same) in let lasts = stays.0 in cc)
        by_tests true false same ends later =
            let stays = All-head Leaves x xs leaves (apart same) in
            rw (stays.1, same) refl
        by_tests false true isnt ends later = later
        by_tests false false isnt ends later = rw (keeps x, isnt) later

    -- so it leaves what is found under another key
    pub others_stay : (xs : List A) → All Leaves xs → ((x : A) → s.told [] e ≡ Some x → is_number (key x) named ≡ true) → find (λ x. key x == k) (standing_by s [] e xs) ≡ find (λ x. key x == k) xs
    others_stay xs leaves begins = by_told (s.told [] e) refl
      where
        by_key : (x : A) → is_number (key x) named ≡ true → (t : Bool) → (key x == k) ≡ t → t ≡ false
        by_key x its true same = absurd (let is : key x ≡ k = grind (arith, nat_tests, same) in let both = sym its ∙ (ap (λ (n : ℕ). is_number n named) is ∙ other) in cc)
        by_key x its false same = refl

        by_told : (told : Option A) → s.told [] e ≡ told → find (λ x. key x == k) (left_by s [] e xs ++ begun_by told) ≡ find (λ x. key x == k) xs
        by_told None none = ap (find (λ x. key x == k)) (append-nil (left_by s [] e xs)) ∙ left_stays xs leaves
        by_told (Some x) is = found_other (λ y. key y == k) (left_by s [] e xs) x (by_key x (begins x is) (key x == k) refl) ∙ left_stays xs leaves

module _ (cell : ℕ) where
  abbrev is_elsewhere : Job → Type 0
  is_elsewhere j = (j.cell == cell) ≡ false

  -- no job is of the cell
  none_there : (js : List Job) → job_of_cell cell js ≡ None → All is_elsewhere js
  none_there [] none = All-nil is_elsewhere
  none_there (j ∷ js) none = by_test (j.cell == cell) refl none (λ later. none_there js later)
    where
      by_test : (t : Bool) → (j.cell == cell) ≡ t → ◌≡◌ {A = Option Job} (cond t (Some j) (job_of_cell cell js)) None → (job_of_cell cell js ≡ None → All is_elsewhere js) → All is_elsewhere (j ∷ js)
      by_test true here none later = absurd (cc)
      by_test false other none later = All-cons is_elsewhere j js other (later none)

  -- no job is of the cell but the one that is named
  abbrev pub IsOnly : Option ℕ → Job → Type 0
  IsOnly named j = is_number j.key named ≡ false → (j.cell == cell) ≡ false

  -- the job of the cell is the only one of it
  pub only_job : (js : List Job) → HaveOwnCells js → All (IsOnly (option_map (λ j. j.key) (job_of_cell cell js))) js
  only_job [] own = All-nil (IsOnly None)
  only_job (j ∷ js) own = by_test (j.cell == cell) refl (only_job js own.1)
    where
      by_test : (t : Bool) → (j.cell == cell) ≡ t → All (IsOnly (option_map (λ x. x.key) (job_of_cell cell js))) js → All (IsOnly (option_map (λ x. x.key) (cond t (Some j) (job_of_cell cell js)))) (j ∷ js)
      by_test true here later =
          let is : j.cell ≡ cell = grind (arith, nat_tests, here) in
          let none = none_there js (ap (λ (c : ℕ). job_of_cell c js) (sym is) ∙ own.0) in
          All-cons (IsOnly (Some j.key)) j js (λ other. absurd (let same : (j.key == j.key) ≡ true = grind (arith, nat_tests) in cc)) (λ i d within _. none i d within)
      by_test false other later = All-cons (IsOnly (option_map (λ x. x.key) (job_of_cell cell js))) j js (λ _. other) later

abbrev message_key : MessagePublished → ℕ
message_key m = m.key

abbrev job_key : Job → ℕ
job_key j = j.key

abbrev timer_key : Timer → ℕ
timer_key t = t.key

-- a number is the one that is named
itself : (k : ℕ) → is_number k (Some k) ≡ true
itself k = grind (arith, nat_tests)

turned : (a b : ℕ) → (a == b) ≡ false → (b == a) ≡ false
turned a b apart = grind (arith, nat_tests, apart)

-- an event leaves the messages that it doesn't name
message_left : (e : Event) (m : MessagePublished) → Leaves message_sort message_key e (named_message e) m
message_left (events.MessageExpired key) m apart = (turned key m.key apart, refl)
message_left (events.MessagePublished x) m apart = (refl, refl)
message_left _ m apart = (refl, refl)

message_begins : (e : Event) (m : MessagePublished) → message_told e ≡ Some m → is_number m.key (named_message e) ≡ true
message_begins (events.MessagePublished x) m is = let same : x ≡ m = cc in rw (sym same) (itself x.key)
message_begins _ m is = absurd (cc)

pub messages_else : (e : Event) (ms : List MessagePublished) (k : ℕ) → is_number k (named_message e) ≡ false → find (λ m. m.key == k) (standing_by message_sort [] e ms) ≡ find (λ m. m.key == k) ms
messages_else e ms k other = others_stay message_sort message_key e (named_message e) (λ m. refl) k other ms (each (Leaves message_sort message_key e (named_message e)) (message_left e) ms) (message_begins e)

-- nor the timers
timer_left : (e : Event) (t : Timer) → Leaves timer_sort timer_key e (named_timer e) t
timer_left (events.TimerTriggered key) t apart = (turned key t.key apart, refl)
timer_left (events.TimerCanceled key) t apart = (turned key t.key apart, refl)
timer_left (events.TimerCreated x) t apart = (refl, refl)
timer_left _ t apart = (refl, refl)

timer_begins : (e : Event) (t : Timer) → timer_told e ≡ Some t → is_number t.key (named_timer e) ≡ true
timer_begins (events.TimerCreated x) t is = let same : x.key ≡ t.key = ap (λ (o : Option Timer). option_map_or timer_key o 0) is in rw (sym same) (itself x.key)
timer_begins _ t is = absurd (cc)

pub timers_else : (e : Event) (ts : List Timer) (k : ℕ) → is_number k (named_timer e) ≡ false → find (λ t. t.key == k) (standing_by timer_sort [] e ts) ≡ find (λ t. t.key == k) ts
timers_else e ts k other = others_stay timer_sort timer_key e (named_timer e) (λ t. refl) k other ts (each (Leaves timer_sort timer_key e (named_timer e)) (timer_left e) ts) (timer_begins e)

-- nor the jobs
job_left : (e : Event) (js : List Job) → HaveOwnCells js → All (Leaves job_sort job_key e (named_job js e)) js
job_left (events.JobActivated x) js own = each (Leaves job_sort job_key (events.JobActivated x) (Some x.key)) (λ j apart. (refl, let other = turned x.key j.key apart in rw other refl)) js
job_left (events.JobTimedOut key) js own = each (Leaves job_sort job_key (events.JobTimedOut key) (Some key)) (λ j apart. (refl, let other = turned key j.key apart in rw other refl)) js
job_left (events.JobCompleted key) js own = each (Leaves job_sort job_key (events.JobCompleted key) (Some key)) (λ j apart. (turned key j.key apart, refl)) js
job_left (events.JobCanceled key) js own = each (Leaves job_sort job_key (events.JobCanceled key) (Some key)) (λ j apart. (turned key j.key apart, refl)) js
job_left (events.JobErrorThrown x) js own = each (Leaves job_sort job_key (events.JobErrorThrown x) (Some x.key)) (λ j apart. (turned x.key j.key apart, refl)) js
job_left (events.JobFailed x) js own = each (Leaves job_sort job_key (events.JobFailed x) (Some x.key)) (λ j apart. (refl, let other = turned x.key j.key apart in rw other refl)) js
job_left (events.JobRetriesUpdated x) js own = each (Leaves job_sort job_key (events.JobRetriesUpdated x) (Some x.key)) (λ j apart. (refl, let other = turned x.key j.key apart in rw other refl)) js
job_left (events.IncidentResolved x) js own = each (Leaves job_sort job_key (events.IncidentResolved x) (Some x.job)) (λ j apart. (refl, let other = turned x.job j.key apart in rw other refl)) js
job_left (events.ElementTerminating cell) js own = let only = only_job cell js own in λ i d within apart. (only i d within apart, refl)
job_left e js own = each (Leaves job_sort job_key e (named_job js e)) (λ j apart. (refl, refl)) js

job_begins : (e : Event) (js : List Job) (j : Job) → job_told e ≡ Some j → is_number j.key (named_job js e) ≡ true
job_begins (events.JobCreated x) js j is = let same : x.key ≡ j.key = ap (λ (o : Option Job). option_map_or job_key o 0) is in rw (sym same) (itself x.key)
job_begins _ js j is = absurd (cc)

pub jobs_else : (e : Event) (js : List Job) → HaveOwnCells js → (k : ℕ) → is_number k (named_job js e) ≡ false → find (λ j. j.key == k) (standing_by job_sort [] e js) ≡ find (λ j. j.key == k) js
jobs_else e js own k other = others_stay job_sort job_key e (named_job js e) (λ j. refl) k other js (job_left e js own) (job_begins e js)

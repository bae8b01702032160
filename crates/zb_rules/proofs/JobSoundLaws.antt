-- What holds of the jobs of every log whose events apply: they ascend, and each stands on a cell of its own that waits for it.
use Rattle.std.proofs.Common.{◌≡◌, ℕ, zero, suc, ◌<◌, ◌≤◌, ◌==◌, get_or, List, [], ◌∷◌, ◌++◌, Bool, true, false, ◌&&◌, ◌||◌, not, cond, if◌then◌else◌, IsTrue, is_some, is_none, Option, Some, None, option_map, All, Contains, refl, sym, ap, ◌∙◌, subst, append-nil, arith}
use Rattle.std.specs.Option.{option_map_or}
use Rattle.std.specs.List.{find, AllPairs}
use Rattle.std.proofs.lemmas.Bool.{and_parts, not-true}
use Rattle.std.proofs.lemmas.Bool.Decides.{nat_tests}
use Rattle.std.proofs.lemmas.List.Elements.{All-nil, All-cons, All-weaker, All-append, All-push, All-contains}
use Rattle.std.proofs.lemmas.List.Folds.{find-append}
use Rattle.std.proofs.lemmas.List.Quantifiers.{all_pairs_push}
use Rattle.zb_instance_records.specs.declared.happening.IncidentCreated.{IncidentCreated}
use Rattle.zb_instance_records.specs.declared.happening.IncidentResolved.{IncidentResolved}
use Rattle.zb_exchange_records.specs.declared.job.JobCreated.{JobCreated}
use Rattle.zb_model.specs.declared.record.Event.{Event}
use Rattle.zb_model.specs.declared.record.Event.TheVariants as events
use Rattle.zb_views.specs.declared.job.Job.{Job}
use Rattle.zb_views.specs.declared.job.JobPhase.{JobPhase}
use Rattle.zb_views.specs.declared.job.JobPhase.TheVariants as phases
use Rattle.zb_views.specs.Jobs.{new_job, job_told, ends_job, failed_phase, job_sort, jobs, job_at, job_on, is_activatable, is_given_out, is_activated, is_failed, job_changed}
use Rattle.zb_views.specs.Standing.{left_by, begun_by, standing_by}
use Rattle.zb_views.proofs.StandingLaws.{one_more, each_left, pairs_left, ascend_left}
use Rattle.zb_views.proofs.JobLaws.{jobs_more, jobs_kept}
use Rattle.zb_views.specs.View.{next_key}
use Rattle.zb_tokens.specs.declared.board.Cell.{Cell}
use Rattle.zb_tokens.specs.declared.board.Incident.{Incident}
use Rattle.zb_tokens.specs.declared.board.Move.{Move}
use Rattle.zb_tokens.specs.declared.board.Move.TheVariants as moves
use Rattle.zb_tokens.specs.declared.board.Mark.{Mark}
use Rattle.zb_tokens.specs.declared.board.Mark.TheVariants as marks
use Rattle.zb_tokens.specs.declared.board.Phase.{Phase}
use Rattle.zb_tokens.specs.declared.board.Phase.TheVariants as cell_phases
use Rattle.zb_tokens.specs.Incidents.{incident_at, incident_on, is_stuck}
use Rattle.zb_tokens.specs.Marks.{is_unset, error_of, awaits_work}
use Rattle.zb_tokens.specs.MoveIncident.{evaluates, may_stop, may_stand, fits_incident}
use Rattle.zb_tokens.specs.Effects.{is_of_incident}
use Rattle.zb_tokens.proofs.GameLaws.{both_left, both_right, holds_some, found_holds, none_found}
use Rattle.zb_tokens.proofs.EffectLaws.{mapped_from, incidents_stay}
use Rattle.zb_tokens.specs.Edits.{removed}
use Rattle.zb_tokens.specs.Board.{Board, cell_at, is_phase}
use Rattle.zb_tokens.specs.Game.{empty_board}
use Rattle.zb_tokens.specs.Work.{may_have_job, is_work_in, is_cause_of}
use Rattle.zb_rules.specs.Shown.{shown, after_shown, holds_of_game}
use Rattle.zb_rules.specs.JobEvents.{is_job_in, tells_of_job, has_cause}
use Rattle.zb_rules.specs.Applies.{is_fresh, holds_own}
use Rattle.zb_rules.specs.Applies.{may_fit}
use Rattle.zb_rules.specs.Sound.{StandApart, AreApartJobs, IsAwaited, HasNoIncident, HasJobOfCell, HasSoundJobs}
use Rattle.zb_rules.proofs.AppliedLaws.{Advances, some_of, game_holds}
use Rattle.zb_rules.proofs.KeysLaws.{next_key_more, fresh_is, fresh_below, first_named}
use Rattle.zb_rules.proofs.GrowthLaws.{job_shows, begin_shows}
use Rattle.zb_rules.proofs.MadeLaws.{mapped_holds}
use Rattle.zb_rules.proofs.PlayedLaws.{removed_all}
use Rattle.zb_rules.proofs.PlacedLaws.{key_found}
use Rattle.zb_rules.proofs.IncidentsLaws.{none_where}
use Rattle.zb_rules.proofs.ScopesLaws.{at_cell}
use Rattle.zb_rules.proofs.JobCellsLaws.{ends_wait, waits_on}
use Rattle.zb_rules.proofs.JobListLaws.{JobsAscend, ascend_above, ascend_push, found_among, job_of_key, one_of_cell}

-- the job that is the cause of an incident was made before
abbrev pub IsDrawn : ℕ → List Event → Incident → Type 0
IsDrawn p es i = i.job < next_key p es

-- in such phases a job hasn't failed
activatable_lasts : (phase : JobPhase) → IsTrue (is_activatable phase) → is_failed phase ≡ false
activatable_lasts phases.Failed is = absurd (cc)
activatable_lasts phase is = refl

activated_lasts : (phase : JobPhase) → IsTrue (is_activated phase) → is_failed phase ≡ false
activated_lasts phases.Failed is = absurd (cc)
activated_lasts phase is = refl

given_out_lasts : (phase : JobPhase) → IsTrue (is_given_out phase) → is_failed phase ≡ false
given_out_lasts phases.Failed is = absurd (cc)
given_out_lasts phase is = refl

-- a cell that waits for its work doesn't come to a stop by itself
stops_by : (phase : Phase) (mark : Mark) → IsTrue (is_phase phase cell_phases.Active) → IsTrue (is_unset mark) → (evaluates phase || (is_phase phase cell_phases.Active && is_some (error_of mark))) ≡ false
stops_by cell_phases.Active marks.Unset active unset = refl
stops_by phase mark active unset = absurd (cc)

never_stops : (b : Board) (c : Cell) → IsTrue (awaits_work b c) → may_stop c ≡ false
never_stops b c is = stops_by c.phase c.mark (both_left (is_phase c.phase cell_phases.Active) _ is) (both_left (is_unset c.mark) _ (both_right (is_phase c.phase cell_phases.Active) _ is))

-- an event by which an incident is gone
abbrev is_resolution : Event → Bool
is_resolution (events.IncidentResolved r) = true
is_resolution e = false

-- an event by which an incident stands there or is gone
abbrev tells_of_incident : Event → Bool
tells_of_incident (events.IncidentCreated c) = true
tells_of_incident (events.IncidentResolved r) = true
tells_of_incident e = false

silent_shown : (before : List Event) (e : Event) → tells_of_incident e ≡ false → option_map_or is_of_incident (shown before e) false ≡ false
silent_shown before (events.ElementActivating a) silent = begin_shows (λ (m : Option Move). option_map_or is_of_incident m false ≡ false) a (a.scope == 0) refl refl refl refl
silent_shown before (events.JobCompleted key) silent = job_shows (λ (m : Option Move). option_map_or is_of_incident m false ≡ false) (λ j. moves.Done j.cell) (job_at key before) refl (λ j. refl)
silent_shown before (events.JobErrorThrown t) silent = job_shows (λ (m : Option Move). option_map_or is_of_incident m false ≡ false) (λ j. moves.Throw (record { cell = j.cell; code = t.code })) (job_at t.key before) refl (λ j. refl)
silent_shown before (events.IncidentCreated c) silent = absurd (cc)
silent_shown before (events.IncidentResolved r) silent = absurd (cc)
silent_shown before e silent = refl

not_resolved : (e : Event) → tells_of_incident e ≡ false → is_resolution e ≡ false
not_resolved (events.IncidentResolved r) silent = absurd (cc)
not_resolved e silent = refl

-- of incidents that stand apart, none is left on the cell of the one that is gone
module _ (key : ℕ) (i : Incident) where
  gone_by : (x : Incident) (xs ys : List Incident) (t : Bool) → (x.key == key) ≡ t → All (StandApart x) xs → ((rest : List Incident) → find (λ (z : Incident). z.key == key) xs ≡ Some i → removed (λ z. z.key == key) xs ≡ Some rest → All (λ (z : Incident). (z.cell == i.cell) ≡ false) rest)
      → cond t (Some x) (find (λ (z : Incident). z.key == key) xs) ≡ Some i → (if t then Some xs else option_map (λ zs. x ∷ zs) (removed (λ z. z.key == key) xs)) ≡ Some ys → All (λ (z : Incident). (z.cell == i.cell) ≡ false) ys
  gone_by x xs ys true same apart later found gone =
      let rest : xs ≡ ys = cc in
      let its : x ≡ i = cc in
      let of_cell : x.cell ≡ i.cell = ap (λ (y : Incident). y.cell) its in
      subst (All (λ (z : Incident). (z.cell == i.cell) ≡ false)) rest (λ k d within. let other = (apart k d within).0 in grind (arith, nat_tests, other, of_cell))
  gone_by x xs ys false other apart later found gone =
      let r = mapped_from (λ (zs : List Incident). x ∷ zs) (removed (λ z. z.key == key) xs) ys gone in
      let differs = (found_holds (λ (z : Incident). z.key == key) (StandApart x) xs i apart found).0.0 in
      subst (All (λ (z : Incident). (z.cell == i.cell) ≡ false)) r.2 (All-cons (λ (z : Incident). (z.cell == i.cell) ≡ false) x r.0 differs (later r.0 found r.1))

  none_on_cell : (xs ys : List Incident) → AllPairs StandApart xs → find (λ (z : Incident). z.key == key) xs ≡ Some i → removed (λ z. z.key == key) xs ≡ Some ys → All (λ (z : Incident). (z.cell == i.cell) ≡ false) ys
  none_on_cell [] ys apart found gone = absurd (cc)
  none_on_cell (x ∷ xs) ys apart found gone =
      let head : All (StandApart x) xs = λ k d within. apart zero (suc k) d (omega arith) (omega arith) in
      let tail : AllPairs StandApart xs = λ m n d lt within. apart (suc m) (suc n) d (omega arith) (omega arith) in
      gone_by x xs ys (x.key == key) refl head (λ rest. none_on_cell xs rest tail) found gone

-- what holds of the incident that is found
at_incident : (holds : Incident → Bool) (found : Option Incident) (i : Incident) → found ≡ Some i → IsTrue (option_map_or holds found false) → IsTrue (holds i)
at_incident holds found i is h = subst (λ (o : Option Incident). IsTrue (option_map_or holds o false)) is h

-- nothing is there
is_none_is : {A : Type 0} (o : Option A) → IsTrue (is_none o) → o ≡ None
is_none_is None is = refl
is_none_is (Some a) is = absurd (cc)

is_some_not : {A : Type 0} (o : Option A) → is_some o ≡ false → o ≡ None
is_some_not None is = refl
is_some_not (Some a) is = absurd (cc)

-- what holds of the job that is found
at_job : (holds : Job → Bool) (found : Option Job) (j : Job) → found ≡ Some j → IsTrue (option_map_or holds found false) → IsTrue (holds j)
at_job holds found j is h = subst (λ (o : Option Job). IsTrue (option_map_or holds o false)) is h

module _ (p : ℕ) (before : List Event) (b : Board) (s : HasSoundJobs p before b) where
  -- the job with a key is the one that is found
  job_there : (key : ℕ) (j : Job) → Contains (jobs before) j → j.key ≡ key → job_at key before ≡ Some j
  job_there key j among its = job_of_key 1 (jobs before) key j s.ascend among its

  -- a job that an event doesn't end isn't the one that it names
  other_cell : (key : ℕ) (j : Job) (found : Option Job) → Contains (jobs before) j → (j.key == key) ≡ false → job_at key before ≡ found → option_map_or (λ (k : Job). j.cell == k.cell) found false ≡ false
  other_cell key j None among other is = refl
  other_cell key j (Some k) among other is = by_test (j.cell == k.cell) refl
    where
      by_test : (t : Bool) → (j.cell == k.cell) ≡ t → (j.cell == k.cell) ≡ false
      by_test false differs = differs
      by_test true same =
          let r = found_among (λ (x : Job). x.key == key) (jobs before) k is in
          let one = one_of_cell (jobs before) j k s.apart among r.0 (grind (arith, nat_tests)) in
          let its : (j.key == key) ≡ true = subst (λ (x : Job). (x.key == key) ≡ true) (sym one) r.1 in
          absurd (cc)

  done_ends : (f : Job → Move) (cell : ℕ) (found : Option Job) → ((k : Job) → ends_wait (f k) cell ≡ (cell == k.cell)) → option_map_or (λ (k : Job). cell == k.cell) found false ≡ false
      → option_map_or (λ (m : Move). ends_wait m cell) (option_map f found) false ≡ false
  done_ends f cell None each out = refl
  done_ends f cell (Some k) each out = each k ∙ out

  -- the cell of a job that an event doesn't end waits still
  wait_lasts : (e : Event) (j : Job) → Contains (jobs before) j → ends_job j.key j.cell e ≡ false → IsTrue (may_fit (shown before e) b) → option_map_or (λ (m : Move). ends_wait m j.cell) (shown before e) false ≡ false
  wait_lasts (events.ElementActivating a) j among out fit = begin_shows (λ (m : Option Move). option_map_or (λ (x : Move). ends_wait x j.cell) m false ≡ false) a (a.scope == 0) refl refl refl refl
  wait_lasts (events.ElementTerminating key) j among out fit = out
  wait_lasts (events.JobCompleted key) j among out fit = done_ends (λ k. moves.Done k.cell) j.cell (job_at key before) (λ k. refl) (other_cell key j (job_at key before) among out refl)
  wait_lasts (events.JobErrorThrown t) j among out fit = done_ends (λ k. moves.Throw (record { cell = k.cell; code = t.code })) j.cell (job_at t.key before) (λ k. refl) (other_cell t.key j (job_at t.key before) among out refl)
  wait_lasts e j among out fit = refl

  -- what an event asks of the phase of the job that it names
  its_phase : (passes : JobPhase → Bool) (key : ℕ) (j : Job) → Contains (jobs before) j → j.key ≡ key → IsTrue (is_job_in passes key before) → IsTrue (passes j.phase)
  its_phase passes key j among its h = at_job (λ (k : Job). passes k.phase) (job_at key before) j (job_there key j among its) h

  -- one that hasn't failed where it is in another phase now hadn't before
  lasted_by : (key : ℕ) (j : Job) (phase : JobPhase) (t : Bool) → (j.key == key) ≡ t → (j.key ≡ key → is_failed j.phase ≡ false) → is_failed (if t then phase else j.phase) ≡ false → is_failed j.phase ≡ false
  lasted_by key j phase true same named is = named (grind (arith, nat_tests))
  lasted_by key j phase false other named is = is

  lasted : (e : Event) (j : Job) → is_resolution e ≡ false → IsTrue (holds_own p before e) → Contains (jobs before) j → is_failed (job_changed e j).phase ≡ false → is_failed j.phase ≡ false
  lasted (events.JobActivated x) j other own among is =
      lasted_by x.key j phases.Activated (j.key == x.key) refl
      (λ its. activatable_lasts j.phase (both_left (is_activatable j.phase) _ (at_job (λ (k : Job). is_activatable k.phase && holds_of_game (is_work_in k.cell x.instance x.node) before) (job_at x.key before) j (job_there x.key j among its) own))) is
  lasted (events.JobTimedOut key) j other own among is = lasted_by key j phases.TimedOut (j.key == key) refl (λ its. activated_lasts j.phase (its_phase is_activated key j among its own)) is
  lasted (events.JobFailed x) j other own among is = lasted_by x.key j (failed_phase x.retries) (j.key == x.key) refl (λ its. given_out_lasts j.phase (its_phase is_given_out x.key j among its own)) is
  lasted (events.IncidentResolved r) j other own among is = absurd (cc)
  lasted e j other own among is = is

  -- an incident that begins to stand on the cell of a job that hasn't failed has no cause
  module _ (c : IncidentCreated) (j : Job) (among : Contains (jobs before) j) (lasts : is_failed j.phase ≡ false) where
    not_of_job : (j.cell ≡ c.cell) → IsTrue (option_map_or (λ (k : Job). is_failed k.phase && (k.cell == c.cell)) (job_at c.job before) false) → ⊥
    not_of_job same cause =
        let found = some_of (job_at c.job before) (holds_some _ (job_at c.job before) cause) in
        let k = found.0 in
        let holds = and_parts (is_failed k.phase) (k.cell == c.cell) (at_job (λ (x : Job). is_failed x.phase && (x.cell == c.cell)) (job_at c.job before) k found.1 cause) in
        let its = (found_among (λ (x : Job). x.key == c.job) (jobs before) k found.1).0 in
        let of_cell : k.cell ≡ c.cell = (let test = holds.1 in grind (arith, nat_tests, test)) in
        let one = one_of_cell (jobs before) j k s.apart among its (same ∙ sym of_cell) in
        let fails : is_failed j.phase ≡ true = subst (λ (x : Job). is_failed x.phase ≡ true) (sym one) holds.0 in
        absurd (cc)

    not_by_itself : (t : Bool) → (c.job == 0) ≡ t → IsTrue t → j.cell ≡ c.cell → IsTrue (fits_incident b (record { key = c.key; kind = c.kind; cell = c.cell; job = c.job; text = c.text })) → ⊥
    not_by_itself false none is same fit = absurd (cc)
    not_by_itself true none is same fit =
        let i : Incident = record { key = c.key; kind = c.kind; cell = c.cell; job = c.job; text = c.text } in
        let found = some_of (cell_at b c.cell) (holds_some _ (cell_at b c.cell) fit) in
        let x = found.0 in
        let stands = (and_parts (may_stand b i x) (not (is_stuck b x)) (at_cell (λ (y : Cell). may_stand b i y && not (is_stuck b y)) (cell_at b c.cell) x found.1 fit)).0 in
        let stops : IsTrue (may_stop x) = subst (λ (t : Bool). IsTrue (if not t then awaits_work b x else may_stop x)) none stands in
        let waits : IsTrue (option_map_or (awaits_work b) (cell_at b c.cell) false) = subst (λ (k : ℕ). IsTrue (option_map_or (awaits_work b) (cell_at b k) false)) same (All-contains (IsAwaited b) (jobs before) j s.awaited among) in
        let goes_on = never_stops b x (at_cell (awaits_work b) (cell_at b c.cell) x found.1 waits) in
        absurd (cc)

    by_kind : (t : Bool) → j.cell ≡ c.cell → IsTrue (if t then not (c.job == 0) && option_map_or (λ (k : Job). is_failed k.phase && (k.cell == c.cell)) (job_at c.job before) false else c.job == 0)
        → IsTrue (fits_incident b (record { key = c.key; kind = c.kind; cell = c.cell; job = c.job; text = c.text })) → ⊥
    by_kind true same cause fit = not_of_job same (both_right (not (c.job == 0)) _ cause)
    by_kind false same cause fit = not_by_itself (c.job == 0) refl cause same fit

    -- so it stands elsewhere
    stands_elsewhere : IsTrue (has_cause c before) → IsTrue (fits_incident b (record { key = c.key; kind = c.kind; cell = c.cell; job = c.job; text = c.text })) → (c.cell == j.cell) ≡ false
    stands_elsewhere cause fit = by_test (c.cell == j.cell) refl
      where
        by_test : (t : Bool) → (c.cell == j.cell) ≡ t → (c.cell == j.cell) ≡ false
        by_test false differs = differs
        by_test true same = absurd (by_kind (tells_of_job c.kind) (grind (arith, nat_tests)) cause fit)

  module _ (e : Event) (after : Board) (h : Advances p before b e after) where
    awaited_one : (j : Job) → Contains (jobs before) j → ends_job j.key j.cell e ≡ false → IsAwaited after (job_changed e j)
    awaited_one j among out = waits_on b after (shown before e) j.cell h.fit h.leads (wait_lasts e j among out h.fit) (All-contains (IsAwaited b) (jobs before) j s.awaited among)

    below_one : (j : Job) → Contains (jobs before) j → (job_changed e j).key < next_key p (before ++ e ∷ [])
    below_one j among = omega (arith, All-contains (λ (x : Job). x.key < next_key p before) (jobs before) j s.below among, next_key_more p before e)

    incidents_by : (move : Option Move) → option_map_or is_of_incident move false ≡ false → after_shown b move ≡ Some after → after.incidents ≡ b.incidents
    incidents_by None other made = let same : b ≡ after = cc in ap (λ (x : Board). x.incidents) (sym same)
    incidents_by (Some move) other made = incidents_stay b after move other made

    -- an event that tells of no incident leaves them
    incidents_kept : tells_of_incident e ≡ false → after.incidents ≡ b.incidents
    incidents_kept silent = incidents_by (shown before e) (silent_shown before e silent) h.leads

    free_kept : tells_of_incident e ≡ false → (j : Job) → Contains (jobs before) j → HasNoIncident after (job_changed e j)
    free_kept silent j among lasts =
        let was = lasted e j (not_resolved e silent) h.own among lasts in
        subst (λ (is : List Incident). find (λ (i : Incident). i.cell == j.cell) is ≡ None) (sym (incidents_kept silent)) (All-contains (HasNoIncident b) (jobs before) j s.free among was)

    -- an incident that stands still is on the cell of its cause still
    cause_lasts : (i : Incident) → ((made : Job) → job_told e ≡ Some made → i.job < made.key) → HasJobOfCell before i → HasJobOfCell (before ++ e ∷ []) i
    cause_lasts i drawn had j found =
        let Of : Job → Type 0 = λ (x : Job). (x.key == i.job) ≡ true → x.cell ≡ i.cell in
        let r = found_among (λ (x : Job). x.key == i.job) (jobs (before ++ e ∷ [])) j found in
        let left : All Of (left_by job_sort before e (jobs before)) = each_left job_sort Of before e (jobs before) (λ x among out its. had x (job_there i.job x among (grind (arith, nat_tests)))) in
        let all : All Of (standing_by job_sort before e (jobs before)) = All-append Of (left_by job_sort before e (jobs before)) (begun_by (job_told e)) left (made_by (job_told e) drawn) in
        All-contains Of (jobs (before ++ e ∷ [])) j (subst (All Of) (sym (jobs_more before e)) all) r.0 r.1
      where
        made_by : (told : Option Job) → ((made : Job) → told ≡ Some made → i.job < made.key) → All (λ (x : Job). (x.key == i.job) ≡ true → x.cell ≡ i.cell) (begun_by told)
        made_by None each = All-nil (λ (x : Job). (x.key == i.job) ≡ true → x.cell ≡ i.cell)
        made_by (Some made) each =
            let more = each made refl in
            All-cons (λ (x : Job). (x.key == i.job) ≡ true → x.cell ≡ i.cell) made [] (λ its. absurd (grind (arith, nat_tests, its, more))) (All-nil (λ (x : Job). (x.key == i.job) ≡ true → x.cell ≡ i.cell))

    -- where no job is made
    module _ (silent : job_told e ≡ None) where
      jobs_then : jobs (before ++ e ∷ []) ≡ left_by job_sort before e (jobs before)
      jobs_then = jobs_more before e ∙ (ap (λ (told : Option Job). left_by job_sort before e (jobs before) ++ begun_by told) silent ∙ append-nil (left_by job_sort before e (jobs before)))

      none_made : (i : Incident) (made : Job) → job_told e ≡ Some made → i.job < made.key
      none_made i made told = absurd (cc)

      sound_from : ((j : Job) → Contains (jobs before) j → ends_job j.key j.cell e ≡ false → HasNoIncident after (job_changed e j)) → All (HasJobOfCell (before ++ e ∷ [])) after.incidents → HasSoundJobs p (before ++ e ∷ []) after
      sound_from free causes = record {
        ascend = subst (JobsAscend 1) (sym jobs_then) (ascend_left job_sort (λ (j : Job). j.key) 1 before e (jobs before) (λ j. refl) s.ascend);
        below = subst (All (λ (j : Job). j.key < next_key p (before ++ e ∷ []))) (sym jobs_then) (each_left job_sort (λ (j : Job). j.key < next_key p (before ++ e ∷ [])) before e (jobs before) (λ j among out. below_one j among));
        apart = subst (AllPairs AreApartJobs) (sym jobs_then) (pairs_left job_sort AreApartJobs before e (jobs before) (λ j k apart. apart) s.apart);
        awaited = subst (All (IsAwaited after)) (sym jobs_then) (each_left job_sort (IsAwaited after) before e (jobs before) awaited_one);
        free = subst (All (HasNoIncident after)) (sym jobs_then) (each_left job_sort (HasNoIncident after) before e (jobs before) free);
        causes = causes;
      }

      causes_still : All (HasJobOfCell (before ++ e ∷ [])) b.incidents
      causes_still = All-weaker (HasJobOfCell before) (HasJobOfCell (before ++ e ∷ [])) (λ i had. cause_lasts i (none_made i) had) b.incidents s.causes

      -- and nothing is told of an incident
      sound_still : tells_of_incident e ≡ false → HasSoundJobs p (before ++ e ∷ []) after
      sound_still quiet = sound_from (λ j among out. free_kept quiet j among) (subst (All (HasJobOfCell (before ++ e ∷ []))) (sym (incidents_kept quiet)) causes_still)

  -- an incident begins to stand
  module _ (c : IncidentCreated) (after : Board) (h : Advances p before b (events.IncidentCreated c) after) where
    abbrev made_incident : Incident
    made_incident = record { key = c.key; kind = c.kind; cell = c.cell; job = c.job; text = c.text }

    board_then : record b { incidents = b.incidents ++ made_incident ∷ [] } ≡ after
    board_then = let led : Some (record b { incidents = b.incidents ++ made_incident ∷ [] }) ≡ Some after = h.leads in cc

    free_created : (j : Job) → Contains (jobs before) j → HasNoIncident after j
    free_created j among lasts =
        let elsewhere = stands_elsewhere c j among lasts (both_right (is_fresh p before c.key) _ h.own) h.fit in
        let none = All-contains (HasNoIncident b) (jobs before) j s.free among lasts in
        let behind : find (λ (i : Incident). i.cell == j.cell) (b.incidents ++ made_incident ∷ []) ≡ None = rw (find-append (λ (i : Incident). i.cell == j.cell) b.incidents (made_incident ∷ []), none, elsewhere) refl in
        subst (λ (x : Board). find (λ (i : Incident). i.cell == j.cell) x.incidents ≡ None) board_then behind

    caused_by : (t : Bool) (j : Job) → IsTrue (if t then not (c.job == 0) && option_map_or (λ (k : Job). is_failed k.phase && (k.cell == c.cell)) (job_at c.job before) false else c.job == 0) → job_at c.job before ≡ Some j → j.cell ≡ c.cell
    caused_by true j cause found =
        let holds = both_right (is_failed j.phase) (j.cell == c.cell) (at_job (λ (k : Job). is_failed k.phase && (k.cell == c.cell)) (job_at c.job before) j found (both_right (not (c.job == 0)) _ cause)) in
        grind (arith, nat_tests)
    caused_by false j cause found =
        let r = found_among (λ (x : Job). x.key == c.job) (jobs before) j found in
        let above = All-contains (λ (x : Job). 1 ≤ x.key) (jobs before) j (ascend_above 1 (jobs before) s.ascend) r.0 in
        let its = r.1 in
        absurd (grind (arith, nat_tests, above, its))

    cause_created : HasJobOfCell (before ++ events.IncidentCreated c ∷ []) made_incident
    cause_created j found =
        let was : job_at c.job before ≡ Some j = subst (λ (js : List Job). find (λ (x : Job). x.key == c.job) js ≡ Some j) (jobs_kept before (events.IncidentCreated c) refl) found in
        caused_by (tells_of_job c.kind) j (both_right (is_fresh p before c.key) _ h.own) was

    sound_created : HasSoundJobs p (before ++ events.IncidentCreated c ∷ []) after
    sound_created = sound_from (events.IncidentCreated c) after h refl (λ j among out. free_created j among)
        (subst (λ (x : Board). All (HasJobOfCell (before ++ events.IncidentCreated c ∷ [])) x.incidents) board_then
        (All-push (HasJobOfCell (before ++ events.IncidentCreated c ∷ [])) b.incidents made_incident (causes_still (events.IncidentCreated c) after h refl) cause_created))

  -- an incident is resolved
  module _ (r : IncidentResolved) (after : Board) (h : Advances p before b (events.IncidentResolved r) after) (apart : AllPairs StandApart b.incidents) where
    free_by : (ys : List Incident) (j : Job) (t : Bool) → removed (λ i. i.key == r.key) b.incidents ≡ Some ys → Contains (jobs before) j → (j.key == r.job) ≡ t
        → is_failed (if t then phases.Created else j.phase) ≡ false → find (λ (i : Incident). i.cell == j.cell) ys ≡ None
    free_by ys j true gone among same lasts =
        let cause = game_holds (is_cause_of r.job r.key) before b h.board h.own in
        let found = some_of (incident_at b r.key) (holds_some _ (incident_at b r.key) cause) in
        let i = found.0 in
        let its = at_incident (λ (x : Incident). x.job == r.job) (incident_at b r.key) i found.1 cause in
        let had = (found_holds (λ (x : Incident). x.key == r.key) (HasJobOfCell before) b.incidents i s.causes found.1).0 in
        let of_cell = had j (job_there i.job j among (grind (arith, nat_tests, its, same))) in
        let none = none_on_cell r.key i b.incidents ys apart found.1 gone in
        none_where (λ (x : Incident). x.cell == j.cell) ys (subst (λ (k : ℕ). All (λ (x : Incident). (x.cell == k) ≡ false) ys) (sym of_cell) none)
    free_by ys j false gone among other lasts =
        let none = All-contains (HasNoIncident b) (jobs before) j s.free among lasts in
        let out = none_found (λ (x : Incident). x.cell == j.cell) (λ (x : Incident). (x.cell == j.cell) ≡ false) (λ x it. it) b.incidents none in
        none_where (λ (x : Incident). x.cell == j.cell) ys (removed_all (λ (x : Incident). x.key == r.key) (λ (x : Incident). (x.cell == j.cell) ≡ false) b.incidents ys out gone)

    free_resolved : (j : Job) → Contains (jobs before) j → HasNoIncident after (job_changed (events.IncidentResolved r) j)
    free_resolved j among lasts =
        mapped_holds (λ (x : Board). find (λ (i : Incident). i.cell == j.cell) x.incidents ≡ None) (λ (xs : List Incident). record b { incidents = xs }) (removed (λ i. i.key == r.key) b.incidents) after
        (λ ys gone. free_by ys j (j.key == r.job) gone among refl lasts) h.leads

    sound_resolved : HasSoundJobs p (before ++ events.IncidentResolved r ∷ []) after
    sound_resolved = sound_from (events.IncidentResolved r) after h refl (λ j among out. free_resolved j among)
        (mapped_holds (λ (x : Board). All (HasJobOfCell (before ++ events.IncidentResolved r ∷ [])) x.incidents) (λ (xs : List Incident). record b { incidents = xs }) (removed (λ i. i.key == r.key) b.incidents) after
        (λ ys gone. removed_all (λ (x : Incident). x.key == r.key) (HasJobOfCell (before ++ events.IncidentResolved r ∷ [])) b.incidents ys (causes_still (events.IncidentResolved r) after h refl) gone) h.leads)

  -- a job is made
  module _ (made : JobCreated) (after : Board) (h : Advances p before b (events.JobCreated made) after) (drawn : All (IsDrawn p before) b.incidents) where
    same_board : b ≡ after
    same_board = let led : Some b ≡ Some after = h.leads in cc

    is_fresh_key : IsTrue (is_fresh p before made.key)
    is_fresh_key = both_left (is_fresh p before made.key) _ h.own

    its_key : made.key ≡ next_key p before
    its_key = (fresh_is p before made.key is_fresh_key).1

    may_begin : IsTrue (may_have_job made.cell b)
    may_begin = game_holds (may_have_job made.cell) before b h.board (both_left (holds_of_game (may_have_job made.cell) before) _ (both_right (is_fresh p before made.key) _ h.own))

    no_other : All (λ (j : Job). (j.cell == made.cell) ≡ false) (jobs before)
    no_other = none_found (λ (j : Job). j.cell == made.cell) (λ (j : Job). (j.cell == made.cell) ≡ false) (λ j it. it) (jobs before)
        (is_none_is (job_on made.cell before) (both_right (holds_of_game (may_have_job made.cell) before) _ (both_right (is_fresh p before made.key) _ h.own)))

    its_cell : (c : Cell) × (cell_at b made.cell ≡ Some c) × IsTrue (awaits_work b c && not (is_stuck b c))
    its_cell =
        let found = some_of (cell_at b made.cell) (holds_some _ (cell_at b made.cell) may_begin) in
        (found.0, found.1, at_cell (λ (c : Cell). awaits_work b c && not (is_stuck b c)) (cell_at b made.cell) found.0 found.1 may_begin)

    awaited_new : IsAwaited b (new_job made)
    awaited_new = let x = its_cell in rw x.1 (both_left (awaits_work b x.0) _ x.2)

    free_new : HasNoIncident b (new_job made)
    free_new lasts =
        let x = its_cell in
        let none = is_some_not (incident_on b x.0.key) (not-true (is_stuck b x.0) (both_right (awaits_work b x.0) _ x.2)) in
        let its : x.0.key ≡ made.cell = key_found b made.cell x.0 x.1 in
        subst (λ (k : ℕ). incident_on b k ≡ None) its none

    jobs_made : jobs (before ++ events.JobCreated made ∷ []) ≡ jobs before ++ new_job made ∷ []
    jobs_made = jobs_more before (events.JobCreated made) ∙ one_more job_sort before (events.JobCreated made) (jobs before) (new_job made) refl (λ j. refl) (λ j. refl)

    sound_made : HasSoundJobs p (before ++ events.JobCreated made ∷ []) after
    sound_made =
        let e = events.JobCreated made in
        let Below : Job → Type 0 = λ j. j.key < next_key p (before ++ e ∷ []) in
        let more = next_key_more p before e in
        let under : All (λ (j : Job). j.key < made.key) (jobs before) = subst (λ (k : ℕ). All (λ (j : Job). j.key < k) (jobs before)) (sym its_key) s.below in
        let still : All Below (jobs before) = All-weaker (λ (j : Job). j.key < next_key p before) Below (λ j less. omega (arith, less, more)) (jobs before) s.below in
        subst (HasSoundJobs p (before ++ e ∷ [])) same_board (record {
          ascend = subst (JobsAscend 1) (sym jobs_made) (ascend_push 1 (jobs before) (new_job made) s.ascend under (omega (arith, its_key)));
          below = subst (All Below) (sym jobs_made) (All-push Below (jobs before) (new_job made) still (fresh_below p before e made.key is_fresh_key (first_named p made.key (made.cell ∷ []))));
          apart = subst (AllPairs AreApartJobs) (sym jobs_made) (all_pairs_push AreApartJobs (jobs before) (new_job made) s.apart no_other);
          awaited = subst (All (IsAwaited b)) (sym jobs_made) (All-push (IsAwaited b) (jobs before) (new_job made) s.awaited awaited_new);
          free = subst (All (HasNoIncident b)) (sym jobs_made) (All-push (HasNoIncident b) (jobs before) (new_job made) s.free free_new);
          causes = λ k d within. cause_lasts e after h (get_or b.incidents k d) (λ other told. let same : made.key ≡ other.key = (let both : Some (new_job made) ≡ Some other = told in ap (λ (o : Option Job). option_map_or (λ (x : Job). x.key) o 0) both) in let less = drawn k d within in omega (arith, its_key, same, less)) (s.causes k d within);
        })

-- an event that applies keeps the jobs sound
pub jobs_on : (p : ℕ) (before : List Event) (b : Board) (e : Event) (after : Board) → Advances p before b e after → AllPairs StandApart b.incidents → All (IsDrawn p before) b.incidents → HasSoundJobs p before b → HasSoundJobs p (before ++ e ∷ []) after
jobs_on p before b (events.JobCreated made) after h apart drawn s = sound_made p before b s made after h drawn
jobs_on p before b (events.IncidentCreated c) after h apart drawn s = sound_created p before b s c after h
jobs_on p before b (events.IncidentResolved r) after h apart drawn s = sound_resolved p before b s r after h apart
jobs_on p before b e after h apart drawn s = sound_still p before b s e after h refl refl

-- they are sound where there are none
pub jobs_first : (p : ℕ) → HasSoundJobs p [] empty_board
jobs_first p = record {
  ascend = tt;
  below = All-nil (λ (j : Job). j.key < next_key p []);
  apart = λ i j d lt within. absurd (omega arith);
  awaited = All-nil (IsAwaited empty_board);
  free = All-nil (HasNoIncident empty_board);
  causes = All-nil (HasJobOfCell []);
}

-- the job that is the cause of an incident was made before, behind an event more
module _ (p : ℕ) (before : List Event) (b : Board) (e : Event) (after : Board) (h : Advances p before b e after) (s : HasSoundJobs p before b) where
  still_drawn : All (IsDrawn p before) b.incidents → All (IsDrawn p (before ++ e ∷ [])) b.incidents
  still_drawn drawn = All-weaker (IsDrawn p before) (IsDrawn p (before ++ e ∷ [])) (λ i less. omega (arith, less, next_key_more p before e)) b.incidents drawn

drawn_by : (p : ℕ) (before : List Event) (b : Board) (c : IncidentCreated) (t : Bool) → HasSoundJobs p before b → IsTrue (if t then not (c.job == 0) && option_map_or (λ (k : Job). is_failed k.phase && (k.cell == c.cell)) (job_at c.job before) false else c.job == 0)
    → c.job < next_key p before
drawn_by p before b c true s cause =
    let found = some_of (job_at c.job before) (holds_some _ (job_at c.job before) (both_right (not (c.job == 0)) _ cause)) in
    let r = found_among (λ (x : Job). x.key == c.job) (jobs before) found.0 found.1 in
    let its = r.1 in
    let less = All-contains (λ (x : Job). x.key < next_key p before) (jobs before) found.0 s.below r.0 in
    grind (arith, nat_tests, its, less)
drawn_by p before b c false s cause = let none : c.job ≡ 0 = grind (arith, nat_tests) in omega (arith, none)

-- the keys of the incidents' jobs stay drawn with an event more
pub drawn_on : (p : ℕ) (before : List Event) (b : Board) (e : Event) (after : Board) → Advances p before b e after → HasSoundJobs p before b → All (IsDrawn p before) b.incidents → All (IsDrawn p (before ++ e ∷ [])) after.incidents
drawn_on p before b (events.IncidentCreated c) after h s drawn =
    let e = events.IncidentCreated c in
    let less = drawn_by p before b c (tells_of_job c.kind) s (both_right (is_fresh p before c.key) _ h.own) in
    subst (λ (x : Board). All (IsDrawn p (before ++ e ∷ [])) x.incidents) (board_then p before b s c after h)
    (All-push (IsDrawn p (before ++ e ∷ [])) b.incidents (record { key = c.key; kind = c.kind; cell = c.cell; job = c.job; text = c.text }) (still_drawn p before b e after h s drawn) (omega (arith, less, next_key_more p before e)))
drawn_on p before b (events.IncidentResolved r) after h s drawn =
    let e = events.IncidentResolved r in
    mapped_holds (λ (x : Board). All (IsDrawn p (before ++ e ∷ [])) x.incidents) (λ (xs : List Incident). record b { incidents = xs }) (removed (λ i. i.key == r.key) b.incidents) after
    (λ ys gone. removed_all (λ (x : Incident). x.key == r.key) (IsDrawn p (before ++ e ∷ [])) b.incidents ys (still_drawn p before b e after h s drawn) gone) h.leads
drawn_on p before b e after h s drawn = subst (All (IsDrawn p (before ++ e ∷ []))) (sym (incidents_kept p before b s e after h refl)) (still_drawn p before b e after h s drawn)

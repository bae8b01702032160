-- The own events of a command by which a worker asks for jobs apply: each job that it is given is there and may be given out, as long as those before it
-- are, and a key is left for the batch.
use Rattle.std.proofs.Common.{◌≡◌, ℕ, zero, suc, ◌+◌, ◌<◌, ◌≤◌, ◌==◌, List, [], ◌∷◌, ◌++◌, map, filter, take, Bool, true, false, if◌then◌else◌, IsTrue, is_some, Option, Some, None, option_map, All, refl, sym, ap, ◌∙◌, subst, append-nil, append_assoc, arith}
use Rattle.std.specs.Option.{option_map_or}
use Rattle.std.specs.Str.{bytes_eq}
use Rattle.std.proofs.lemmas.Bool.Decides.{nat_tests}
use Rattle.std.proofs.lemmas.List.{take-map}
use Rattle.std.proofs.lemmas.List.Elements.{All-head, All-tail, All-weaker}
use Rattle.zb_exchange_records.specs.declared.job.JobActivated.{JobActivated}
use Rattle.zb_exchange_records.specs.declared.job.JobBatchActivate.{JobBatchActivate}
use Rattle.zb_model.specs.declared.record.Event.{Event}
use Rattle.zb_model.specs.declared.record.Event.TheVariants as events
use Rattle.zb_table.specs.Rows.{Ascend}
use Rattle.zb_views.specs.declared.job.Job.{Job}
use Rattle.zb_views.specs.Jobs.{jobs, job_at, is_activatable, is_offered, offered, job_changed}
use Rattle.zb_views.specs.View.{keys_in, greatest_among, greatest_counter, next_key}
use Rattle.zb_tokens.specs.declared.board.Cell.{Cell}
use Rattle.zb_tokens.specs.Board.{Board, cell_at}
use Rattle.zb_tokens.proofs.GameLaws.{both_left, holds_some}
use Rattle.zb_tokens.proofs.LeaveLaws.{same_bytes}
use Rattle.zb_tokens.specs.Marks.{awaits_work}
use Rattle.zb_tokens.specs.Names.{root_of}
use Rattle.zb_tokens.specs.Work.{is_work_in}
use Rattle.zb_rules.specs.Shown.{board_of}
use Rattle.zb_rules.specs.Applies.{holds_of_game, is_fresh, holds_own, applies, all_apply}
use Rattle.zb_rules.specs.JobEvents.{has_job, is_job_in, are_jobs, hands_out}
use Rattle.zb_rules.specs.Activate.{job_given, given_out, each_given_out, activated}
use Rattle.zb_rules.specs.Sound.{HasKeys}
use Rattle.zb_rules.proofs.AppliedLaws.{some_of, game_holds_from}
use Rattle.zb_rules.proofs.CellsLaws.{ascend_between}
use Rattle.zb_rules.proofs.HolderLaws.{HasRoot, root_there}
use Rattle.zb_rules.proofs.PlacedLaws.{scopes_of}
use Rattle.zb_rules.proofs.NamedLaws.{keys_left}
use Rattle.zb_rules.proofs.OpenedLaws.{cell_counted}
use Rattle.zb_rules.proofs.OwnLaws.{fresh_from, silent_applies, board_after}
use Rattle.zb_rules.proofs.SoundLaws.{BoardKeeps, keeps_on}
use Rattle.zb_rules.proofs.StepLaws.{all_apply_on}
use Rattle.zb_rules.proofs.FoundJobLaws.{IsFoundFrom, each_found, job_key, job_counted, job_awaited, job_at_more}

-- these jobs are there, and a worker may be given each; their keys ascend
abbrev pub AreWaiting : ℕ → List Event → List ℕ → Type 0
AreWaiting low es [] = Unit {0}
AreWaiting low es (key ∷ keys) = (low ≤ key) × IsTrue (is_job_in is_activatable key es) × AreWaiting (key + 1) es keys

waiting_lower : (low high : ℕ) (es : List Event) (keys : List ℕ) → low ≤ high → AreWaiting high es keys → AreWaiting low es keys
waiting_lower low high es [] less wait = tt
waiting_lower low high es (key ∷ keys) less wait = (omega (arith, less, wait.0), wait.1, wait.2)

waiting_taken : (low n : ℕ) (es : List Event) (keys : List ℕ) → AreWaiting low es keys → AreWaiting low es (take n keys)
waiting_taken low zero es keys wait = tt
waiting_taken low (suc n) es [] wait = tt
waiting_taken low (suc n) es (key ∷ keys) wait = (wait.0, wait.1, waiting_taken (key + 1) n es keys wait.2)

module _ (kind : List ℕ) (es : List Event) where
  waiting_by : (low : ℕ) (x : Job) (xs : List Job) (t : Bool) → low ≤ x.key → job_at x.key es ≡ Some x → is_offered kind x ≡ t → AreWaiting (x.key + 1) es (map (λ (j : Job). j.key) (filter (is_offered kind) xs))
      → AreWaiting low es (map (λ (j : Job). j.key) (if t then x ∷ filter (is_offered kind) xs else filter (is_offered kind) xs))
  waiting_by low x xs true above found offers later =
      let may = both_left (is_activatable x.phase) (bytes_eq x.kind kind) offers in
      (above, rw (found, may) refl, later)
  waiting_by low x xs false above found other later = waiting_lower low (x.key + 1) es _ (omega (arith, above)) later

  waiting_of : (low : ℕ) (xs : List Job) → Ascend (λ (j : Job). j.key) low xs → All (λ (j : Job). job_at j.key es ≡ Some j) xs → AreWaiting low es (map (λ (j : Job). j.key) (filter (is_offered kind) xs))
  waiting_of low [] up found = tt
  waiting_of low (x ∷ xs) up found =
      waiting_by low x xs (is_offered kind x) up.0 (All-head (λ (j : Job). job_at j.key es ≡ Some j) x xs found) refl (waiting_of (x.key + 1) xs up.1 (All-tail (λ (j : Job). job_at j.key es ≡ Some j) x xs found))

  -- the jobs that are offered wait
  pub offered_wait : (most : ℕ) → Ascend (λ (j : Job). j.key) 1 (jobs es) → AreWaiting 1 es (map (λ (j : Job). j.key) (offered kind most es))
  offered_wait most up =
      let all = All-weaker (IsFoundFrom 1 (jobs es)) (λ (j : Job). job_at j.key es ≡ Some j) (λ j found. found.1) (jobs es) (each_found 1 (jobs es) up) in
      subst (AreWaiting 1 es) (take-map (λ (j : Job). j.key) most (filter (is_offered kind) (jobs es))) (waiting_taken 1 most es _ (waiting_of 1 (jobs es) up all))

-- a job that is given out is there still, and leaves the others as they are
module _ (es : List Event) (e : JobActivated) where
  abbrev given : Event
  given = events.JobActivated e

  more_at : (key : ℕ) → job_at key (es ++ given ∷ []) ≡ option_map (job_changed given) (job_at key es)
  more_at key = job_at_more given (λ x. refl) es key refl

  is_mapped : (found : Option Job) → is_some (option_map (job_changed given) found) ≡ is_some found
  is_mapped None = refl
  is_mapped (Some j) = refl

  job_still : (key : ℕ) → has_job key (es ++ given ∷ []) ≡ has_job key es
  job_still key = ap is_some (more_at key) ∙ is_mapped (job_at key es)

  phase_still : (key : ℕ) (found : Option Job) → job_at key es ≡ found → (key == e.key) ≡ false → IsTrue (option_map_or (λ (j : Job). is_activatable j.phase) found false)
      → IsTrue (option_map_or (λ (j : Job). is_activatable j.phase) (option_map (job_changed given) found) false)
  phase_still key None at other may = absurd (cc)
  phase_still key (Some j) at other may =
      let its = job_key es key j at in
      let apart : (j.key == e.key) ≡ false = grind (arith, nat_tests) in
      rw apart may

  wait_still : (low : ℕ) (keys : List ℕ) → e.key < low → AreWaiting low es keys → AreWaiting low (es ++ given ∷ []) keys
  wait_still low [] less wait = tt
  wait_still low (key ∷ keys) less wait =
      let above = wait.0 in
      let other : (key == e.key) ≡ false = grind (arith, nat_tests) in
      let more : e.key < key + 1 = omega (arith, less, above) in
      let its : IsTrue (is_job_in is_activatable key (es ++ given ∷ [])) = rw (more_at key) (phase_still key (job_at key es) refl other wait.1) in
      (wait.0, its, wait_still (key + 1) keys more wait.2)

-- jobs that wait are given out, on a board that stays
pub record AreGiven (p : ℕ) (es : List Event) (b : Board) (made : List Event) : Type 0 where
  pub is : board_of (es ++ made) ≡ Some b
  pub applied : IsTrue (all_apply p es made)
  pub keys : HasKeys p (es ++ made) 1
  pub jobs : (key : ℕ) → has_job key (es ++ made) ≡ has_job key es

-- and one is
record IsGiven (p : ℕ) (es : List Event) (key : ℕ) (made : List Event) : Type 0 where
  event : JobActivated
  is : made ≡ events.JobActivated event ∷ []
  its : event.key ≡ key
  own : IsTrue (holds_own p es (events.JobActivated event))
  counted : greatest_among p (keys_in (events.JobActivated event)) ≤ greatest_counter p es

module _ (p moment : ℕ) (c : JobBatchActivate) where
  given_by : (es : List Event) (b : Board) (key : ℕ) (j : Job) (cell : Cell) → board_of es ≡ Some b → BoardKeeps p es b → HasKeys p es 1 → job_at key es ≡ Some j → IsTrue (is_activatable j.phase) → cell_at b j.cell ≡ Some cell
      → HasRoot b (root_of b j.cell) → IsGiven p es key (given_out moment c key es)
  given_by es b key j cell is k keys found may at root =
      let e = job_given moment c b j in
      let its = job_key es key j found in
      let found_its : job_at j.key es ≡ Some j = subst (λ (q : ℕ). job_at q es ≡ Some j) (sym its) found in
      let instance : e.instance ≡ root.key = ap (λ (o : Option ℕ). option_map_or (λ (r : ℕ). r) o 0) root.is in
      let top = root.is in
      let same : (root.key == e.instance) ≡ true = grind (arith, nat_tests) in
      let node : bytes_eq cell.node e.node ≡ true = rw at (same_bytes cell.node) in
      let stands : IsTrue (is_work_in j.cell e.instance e.node b) = in_work b j.cell e.instance e.node cell root.key at top node same in
      let work : IsTrue (holds_of_game (is_work_in j.cell e.instance e.node) es) = game_holds_from (is_work_in j.cell e.instance e.node) es b is stands in
      let first = job_counted p es b k.jobs j.key j found_its keys in
      let second = cell_counted p root.key es b k keys root.there in
      let second_its : greatest_among p (e.instance ∷ []) ≤ greatest_counter p es = subst (λ (q : ℕ). greatest_among p (q ∷ []) ≤ greatest_counter p es) (sym instance) second in
      record {
        event = e;
        is = rw (found, is) refl;
        its = its;
        own = handed e es j found_its may work;
        counted = both_counted j.key e.instance (greatest_counter p es) first second_its;
      }
    where
      in_work : (b : Board) (cell instance : ℕ) (node : List ℕ) (x : Cell) (root : ℕ) → cell_at b cell ≡ Some x → root_of b cell ≡ Some root → bytes_eq x.node node ≡ true → (root == instance) ≡ true → IsTrue (is_work_in cell instance node b)
      in_work b cell instance node x root at top node_same root_same = rw (at, top, node_same, root_same) refl

      handed : (e : JobActivated) (es : List Event) (j : Job) → job_at e.key es ≡ Some j → IsTrue (is_activatable j.phase) → IsTrue (holds_of_game (is_work_in j.cell e.instance e.node) es) → IsTrue (hands_out e es)
      handed e es j found may work = rw (found, may, work) refl

      both_counted : (a z bound : ℕ) → greatest_among p (a ∷ []) ≤ bound → greatest_among p (z ∷ []) ≤ bound → greatest_among p (a ∷ z ∷ []) ≤ bound
      both_counted a z bound first second = omega (arith, first, second)

  one_given : (es : List Event) (b : Board) (key : ℕ) → board_of es ≡ Some b → BoardKeeps p es b → HasKeys p es 1 → IsTrue (is_job_in is_activatable key es) → IsGiven p es key (given_out moment c key es)
  one_given es b key is k keys waits =
      let job = some_of (job_at key es) (holds_some _ (job_at key es) waits) in
      let may : IsTrue (is_activatable job.0.phase) = subst (λ (o : Option Job). IsTrue (option_map_or (λ (j : Job). is_activatable j.phase) o false)) job.1 waits in
      let cell = some_of (cell_at b job.0.cell) (holds_some (awaits_work b) (cell_at b job.0.cell) (job_awaited p es b k.jobs key job.0 job.1)) in
      given_by es b key job.0 cell.0 is k keys job.1 may cell.1 (root_there b (ascend_between 1 (next_key p es) b.cells k.stands.between) (scopes_of b k.placed) job.0.cell cell.0 cell.1)

  given_more : (es rest : List Event) (b : Board) (e : Event) → IsTrue (applies p es e) → ((key : ℕ) → has_job key (es ++ e ∷ []) ≡ has_job key es) → AreGiven p (es ++ e ∷ []) b rest → AreGiven p es b (e ∷ rest)
  given_more es rest b e first still more =
      let line = append_assoc es (e ∷ []) rest in
      record {
        is = subst (λ (l : List Event). board_of l ≡ Some b) line more.is;
        applied = rw first more.applied;
        keys = subst (λ (l : List Event). HasKeys p l 1) line more.keys;
        jobs = λ key. subst (λ (l : List Event). has_job key l ≡ has_job key es) line (more.jobs key ∙ still key);
      }

  each_given : (low : ℕ) (jobs : List ℕ) (es : List Event) (b : Board) → board_of es ≡ Some b → BoardKeeps p es b → HasKeys p es 1 → AreWaiting low es jobs → AreGiven p es b (each_given_out moment c jobs es)
  each_given low [] es b is k keys wait = record { is = rw (append-nil es) is; applied = refl; keys = rw (append-nil es) keys; jobs = λ key. ap (has_job key) (append-nil es) }
  each_given low (key ∷ jobs) es b is k keys wait =
      let one = one_given es b key is k keys wait.1 in
      let e = events.JobActivated one.event in
      let first : IsTrue (applies p es e) = silent_applies p es b e is one.own refl in
      let keeps : BoardKeeps p (es ++ e ∷ []) b = keeps_on p es b e b (record { board = is; own = one.own; fit = refl; leads = refl }) k in
      let less : one.event.key < key + 1 = omega (arith, one.its) in
      let rest = each_given (key + 1) jobs (es ++ e ∷ []) b (board_after es b b e is refl) keeps (keys_left p 1 es e keys one.counted) (wait_still es one.event (key + 1) jobs less wait.2) in
      subst (λ (made : List Event). AreGiven p es b (made ++ each_given_out moment c jobs (es ++ made))) (sym one.is) (given_more es _ b e first (job_still es one.event) rest)

  jobs_there : (low : ℕ) (keys : List ℕ) (es more : List Event) → AreWaiting low es keys → ((key : ℕ) → has_job key more ≡ has_job key es) → IsTrue (are_jobs keys more)
  jobs_there low [] es more wait still = refl
  jobs_there low (key ∷ keys) es more wait still =
      let there : IsTrue (has_job key more) = still key ∙ holds_some _ (job_at key es) wait.1 in
      rw there (jobs_there (key + 1) keys es more wait.2 still)

  -- the own events apply
  pub activate_applies : (es : List Event) (b : Board) → board_of es ≡ Some b → BoardKeeps p es b → HasKeys p es 1 → IsTrue (all_apply p es (activated p moment c es))
  activate_applies es b is k keys =
      let jobs = map (λ (j : Job). j.key) (offered c.kind c.most es) in
      let wait = offered_wait c.kind es c.most k.jobs.ascend in
      let made = each_given_out moment c jobs es in
      let g = each_given 1 jobs es b is k keys wait in
      let e = events.JobBatchActivated (record { key = next_key p (es ++ made); jobs = jobs }) in
      let fresh : IsTrue (is_fresh p (es ++ made) (next_key p (es ++ made))) = fresh_from p (es ++ made) g.keys in
      let there : IsTrue (are_jobs jobs (es ++ made)) = jobs_there 1 jobs es (es ++ made) wait g.jobs in
      let last : IsTrue (applies p (es ++ made) e) = silent_applies p (es ++ made) b e g.is (rw (fresh, there) refl) refl in
      let applied = g.applied in
      rw (all_apply_on p es made (e ∷ []), applied, last) refl

-- The runs of bodies in a log whose events apply: so many began in each as it has taken items, one after the other, each for its own.
use Rattle.std.proofs.Common.{◌≡◌, ℕ, ℤ, zero, suc, ◌+◌, ◌-◌, ◌<◌, ◌≤◌, ◌==◌, length, List, [], ◌∷◌, ◌++◌, Bool, true, false, cond, ◌&&◌, ◌||◌, not, if◌then◌else◌, IsTrue, IsFalse, is_some, Option, Some, None, option_map, option_and_then, All, refl, sym, ap, ◌∙◌, subst, arith}
use Rattle.std.specs.Prelude.{slice_get, nat_lt, pos}
use Rattle.std.specs.Option.{option_map_or, IfSome}
use Rattle.std.specs.List.{find}
use Rattle.std.proofs.lemmas.Bool.{and_parts, and_right, or_parts, or_right, not-true}
use Rattle.std.proofs.lemmas.Bool.Decides.{nat_tests}
use Rattle.std.proofs.lemmas.List.Elements.{All-nil, All-cons, All-head, All-tail, All-push, All-weaker}
use Rattle.std.proofs.lemmas.List.Folds.{find-append}
use Rattle.std.proofs.lemmas.List.Sums.{sum_by_push}
use Rattle.std.proofs.lemmas.Option.{slice_get_within, slice_get_past, slice_get-get_or}
use Rattle.zb_base.specs.declared.vars.Variable.{Variable}
use Rattle.zb_process.specs.declared.model.Model.{Model}
use Rattle.zb_process.specs.declared.model.Multi.{Multi}
use Rattle.zb_instance_records.specs.declared.instance.ElementActivating.{ElementActivating}
use Rattle.zb_instance_records.specs.declared.instance.Role.{Role}
use Rattle.zb_instance_records.specs.declared.instance.Role.TheVariants as roles
use Rattle.zb_model.specs.declared.record.Event.{Event}
use Rattle.zb_model.specs.declared.record.Event.TheVariants as events
use Rattle.zb_views.specs.View.{next_key}
use Rattle.zb_views.specs.Jobs.{job_at}
use Rattle.zb_tokens.specs.declared.board.Cell.{Cell}
use Rattle.zb_tokens.specs.declared.board.Deployed.{Deployed}
use Rattle.zb_tokens.specs.declared.board.Inner.{Inner}
use Rattle.zb_tokens.specs.declared.board.Move.{Move}
use Rattle.zb_tokens.specs.declared.board.Move.TheVariants as moves
use Rattle.zb_tokens.specs.declared.board.Phase.{Phase}
use Rattle.zb_tokens.specs.declared.board.Phase.TheVariants as phases
use Rattle.zb_tokens.specs.Edits.{edited, is_none_of}
use Rattle.zb_tokens.specs.Board.{Board, CellsAscend, cell_at, model_under, has_child, is_body, is_inner, is_phase, is_role, is_root}
use Rattle.zb_tokens.specs.Bodies.{multi_at, has_item, last_item, next_item, is_sequential, may_run, run_variables_of, run_variables_at}
use Rattle.zb_tokens.specs.Handlers.{has_handler}
use Rattle.zb_tokens.specs.Game.{empty_board, fits, played}
use Rattle.zb_tokens.specs.MoveFinish.{acts, acts_in, is_done}
use Rattle.zb_tokens.specs.MoveInner.{runs_next, run_in, one_taken}
use Rattle.zb_tokens.specs.MoveOpen.{opens}
use Rattle.zb_tokens.proofs.GameLaws.{both_left, both_right, holds_some, found_holds}
use Rattle.zb_rules.specs.Shown.{shown, move_of_cell, after_shown, board_of, event_of}
use Rattle.zb_rules.specs.Applies.{is_fresh, holds_own, begins_instance, begins_cell, suits_scope, may_fit, applies, all_apply}
use Rattle.zb_rules.specs.Behind.{run_set_on, events_behind}
use Rattle.zb_rules.specs.Sound.{HasKeys}
use Rattle.zb_rules.specs.Runs.{begins_run, times_run, set_for, IsRunFor}
use Rattle.zb_rules.specs.Update.{set_each}
use Rattle.zb_rules.proofs.AppliedLaws.{Advances, some_of, game_holds, applied_from, applied_board, holds_on, holds_of_all}
use Rattle.zb_rules.proofs.CatchLaws.{found_here}
use Rattle.zb_rules.proofs.CellsLaws.{Between, ascend_between, between_edited, key_made}
use Rattle.zb_rules.proofs.CreateLaws.{none_between}
use Rattle.zb_rules.proofs.GrowthLaws.{job_shows, started, run_by, run_shown}
use Rattle.zb_rules.proofs.KeyedLaws.{OfKey, first_of_key, found_of_key, shown_keeps, IsPast, found_past, past_on, new_above, shown_moves, last_advances}
use Rattle.zb_rules.proofs.KeysLaws.{HasOrderedCells, fresh_is, board_stands, stands_on, stands_first}
use Rattle.zb_rules.proofs.MadeLaws.{is_keyed, HoldsMade, made_holds}
use Rattle.zb_rules.proofs.ModelsLaws.{model_among, models_shown, among_more}
use Rattle.zb_rules.proofs.NamedLaws.{found_below}
use Rattle.zb_rules.proofs.OwesLaws.{HasModel}
use Rattle.zb_rules.proofs.PlacedLaws.{key_found}
use Rattle.zb_rules.proofs.PlayedLaws.{CellKept, cells_played}
use Rattle.zb_rules.proofs.ProgressLaws.{run_event, run_holds}
use Rattle.zb_rules.proofs.ScopesLaws.{at_cell, edited_found}
use Rattle.zb_rules.proofs.SoundLaws.{board_is_there, cells_ascend, board_keeps}
use Rattle.zb_rules.proofs.StepLaws.{all_apply_on}
use Rattle.zb_rules.proofs.UpdateLaws.{each_set}

-- one where a test is passed
abbrev one_if : Bool → ℕ
one_if t = cond t 1 0

-- one event more
times_more : (key : ℕ) (es : List Event) (e : Event) → times_run key (es ++ e ∷ []) ≡ times_run key es + one_if (begins_run key e)
times_more key es e = sum_by_push (λ (x : Event). one_if (begins_run key x)) es e

-- a run that begins has a fresh key, and its body is there
record IsBegun (p : ℕ) (before : List Event) (b : Board) (e : Event) (key : ℕ) : Type 0 where
  run : ElementActivating
  is : e ≡ events.ElementActivating run
  inner : IsTrue (is_role run.role roles.Inner)
  fresh : run.key ≡ next_key p before
  in_body : run.scope ≡ key
  body : Cell
  there : cell_at b run.scope ≡ Some body
  shows : shown before e ≡ Some (moves.Inner (run_by run))

-- a run is no plain cell
not_plain : (role : Role) → IsTrue (is_role role roles.Inner) → IsTrue (is_role role roles.Plain) → ⊥
not_plain roles.Inner inner plain = cc
not_plain role inner plain = cc

begun_by : (p : ℕ) (before : List Event) (b : Board) (e : Event) (key : ℕ) → board_of before ≡ Some b → IsTrue (holds_own p before e) → IsTrue (begins_run key e) → IsBegun p before b e key
begun_by p before b (events.ElementActivating a) key is own begins = by_scope (a.scope == 0) refl own
  where
    parts : IsTrue (a.scope == key) × IsTrue (is_role a.role roles.Inner)
    parts = and_parts (a.scope == key) (is_role a.role roles.Inner) begins

    by_scope : (t : Bool) → (a.scope == 0) ≡ t → IsTrue (if t then is_role a.role roles.Plain && begins_instance before a else begins_cell p before a) → IsBegun p before b (events.ElementActivating a) key
    by_scope true at own = absurd (not_plain a.role parts.1 (both_left (is_role a.role roles.Plain) _ own))
    by_scope false at own =
        let suits = game_holds (suits_scope a) before b is (both_right (is_fresh p before a.key) _ (both_left _ _ own)) in
        let found = some_of (cell_at b a.scope) (holds_some _ (cell_at b a.scope) suits) in
        record {
          run = a;
          is = refl;
          inner = parts.1;
          fresh = (fresh_is p before a.key (both_left (is_fresh p before a.key) _ (both_left _ _ own))).1;
          in_body = (let same = parts.0 in grind (arith, nat_tests, same));
          body = found.0;
          there = found.1;
          shows = rw (at, run_shown a a.role parts.1) refl;
        }
begun_by p before b e key is own begins = absurd (cc)

-- a move begins a run
abbrev is_run_move : Move → Bool
is_run_move (moves.Inner i) = true
is_run_move move = false

-- a cell has taken so many items as this tells of its key
abbrev IsTaken : (ℕ → ℕ) → Cell → Type 0
IsTaken times c = times c.key ≡ c.taken

-- another move keeps that
taken_kept : (b : Board) (times : ℕ → ℕ) (move : Move) → IfSome (key_made move) (λ key. times key ≡ 0) → is_run_move move ≡ false → CellKept b (IsTaken times) move
taken_kept b times (moves.Stand d) new other = tt
taken_kept b times (moves.Start s) new other = λ node there. new
taken_kept b times (moves.Enter e) new other = λ c m found under. new
taken_kept b times (moves.Inner i) new other = absurd (cc)
taken_kept b times (moves.Undo u) new other = λ c found. (new, λ x there is. is)
taken_kept b times (moves.Open o) new other = λ c found is. is
taken_kept b times (moves.Finish key) new other = λ c found is. is
taken_kept b times (moves.Leave l) new other = (λ flow owed same c found is. is, λ c is. is, λ c found can scope same is. is)
taken_kept b times (moves.Take t) new other = λ flow owed c found is. is
taken_kept b times (moves.Halt key) new other = λ c found is. is
taken_kept b times (moves.Gone key) new other = tt
taken_kept b times (moves.Assign a) new other = λ c found is. is
taken_kept b times (moves.Update a) new other = λ c found is. is
taken_kept b times (moves.Done key) new other = λ c found is. is
taken_kept b times (moves.Throw t) new other = λ c found is. is
taken_kept b times (moves.Trigger t) new other = λ c found mark at is. is
taken_kept b times (moves.Incident i) new other = tt
taken_kept b times (moves.Repair key) new other = tt

-- of cells that ascend one is edited
module _ (key : ℕ) (edit : Cell → Cell) (P : Cell → Type 0) where
  -- what holds of the one behind that edit, and of each other
  abbrev EditedOr : Cell → Type 0
  EditedOr c = ((c.key == key) ≡ true → P (edit c)) × ((c.key == key) ≡ false → P c)

  -- holds of each
  edited_each : (low : ℕ) (cells after : List Cell) → CellsAscend low cells → All EditedOr cells → edited (is_keyed key) edit cells ≡ Some after → All P after
  edited_each low [] after up all made = absurd (cc)
  edited_each low (x ∷ xs) after up all made = by_test (x.key == key) refl (edited (is_keyed key) edit xs) (λ rest is. edited_each (x.key + 1) xs rest up.1 (All-tail EditedOr x xs all) is) made
    where
      by_test : (t : Bool) → (x.key == key) ≡ t → (later : Option (List Cell)) → ((rest : List Cell) → later ≡ Some rest → All P rest) → (if t then Some (edit x ∷ xs) else option_map (λ ys. x ∷ ys) later) ≡ Some after → All P after
      by_test true same later behind made =
          let rest = All-tail EditedOr x xs all in
          let above = found_here (x.key + 1) xs up.1 in
          subst (All P) (let is : edit x ∷ xs ≡ after = cc in is)
          (All-cons P (edit x) xs ((All-head EditedOr x xs all).0 same) (λ k d within. (rest k d within).1 (let less = (above k d within).0 in grind (arith, nat_tests, same, less))))
      by_test false other None behind made = absurd (cc)
      by_test false other (Some rest) behind made = subst (All P) (let is : x ∷ rest ≡ after = cc in is) (All-cons P x rest ((All-head EditedOr x xs all).1 other) (behind rest refl))

-- a cell has taken no more items than it keeps, and none before it is active
abbrev IsBounded : Cell → Type 0
IsBounded c = (c.taken ≤ length c.items) × (IsTrue (is_phase c.phase phases.Activating) → c.taken ≡ 0)

-- a body that may begin a run has an item, is active, and is at an activity with several instances
item_left : (m : Model) (b : Board) (c : Cell) → IsTrue (may_run m b c) → c.taken < length c.items
item_left m b c may =
    let found = some_of (next_item c) (both_left (has_item c) _ may) in
    slice_get_within c.items c.taken found.0 found.1

runs_may : (b : Board) (c : Cell) → IsTrue (runs_next b c) → IsTrue (is_phase c.phase phases.Active) × (m : Model) × (model_under b c.definition ≡ Some m) × IsTrue (may_run m b c)
runs_may b c next =
    let inner = both_right (is_body c) _ next in
    let may = both_right (is_phase c.phase phases.Active) _ inner in
    let found = some_of (model_under b c.definition) (holds_some (λ m. may_run m b c) (model_under b c.definition) may) in
    (both_left (is_phase c.phase phases.Active) _ inner, found.0, found.1, rw found.1 at may)

-- a cell that begins isn't active
not_both : (phase : Phase) → IsTrue (is_phase phase phases.Activating) → IsTrue (is_phase phase phases.Active) → ⊥
not_both phases.Activating begins active = cc
not_both phase begins active = cc

bounded_kept : (b : Board) (move : Move) → IsTrue (fits b move) → CellKept b IsBounded move
bounded_kept b (moves.Stand d) fit = tt
bounded_kept b (moves.Start s) fit = λ node there. (omega arith, λ begins. refl)
bounded_kept b (moves.Enter e) fit = λ c m found under. (omega arith, λ begins. refl)
bounded_kept b (moves.Inner i) fit = (
  λ c found. (omega arith, λ begins. refl),
  λ c found is.
      let its = runs_may b c (at_cell (runs_next b) (cell_at b i.body) c found fit) in
      let left = item_left its.1 b c its.3 in
      (omega (arith, left), λ begins. absurd (not_both c.phase begins its.0)),
)
bounded_kept b (moves.Undo u) fit = λ c found. ((omega arith, λ begins. refl), λ x there is. is)
bounded_kept b (moves.Open o) fit = λ c found is.
    let begins = both_left (is_phase c.phase phases.Activating) _ (at_cell (λ (x : Cell). is_phase x.phase phases.Activating && (opens b x && (is_body x || is_none_of o.items))) (cell_at b o.key) c found fit) in
    let none = is.1 begins in
    (omega (arith, none), λ again. absurd (cc))
bounded_kept b (moves.Finish key) fit = λ c found is. (is.0, λ begins. absurd (cc))
bounded_kept b (moves.Leave l) fit = (λ flow owed same c found is. (is.0, λ begins. absurd (cc)), λ c is. is, λ c found can scope same is. is)
bounded_kept b (moves.Take t) fit = λ flow owed c found is. (is.0, λ begins. absurd (cc))
bounded_kept b (moves.Halt key) fit = λ c found is. (is.0, λ begins. absurd (cc))
bounded_kept b (moves.Gone key) fit = tt
bounded_kept b (moves.Assign a) fit = λ c found is. is
bounded_kept b (moves.Update a) fit = λ c found is. is
bounded_kept b (moves.Done key) fit = λ c found is. is
bounded_kept b (moves.Throw t) fit = λ c found is. is
bounded_kept b (moves.Trigger t) fit = λ c found mark at is. is
bounded_kept b (moves.Incident i) fit = tt
bounded_kept b (moves.Repair key) fit = tt

bounded_on : (b after : Board) (move : Option Move) → IsTrue (may_fit move b) → after_shown b move ≡ Some after → All IsBounded b.cells → All IsBounded after.cells
bounded_on b after None fit made all = subst (λ (x : Board). All IsBounded x.cells) (let same : b ≡ after = cc in same) all
bounded_on b after (Some move) fit made all = cells_played b IsBounded all after move (bounded_kept b move fit) made

-- the model of a body is there, and has several instances at its node
abbrev SeveralAt : Board → ℕ → List ℕ → Type 0
SeveralAt b definition node = IsTrue (option_map_or (λ m. is_some (multi_at m node)) (model_under b definition) false)

abbrev HasSeveral : Board → Cell → Type 0
HasSeveral b c = IsTrue (is_body c) → SeveralAt b c.definition c.node

several_kept : (b after : Board) (move : Move) → ((definition : ℕ) (node : List ℕ) → SeveralAt b definition node → SeveralAt after definition node) → CellKept b (HasSeveral after) move
several_kept b after (moves.Stand d) still = tt
several_kept b after (moves.Start s) still = λ node there body. absurd (cc)
several_kept b after (moves.Enter e) still = λ c m found under body. still c.definition e.node (rw under (is_several (is_some (multi_at m e.node)) body))
  where
    is_several : (t : Bool) → IsTrue (is_role (if t then roles.Body else roles.Plain) roles.Body) → IsTrue t
    is_several true body = refl
    is_several false body = absurd (cc)
several_kept b after (moves.Inner i) still = (λ c found body. absurd (cc), λ c found has. has)
several_kept b after (moves.Undo u) still = λ c found. (λ body. absurd (cc), λ x there has. has)
several_kept b after (moves.Open o) still = λ c found has. has
several_kept b after (moves.Finish key) still = λ c found has. has
several_kept b after (moves.Leave l) still = (λ flow owed is c found has. has, λ c has. has, λ c found can scope same has. has)
several_kept b after (moves.Take t) still = λ flow owed c found has. has
several_kept b after (moves.Halt key) still = λ c found has. has
several_kept b after (moves.Gone key) still = tt
several_kept b after (moves.Assign a) still = λ c found has. has
several_kept b after (moves.Update a) still = λ c found has. has
several_kept b after (moves.Done key) still = λ c found has. has
several_kept b after (moves.Throw t) still = λ c found has. has
several_kept b after (moves.Trigger t) still = λ c found mark at has. has
several_kept b after (moves.Incident i) still = tt
several_kept b after (moves.Repair key) still = tt

several_on : (b after : Board) (move : Option Move) → after_shown b move ≡ Some after → All (HasSeveral b) b.cells → All (HasSeveral after) after.cells
several_on b after None made all = subst (λ (x : Board). All (HasSeveral x) x.cells) (let same : b ≡ after = cc in same) all
several_on b after (Some move) made all =
    let still : (definition : ℕ) (node : List ℕ) → SeveralAt b definition node → SeveralAt after definition node = λ definition node is.
    subst (λ (ms : List Deployed). IsTrue (option_map_or (λ m. is_some (multi_at m node)) (model_among ms definition) false)) (sym (models_shown b after (Some move) made))
    (among_more (λ o. option_map_or (λ m. is_some (multi_at m node)) o false) definition b.models _ refl is) in
    let weaker : All (HasSeveral after) b.cells = All-weaker (HasSeveral b) (HasSeveral after) (λ c has body. still c.definition c.node (has body)) b.cells all in
    cells_played b (HasSeveral after) weaker after move (several_kept b after move still) made

-- what each event keeps of the runs of a log
record HasRuns (p : ℕ) (es : List Event) (b : Board) : Type 0 where
  stands : HasOrderedCells p es b
  past : (key : ℕ) → 1 ≤ times_run key es → IsPast p es key
  taken : All (IsTaken (λ key. times_run key es)) b.cells
  bounded : All IsBounded b.cells
  several : All (HasSeveral b) b.cells

module _ (p : ℕ) (before : List Event) (b : Board) (e : Event) (after : Board) (h : Advances p before b e after) (s : HasRuns p before b) where
  abbrev later : ℕ → ℕ
  later key = times_run key (before ++ e ∷ [])

  -- a body in which a run began has a key that was drawn
  past_runs : (key : ℕ) → 1 ≤ later key → IsPast p (before ++ e ∷ []) key
  past_runs key some = by_test (begins_run key e) refl
    where
      by_test : (t : Bool) → begins_run key e ≡ t → IsPast p (before ++ e ∷ []) key
      by_test true begins =
          let r = begun_by p before b e key h.board h.own begins in
          let less = found_below 1 (next_key p before) r.run.scope b.cells r.body s.stands.between r.there in
          past_on p before b e after h key (omega (arith, less, r.in_body))
      by_test false other =
          let more = times_more key before e in
          let none : one_if (begins_run key e) ≡ 0 = rw other refl in
          past_on p before b e after h key (s.past key (omega (arith, some, more, none))).below

  -- in a cell that begins none did
  new_none : IfSome (option_and_then key_made (shown before e)) (λ new. times_run new before ≡ 0)
  new_none = by_made (option_and_then key_made (shown before e)) (new_above p before b e after h)
    where
      by_made : (made : Option ℕ) → ((key : ℕ) → IsPast p before key → IfSome made (λ new. key < new)) → IfSome made (λ new. times_run new before ≡ 0)
      by_made None above = tt
      by_made (Some new) above = by_count (times_run new before) refl
        where
          by_count : (n : ℕ) → times_run new before ≡ n → times_run new before ≡ 0
          by_count zero is = is
          by_count (suc n) is = absurd (let less = above new (s.past new (omega (arith, is))) in let out : ⊥ = omega (arith, less) in out)

  -- where none begins
  none_taken : (move : Option Move) → ((key : ℕ) → later key ≡ times_run key before) → option_map_or is_run_move move false ≡ false → IfSome (option_and_then key_made move) (λ new. times_run new before ≡ 0) → after_shown b move ≡ Some after → All (IsTaken later) after.cells
  none_taken None same other new made = subst (λ (x : Board). All (IsTaken later) x.cells) (let one : b ≡ after = cc in one) (All-weaker (IsTaken (λ key. times_run key before)) (IsTaken later) (λ c is. same c.key ∙ is) b.cells s.taken)
  none_taken (Some move) same other new made =
      let all = All-weaker (IsTaken (λ key. times_run key before)) (IsTaken later) (λ c is. same c.key ∙ is) b.cells s.taken in
      cells_played b (IsTaken later) all after move (taken_kept b later move (by_made (key_made move) new) other) made
    where
      by_made : (made : Option ℕ) → IfSome made (λ new. times_run new before ≡ 0) → IfSome made (λ new. later new ≡ 0)
      by_made None none = tt
      by_made (Some new) none = same new ∙ none

  -- where one does, its body takes an item
  run_taken : (key : ℕ) → IsBegun p before b e key → All (IsTaken later) after.cells
  run_taken key r = made_holds b (λ (x : Board). All (IsTaken later) x.cells) after (moves.Inner i) (λ c found cells made.
      All-push (IsTaken later) cells (run_in i c) (edited_each i.body one_taken (IsTaken later) 1 b.cells cells up each made) none) led
    where
      i : Inner
      i = run_by r.run

      led : played b (moves.Inner i) ≡ Some after
      led = let leads = h.leads in rw (r.shows) at leads

      up : CellsAscend 1 b.cells
      up = ascend_between 1 (next_key p before) b.cells s.stands.between

      with_true : (t : Bool) → (t && true) ≡ t
      with_true true = refl
      with_true false = refl

      begins_is : (other : ℕ) → begins_run other e ≡ (r.run.scope == other)
      begins_is other = ap (begins_run other) r.is ∙ (ap (λ (t : Bool). (r.run.scope == other) && t) r.inner ∙ with_true (r.run.scope == other))

      more : (other : ℕ) → later other ≡ times_run other before + one_if (r.run.scope == other)
      more other = times_more other before e ∙ ap (λ (t : Bool). times_run other before + one_if t) (begins_is other)

      each : All (EditedOr i.body one_taken (IsTaken later)) b.cells
      each = All-weaker (IsTaken (λ key. times_run key before)) (EditedOr i.body one_taken (IsTaken later)) (λ c is. (
        λ same.
            let m = more c.key in
            let t : (r.run.scope == c.key) ≡ true = grind (arith, nat_tests, same) in
            let one : one_if (r.run.scope == c.key) ≡ 1 = rw t refl in
            omega (arith, m, is, one),
        λ apart.
            let m = more c.key in
            let t : (r.run.scope == c.key) ≡ false = grind (arith, nat_tests, apart) in
            let one : one_if (r.run.scope == c.key) ≡ 0 = rw t refl in
            omega (arith, m, is, one),
      )) b.cells s.taken

      none : later r.run.key ≡ 0
      none =
          let before_none : times_run r.run.key before ≡ 0 = (let its = new_none in rw (r.shows) at its) in
          let less = found_below 1 (next_key p before) r.run.scope b.cells r.body s.stands.between r.there in
          let m = more r.run.key in
          let fresh = r.fresh in
          let t : (r.run.scope == r.run.key) ≡ false = grind (arith, nat_tests, less, fresh) in
          let one : one_if (r.run.scope == r.run.key) ≡ 0 = rw t refl in
          omega (arith, m, before_none, one)

-- an event by which none begins
no_more : (e : Event) (before : List Event) (key : ℕ) → begins_run key e ≡ false → times_run key (before ++ e ∷ []) ≡ times_run key before
no_more e before key other =
    let none : one_if (begins_run key e) ≡ 0 = rw other refl in
    omega (arith, times_more key before e, none)

taken_on : (p : ℕ) (before : List Event) (b : Board) (e : Event) (after : Board) → Advances p before b e after → HasRuns p before b → All (IsTaken (λ key. times_run key (before ++ e ∷ []))) after.cells
taken_on p before b (events.ElementActivating a) after h s = by_inner (is_role a.role roles.Inner) refl
  where
    other_role : (role : Role) → is_role role roles.Inner ≡ false → is_run_move (move_of_cell a role) ≡ false
    other_role roles.Inner plain = absurd (cc)
    other_role role plain = refl

    other_move : (t : Bool) → is_role a.role roles.Inner ≡ false → option_map_or is_run_move (if t then Some (moves.Start (started a)) else Some (move_of_cell a a.role)) false ≡ false
    other_move true plain = refl
    other_move false plain = other_role a.role plain

    by_inner : (inner : Bool) → is_role a.role roles.Inner ≡ inner → All (IsTaken (λ key. times_run key (before ++ events.ElementActivating a ∷ []))) after.cells
    by_inner true run =
        let same : (a.scope == a.scope) ≡ true = grind (arith, nat_tests) in
        run_taken p before b (events.ElementActivating a) after h s a.scope (begun_by p before b (events.ElementActivating a) a.scope h.board h.own (rw (same, run) refl))
    by_inner false plain =
        none_taken p before b (events.ElementActivating a) after h s (shown before (events.ElementActivating a)) (λ key. no_more (events.ElementActivating a) before key (and_right (a.scope == key) (is_role a.role roles.Inner) plain))
        (other_move (a.scope == 0) plain) (new_none p before b (events.ElementActivating a) after h s) h.leads
taken_on p before b (events.JobCompleted job) after h s = none_taken p before b (events.JobCompleted job) after h s (shown before (events.JobCompleted job)) (λ key. no_more (events.JobCompleted job) before key refl)
    (job_shows (λ (m : Option Move). option_map_or is_run_move m false ≡ false) (λ j. moves.Done j.cell) (job_at job before) refl (λ j. refl)) (new_none p before b (events.JobCompleted job) after h s) h.leads
taken_on p before b (events.JobErrorThrown t) after h s = none_taken p before b (events.JobErrorThrown t) after h s (shown before (events.JobErrorThrown t)) (λ key. no_more (events.JobErrorThrown t) before key refl)
    (job_shows (λ (m : Option Move). option_map_or is_run_move m false ≡ false) (λ j. moves.Throw (record { cell = j.cell; code = t.code })) (job_at t.key before) refl (λ j. refl)) (new_none p before b (events.JobErrorThrown t) after h s) h.leads
taken_on p before b e after h s = none_taken p before b e after h s (shown before e) (λ key. no_more e before key refl) refl (new_none p before b e after h s) h.leads

runs_on : (p : ℕ) (before : List Event) (b : Board) (e : Event) (after : Board) → Advances p before b e after → HasRuns p before b → HasRuns p (before ++ e ∷ []) after
runs_on p before b e after h s = record {
  stands = stands_on p before b e after h s.stands;
  past = past_runs p before b e after h s;
  taken = taken_on p before b e after h s;
  bounded = bounded_on b after (shown before e) h.fit h.leads s.bounded;
  several = several_on b after (shown before e) h.leads s.several;
}

runs_first : (p : ℕ) → HasRuns p [] empty_board
runs_first p = record {
  stands = stands_first p;
  past = λ key some. absurd (let out : ⊥ = omega (arith, some) in out);
  taken = All-nil (IsTaken (λ key. times_run key []));
  bounded = All-nil IsBounded;
  several = All-nil (HasSeveral empty_board);
}

-- the runs of a log whose events apply
have_runs : (p : ℕ) (es : List Event) (b : Board) → IsTrue (all_apply p [] es) → board_of es ≡ Some b → HasRuns p es b
have_runs p es b apply is = holds_of_all p (HasRuns p) (runs_on p) es b (runs_first p) apply is

-- so many began in a body as it has taken items
pub runs_are_taken : (p : ℕ) (es : List Event) (b : Board) (body : ℕ) (c : Cell) → IsTrue (all_apply p [] es) → board_of es ≡ Some b → cell_at b body ≡ Some c → (times_run body es ≡ c.taken) × (c.taken ≤ length c.items)
runs_are_taken p es b body c apply is found =
    let s = have_runs p es b apply is in
    let its = (found_holds (is_keyed body) (IsTaken (λ key. times_run key es)) b.cells c s.taken found).0 in (
      subst (λ (key : ℕ). times_run key es ≡ c.taken) (key_found b body c found) its,
      (found_holds (is_keyed body) IsBounded b.cells c s.bounded found).0.0,
    )

-- what is set in a run
sets_by : (b : Board) (key count : ℕ) (c body : Cell) (m : Model) (multi : Multi) (item : ℤ) → cell_at b key ≡ Some c → is_inner c ≡ true → cell_at b c.scope ≡ Some body → model_under b body.definition ≡ Some m
    → multi_at m body.node ≡ Some multi → last_item body ≡ Some item → body.taken ≡ count + 1 → run_variables_at b key ≡ set_for multi count item
sets_by b key count c body m multi item at inner there under several last taken = rw (at, inner, there, under, several, last, taken) refl

-- the run of a body that begins after so many others is for the item in that place
run_for : (p : ℕ) (es : List Event) (b : Board) (run : ElementActivating) → HasRuns p es b → run.key ≡ next_key p es → IsTrue (fits b (moves.Inner (run_by run)))
    → HoldsMade b (λ (x : Board). IsRunFor x run (times_run run.scope es)) (moves.Inner (run_by run))
run_for p es b run s fresh fit c found cells made =
    let cell = run_in (run_by run) c in
    let after = record b { cells = cells ++ cell ∷ [] } in
    let next = at_cell (runs_next b) (cell_at b run.scope) c found fit in
    let its = runs_may b c next in
    let several : SeveralAt b c.definition c.node = (found_holds (is_keyed run.scope) (HasSeveral b) b.cells c s.several found).0 (both_left (is_body c) _ next) in
    let under = its.2 in
    let multi = some_of (multi_at its.1 c.node) (subst (λ (o : Option Model). IsTrue (option_map_or (λ m. is_some (multi_at m c.node)) o false)) under several) in
    let item = some_of (next_item c) (both_left (has_item c) _ its.3) in
    let taken = (found_holds (is_keyed run.scope) (IsTaken (λ key. times_run key es)) b.cells c s.taken found).0 in
    let count : times_run run.scope es ≡ c.taken = subst (λ (key : ℕ). times_run key es ≡ c.taken) (key_found b run.scope c found) taken in
    let body_there : find (is_keyed run.scope) cells ≡ Some (one_taken c) = edited_found run.scope one_taken c b.cells cells (λ x. refl) found made in
    let body_now : cell_at after run.scope ≡ Some (one_taken c) = rw (find-append (is_keyed run.scope) cells (cell ∷ []), body_there) refl in
    let between : Between 1 run.key cells = subst (λ (key : ℕ). Between 1 key cells) (sym fresh) (between_edited (is_keyed run.scope) one_taken (λ x. refl) 1 (next_key p es) b.cells cells s.stands.between made) in
    let same : (run.key == run.key) ≡ true = grind (arith, nat_tests) in
    let run_now : cell_at after run.key ≡ Some cell = rw (find-append (is_keyed run.key) cells (cell ∷ []), none_between 1 run.key cells between, same) refl in
    let back : c.taken + 1 - 1 ≡ c.taken = omega arith in
    let last : last_item (one_taken c) ≡ Some item.0 = subst (λ (k : ℕ). slice_get c.items k ≡ Some item.0) (sym back) item.1 in
    record {
      body = one_taken c;
      model = its.1;
      multi = multi.0;
      item = item.0;
      there = body_now;
      stands = under;
      several = multi.1;
      is_item = subst (λ (k : ℕ). slice_get c.items k ≡ Some item.0) (sym count) item.1;
      sets = sets_by after run.key (times_run run.scope es) cell (one_taken c) its.1 multi.0 item.0 run_now refl body_now under multi.1 last (ap (λ (k : ℕ). k + 1) (sym count));
    }

run_made : (p : ℕ) (es : List Event) (b : Board) (run : ElementActivating) (after : Board) → IsTrue (all_apply p [] es) → board_of es ≡ Some b → Advances p es b (events.ElementActivating run) after → IsBegun p es b (events.ElementActivating run) run.scope
    → IsRunFor after run (times_run run.scope es)
run_made p es b run after apply is h begun =
    let one : begun.run ≡ run = (let its : events.ElementActivating run ≡ events.ElementActivating begun.run = begun.is in cc) in
    let moved = shown_moves p es b (events.ElementActivating run) after (moves.Inner (run_by begun.run)) h begun.shows in
    let s = have_runs p es b apply is in
    let its : IsRunFor after begun.run (times_run begun.run.scope es) =
    made_holds b (λ (x : Board). IsRunFor x begun.run (times_run begun.run.scope es)) after (moves.Inner (run_by begun.run)) (run_for p es b begun.run s begun.fresh moved.0) moved.1 in
    subst (λ (x : ElementActivating). IsRunFor after x (times_run x.scope es)) one its

-- behind its event
pub run_has_item : (p : ℕ) (es : List Event) (run : ElementActivating) (after : Board) → IsTrue (all_apply p [] (es ++ events.ElementActivating run ∷ [])) → IsTrue (is_role run.role roles.Inner) → board_of (es ++ events.ElementActivating run ∷ []) ≡ Some after
    → IsRunFor after run (times_run run.scope es)
run_has_item p es run after apply inner is =
    let r = last_advances p es (events.ElementActivating run) after apply is in
    let same : (run.scope == run.scope) ≡ true = grind (arith, nat_tests) in
    run_made p es r.0 run after r.1 r.2 r.3 (begun_by p es r.0 (events.ElementActivating run) run.scope r.2 r.3.own (rw (same, inner) refl))

-- a cell that is found where two variables are
there_by : (b : Board) (key : ℕ) (found : Option Cell) (v : Variable) (vs : List Variable) → option_map_or (run_variables_of b) found [] ≡ v ∷ vs → IsTrue (is_some found)
there_by b key None v vs is = absurd (cc)
there_by b key (Some c) v vs is = refl

-- which one it is and its item are set behind it, and nothing else is
pub run_sets_two : (p moment : ℕ) (es : List Event) (run : ElementActivating) → IsTrue (all_apply p [] (es ++ events.ElementActivating run ∷ [])) → IsTrue (is_role run.role roles.Inner)
    → length (events_behind p moment es (events.ElementActivating run) (es ++ events.ElementActivating run ∷ [])) ≡ 2
run_sets_two p moment es run apply inner =
    let whole = es ++ events.ElementActivating run ∷ [] in
    let found = some_of (board_of whole) (board_is_there p whole apply) in
    let b = found.0 in
    let its = run_has_item p es run b apply inner found.1 in
    let vs = set_for its.multi (times_run run.scope es) its.item in
    let there = there_by b run.key (cell_at b run.key) _ _ its.sets in
    let set = each_set p true run.key (λ x. Unit {0}) (λ x after a made h. tt) vs whole b found.1 (board_keeps p whole b apply found.1) tt there in
    let same : run_set_on run.key whole ≡ set_each true run.key vs whole =
    ap (λ (o : Option Board). set_each true run.key (option_map_or (λ x. run_variables_at x run.key) o []) whole) found.1 ∙ ap (λ (l : List Variable). set_each true run.key l whole) its.sets in
    ap length same ∙ set.counted

-- where a body begins to complete, it has run for each item, and none of its runs is there
pub bodies_run_for_all : (p : ℕ) (es : List Event) (b : Board) (body : ℕ) (c : Cell) → IsTrue (all_apply p [] es) → board_of es ≡ Some b → cell_at b body ≡ Some c → IsTrue (is_body c) → IsTrue (applies p es (events.ElementCompleting body))
    → (times_run body es ≡ length c.items) × IsFalse (has_child b body)
bodies_run_for_all p es b body c apply is found holds first =
    let r = applied_board p es b (events.ElementCompleting body) is first in
    let h = at_cell (λ (x : Cell). is_phase x.phase phases.Active && is_done b x) (cell_at b body) c found r.1.fit in
    let done : IsTrue (is_done b c) = both_right (is_phase c.phase phases.Active) _ h in
    let left = or_parts (is_body c && has_item c) (has_handler b c) (not-true ((is_body c && has_item c) || has_handler b c) (both_right (acts b c) _ done)) in
    let over : IsTrue (not (is_body c && has_item c)) = ap not left.0 in
    let acting : IsTrue (acts b c) = both_left (acts b c) _ done in
    let model = some_of (model_under b c.definition) (holds_some (λ m. acts_in m b c) (model_under b c.definition) acting) in
    let under = model.1 in
    let does : IsTrue (acts_in model.0 b c) = subst (λ (o : Option Model). IsTrue (option_map_or (λ m. acts_in m b c) o false)) under acting in
    let ran = runs_are_taken p es b body c apply is found in
    let all = none_left (is_body c) (has_item c) (is_sequential model.0 c) _ holds refl over does in
    let none : length c.items ≤ c.taken = past_end c all.0 in
    (omega (arith, ran.0, ran.1, none), subst (λ (key : ℕ). has_child b key ≡ false) (key_found b body c found) all.1)
  where
    none_left : (holds item sequential rest : Bool) → IsTrue holds → has_item c ≡ item → IsTrue (not (holds && item)) → IsTrue (if holds then not (has_child b c.key) || (item && not sequential) else rest) → (has_item c ≡ false) × (has_child b c.key ≡ false)
    none_left false item sequential rest is at over does = absurd (cc)
    none_left true true sequential rest is at over does = absurd (cc)
    none_left true false sequential rest is at over does = (at, by_child (has_child b c.key) does)
      where
        by_child : (child : Bool) → IsTrue (not child || false) → child ≡ false
        by_child true is = absurd (cc)
        by_child false is = refl

    past_end : (x : Cell) → has_item x ≡ false → length x.items ≤ x.taken
    past_end x none = by_less (nat_lt x.taken (length x.items)) refl
      where
        by_less : (t : Bool) → nat_lt x.taken (length x.items) ≡ t → length x.items ≤ x.taken
        by_less true less = absurd (let within : x.taken < length x.items = grind (arith, nat_tests, less) in let there = ap is_some (slice_get-get_or x.items x.taken (pos 0) within) in cc)
        by_less false other = grind (arith, nat_tests, other)

-- an active body that has run for each item, and in which no run is, begins to complete
pub bodies_complete_then : (p : ℕ) (es : List Event) (b : Board) (body : ℕ) (c : Cell) → IsTrue (all_apply p [] es) → board_of es ≡ Some b → cell_at b body ≡ Some c → IsTrue (is_body c) → c.phase ≡ phases.Active
    → times_run body es ≡ length c.items → IsFalse (has_child b body) → IsTrue (applies p es (events.ElementCompleting body))
bodies_complete_then p es b body c apply is found holds active ran empty =
    let taken = (runs_are_taken p es b body c apply is found).0 in
    let none : has_item c ≡ false = ap is_some (slice_get_past c.items c.taken (omega (arith, taken, ran))) in
    let alone : has_child b c.key ≡ false = subst (λ (key : ℕ). has_child b key ≡ false) (sym (key_found b body c found)) empty in
    let model = some_of (model_under b c.definition) (found_holds (is_keyed body) (HasModel b) b.cells c (board_keeps p es b apply is).models found).0 in
    let undoes_none : (is_root c || is_body c) ≡ true = or_right (is_root c) (is_body c) holds in
    let fit : IsTrue (fits b (moves.Finish body)) = rw (found, active, undoes_none, holds, none, model.1, alone) refl in
    applied_from p es b (events.ElementCompleting body) (moves.Finish body) is refl refl fit

-- one of which an item is left begins a run under the next key, where its runs come at once, or none is there
pub bodies_run_next : (p : ℕ) (es : List Event) (b : Board) (body : ℕ) (c : Cell) (m : Model) → IsTrue (all_apply p [] es) → HasKeys p es 1 → board_of es ≡ Some b → cell_at b body ≡ Some c → IsTrue (is_body c) → c.phase ≡ phases.Active
    → model_under b c.definition ≡ Some m → times_run body es < length c.items → IsTrue (not (is_sequential m c) || not (has_child b body))
    → IsTrue (option_map_or (applies p es) (event_of b (moves.Inner (record { key = next_key p es; body = body }))) false)
bodies_run_next p es b body c m apply keys is found holds active under left free =
    let i : Inner = record { key = next_key p es; body = body } in
    let taken = (runs_are_taken p es b body c apply is found).0 in
    let item : has_item c ≡ true = ap is_some (slice_get-get_or c.items c.taken (pos 0) (omega (arith, taken, left))) in
    let may : IsTrue (not (is_sequential m c) || not (has_child b c.key)) = subst (λ (key : ℕ). IsTrue (not (is_sequential m c) || not (has_child b key))) (sym (key_found b body c found)) free in
    let fit : IsTrue (fits b (moves.Inner i)) = rw (found, holds, active, under, item, may) refl in
    let run = run_holds p es b i c is found (cells_ascend p es b apply is) keys refl in
    subst (λ (o : Option Cell). IsTrue (option_map_or (applies p es) (option_map (run_event i) o) false)) (sym found) (applied_from p es b (run_event i c) (moves.Inner i) is run.0 run.1 fit)

-- what is kept of the items of a body that has become active
module _ (p key : ℕ) (items : List ℤ) where
  abbrev HasItems : Cell → Type 0
  HasItems c = (c.items ≡ items) × (is_phase c.phase phases.Activating ≡ false)

  abbrev Keeps : Cell → Type 0
  Keeps = OfKey key HasItems

  begins_none : (new : ℕ) → key < new → new ≡ key → ⊥
  begins_none new above same = omega (arith, above, same)

  items_kept : (b : Board) (move : Move) → IsTrue (fits b move) → IfSome (key_made move) (λ new. key < new) → CellKept b Keeps move
  items_kept b (moves.Stand d) fit new = tt
  items_kept b (moves.Start s) fit new = λ node there same. absurd (begins_none s.key new same)
  items_kept b (moves.Enter e) fit new = λ c m found under same. absurd (begins_none e.key new same)
  items_kept b (moves.Inner i) fit new = (λ c found same. absurd (begins_none i.key new same), λ c found is. is)
  items_kept b (moves.Undo u) fit new = λ c found. (λ same. absurd (begins_none u.key new same), λ x there is. is)
  items_kept b (moves.Open o) fit new = λ c found is same.
      let begins = both_left (is_phase c.phase phases.Activating) _ (at_cell (λ (x : Cell). is_phase x.phase phases.Activating && (opens b x && (is_body x || is_none_of o.items))) (cell_at b o.key) c found fit) in
      absurd (let none = (is same).1 in cc)
  items_kept b (moves.Finish cell) fit new = λ c found is same. ((is same).0, refl)
  items_kept b (moves.Leave l) fit new = (λ flow owed its c found is same. ((is same).0, refl), λ c is. is, λ c found can scope its is. is)
  items_kept b (moves.Take t) fit new = λ flow owed c found is same. ((is same).0, refl)
  items_kept b (moves.Halt cell) fit new = λ c found is same. ((is same).0, refl)
  items_kept b (moves.Gone cell) fit new = tt
  items_kept b (moves.Assign a) fit new = λ c found is. is
  items_kept b (moves.Update a) fit new = λ c found is. is
  items_kept b (moves.Done cell) fit new = λ c found is. is
  items_kept b (moves.Throw t) fit new = λ c found is. is
  items_kept b (moves.Trigger t) fit new = λ c found mark at is. is
  items_kept b (moves.Incident i) fit new = tt
  items_kept b (moves.Repair cell) fit new = tt

  -- each event that applies keeps them
  record KeepsItems (es : List Event) (b : Board) : Type 0 where
    past : IsPast p es key
    cells : All Keeps b.cells

  shown_kept : (b : Board) (move : Option Move) → IsTrue (may_fit move b) → IfSome (option_and_then key_made move) (λ new. key < new) → IfSome move (CellKept b Keeps)
  shown_kept b None fit new = tt
  shown_kept b (Some move) fit new = items_kept b move fit new

  keeps_items : (before : List Event) (b : Board) (e : Event) (after : Board) → Advances p before b e after → KeepsItems before b → KeepsItems (before ++ e ∷ []) after
  keeps_items before b e after h s = record {
    past = past_on p before b e after h key s.past.below;
    cells = shown_keeps Keeps b after (shown before e) (shown_kept b (shown before e) h.fit (new_above p before b e after h key s.past)) h.leads s.cells;
  }

-- a body that has become active keeps its items as long as it is there
pub bodies_keep_items : (p : ℕ) (es more : List Event) (b after : Board) (body : ℕ) (c later : Cell) → IsTrue (all_apply p [] (es ++ more)) → board_of es ≡ Some b → board_of (es ++ more) ≡ Some after → cell_at b body ≡ Some c
    → IsFalse (is_phase c.phase phases.Activating) → cell_at after body ≡ Some later → later.items ≡ c.items
bodies_keep_items p es more b after body c later apply is led found opened found_later =
    let both : IsTrue (all_apply p [] es && all_apply p es more) = sym (all_apply_on p [] es more) ∙ apply in
    let before = both_left (all_apply p [] es) _ both in
    let s = board_stands p es b before is in
    let past = found_past p es b body c s found in
    let first = first_of_key body (HasItems p body c.items) b c (ascend_between 1 (next_key p es) b.cells s.between) found (refl, opened) in
    let r = holds_on p (KeepsItems p body c.items) (keeps_items p body c.items) es more b is (record { past = past; cells = first }) (both_right (all_apply p [] es) _ both) in
    (found_of_key body (HasItems p body c.items) after later (same_board r.0 after r.1 led r.2.cells) found_later).0
  where
    same_board : (x after : Board) → board_of (es ++ more) ≡ Some x → board_of (es ++ more) ≡ Some after → All (Keeps p body c.items) x.cells → All (Keeps p body c.items) after.cells
    same_board x after one other all =
        let both : Some x ≡ Some after = sym one ∙ other in
        subst (λ (y : Board). All (Keeps p body c.items) y.cells) (let same : x ≡ after = cc in same) all

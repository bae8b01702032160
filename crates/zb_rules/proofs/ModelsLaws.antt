-- Laws of the models of a board: the definitions of a log and no others stand on it, under keys that were named.
use Rattle.std.proofs.Common.{◌≡◌, ℕ, ◌≤◌, ◌==◌, List, [], ◌∷◌, ◌++◌, Bool, true, false, if◌then◌else◌, IsTrue, is_some, not, Option, Some, None, option_map, map, ◌||◌, All, refl, sym, ap, ◌∙◌, subst, arith, append-nil}
use Rattle.std.specs.Option.{option_map_or, option_or}
use Rattle.std.specs.List.{find, list_any}
use Rattle.std.specs.Str.{bytes_eq}
use Rattle.std.proofs.lemmas.Bool.Decides.{nat_tests}
use Rattle.std.proofs.lemmas.List.Elements.{All-nil, All-cons, All-append, All-weaker}
use Rattle.std.proofs.lemmas.List.{map-append}
use Rattle.std.proofs.lemmas.List.Folds.{find-append}
use Rattle.zb_process.specs.declared.model.Model.{Model}
use Rattle.zb_model.specs.declared.record.Event.{Event}
use Rattle.zb_model.specs.declared.record.Event.TheVariants as events
use Rattle.zb_views.specs.declared.definition.Definition.{Definition}
use Rattle.zb_views.specs.declared.job.Job.{Job}
use Rattle.zb_views.specs.Jobs.{jobs}
use Rattle.zb_views.specs.View.{counter_at, greatest_counter}
use Rattle.zb_views.proofs.ViewLaws.{greatest_counter_more, definitions_more}
use Rattle.zb_views.specs.Definitions.{definition_told, definitions}
use Rattle.zb_tokens.specs.declared.board.Deployed.{Deployed}
use Rattle.zb_tokens.specs.declared.board.Move.{Move}
use Rattle.zb_tokens.specs.declared.board.Move.TheVariants as moves
use Rattle.zb_tokens.specs.Board.{Board, model_under}
use Rattle.zb_tokens.specs.MoveLeave.{leaving}
use Rattle.zb_tokens.specs.MoveTake.{rest_of}
use Rattle.zb_tokens.specs.Game.{empty_board}
use Rattle.zb_tokens.proofs.LeaveLaws.{same_bytes}
use Rattle.zb_rules.specs.Shown.{shown_by, after_shown, board_of, definition_of_model, definitions_on, models_told}
use Rattle.zb_faults.specs.Faults.{is_well_formed}
use Rattle.zb_tokens.proofs.GameLaws.{found_holds}
use Rattle.zb_tokens.proofs.EffectLaws.{mapped_from}
use Rattle.zb_rules.specs.Applies.{all_apply, has_definition, holds_own, is_process_of}
use Rattle.zb_rules.proofs.MadeLaws.{HoldsMade, left_holds, behind_holds, made_holds}
use Rattle.zb_rules.proofs.AppliedLaws.{Advances, holds_of_all}
use Rattle.zb_rules.proofs.GrowthLaws.{begin_shows}
use Rattle.zb_rules.proofs.KeysLaws.{first_named}

-- the model that a move puts on the board
abbrev pub models_made : Move → List Deployed
models_made (moves.Stand d) = d ∷ []
models_made _ = []

-- the models after a move
module _ (b : Board) where
  none_more : b.models ≡ b.models ++ []
  none_more = sym (append-nil b.models)

  left_models : (owed : List (List ℕ)) (key : ℕ) (left : Board) → leaving owed key b ≡ Some left → left.models ≡ b.models
  left_models owed key left made = left_holds b (λ x. x.models ≡ b.models) left owed key (λ cells found. refl) (λ flow more same cells found. refl) made

  by_move : (move : Move) → HoldsMade b (λ x. x.models ≡ b.models ++ models_made move) move
  by_move (moves.Stand d) = refl
  by_move (moves.Start s) = λ m found. none_more
  by_move (moves.Enter e) = λ c m found under stand. none_more
  by_move (moves.Inner i) = λ c found cells made. none_more
  by_move (moves.Undo u) = λ c found cells made. none_more
  by_move (moves.Open o) = λ c m found stands cells made. none_more
  by_move (moves.Finish key) = λ cells made. none_more
  by_move (moves.Leave l) = λ c found left made.
      let kept = left_models l.owed l.key left made in
      behind_holds (λ (x : Board). x.models ≡ b.models) b c left kept kept (λ can. kept) ∙ none_more
  by_move (moves.Take t) = λ c found left made. left_models (rest_of c.owed) t.key left made ∙ none_more
  by_move (moves.Halt key) = λ cells made. none_more
  by_move (moves.Gone key) = λ cells made. none_more
  by_move (moves.Assign a) = λ cells made. none_more
  by_move (moves.Update a) = λ cells made. none_more
  by_move (moves.Done key) = λ cells made. none_more
  by_move (moves.Throw t) = λ cells made. none_more
  by_move (moves.Trigger t) = λ c found. (λ mark at cells made. none_more, λ at. none_more)
  by_move (moves.Incident i) = none_more
  by_move (moves.Repair key) = λ incidents gone. none_more

  -- the models after the move that an event shows
  pub models_shown : (after : Board) (move : Option Move) → after_shown b move ≡ Some after → after.models ≡ b.models ++ option_map_or models_made move []
  models_shown after None made = ap (λ (x : Board). x.models) (sym (let same : b ≡ after = cc in same)) ∙ none_more
  models_shown after (Some move) made = made_holds b (λ x. x.models ≡ b.models ++ models_made move) after move (by_move move) made

found_none : {A : Type 0} (move : A → Move) (found : Option A) → ((x : A) → models_made (move x) ≡ []) → option_map_or models_made (option_map move found) [] ≡ []
found_none move None none = refl
found_none move (Some x) none = none x

told_made : (js : List Job) (e : Event) → option_map_or models_made (shown_by js e) [] ≡ models_told e
told_made js (events.ElementActivating a) = begin_shows (λ (m : Option Move). option_map_or models_made m [] ≡ []) a (a.scope == 0) refl refl refl refl
told_made js (events.JobCompleted key) = found_none (λ (j : Job). moves.Done j.cell) (find (λ (j : Job). j.key == key) js) (λ j. refl)
told_made js (events.JobErrorThrown t) = found_none (λ (j : Job). moves.Throw (record { cell = j.cell; code = t.code })) (find (λ (j : Job). j.key == t.key) js) (λ j. refl)
told_made js e = refl

-- the models behind an event, whatever jobs are there
pub models_by : (js : List Job) (b : Board) (e : Event) (after : Board) → after_shown b (shown_by js e) ≡ Some after → after.models ≡ b.models ++ models_told e
models_by js b e after leads = models_shown b after (shown_by js e) leads ∙ ap (λ (ms : List Deployed). b.models ++ ms) (told_made js e)

-- the models behind an event that applies
pub models_more : (p : ℕ) (before : List Event) (b : Board) (e : Event) (after : Board) → Advances p before b e after → after.models ≡ b.models ++ models_told e
models_more p before b e after h = models_by (jobs before) b e after h.leads

-- the model under a key among some
abbrev pub model_among : List Deployed → ℕ → Option Model
model_among models key = option_map (λ (d : Deployed). d.model) (find (λ (d : Deployed). d.key == key) models)

more_by : (holds : Option Model → Bool) (found other : Option Deployed) → holds None ≡ false → IsTrue (holds (option_map (λ (d : Deployed). d.model) found)) → IsTrue (holds (option_map (λ (d : Deployed). d.model) (option_or found other)))
more_by holds None other none is = absurd (cc)
more_by holds (Some d) other none is = is

-- what holds of the model that is there holds of it where there are more
pub among_more : (holds : Option Model → Bool) (key : ℕ) (models more : List Deployed) → holds None ≡ false → IsTrue (holds (model_among models key)) → IsTrue (holds (model_among (models ++ more) key))
among_more holds key models more none is =
    rw (find-append (λ (d : Deployed). d.key == key) models more) (more_by holds (find (λ (d : Deployed). d.key == key) models) (find (λ (d : Deployed). d.key == key) more) none is)

-- among some models the one under a key has this process id
abbrev is_process_among : ℕ → List ℕ → List Deployed → Bool
is_process_among key id models = option_map_or (λ (m : Model). bytes_eq m.process id) (model_among models key) false

among_new : (d : Deployed) (models : List Deployed) → find (λ (x : Deployed). x.key == d.key) models ≡ None → IsTrue (is_process_among d.key d.model.process (models ++ d ∷ []))
among_new d models none =
    let same : (d.key == d.key) ≡ true = grind (arith, nat_tests) in
    rw (find-append (λ (x : Deployed). x.key == d.key) models (d ∷ []), none, same) (same_bytes d.model.process)

none_under : (found : Option Deployed) → IsTrue (not (is_some (option_map (λ (d : Deployed). d.model) found))) → found ≡ None
none_under None is = refl
none_under (Some d) is = absurd (cc)

-- the keys of the models were named, and each definition has the model of its process
pub record Knows (p : ℕ) (es : List Event) (b : Board) : Type 0 where
  pub counted : All (λ (d : Deployed). counter_at p d.key ≤ greatest_counter p es) b.models
  pub defined : All (λ (d : Definition). IsTrue (is_process_of d.key d.process b)) (definitions es)

told_counted : (p : ℕ) (before : List Event) (e : Event) → All (λ (d : Deployed). counter_at p d.key ≤ greatest_counter p (before ++ e ∷ [])) (models_told e)
told_counted p before (events.ProcessCreated e) =
    let named = first_named p e.key [] in
    All-cons (λ (d : Deployed). counter_at p d.key ≤ greatest_counter p (before ++ events.ProcessCreated e ∷ [])) (record { key = e.key; version = e.version; model = e.model }) []
    (omega (arith, named, greatest_counter_more p before (events.ProcessCreated e ∷ []))) (All-nil _)
told_counted p before e = All-nil (λ (d : Deployed). counter_at p d.key ≤ greatest_counter p (before ++ e ∷ []))

told_defined : (p : ℕ) (before : List Event) (b : Board) (e : Event) (after : Board) → Advances p before b e after → All (λ (d : Definition). IsTrue (is_process_among d.key d.process (b.models ++ models_told e))) (definition_told e)
told_defined p before b (events.ProcessCreated e) after h =
    All-cons (λ (d : Definition). IsTrue (is_process_among d.key d.process (b.models ++ record { key = e.key; version = e.version; model = e.model } ∷ []))) (record { key = e.key; version = e.version; process = e.model.process }) []
    (among_new (record { key = e.key; version = e.version; model = e.model }) b.models (none_under (find (λ (x : Deployed). x.key == e.key) b.models) h.fit)) (All-nil _)
told_defined p before b e after h = All-nil (λ (d : Definition). IsTrue (is_process_among d.key d.process (b.models ++ models_told e)))

knows_on : (p : ℕ) (before : List Event) (b : Board) (e : Event) (after : Board) → Advances p before b e after → Knows p before b → Knows p (before ++ e ∷ []) after
knows_on p before b e after h k =
    let models = models_more p before b e after h in
    let Counted : Deployed → Type 0 = λ d. counter_at p d.key ≤ greatest_counter p (before ++ e ∷ []) in
    let Defined : Definition → Type 0 = λ d. IsTrue (is_process_among d.key d.process (b.models ++ models_told e)) in
    let grown = greatest_counter_more p before (e ∷ []) in
    let counted : All Counted (b.models ++ models_told e) = All-append Counted b.models (models_told e)
    (All-weaker (λ (d : Deployed). counter_at p d.key ≤ greatest_counter p before) Counted (λ d below. omega (arith, below, grown)) b.models k.counted) (told_counted p before e) in
    let defined : All Defined (definitions before ++ definition_told e) = All-append Defined (definitions before) (definition_told e)
    (All-weaker (λ (d : Definition). IsTrue (is_process_of d.key d.process b)) Defined (λ d there. among_more (λ o. option_map_or (λ (m : Model). bytes_eq m.process d.process) o false) d.key b.models (models_told e) refl there) (definitions before) k.defined) (told_defined p before b e after h) in
    record {
      counted = subst (All Counted) (sym models) counted;
      defined = subst (λ (ds : List Definition). All (λ (d : Definition). IsTrue (is_process_among d.key d.process after.models)) ds) (sym (definitions_more before e))
          (subst (λ (ms : List Deployed). All (λ (d : Definition). IsTrue (is_process_among d.key d.process ms)) (definitions before ++ definition_told e)) (sym models) defined);
    }

knows_first : (p : ℕ) → Knows p [] empty_board
knows_first p = record {
  counted = All-nil (λ (d : Deployed). counter_at p d.key ≤ greatest_counter p []);
  defined = All-nil (λ (d : Definition). IsTrue (is_process_of d.key d.process empty_board));
}

-- the board of a log whose events apply
pub board_knows : (p : ℕ) (es : List Event) (b : Board) → IsTrue (all_apply p [] es) → board_of es ≡ Some b → Knows p es b
board_knows p es b apply is = holds_of_all p (Knows p) (knows_on p) es b (knows_first p) apply is

-- each model that stands on a board is without faults
abbrev pub HasFormedModels : Board → Type 0
HasFormedModels b = All (λ (d : Deployed). IsTrue (is_well_formed d.model)) b.models

told_formed : (p : ℕ) (before : List Event) (e : Event) → IsTrue (holds_own p before e) → All (λ (d : Deployed). IsTrue (is_well_formed d.model)) (models_told e)
told_formed p before (events.ProcessCreated e) own = All-cons (λ (d : Deployed). IsTrue (is_well_formed d.model)) (record { key = e.key; version = e.version; model = e.model }) [] own (All-nil (λ (d : Deployed). IsTrue (is_well_formed d.model)))
told_formed p before e own = All-nil (λ (d : Deployed). IsTrue (is_well_formed d.model))

-- an event that applies keeps them so
pub formed_on : (p : ℕ) (before : List Event) (b : Board) (e : Event) (after : Board) → Advances p before b e after → HasFormedModels b → HasFormedModels after
formed_on p before b e after h formed =
    let Formed : Deployed → Type 0 = λ d. IsTrue (is_well_formed d.model) in
    subst (All Formed) (sym (models_more p before b e after h)) (All-append Formed b.models (models_told e) formed (told_formed p before e h.own))

-- so the model of a definition is
pub formed_under : (b : Board) (key : ℕ) (m : Model) → HasFormedModels b → model_under b key ≡ Some m → IsTrue (is_well_formed m)
formed_under b key m formed is =
    let r = mapped_from (λ (d : Deployed). d.model) (find (λ (d : Deployed). d.key == key) b.models) m is in
    subst (λ (x : Model). IsTrue (is_well_formed x)) r.2 (found_holds (λ (d : Deployed). d.key == key) (λ (d : Deployed). IsTrue (is_well_formed d.model)) b.models r.0 formed r.1).0

-- the models that stand are those of the definitions, in their order
abbrev AreDefined : List Event → Board → Type 0
AreDefined es b = definitions_on b ≡ definitions es

told_defines : (e : Event) → map definition_of_model (models_told e) ≡ definition_told e
told_defines (events.ProcessCreated e) = refl
told_defines e = refl

-- so an event leaves them, whatever jobs are there
pub defined_shown : (js : List Job) (b : Board) (e : Event) (after : Board) → after_shown b (shown_by js e) ≡ Some after → definitions_on after ≡ definitions_on b ++ definition_told e
defined_shown js b e after leads =
    ap (map definition_of_model) (models_by js b e after leads)
    ∙ (map-append definition_of_model b.models (models_told e) ∙ ap (λ (ds : List Definition). definitions_on b ++ ds) (told_defines e))

defined_on : (p : ℕ) (before : List Event) (b : Board) (e : Event) (after : Board) → Advances p before b e after → AreDefined before b → AreDefined (before ++ e ∷ []) after
defined_on p before b e after h same =
    defined_shown (jobs before) b e after h.leads ∙ (ap (λ (ds : List Definition). ds ++ definition_told e) same ∙ sym (definitions_more before e))

-- the definitions of a log whose events apply are those whose models stand on its board
pub defined_there : (p : ℕ) (es : List Event) (b : Board) → IsTrue (all_apply p [] es) → board_of es ≡ Some b → definitions_on b ≡ definitions es
defined_there p es b apply is = holds_of_all p AreDefined (defined_on p) es b refl apply is

any_defined : (key : ℕ) (models : List Deployed) → list_any (λ (d : Deployed). d.key == key) models ≡ list_any (λ (d : Definition). d.key == key) (map definition_of_model models)
any_defined key [] = refl
any_defined key (d ∷ models) = ap (λ (t : Bool). (d.key == key) || t) (any_defined key models)

found_among : (key : ℕ) (models : List Deployed) → is_some (option_map (λ (d : Deployed). d.model) (find (λ (d : Deployed). d.key == key) models)) ≡ list_any (λ (d : Deployed). d.key == key) models
found_among key [] = refl
found_among key (d ∷ models) = by_test (d.key == key) (found_among key models)
  where
    by_test : (t : Bool) → is_some (option_map (λ (x : Deployed). x.model) (find (λ (x : Deployed). x.key == key) models)) ≡ list_any (λ (x : Deployed). x.key == key) models
        → is_some (option_map (λ (x : Deployed). x.model) (if t then Some d else find (λ (x : Deployed). x.key == key) models)) ≡ (t || list_any (λ (x : Deployed). x.key == key) models)
    by_test true later = refl
    by_test false later = later

-- a model is on the board of a log whose events apply exactly where its definition is there
pub is_there_where_defined : (p : ℕ) (es : List Event) (b : Board) (key : ℕ) → IsTrue (all_apply p [] es) → board_of es ≡ Some b → is_some (model_under b key) ≡ has_definition key es
is_there_where_defined p es b key apply is =
    found_among key b.models ∙ (any_defined key b.models ∙ ap (list_any (λ (d : Definition). d.key == key)) (defined_there p es b apply is))

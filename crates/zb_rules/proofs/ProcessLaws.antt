-- The processes of a log whose events apply: each has a key of its own, and is what its definition and its model are.
use Rattle.std.proofs.Common.{◌≡◌, ℕ, ◌==◌, List, [], ◌∷◌, ◌++◌, map, Bool, true, false, if◌then◌else◌, IsTrue, not, is_some, Option, Some, None, option_map, refl, sym, ap, ◌∙◌, subst, append-nil, arith}
use Rattle.std.specs.List.{find}
use Rattle.std.specs.Option.{option_or}
use Rattle.std.proofs.lemmas.Bool.Decides.{nat_tests}
use Rattle.std.proofs.lemmas.Grind.{flat_map-append}
use Rattle.std.proofs.lemmas.List.{map-append}
use Rattle.std.proofs.lemmas.List.Folds.{find-append}
use Rattle.zb_instance_records.specs.declared.deployment.ProcessDefinition.{ProcessDefinition}
use Rattle.zb_model.specs.declared.record.Event.{Event}
use Rattle.zb_model.specs.declared.record.Event.TheVariants as events
use Rattle.zb_views.proofs.ToldLaws.{last_told_more}
use Rattle.zb_views.specs.declared.definition.Definition.{Definition}
use Rattle.zb_views.specs.Definitions.{definition_told, definitions}
use Rattle.zb_views.specs.Processes.{process_told, process_in, processes_told, processes}
use Rattle.zb_tokens.specs.declared.board.Deployed.{Deployed}
use Rattle.zb_tokens.specs.Board.{Board, model_under}
use Rattle.zb_rules.specs.Shown.{board_of, models_told}
use Rattle.zb_rules.specs.Applies.{all_apply}
use Rattle.zb_rules.proofs.AppliedLaws.{Advances, holds_of_all}
use Rattle.zb_rules.proofs.ModelsLaws.{models_more}

-- the first of some things that passes, where each is made of another
pub found_of_made : {A B : Type 0} (make : A → B) (passes : B → Bool) (xs : List A) → find passes (map make xs) ≡ option_map make (find (λ x. passes (make x)) xs)
found_of_made make passes [] = refl
found_of_made {A} {B} make passes (x ∷ xs) = by_test (passes (make x)) (found_of_made make passes xs)
  where
    by_test : (t : Bool) → find passes (map make xs) ≡ option_map make (find (λ x. passes (make x)) xs)
        → (if t then Some (make x) else find passes (map make xs)) ≡ option_map make (if t then Some x else find (λ x. passes (make x)) xs)
    by_test true later = refl
    by_test false later = later

-- the definition that a process is, and its model
abbrev pub as_definition : ProcessDefinition → Definition
as_definition c = record { key = c.key; version = c.version; process = c.model.process }

-- the deployment that a process is of, with its model
abbrev pub deployed_by : ProcessDefinition → Deployed
deployed_by c = record { key = c.key; version = c.version; model = c.model }

-- it has this key
abbrev pub has_key : ℕ → ProcessDefinition → Bool
has_key key c = c.key == key

-- the definitions are theirs
told_definition : (e : Event) → definition_told e ≡ map as_definition (processes_told e)
told_definition (events.ProcessCreated e) = refl
told_definition e = refl

-- the definitions of events are those of their processes
pub definitions_are : (es : List Event) → definitions es ≡ map as_definition (processes es)
definitions_are [] = refl
definitions_are (e ∷ es) =
    ap (λ (ds : List Definition). ds ++ definitions es) (told_definition e)
    ∙ (ap (λ (ds : List Definition). map as_definition (processes_told e) ++ ds) (definitions_are es)
    ∙ sym (map-append as_definition (processes_told e) (processes es)))

pub processes_more : (es : List Event) (e : Event) → processes (es ++ e ∷ []) ≡ processes es ++ processes_told e
processes_more es e = flat_map-append processes_told es (e ∷ []) ∙ ap (λ (l : List ProcessDefinition). processes es ++ l) (append-nil (processes_told e))

-- and so are the models; the last process with a key is the only one
pub record AreRecorded (es : List Event) (b : Board) : Type 0 where
  pub models : b.models ≡ map deployed_by (processes es)
  pub alone : (key : ℕ) → process_in key es ≡ find (has_key key) (processes es)

told_model : (e : Event) → models_told e ≡ map deployed_by (processes_told e)
told_model (events.ProcessCreated e) = refl
told_model e = refl

none_of : {A B : Type 0} (f : A → B) (found : Option A) → option_map f found ≡ None → found ≡ None
none_of f None is = refl
none_of f (Some x) is = absurd (cc)

not_there : {A : Type 0} (found : Option A) → IsTrue (not (is_some found)) → found ≡ None
not_there None is = refl
not_there (Some x) is = absurd (cc)

-- a process that comes has a key that no other one has
new_key : (p : ℕ) (before : List Event) (b : Board) (c : ProcessDefinition) (after : Board) → Advances p before b (events.ProcessCreated c) after → AreRecorded before b → find (has_key c.key) (processes before) ≡ None
new_key p before b c after h r =
    let new : model_under b c.key ≡ None = not_there (model_under b c.key) h.fit in
    let none : find (λ (d : Deployed). d.key == c.key) b.models ≡ None = none_of (λ (d : Deployed). d.model) (find (λ (d : Deployed). d.key == c.key) b.models) new in
    none_of deployed_by (find (has_key c.key) (processes before)) (sym (found_of_made deployed_by (λ (d : Deployed). d.key == c.key) (processes before)) ∙ (ap (find (λ (d : Deployed). d.key == c.key)) (sym r.models) ∙ none))

alone_on : (p : ℕ) (before : List Event) (b : Board) (e : Event) (after : Board) → Advances p before b e after → AreRecorded before b → (key : ℕ)
    → option_or (process_told key e) (process_in key before) ≡ find (has_key key) (processes before ++ processes_told e)
alone_on p before b (events.ProcessCreated c) after h r key =
    let found = find-append (has_key key) (processes before) (c ∷ []) in
    by_test (c.key == key) refl ∙ sym found
  where
    by_test : (t : Bool) → (c.key == key) ≡ t → option_or (if t then Some c else None) (process_in key before) ≡ option_or (find (has_key key) (processes before)) (if t then Some c else None)
    by_test true same =
        let its : c.key ≡ key = grind (arith, nat_tests, same) in
        let none : find (has_key key) (processes before) ≡ None = subst (λ (k : ℕ). find (has_key k) (processes before) ≡ None) its (new_key p before b c after h r) in
        rw none refl
    by_test false other = r.alone key ∙ or_last (find (has_key key) (processes before))
      where
        or_last : {A : Type 0} (o : Option A) → o ≡ option_or o None
        or_last None = refl
        or_last (Some x) = refl
alone_on p before b e after h r key = r.alone key ∙ ap (find (has_key key)) (sym (append-nil (processes before)))

recorded_on : (p : ℕ) (before : List Event) (b : Board) (e : Event) (after : Board) → Advances p before b e after → AreRecorded before b → AreRecorded (before ++ e ∷ []) after
recorded_on p before b e after h r = record {
  models = models_more p before b e after h
      ∙ (ap (λ (ms : List Deployed). ms ++ models_told e) r.models
      ∙ (ap (λ (ms : List Deployed). map deployed_by (processes before) ++ ms) (told_model e)
      ∙ (sym (map-append deployed_by (processes before) (processes_told e)) ∙ ap (map deployed_by) (sym (processes_more before e)))));
  alone = λ key. last_told_more (process_told key) before e ∙ (alone_on p before b e after h r key ∙ ap (find (has_key key)) (sym (processes_more before e)));
}

-- so it is behind a log whose events apply
pub are_recorded : (p : ℕ) (es : List Event) (b : Board) → board_of es ≡ Some b → IsTrue (all_apply p [] es) → AreRecorded es b
are_recorded p es b is apply = holds_of_all p AreRecorded (recorded_on p) es b (record { models = refl; alone = λ key. refl }) apply is

-- the model on the board under a key is that of the process with the key
pub model_there : (p : ℕ) (es : List Event) (b : Board) (key : ℕ) → board_of es ≡ Some b → IsTrue (all_apply p [] es) → model_under b key ≡ option_map (λ c. c.model) (process_in key es)
model_there p es b key is apply =
    let r = are_recorded p es b is apply in
    let among : find (λ (d : Deployed). d.key == key) b.models ≡ option_map deployed_by (process_in key es) =
    ap (find (λ (d : Deployed). d.key == key)) r.models ∙ (found_of_made deployed_by (λ (d : Deployed). d.key == key) (processes es) ∙ ap (option_map deployed_by) (sym (r.alone key))) in
    ap (option_map (λ (d : Deployed). d.model)) among ∙ its_model (process_in key es)
  where
    its_model : (found : Option ProcessDefinition) → option_map (λ (d : Deployed). d.model) (option_map deployed_by found) ≡ option_map (λ c. c.model) found
    its_model None = refl
    its_model (Some c) = refl

-- The processes that start by messages of a name, where there is one more event.
use Rattle.std.proofs.Common.{◌≡◌, ℕ, List, [], ◌∷◌, ◌++◌, map, filter, Bool, true, false, cond, IsTrue, Some, refl, ap, ◌∙◌}
use Rattle.std.proofs.lemmas.List.{map-append}
use Rattle.std.proofs.lemmas.List.Elements.{filter-append}
use Rattle.std.specs.BTreeSet.{insert_key}
use Rattle.zb_base.specs.Vars.{order_of}
use Rattle.zb_instance_records.specs.declared.deployment.ProcessDefinition.{ProcessDefinition}
use Rattle.zb_model.specs.declared.record.Event.{Event}
use Rattle.zb_views.specs.Processes.{processes_told, processes}
use Rattle.zb_rules.specs.Starts.{starts_by, in_byte_order, starters}
use Rattle.zb_rules.specs.Applies.{all_apply}
use Rattle.zb_rules.specs.Shown.{board_of}
use Rattle.zb_rules.proofs.ProcessLaws.{deployed_by, are_recorded, processes_more}
use Rattle.zb_tokens.specs.declared.board.Deployed.{Deployed}
use Rattle.zb_tokens.specs.Board.{Board}

-- ids behind others are put at their places behind them
pub ordered_more : (front ids more : List (List ℕ)) → in_byte_order ids (front ++ more) ≡ in_byte_order (in_byte_order ids front) more
ordered_more [] ids more = refl
ordered_more (id ∷ front) ids more = ordered_more front (insert_key order_of ids id) more

-- the ids of those of some processes that start by messages of a name
abbrev starting : List ℕ → List ProcessDefinition → List (List ℕ)
starting name made = map (λ d. d.model.process) (filter (λ d. starts_by name d.model) made)

-- an event adds the process that it makes, if that starts by messages of the name
pub starters_more : (name : List ℕ) (es : List Event) (e : Event) → starters name (es ++ e ∷ []) ≡ in_byte_order (starters name es) (starting name (processes_told e))
starters_more name es e =
    ap (λ (made : List ProcessDefinition). in_byte_order [] (starting name made)) (processes_more es e)
    ∙ (ap (λ (made : List ProcessDefinition). in_byte_order [] (map (λ d. d.model.process) made)) (filter-append (λ (d : ProcessDefinition). starts_by name d.model) (processes es) (processes_told e))
    ∙ (ap (in_byte_order []) (map-append (λ (d : ProcessDefinition). d.model.process) (filter (λ d. starts_by name d.model) (processes es)) (filter (λ d. starts_by name d.model) (processes_told e)))
    ∙ ordered_more (starting name (processes es)) [] (starting name (processes_told e))))

-- of models that are those of some processes as many start by messages of a name
starting_on : (name : List ℕ) (made : List ProcessDefinition) → map (λ (d : Deployed). d.model.process) (filter (λ d. starts_by name d.model) (map deployed_by made)) ≡ starting name made
starting_on name [] = refl
starting_on name (c ∷ made) = by_test (starts_by name c.model) (starting_on name made)
  where
    by_test : (t : Bool) → map (λ (d : Deployed). d.model.process) (filter (λ d. starts_by name d.model) (map deployed_by made)) ≡ starting name made
        → map (λ (d : Deployed). d.model.process) (cond t (deployed_by c ∷ filter (λ d. starts_by name d.model) (map deployed_by made)) (filter (λ d. starts_by name d.model) (map deployed_by made)))
        ≡ map (λ (d : ProcessDefinition). d.model.process) (cond t (c ∷ filter (λ (d : ProcessDefinition). starts_by name d.model) made) (filter (λ (d : ProcessDefinition). starts_by name d.model) made))
    by_test true later = ap (λ (l : List (List ℕ)). c.model.process ∷ l) later
    by_test false later = later

-- the processes that start by messages of a name are those of which a model on the board does
pub starters_on : (p : ℕ) (es : List Event) (b : Board) (name : List ℕ) → board_of es ≡ Some b → IsTrue (all_apply p [] es)
    → in_byte_order [] (map (λ (d : Deployed). d.model.process) (filter (λ d. starts_by name d.model) b.models)) ≡ starters name es
starters_on p es b name is apply =
    ap (λ (ms : List Deployed). in_byte_order [] (map (λ d. d.model.process) (filter (λ d. starts_by name d.model) ms))) (are_recorded p es b is apply).models
    ∙ ap (in_byte_order []) (starting_on name (processes es))

-- What is kept of the models that stand on a board, where there is one more.
use Rattle.std.proofs.Common.{◌≡◌, ℕ, List, [], ◌∷◌, ◌++◌, map, filter, Bool, true, false, cond, if◌then◌else◌, refl, sym, ap, ◌∙◌, subst}
use Rattle.std.proofs.lemmas.List.{map-append}
use Rattle.std.proofs.lemmas.List.Elements.{filter-append}
use Rattle.std.specs.BTreeSet.{insert_key}
use Rattle.zb_base.specs.Vars.{order_of}
use Rattle.zb_tokens.specs.declared.board.Deployed.{Deployed}
use Rattle.zb_rules.specs.Starts.{starts_by, in_byte_order}
use Rattle.zb_rules.proofs.StarterLaws.{ordered_more}
use Rattle.zb_rules.specs.Shown.{definition_of_model}
use Rattle.zb_definitions.specs.Kept.{KeepsDefinitions}
use Rattle.zb_starts.specs.Starters.{ids_under}
use Rattle.zb_views.specs.declared.definition.Definition.{Definition}
use Rattle.zb_course.specs.Versions.{starting, KeepsVersions}
use Rattle.zb_course.specs.declared.versions.Versions.{Versions}

abbrev ids : List ℕ → List Deployed → List (List ℕ)
ids name models = map (λ d. d.model.process) (filter (λ d. starts_by name d.model) models)

-- one more process that starts by messages of a name is put at its place, and another one isn't
pub starting_more : (name : List ℕ) (models : List Deployed) (d : Deployed) → starting name (models ++ d ∷ []) ≡ (if starts_by name d.model then insert_key order_of (starting name models) d.model.process else starting name models)
starting_more name models d =
    ap (λ (l : List Deployed). in_byte_order [] (map (λ x. x.model.process) l)) (filter-append (λ (x : Deployed). starts_by name x.model) models (d ∷ []))
    ∙ (ap (in_byte_order []) (map-append (λ (x : Deployed). x.model.process) (filter (λ x. starts_by name x.model) models) (filter (λ x. starts_by name x.model) (d ∷ [])))
    ∙ (ordered_more (ids name models) [] (ids name (d ∷ [])) ∙ by_test (starts_by name d.model)))
  where
    by_test : (t : Bool) → in_byte_order (starting name models) (map (λ (x : Deployed). x.model.process) (cond t (d ∷ []) [])) ≡ (if t then insert_key order_of (starting name models) d.model.process else starting name models)
    by_test true = refl
    by_test false = refl

-- what is kept with one more
pub keeps_more : (models : List Deployed) (d : Deployed) (old new : Versions) → KeepsVersions models old → KeepsDefinitions (map definition_of_model models ++ definition_of_model d ∷ []) new.definitions
    → ((name : List ℕ) → ids_under new.starters name ≡ (if starts_by name d.model then insert_key order_of (ids_under old.starters name) d.model.process else ids_under old.starters name))
    → KeepsVersions (models ++ d ∷ []) new
keeps_more models d old new keeps definitions starters = record {
  definitions = subst (λ (ds : List Definition). KeepsDefinitions ds new.definitions) (sym (map-append definition_of_model models (d ∷ []))) definitions;
  starters = λ name.
      starters name
      ∙ (ap (λ (l : List (List ℕ)). if starts_by name d.model then insert_key order_of l d.model.process else l) (keeps.starters name)
      ∙ sym (starting_more name models d));
}

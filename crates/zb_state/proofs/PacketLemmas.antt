-- The packet of a distribution has what the state has of its definition.
use Rattle.std.proofs.Common.{◌≡◌, ℕ, ◌==◌, List, [], IsTrue, Option, Some, None, option_map, refl, sym, ap, ◌∙◌}
use Rattle.std.specs.List.{find}
use Rattle.zb_process.specs.declared.model.Model.{Model}
use Rattle.zb_instance_records.specs.declared.deployment.ProcessDefinition.{ProcessDefinition}
use Rattle.zb_model.specs.declared.record.Event.{Event}
use Rattle.zb_views.specs.declared.definition.Definition.{Definition}
use Rattle.zb_views.specs.declared.distribution.Distribution.{Distribution}
use Rattle.zb_views.specs.Definitions.{definitions}
use Rattle.zb_views.specs.Processes.{process_in, processes}
use Rattle.zb_record.specs.Packets.{packet_with, packet_of_definition}
use Rattle.zb_tokens.specs.declared.board.Deployed.{Deployed}
use Rattle.zb_tokens.specs.Board.{Board, model_under}
use Rattle.zb_rules.specs.Shown.{board_of}
use Rattle.zb_rules.specs.Applies.{all_apply}
use Rattle.zb_rules.proofs.ProcessLaws.{as_definition, deployed_by, has_key, found_of_made, definitions_are, AreRecorded, are_recorded}

none_of : {A B : Type 0} (f : A → B) (found : Option A) → option_map f found ≡ None → found ≡ None
none_of f None is = refl
none_of f (Some x) is = absurd (cc)

-- so the packet of a distribution has the version and the model that are there
module _ (p n : ℕ) (es : List Event) (b : Board) (is : board_of es ≡ Some b) (apply : IsTrue (all_apply p [] es)) where
  recorded : AreRecorded es b
  recorded = are_recorded p es b is apply

  version_is : (key : ℕ) → option_map (λ d. d.version) (find (λ d. d.key == key) (definitions es)) ≡ option_map (λ c. c.version) (process_in key es)
  version_is key =
      ap (λ (ds : List Definition). option_map (λ d. d.version) (find (λ d. d.key == key) ds)) (definitions_are es)
      ∙ (ap (option_map (λ (d : Definition). d.version)) (found_of_made as_definition (λ (d : Definition). d.key == key) (processes es))
      ∙ (joined (find (has_key key) (processes es)) ∙ ap (option_map (λ (c : ProcessDefinition). c.version)) (sym (recorded.alone key))))
    where
      joined : (found : Option ProcessDefinition) → option_map (λ (d : Definition). d.version) (option_map as_definition found) ≡ option_map (λ (c : ProcessDefinition). c.version) found
      joined None = refl
      joined (Some c) = refl

  model_is : (key : ℕ) → model_under b key ≡ option_map (λ c. c.model) (process_in key es)
  model_is key =
      ap (λ (ms : List Deployed). option_map (λ d. d.model) (find (λ d. d.key == key) ms)) recorded.models
      ∙ (ap (option_map (λ (d : Deployed). d.model)) (found_of_made deployed_by (λ (d : Deployed). d.key == key) (processes es))
      ∙ (joined (find (has_key key) (processes es)) ∙ ap (option_map (λ (c : ProcessDefinition). c.model)) (sym (recorded.alone key))))
    where
      joined : (found : Option ProcessDefinition) → option_map (λ (d : Deployed). d.model) (option_map deployed_by found) ≡ option_map (λ (c : ProcessDefinition). c.model) found
      joined None = refl
      joined (Some c) = refl

  -- there is none where the definition has no version here
  pub none_without_version : (d : Distribution) → option_map (λ x. x.version) (find (λ x. x.key == d.definition) (definitions es)) ≡ None → packet_of_definition p n es d ≡ None
  none_without_version d none =
      let gone : process_in d.definition es ≡ None = none_of (λ (c : ProcessDefinition). c.version) (process_in d.definition es) (sym (version_is d.definition) ∙ none) in
      rw gone refl

  -- nor where it has no model
  pub none_without_model : (d : Distribution) → model_under b d.definition ≡ None → packet_of_definition p n es d ≡ None
  none_without_model d none =
      let gone : process_in d.definition es ≡ None = none_of (λ (c : ProcessDefinition). c.model) (process_in d.definition es) (sym (model_is d.definition) ∙ none) in
      rw gone refl

  -- and else it has these
  pub packet_is : (d : Distribution) (version : ℕ) (m : Model) → option_map (λ x. x.version) (find (λ x. x.key == d.definition) (definitions es)) ≡ Some version → model_under b d.definition ≡ Some m
      → packet_of_definition p n es d ≡ Some (packet_with p n d version m)
  packet_is d version m has stands = by_made (process_in d.definition es) (sym (version_is d.definition) ∙ has) (sym (model_is d.definition) ∙ stands)
    where
      by_made : (found : Option ProcessDefinition) → option_map (λ c. c.version) found ≡ Some version → option_map (λ c. c.model) found ≡ Some m
          → option_map (λ (made : ProcessDefinition). packet_with p n d made.version made.model) found ≡ Some (packet_with p n d version m)
      by_made None has stands = absurd (cc)
      by_made (Some c) has stands =
          let v : c.version ≡ version = cc in
          let ms : c.model ≡ m = cc in
          rw (v, ms) refl

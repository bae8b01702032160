-- The instances that a message starts.
use Rattle.std.proofs.Common.{◌≡◌, ℕ, List, [], ◌∷◌, ◌++◌, map, Bool, true, false, if◌then◌else◌, Option, Some, None, option_map, refl, sym, ap, ◌∙◌}
use Rattle.std.specs.Option.{option_map_or}
use Rattle.std.proofs.lemmas.Slice.Eq.{bytes_eq-Decides}
use Rattle.zb_base.specs.declared.vars.Variable.{Variable}
use Rattle.zb_exchange_records.specs.declared.message.MessagePublished.{MessagePublished}
use Rattle.zb_instance_records.specs.declared.instance.ElementActivating.{ElementActivating}
use Rattle.zb_instance_records.specs.declared.instance.Role.TheVariants as roles
use Rattle.zb_model.specs.declared.record.Event.{Event}
use Rattle.zb_model.specs.declared.record.Event.TheVariants as events
use Rattle.zb_views.specs.View.{next_key}
use Rattle.zb_views.specs.declared.definition.Definition.{Definition}
use Rattle.zb_rules.specs.Create.{variable_event}
use Rattle.zb_rules.specs.Making.{just, and_then, each_made}
use Rattle.zb_rules.specs.Starts.{starting_definition, may_start, instance_started, started_of}
use Rattle.zb_rules.proofs.CreateLaws.{found_of}
use Rattle.zb_rules.proofs.StartLaws.{latest_of}
use Rattle.zb_follow.proofs.MakerLemmas.{each_of}

module _ (p : ℕ) (es : List Event) (m : MessagePublished) (process : List ℕ) where
  -- what a message starts of the definition that is found
  abbrev of_definition : Bool → Option Definition → List Event
  of_definition may found = option_map_or (λ d. if may then instance_started (next_key p es) d m else []) found []

  -- where no latest definition starts by its name, it starts none
  pub started_none : None ≡ option_map (λ (d : Definition). d.key) (starting_definition m.name process es) → [] ≡ started_of p m process es
  started_none none = by_found (starting_definition m.name process es) none
    where
      by_found : (found : Option Definition) → None ≡ option_map (λ (d : Definition). d.key) found → [] ≡ of_definition (may_start m process es) found
      by_found None none = refl
      by_found (Some d) none = absurd (cc)

  -- nor where it may not
  pub started_not : may_start m process es ≡ false → [] ≡ started_of p m process es
  started_not may = rw may (by_found (starting_definition m.name process es))
    where
      by_found : (found : Option Definition) → [] ≡ of_definition false found
      by_found None = refl
      by_found (Some d) = refl

  -- else its instance begins
  pub started_as : (key definition : ℕ) (root : ElementActivating) (vs : List Variable) → Some definition ≡ option_map (λ (d : Definition). d.key) (starting_definition m.name process es) → may_start m process es ≡ true → key ≡ next_key p es
      → root ≡ record { key = key; scope = 0; definition = definition; node = process; role = roles.Plain; via = []; started = m.correlation_key } → vs ≡ m.variables
      → and_then (just (events.MessageStartEventSubscriptionCorrelated (record { message = m.key; definition = definition; instance = key }))) (and_then (just (events.ElementActivating root)) (each_made (λ v. just (variable_event root.key v)) vs)) es ≡ started_of p m process es
  started_as key definition root vs found may next is are =
      let told = events.MessageStartEventSubscriptionCorrelated (record { message = m.key; definition = definition; instance = key }) in
      let behind = (es ++ told ∷ []) ++ events.ElementActivating root ∷ [] in
      let each : each_made (λ v. just (variable_event root.key v)) vs behind ≡ map (variable_event key) m.variables =
      each_of (variable_event root.key) vs behind ∙ (ap (map (variable_event root.key)) are ∙ ap (λ (r : ElementActivating). map (variable_event r.key) m.variables) is) in
      ap (λ (l : List Event). told ∷ events.ElementActivating root ∷ l) each
      ∙ (ap (λ (r : ElementActivating). told ∷ events.ElementActivating r ∷ map (variable_event key) m.variables) is
      ∙ (rw may (by_found (starting_definition m.name process es) refl found)))
    where
      begun : ℕ → ℕ → List ℕ → List Event
      begun k d node = events.MessageStartEventSubscriptionCorrelated (record { message = m.key; definition = d; instance = k })
          ∷ events.ElementActivating (record { key = k; scope = 0; definition = d; node = node; role = roles.Plain; via = []; started = m.correlation_key })
          ∷ map (variable_event k) m.variables

      by_found : (o : Option Definition) → starting_definition m.name process es ≡ o → Some definition ≡ option_map (λ (d : Definition). d.key) o → begun key definition process ≡ of_definition true o
      by_found None at found = absurd (cc)
      by_found (Some d) at found =
          let same : definition ≡ d.key = cc in
          let of = found_of process 0 es d (latest_of m.name process es d at) in
          let its : d.process ≡ process = (bytes_eq-Decides d.process process).0 of.1 in
          ap (λ (k : ℕ). begun k definition process) next ∙ (ap (λ (k : ℕ). begun (next_key p es) k process) same ∙ ap (λ (node : List ℕ). begun (next_key p es) d.key node) (sym its))

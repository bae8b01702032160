-- A command's own events.
use Rattle.std.proofs.Common.{◌≡◌, ◌+◌, ◌-◌, ℕ, zero, suc, List, [], ◌∷◌, ◌++◌, map, filter, take, Bool, true, false, if◌then◌else◌, IsTrue, Option, Some, None, is_some, option_map, refl, ap, sym, ◌∙◌, arith}
use Rattle.std.specs.List.{range_with_len}
use Rattle.std.specs.Option.{option_map_or}
use Rattle.zb_base.specs.declared.vars.Variable.{Variable}
use Rattle.zb_process.specs.declared.model.Model.{Model}
use Rattle.zb_instance_records.specs.declared.deployment.ProcessDefinition.{ProcessDefinition}
use Rattle.zb_instance_records.specs.declared.instance.ElementActivating.{ElementActivating}
use Rattle.zb_instance_records.specs.declared.instance.Role.TheVariants as roles
use Rattle.zb_instance_records.specs.declared.instance.ProcessInstanceCreationCreate.{ProcessInstanceCreationCreate}
use Rattle.zb_exchange_records.specs.declared.job.JobBatchActivate.{JobBatchActivate}
use Rattle.zb_model.specs.declared.record.Event.{Event}
use Rattle.zb_model.specs.declared.record.Event.TheVariants as events
use Rattle.zb_model.specs.declared.record.RejectionKind.TheVariants as rejections
use Rattle.zb_views.specs.View.{next_key}
use Rattle.zb_views.specs.Definitions.{definition_for}
use Rattle.zb_views.specs.Processes.{process_in}
use Rattle.zb_views.specs.declared.job.Job.{Job}
use Rattle.zb_views.specs.Jobs.{jobs, is_offered}
use Rattle.zb_views.specs.declared.definition.Definition.{Definition}
use Rattle.zb_rules.specs.Making.{Making, just, and_then, each_made}
use Rattle.zb_rules.specs.Activate.{each_given_out, batch_told, activated}
use Rattle.zb_rules.specs.Create.{has_message_start, starts_by_message, reason_by, reason_to_create, variable_event, instance_under, created}
use Rattle.zb_rules.specs.Deploy.{definition_of, deployment_of, sent_to, sent_to_all, deployed}
use Rattle.zb_follow.proofs.MakerLemmas.{each_of}

-- what there is a making for is made
pub made_of : (make : Option Making) (es : List Event) → IsTrue (is_some (option_map (λ m. m es) make)) → option_map (λ m. m es) make ≡ Some (option_map_or (λ m. m es) make [])
made_of None es there = absurd (cc)
made_of (Some make) es there = refl

-- one number more
pub range_more : (a n j : ℕ) → a + n ≡ j → range_with_len a (suc n) ≡ range_with_len a n ++ j ∷ []
range_more a zero j e = let same : a ≡ j = omega arith in ap (λ (k : ℕ). k ∷ []) same
range_more a (suc n) j e = ap (λ (l : List ℕ). a ∷ l) (range_more (a + 1) n j (omega arith))

-- the events of an instance, of the definition that was found
instance_by : (key definition : ℕ) (c : ProcessInstanceCreationCreate) (found : Option Definition) → Some definition ≡ option_map (λ d. d.key) found → instance_under key definition c ≡ option_map_or (λ d. instance_under key d.key c) found []
instance_by key definition c None is = absurd (cc)
instance_by key definition c (Some d) is = ap (λ (k : ℕ). instance_under key k c) (let same : definition ≡ d.key = cc in same)

-- an instance is made, its root is activated, and it has its variables
pub created_as : (p : ℕ) (es : List Event) (c : ProcessInstanceCreationCreate) (key definition : ℕ) (root : ElementActivating) (vs : List Variable)
    → Some definition ≡ option_map (λ d. d.key) (definition_for c.process c.version es) → key ≡ next_key p es
    → root ≡ record { key = key; scope = 0; definition = definition; node = c.process; role = roles.Plain; via = []; started = [] } → vs ≡ c.variables
    → and_then (just (events.ProcessInstanceCreationCreated (record { key = key; definition = definition }))) (and_then (just (events.ElementActivating root)) (each_made (λ v. just (variable_event root.key v)) vs)) es ≡ created p c es
created_as p es c key definition root vs found next is are =
    let made = events.ProcessInstanceCreationCreated (record { key = key; definition = definition }) in
    let behind = (es ++ made ∷ []) ++ events.ElementActivating root ∷ [] in
    let each = each_of (variable_event root.key) vs behind ∙ (ap (map (variable_event root.key)) are ∙ ap (λ (r : ElementActivating). map (variable_event r.key) c.variables) is) in
    ap (λ (l : List Event). made ∷ events.ElementActivating root ∷ l) each
    ∙ ap (λ (r : ElementActivating). made ∷ events.ElementActivating r ∷ map (variable_event key) c.variables) is
    ∙ instance_by key definition c (definition_for c.process c.version es) found
    ∙ ap (λ (k : ℕ). option_map_or (λ d. instance_under k d.key c) (definition_for c.process c.version es) []) next

-- a definition, its deployment, and that it sets out for the other partitions
pub deployed_as : (p n : ℕ) (es : List Event) (m : Model) (made : ProcessDefinition) (others : List ℕ) → definition_of p m es ≡ events.ProcessCreated made ∷ [] → others ≡ range_with_len 2 (n - 1)
    → and_then (just (events.ProcessCreated made)) (and_then (deployment_of p made.key) (each_made (λ k. just (sent_to made.key k)) others)) es ≡ deployed p n m es
deployed_as p n es m made others is are =
    let key : made.key ≡ next_key p es = cc in
    let behind = es ++ events.ProcessCreated made ∷ [] in
    let each : (before : List Event) → each_made (λ k. just (sent_to made.key k)) others before ≡ sent_to_all made.key n = λ before. each_of (sent_to made.key) others before ∙ ap (map (sent_to made.key)) are in
    ap (λ (l : List Event). events.ProcessCreated made ∷ (deployment_of p made.key behind ++ l)) (each (behind ++ deployment_of p made.key behind))
    ∙ ap (λ (k : ℕ). events.ProcessCreated made ∷ (deployment_of p k behind ++ sent_to_all k n)) key
    ∙ ap (λ (l : List Event). and_then (λ before. l) (and_then (deployment_of p (next_key p es)) (λ so_far. sent_to_all (next_key p es) n)) es) (sym is)

-- the jobs that are offered are given, and told
pub activated_as : (p moment : ℕ) (es : List Event) (c : JobBatchActivate) (keys things kind : List ℕ) (js : List Job)
    → kind ≡ c.kind → jobs es ≡ js → keys ≡ map (λ j. j.key) (take c.most (filter (is_offered kind) js)) → things ≡ keys
    → and_then (each_given_out moment c things) (batch_told p keys) es ≡ activated p moment c es
activated_as p moment es c keys things kind js is at are same =
    let first : List ℕ → List Job → List ℕ = λ k all. map (λ j. j.key) (take c.most (filter (is_offered k) all)) in
    let told = are ∙ ap (first kind) (sym at) ∙ ap (λ (k : List ℕ). first k (jobs es)) is in
    ap (λ (ks : List ℕ). and_then (each_given_out moment c ks) (batch_told p keys) es) same ∙ ap (λ (ks : List ℕ). and_then (each_given_out moment c ks) (batch_told p ks) es) told

-- why an instance isn't made of a version that is there: that starts by a message, if it does
pub create_reason : (es : List Event) (c : ProcessInstanceCreationCreate) (latest : Option ℕ) (asked : ℕ) → latest ≡ option_map (λ (d : Definition). d.key) (definition_for c.process 0 es) → is_some latest ≡ true
    → Some asked ≡ option_map (λ (d : Definition). d.key) (definition_for c.process c.version es) → (starts : Bool) → starts ≡ option_map_or (λ (made : ProcessDefinition). has_message_start made.model) (process_in asked es) false
    → reason_to_create es c ≡ (if starts then Some (record { kind = rejections.InvalidState; reason = starts_by_message c.process }) else None)
create_reason es c latest asked is some found starts so = by_found (definition_for c.process 0 es) (definition_for c.process c.version es) is found
  where
    by_found : (first second : Option Definition) → latest ≡ option_map (λ (d : Definition). d.key) first → Some asked ≡ option_map (λ (d : Definition). d.key) second
        → reason_by first second c es ≡ (if starts then Some (record { kind = rejections.InvalidState; reason = starts_by_message c.process }) else None)
    by_found None second is found = let none : is_some latest ≡ false = ap is_some is in absurd (cc (none, some))
    by_found (Some d) None is found = absurd (cc)
    by_found (Some d) (Some e) is found =
        let same : asked ≡ e.key = cc in
        ap (λ (t : Bool). if t then Some (record { kind = rejections.InvalidState; reason = starts_by_message c.process }) else None)
        (sym (so ∙ ap (λ (k : ℕ). option_map_or (λ (made : ProcessDefinition). has_message_start made.model) (process_in k es) false) same))

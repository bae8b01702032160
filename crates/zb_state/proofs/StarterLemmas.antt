-- What a state knows of the messages that start instances, and of the definitions that start by them.
use Rattle.std.proofs.Common.{◌≡◌, ℕ, suc, ◌==◌, List, [], ◌∷◌, length, Bor, arith, Bool, true, false, ◌&&◌, if◌then◌else◌, bytes_eq, is_some, Option, Some, None, option_map, refl, sym, ap, ◌∙◌}
use Rattle.std.specs.List.{find}
use Rattle.std.specs.Option.{option_map_or, option_and_then, option_copied}
use Rattle.std.proofs.lemmas.Bool.Decides.{nat_tests}
use Rattle.zb_exchange_records.specs.declared.message.MessagePublished.{MessagePublished}
use Rattle.zb_exchange_records.specs.declared.subscription.MessageStartEventSubscriptionCorrelated.{MessageStartEventSubscriptionCorrelated}
use Rattle.zb_instance_records.specs.declared.deployment.ProcessDefinition.{ProcessDefinition}
use Rattle.zb_process.specs.declared.model.Model.{Model}
use Rattle.zb_process.specs.declared.model.Node.{Node}
use Rattle.zb_faults.specs.Elements.{is_message_start}
use Rattle.zb_model.specs.declared.record.Event.{Event}
use Rattle.zb_tokens.specs.Board.{model_under, start_in}
use Rattle.zb_views.specs.declared.definition.Definition.{Definition}
use Rattle.zb_views.specs.declared.left.Left.{Left}
use Rattle.zb_views.specs.declared.left.Left.TheVariants as lefts
use Rattle.zb_views.specs.Definitions.{definition_for}
use Rattle.zb_views.specs.Left.{left}
use Rattle.zb_views.specs.Processes.{process_in}
use Rattle.zb_views.specs.Starts.{published_in}
use Rattle.zb_rules.specs.Applies.{begins_start, starts_with}
use Rattle.zb_rules.specs.Create.{has_message_start}
use Rattle.zb_rules.specs.Starts.{starts_by, starting_definition, may_start}
use Rattle.zb_rules.proofs.LeftLaws.{starter_left}
use Rattle.zb_rules.proofs.ProcessLaws.{model_there}
use Rattle.zb_state.specs.Starts.{starter_among, message_start_under}
use Rattle.zb_state.specs.State.{IsStateOf}
use Rattle.zb_state.specs.declared.facts.Facts.{Facts}

-- a text is empty
pub empty_is : (bs : List ℕ) → (length bs == 0) ≡ bytes_eq bs []
empty_is [] = refl
empty_is (b ∷ bs) = let some : (suc (length bs) == 0) ≡ false = grind (arith, nat_tests) in some

-- something is lent
pub some_copied : {A : Type 0} (o : Option (Bor A)) → is_some o ≡ is_some (option_copied o)
some_copied None = refl
some_copied (Some x) = refl

-- what is asked of the model of a process that was made
asked_of_model : {A : Type 0} (ask : Model → A) (none : A) (found : Option ProcessDefinition) → option_map_or ask (option_map (λ c. c.model) found) none ≡ option_map_or (λ c. ask c.model) found none
asked_of_model ask none None = refl
asked_of_model ask none (Some c) = refl

-- the name of a start event that has a message
named_start : (name : List ℕ) (found : Option Node) → option_map_or (λ n. bytes_eq n.name name) (option_and_then (λ (n : Node). if is_message_start n.kind then Some n else None) found) false ≡ option_map_or (λ n. is_message_start n.kind && bytes_eq n.name name) found false
named_start name None = refl
named_start name (Some n) = by_test (is_message_start n.kind)
  where
    by_test : (t : Bool) → option_map_or (λ (x : Node). bytes_eq x.name name) (if t then Some n else None) false ≡ (t && bytes_eq n.name name)
    by_test true = refl
    by_test false = refl

has_start : (found : Option Node) → is_some (option_and_then (λ (n : Node). if is_message_start n.kind then Some n else None) found) ≡ option_map_or (λ n. is_message_start n.kind) found false
has_start None = refl
has_start (Some n) = by_test (is_message_start n.kind)
  where
    by_test : (t : Bool) → is_some (if t then Some n else None) ≡ t
    by_test true = refl
    by_test false = refl

of_model : {A : Type 0} (ask : Option Node → A) (found : Option Model) → ask (option_and_then (λ (m : Model). option_and_then (λ (n : Node). if is_message_start n.kind then Some n else None) (start_in m [])) found)
    ≡ option_map_or (λ (m : Model). ask (option_and_then (λ (n : Node). if is_message_start n.kind then Some n else None) (start_in m []))) found (ask None)
of_model ask None = refl
of_model ask (Some m) = refl

module _ (es : List Event) (facts : Facts) (is : IsStateOf es facts) where
  -- what is asked of the model on the board under a key is asked of the process with the key
  pub asked_there : {A : Type 0} (ask : Model → A) (none : A) (key : ℕ) → option_map_or ask (model_under facts.game key) none ≡ option_map_or (λ (c : ProcessDefinition). ask c.model) (process_in key es) none
  asked_there ask none key = ap (λ (o : Option Model). option_map_or ask o none) (model_there facts.place es facts.game key is.game is.applied) ∙ asked_of_model ask none (process_in key es)

  -- a message and a definition are there, and that may start it
  pub start_told : (e : MessageStartEventSubscriptionCorrelated) → begins_start e es
      ≡ option_map_or (λ (m : MessagePublished). option_map_or (λ (x : Model). may_start m x.process es) (model_under facts.game e.definition) false) (find (λ m. m.key == e.message) facts.messages) false
  start_told e =
      ap (λ (ms : List MessagePublished). option_map_or (λ (m : MessagePublished). option_map_or (λ (d : ProcessDefinition). may_start m d.model.process es) (process_in e.definition es) false) (find (λ m. m.key == e.message) ms) false) is.messages
      ∙ each (find (λ (m : MessagePublished). m.key == e.message) facts.messages)
    where
      each : (found : Option MessagePublished) → option_map_or (λ (m : MessagePublished). option_map_or (λ (d : ProcessDefinition). may_start m d.model.process es) (process_in e.definition es) false) found false
          ≡ option_map_or (λ (m : MessagePublished). option_map_or (λ (x : Model). may_start m x.process es) (model_under facts.game e.definition) false) found false
      each None = refl
      each (Some m) = sym (asked_there (λ (x : Model). may_start m x.process es) false e.definition)

  pub start_known : (e : MessageStartEventSubscriptionCorrelated) (m : MessagePublished) (x : Model) → Some m ≡ find (λ m. m.key == e.message) facts.messages → Some x ≡ model_under facts.game e.definition
      → begins_start e es ≡ may_start m x.process es
  start_known e m x found model =
      start_told e
      ∙ (ap (λ (o : Option MessagePublished). option_map_or (λ (y : MessagePublished). option_map_or (λ (z : Model). may_start y z.process es) (model_under facts.game e.definition) false) o false) (sym found)
      ∙ ap (λ (o : Option Model). option_map_or (λ (z : Model). may_start m z.process es) o false) (sym model))

  -- no message starts a definition that isn't there
  pub start_of_none : (e : MessageStartEventSubscriptionCorrelated) (m : MessagePublished) → Some m ≡ find (λ m. m.key == e.message) facts.messages → None ≡ model_under facts.game e.definition → begins_start e es ≡ false
  start_of_none e m found model =
      start_told e
      ∙ (ap (λ (o : Option MessagePublished). option_map_or (λ (y : MessagePublished). option_map_or (λ (z : Model). may_start y z.process es) (model_under facts.game e.definition) false) o false) (sym found)
      ∙ ap (λ (o : Option Model). option_map_or (λ (z : Model). may_start m z.process es) o false) (sym model))

  -- the correlation key with which the root starts that is left to be said
  pub start_key : starts_with (left es) es ≡ option_map_or (λ m. m.correlation_key) (starter_among facts.messages facts.left) []
  start_key = ap (λ (what : Left). starts_with what es) is.left ∙ by_left facts.left is.left
    where
      by_left : (what : Left) → left es ≡ what → starts_with what es ≡ option_map_or (λ (m : MessagePublished). m.correlation_key) (starter_among facts.messages what) []
      by_left lefts.Nothing at = refl
      by_left (lefts.Cancels job) at = refl
      by_left (lefts.Deletes key) at = refl
      by_left (lefts.Root begun) at = by_message begun.message refl
        where
          key_by : (ℕ → Option MessagePublished) → Option ℕ → List ℕ
          key_by find_message o = option_map_or (λ (m : MessagePublished). m.correlation_key) (option_and_then find_message o) []

          by_message : (o : Option ℕ) → begun.message ≡ o → key_by (λ k. published_in k es) begun.message ≡ key_by (λ k. find (λ (m : MessagePublished). m.key == k) facts.messages) begun.message
          by_message None starts = rw starts refl
          by_message (Some k) starts =
              let its = starter_left facts.place es facts.game begun k is.game is.applied at starts in
              let found : find (λ (m : MessagePublished). m.key == k) facts.messages ≡ Some its.message = ap (find (λ (m : MessagePublished). m.key == k)) (sym is.messages) ∙ its.waits in
              rw (starts, its.last, found) refl

  -- a definition starts by messages of a name
  pub start_named : (name : List ℕ) (key : ℕ) → option_map_or (λ n. bytes_eq n.name name) (message_start_under facts.game key) false ≡ option_map_or (λ (c : ProcessDefinition). starts_by name c.model) (process_in key es) false
  start_named name key =
      of_model (λ (o : Option Node). option_map_or (λ n. bytes_eq n.name name) o false) (model_under facts.game key)
      ∙ (asked_there (λ (m : Model). option_map_or (λ (n : Node). bytes_eq n.name name) (option_and_then (λ (n : Node). if is_message_start n.kind then Some n else None) (start_in m [])) false) false key
      ∙ each (process_in key es))
    where
      each : (found : Option ProcessDefinition) → option_map_or (λ (c : ProcessDefinition). option_map_or (λ (n : Node). bytes_eq n.name name) (option_and_then (λ (n : Node). if is_message_start n.kind then Some n else None) (start_in c.model [])) false) found false
          ≡ option_map_or (λ (c : ProcessDefinition). starts_by name c.model) found false
      each None = refl
      each (Some c) = named_start name (start_in c.model [])

  -- or by messages at all
  pub start_there : (key : ℕ) → is_some (message_start_under facts.game key) ≡ option_map_or (λ (c : ProcessDefinition). has_message_start c.model) (process_in key es) false
  start_there key =
      of_model (λ (o : Option Node). is_some o) (model_under facts.game key)
      ∙ (asked_there (λ (m : Model). is_some (option_and_then (λ (n : Node). if is_message_start n.kind then Some n else None) (start_in m []))) false key
      ∙ each (process_in key es))
    where
      each : (found : Option ProcessDefinition) → option_map_or (λ (c : ProcessDefinition). is_some (option_and_then (λ (n : Node). if is_message_start n.kind then Some n else None) (start_in c.model []))) found false
          ≡ option_map_or (λ (c : ProcessDefinition). has_message_start c.model) found false
      each None = refl
      each (Some c) = has_start (start_in c.model [])

  -- the latest definition of a process, where that starts by messages of a name
  pub start_defined : (name process : List ℕ) (key : Option ℕ) → key ≡ option_map (λ (d : Definition). d.key) (definition_for process 0 es)
      → option_map (λ (d : Definition). d.key) (starting_definition name process es) ≡ option_and_then (λ k. if option_map_or (λ n. bytes_eq n.name name) (message_start_under facts.game k) false then Some k else None) key
  start_defined name process key asked = by_definition (definition_for process 0 es) refl ∙ ap (λ (o : Option ℕ). option_and_then (λ k. if option_map_or (λ (n : Node). bytes_eq n.name name) (message_start_under facts.game k) false then Some k else None) o) (sym asked)
    where
      starts : Definition → Bool
      starts d = option_map_or (λ (c : ProcessDefinition). starts_by name c.model) (process_in d.key es) false

      by_definition : (found : Option Definition) → definition_for process 0 es ≡ found
          → option_map (λ (d : Definition). d.key) (option_and_then (λ (d : Definition). if starts d then Some d else None) (definition_for process 0 es))
          ≡ option_and_then (λ k. if option_map_or (λ (n : Node). bytes_eq n.name name) (message_start_under facts.game k) false then Some k else None) (option_map (λ (d : Definition). d.key) (definition_for process 0 es))
      by_definition None at = rw at refl
      by_definition (Some d) at = rw (at, start_named name d.key) (by_test (starts d))
        where
          by_test : (t : Bool) → option_map (λ (x : Definition). x.key) (if t then Some d else None) ≡ (if t then Some d.key else None)
          by_test true = refl
          by_test false = refl

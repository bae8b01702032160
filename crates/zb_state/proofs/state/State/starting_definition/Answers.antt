use Rattle.std.proofs.Common.{◌≡◌, ℕ, List, Bool, true, false, Option, Some, None, if◌then◌else◌, bytes_eq, refl, sym, ap, ◌∙◌}
use Rattle.std.specs.Option.{option_map, option_map_or}
use Rattle.zb_model.specs.declared.record.Event.{Event}
use Rattle.zb_process.specs.declared.model.Node.{Node}
use Rattle.zb_views.specs.declared.definition.Definition.{Definition}
use Rattle.zb_views.specs.Definitions.{definitions, definition_for}
use Rattle.zb_rules.specs.Starts.{starting_definition}
use Rattle.zb_state.specs.declared.facts.Facts.{Facts}
use Rattle.zb_state.specs.Starts.{message_start_under}
use Rattle.zb_state.specs.State.{IsStateOf}
use Rattle.zb_state.proofs.StarterLemmas.{start_defined}
use Rattle.zb_state.proofs.state.State.starting_definition.Goals as goal
use Rattle.zb_state.proofs.state.State.starting_definition.Goals.{in_default-via-in-Some+else-eq, in_default-via-in_default}

-- the start event of the definition, if it has a message of the name
by_start : (es : List Event) (s : Facts) → IsStateOf es s → (name process : List ℕ) (key : ℕ) → Some key ≡ option_map (λ (d : Definition). d.key) (definition_for process 0 es)
    → (found : Option Node) → found ≡ message_start_under s.game key → (named : Bool) → option_map_or (λ (n : Node). bytes_eq n.name name) found false ≡ named
    → (if named then Some key else None) ≡ option_map (λ (d : Definition). d.key) (starting_definition name process es)
by_start es s is name process key asked found at named so =
    sym (start_defined es s is name process (Some key) asked
    ∙ (ap (λ (o : Option Node). if option_map_or (λ (n : Node). bytes_eq n.name name) o false then Some key else None) (sym at) ∙ ap (λ (t : Bool). if t then Some key else None) so))

pub returns-in-Some : goal.returns-in-Some
returns-in-Some c = λ es is.
    let name = c.args.name.now in
    let start = c.in-Some.start.now in
    by_start es c.args.self.now is name c.args.process.now c.in_ok-definition.definition (c.in_ok-definition.ensures (definitions es) (c.definitions.ensures es is)) (Some start) c.in-Some.ensures true
    (ap (λ (text : List ℕ). bytes_eq text name) (sym c.as_str.ensures) ∙ (sym c.eq.ensures ∙ c.if-eq.true))

pub returns-in_default : goal.returns-in_default
returns-in_default c = λ es is.
    let name = c.args.name.now in
    let asked = c.in_ok-definition.ensures (definitions es) (c.definitions.ensures es is) in
    elim c.in_default.branch [
      | in_default-via-in-Some+else-eq w ↦
          by_start es c.args.self.now is name c.args.process.now c.in_ok-definition.definition asked (Some w.in-Some.start.now) w.in-Some.ensures false
          (ap (λ (text : List ℕ). bytes_eq text name) (sym w.as_str.ensures) ∙ (sym w.eq.ensures ∙ w.if-eq.false))
      | in_default-via-in_default w ↦
          by_start es c.args.self.now is name c.args.process.now c.in_ok-definition.definition asked None w.in_default.ensures false refl
    ]

-- What is chosen at an exclusive gateway, in the subject's own words (BPMN 2.0.2, 13.4.2).
use Rattle.std.specs.Prelude.{◌≡◌, ◌⊎◌, ℕ, List, [], ◌∷◌, ◌++◌, filter, All, Contains, Bool, true, false, IsTrue, IsFalse, Option, Some, None, Ok, Err}
use Rattle.std.specs.Str.{bytes_eq}
use Rattle.zb_base.specs.declared.value.Value.{Value}
use Rattle.zb_base.specs.declared.value.Value.TheVariants as values
use Rattle.zb_process.specs.declared.model.Model.{Model}
use Rattle.zb_process.specs.declared.model.Node.{Node}
use Rattle.zb_process.specs.declared.model.Flow.{Flow}
use Rattle.zb_process.specs.Tree.{Tree}
use Rattle.zb_process.specs.Expr.{ValueFault, Kind, value_of}
use Rattle.zb_instance_records.specs.declared.happening.IncidentKind.TheVariants as kinds
use Rattle.zb_tokens.specs.declared.board.Cell.{Cell}
use Rattle.zb_faults.specs.Elements.{is_exclusive_gateway}
use Rattle.zb_tokens.specs.Board.{Board, model_under, node_with, owes_none}
use Rattle.zb_tokens.specs.Names.{value_seen}
use Rattle.zb_tokens.specs.Incidents.{Hindrance, hindrance_of}
use Rattle.zb_tokens.specs.Choice.{Gateway}

-- a cell is at an exclusive gateway of its model (BPMN 2.0.2, 10.6.2)
pub record IsAtGateway (b : Board) (c : Cell) (g : Gateway) : Type 0 where
  pub model : Model
  pub leaves : IsFalse (owes_none c)
  pub stands : model_under b c.definition ≡ Some model
  pub there : node_with model c.node ≡ Some g.node
  pub exclusive : IsTrue (is_exclusive_gateway g.node.kind)
  pub outs : g.outs ≡ filter (λ f. bytes_eq f.from c.node) model.flows

-- a flow has a condition, and this is its truth (BPMN 2.0.2, 10.4.2)
abbrev pub HasTruth : (List ℕ → Option Value) → Bool → Flow → Type 0
HasTruth names truth f = (condition : Tree) × (f.condition ≡ Some condition) × (value_of names condition ≡ Ok (values.Bool truth))

-- a flow has a condition, and this is its fault: it has no value, or one that is no truth (BPMN 2.0.2, 10.4.2)
abbrev pub HasFault : (List ℕ → Option Value) → ValueFault → Flow → Type 0
HasFault names fault f = (condition : Tree) × (f.condition ≡ Some condition) × ((value_of names condition ≡ Err fault)
    ⊎ ((value : Value) × (value_of names condition ≡ Ok value) × ((truth : Bool) → ¬ (value ≡ values.Bool truth)) × (fault ≡ Kind)))

-- a flow is the default that a gateway names (BPMN 2.0.2, 10.6.2)
abbrev pub IsDefault : Node → Flow → Type 0
IsDefault n f = (f.id ≡ n.otherwise) × ¬ (n.otherwise ≡ [])

-- each of these flows that isn't the default has a condition that is false (BPMN 2.0.2, 13.4.2)
abbrev pub AreFalse : (List ℕ → Option Value) → Node → List Flow → Type 0
AreFalse names n flows = All (λ f. IsDefault n f ⊎ HasTruth names false f) flows

-- the condition of a flow out of a gateway is evaluated: it isn't the default, and each in front of it but the default is
-- false (BPMN 2.0.2, 13.4.2)
pub record IsEvaluated (names : List ℕ → Option Value) (g : Gateway) (f : Flow) : Type 0 where
  pub front : List Flow
  pub back : List Flow
  pub whole : g.outs ≡ front ++ f ∷ back
  pub in_front : AreFalse names g.node front
  pub other : ¬ (IsDefault g.node f)

-- a flow is chosen: the first one whose condition is true or that has none, or the default where every other one is
-- false (BPMN 2.0.2, 13.4.2)
abbrev pub IsChoice : (List ℕ → Option Value) → Gateway → Flow → Type 0
IsChoice names g f = (IsEvaluated names g f × ((f.condition ≡ None) ⊎ HasTruth names true f))
    ⊎ (Contains g.outs f × IsDefault g.node f × AreFalse names g.node g.outs)

-- the flows owed at a gateway of a cell are one, which leaves its node and is chosen (BPMN 2.0.2, 13.4.2)
pub record IsChosen (b : Board) (c : Cell) (g : Gateway) (owed : List (List ℕ)) : Type 0 where
  pub flow : Flow
  pub alone : owed ≡ flow.id ∷ []
  pub leaves : flow.from ≡ c.node
  pub chosen : IsChoice (value_seen b c.key) g flow

-- no flow is chosen, and this is why: the condition of one that is evaluated has a fault, or each flow is false, and none is
-- the default (BPMN 2.0.2, 13.4.2; Zeebe, incidents)
abbrev pub IsUndecided : (List ℕ → Option Value) → Gateway → Hindrance → Type 0
IsUndecided names g hindrance = ((f : Flow) × (fault : ValueFault) × IsEvaluated names g f × HasFault names fault f × (hindrance ≡ hindrance_of fault))
    ⊎ (AreFalse names g.node g.outs × All (λ f. ¬ (IsDefault g.node f)) g.outs × (hindrance ≡ record { kind = kinds.ConditionError; text = g.node.id }))

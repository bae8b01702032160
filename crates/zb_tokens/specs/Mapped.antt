-- What mappings make, in the subject's own words (BPMN 2.0.2, 10.4.2; Zeebe, variable mappings).
use Rattle.std.specs.Prelude.{◌≡◌, ◌⊎◌, ℕ, List, [], ◌∷◌, ◌++◌, All, IsTrue, Option, Ok, Err}
use Rattle.std.specs.Result.{is_ok}
use Rattle.zb_base.specs.declared.value.Value.{Value}
use Rattle.zb_base.specs.declared.vars.Variable.{Variable}
use Rattle.zb_process.specs.declared.model.Mapping.{Mapping}
use Rattle.zb_process.specs.Expr.{ValueFault, value_of}
use Rattle.zb_tokens.specs.declared.board.Cell.{Cell}
use Rattle.zb_tokens.specs.Board.{Board}
use Rattle.zb_tokens.specs.Incidents.{Hindrance}
use Rattle.zb_tokens.specs.MoveLeave.{exit_of}
use Rattle.zb_tokens.specs.Mappings.{outputs_of}

-- a variable for each mapping, in order: under its target the value of its source. Names have the same values for all of them (BPMN 2.0.2, 10.4.2)
abbrev pub AreMapped : (List ℕ → Option Value) → List Mapping → List Variable → Type 0
AreMapped names [] [] = Unit {0}
AreMapped names (m ∷ ms) (v ∷ vs) = (v.name ≡ m.target) × (value_of names m.source ≡ Ok v.value) × AreMapped names ms vs
AreMapped names ms vs = ⊥

-- the first source of some mappings that has no value has this fault: each in front of it has a value (BPMN 2.0.2, 10.4.2; Zeebe, incidents)
pub record IsFirstFault (names : List ℕ → Option Value) (ms : List Mapping) (fault : ValueFault) : Type 0 where
  pub front : List Mapping
  pub mapping : Mapping
  pub back : List Mapping
  pub whole : ms ≡ front ++ mapping ∷ back
  pub in_front : All (λ m. IsTrue (is_ok (value_of names m.source))) front
  pub faulty : value_of names mapping.source ≡ Err fault

-- a cell can't complete, for this reason: its outputs have a fault, or they have none and it can't be left (BPMN 2.0.2, 13.3.2; Zeebe, incidents)
abbrev pub IsKeptBy : Board → Cell → Hindrance → Type 0
IsKeptBy b c hindrance = (outputs_of b c ≡ Err hindrance) ⊎ (IsTrue (is_ok (outputs_of b c)) × (exit_of b c ≡ Err hindrance))

-- Laws of what a cell sees, in the subject's own words.
use Rattle.std.proofs.Common.{◌≡◌, ℕ, List, [], ◌∷◌, ◌++◌, Bool, true, false, IsTrue, is_some, cond, if◌then◌else◌, Option, Some, None, option_and_then, refl, sym, ◌∙◌}
use Rattle.std.specs.Option.{option_or}
use Rattle.std.specs.List.{find, flat_map}
use Rattle.std.specs.Ordering.{is_eq}
use Rattle.zb_base.specs.declared.value.Value.{Value}
use Rattle.zb_base.specs.declared.vars.Variable.{Variable}
use Rattle.zb_base.specs.Vars.{order_of, is_ascending, value_named}
use Rattle.zb_base.proofs.VarsLaws.{value_of_set}
use Rattle.zb_base.proofs.VarsLemmas.{is_ascending-with_value}
use Rattle.zb_tokens.specs.declared.board.Cell.{Cell}
use Rattle.zb_tokens.specs.Board.{Board, up_from}
use Rattle.zb_tokens.specs.MoveAssign.{has_name}
use Rattle.zb_tokens.specs.Names.{overlaid, value_seen, visible}

named_by : (x : Value) (t : Bool) (a b c : Option Value) → c ≡ option_or a b → (if t then Some x else c) ≡ option_or (if t then Some x else a) b
named_by x true a b c is = refl
named_by x false a b c is = is

-- the value of a name among some variables and more behind them
pub value_of_both : (name : List ℕ) (vs more : List Variable) → value_named name (vs ++ more) ≡ option_or (value_named name vs) (value_named name more)
value_of_both name [] more = refl
value_of_both name (v ∷ vs) more = named_by v.value (is_eq (order_of name v.name)) (value_named name vs) (value_named name more) (value_named name (vs ++ more)) (value_of_both name vs more)

-- of one name the variable in front counts
pub value_of_overlaid : (name : List ℕ) (vs : List Variable) → value_named name (overlaid vs) ≡ value_named name vs
value_of_overlaid name [] = refl
value_of_overlaid name (v ∷ vs) = value_of_set name v.name v.value (overlaid vs) ∙ by_test (is_eq (order_of name v.name)) (value_of_overlaid name vs)
  where
    by_test : (t : Bool) → value_named name (overlaid vs) ≡ value_named name vs → (if t then Some v.value else value_named name (overlaid vs)) ≡ (if t then Some v.value else value_named name vs)
    by_test true later = refl
    by_test false later = later

ascends_overlaid : (vs : List Variable) → IsTrue (is_ascending (overlaid vs))
ascends_overlaid [] = refl
ascends_overlaid (v ∷ vs) = is_ascending-with_value v.name v.value (overlaid vs) (ascends_overlaid vs)

-- the value of a name among the variables of some cells is that in the first that has it
named_in : (name : List ℕ) (cells : List Cell) → value_named name (flat_map (λ c. c.variables) cells) ≡ option_and_then (λ c. value_named name c.variables) (find (has_name name) cells)
named_in name [] = refl
named_in name (c ∷ cells) = value_of_both name c.variables (flat_map (λ x. x.variables) cells) ∙ by_value (value_named name c.variables) refl (named_in name cells)
  where
    by_value : (own : Option Value) → value_named name c.variables ≡ own → value_named name (flat_map (λ x. x.variables) cells) ≡ option_and_then (λ x. value_named name x.variables) (find (has_name name) cells)
        → option_or own (value_named name (flat_map (λ x. x.variables) cells)) ≡ option_and_then (λ x. value_named name x.variables) (cond (is_some own) (Some c) (find (has_name name) cells))
    by_value None at later = later
    by_value (Some value) at later = sym at

module _ (b : Board) where
  -- among all that a cell sees each name has the value that the cell sees under it (BPMN 2.0.2, 10.4.1)
  pub visible_named : (cell : ℕ) (name : List ℕ) → value_named name (visible b cell) ≡ value_seen b cell name
  visible_named cell name = value_of_overlaid name (flat_map (λ c. c.variables) (up_from b.cells b cell)) ∙ named_in name (up_from b.cells b cell)

  -- and their names ascend (own)
  pub visible_ascends : (cell : ℕ) → IsTrue (is_ascending (visible b cell))
  visible_ascends cell = ascends_overlaid (flat_map (λ c. c.variables) (up_from b.cells b cell))

-- The runs of bodies in a log: which events begin them, and for which items they are (BPMN 2.0.2, 13.3.7).
use Rattle.std.specs.Prelude.{◌≡◌, ◌==◌, ◌+◌, ℕ, ℤ, pos, codes, List, [], ◌∷◌, slice_get, count_by, Bool, false, ◌&&◌, Some}
use Rattle.zb_base.specs.declared.value.Value.TheVariants as datums
use Rattle.zb_base.specs.declared.vars.Variable.{Variable}
use Rattle.zb_process.specs.declared.model.Model.{Model}
use Rattle.zb_process.specs.declared.model.Multi.{Multi}
use Rattle.zb_instance_records.specs.declared.instance.ElementActivating.{ElementActivating}
use Rattle.zb_instance_records.specs.declared.instance.Role.TheVariants as roles
use Rattle.zb_model.specs.declared.record.Event.{Event}
use Rattle.zb_model.specs.declared.record.Event.TheVariants as events
use Rattle.zb_tokens.specs.declared.board.Cell.{Cell}
use Rattle.zb_tokens.specs.Board.{Board, cell_at, model_under, is_role}
use Rattle.zb_tokens.specs.Bodies.{multi_at, run_variables_at}

-- an event by which a run begins in the body with a key (BPMN 2.0.2, 13.3.7)
abbrev pub begins_run : ℕ → Event → Bool
begins_run body (events.ElementActivating e) = (e.scope == body) && is_role e.role roles.Inner
begins_run body e = false

-- how many of these events do (own)
abbrev pub times_run : ℕ → List Event → ℕ
times_run body es = count_by (begins_run body) es

-- the variables of the run that begins after so many others, for an item (BPMN 2.0.2, 10.3.8: loopCounter and inputDataItem)
abbrev pub set_for : Multi → ℕ → ℤ → List Variable
set_for multi count item = record { name = codes "loopCounter"; value = datums.Int (pos (count + 1)) } ∷ record { name = multi.element; value = datums.Int item } ∷ []

-- on the board behind its event, a run that begins after so many others of its body is for the item of this place there (BPMN 2.0.2, 13.3.7)
pub record IsRunFor (b : Board) (run : ElementActivating) (count : ℕ) : Type 0 where
  pub body : Cell
  pub model : Model
  pub multi : Multi
  pub item : ℤ
  pub there : cell_at b run.scope ≡ Some body
  pub stands : model_under b body.definition ≡ Some model
  pub several : multi_at model body.node ≡ Some multi
  pub is_item : slice_get body.items count ≡ Some item
  pub sets : run_variables_at b run.key ≡ set_for multi count item

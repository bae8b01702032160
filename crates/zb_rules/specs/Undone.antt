-- Activities that finish in a log and can be undone, and the handlers that undo them (BPMN 2.0.2, 13.5.5).
use Rattle.std.specs.Prelude.{◌≡◌, ◌==◌, ◌+◌, ℕ, List, [], ◌∷◌, ◌++◌, Bool, false, ◌&&◌, if◌then◌else◌, Some}
use Rattle.std.specs.Option.{option_map_or}
use Rattle.zb_process.specs.declared.model.Model.{Model}
use Rattle.zb_instance_records.specs.declared.instance.ElementActivating.{ElementActivating}
use Rattle.zb_instance_records.specs.declared.instance.Role.TheVariants as roles
use Rattle.zb_model.specs.declared.record.Event.{Event}
use Rattle.zb_model.specs.declared.record.Event.TheVariants as events
use Rattle.zb_tokens.specs.declared.board.Cell.{Cell}
use Rattle.zb_tokens.specs.Board.{Board, cell_at, model_under, is_role}
use Rattle.zb_tokens.specs.Handlers.{can_be_undone, handler_of}
use Rattle.zb_rules.specs.Shown.{holds_of_game}

-- on the board before it an event completes an activity in this scope which can be undone from then on (BPMN 2.0.2, 13.5.5)
abbrev pub finishes_in : ℕ → Event → Board → Bool
finishes_in scope (events.ElementCompleted e) b = option_map_or (λ c. (c.scope == scope) && can_be_undone b c) (cell_at b e.key) false
finishes_in scope e b = false

-- on the board before it an event begins a handler in a compensation event of this scope (BPMN 2.0.2, 10.7.2)
abbrev pub undoes_in : ℕ → Event → Board → Bool
undoes_in scope (events.ElementActivating e) b = is_role e.role roles.Handler && option_map_or (λ c. c.scope == scope) (cell_at b e.scope) false
undoes_in scope e b = false

-- how many of some events do this, each of them behind those before it (own)
abbrev pub times_from : (Event → Board → Bool) → List Event → List Event → ℕ
times_from does before [] = 0
times_from does before (e ∷ es) = (if holds_of_game (does e) before then 1 else 0) + times_from does (before ++ e ∷ []) es

-- how many activities that can be undone have finished in a scope (own)
abbrev pub times_finished : ℕ → List Event → ℕ
times_finished scope es = times_from (finishes_in scope) [] es

-- how many handlers have begun in compensation events of a scope (own)
abbrev pub times_undone : ℕ → List Event → ℕ
times_undone scope es = times_from (undoes_in scope) [] es

-- a handler that begins undoes the activity that finished last in the scope of its event: it is the handler of that, which isn't among the finished ones behind it (BPMN 2.0.2, 10.7.2 and 13.5.5)
pub record IsOfLast (b after : Board) (handler : ElementActivating) : Type 0 where
  pub event : Cell
  pub scope : Cell
  pub later : Cell
  pub model : Model
  pub activity : List ℕ
  pub there : cell_at b handler.scope ≡ Some event
  pub around : cell_at b event.scope ≡ Some scope
  pub behind : cell_at after event.scope ≡ Some later
  pub stands : model_under b event.definition ≡ Some model
  pub is_its : handler_of model activity ≡ Some handler.node
  pub is_last : scope.finished ≡ later.finished ++ activity ∷ []

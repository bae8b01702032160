-- Compensation: activities that have finished, and the handlers that undo them (BPMN 2.0.2, 10.7 and 13.5.5).
use Rattle.std.specs.Prelude.{ℕ, ◌-◌, List, filter, length, slice_get, Bool, false, ◌&&◌, not, is_some, if◌then◌else◌, Option, None, option_map, option_and_then}
use Rattle.std.specs.Option.{option_map_or}
use Rattle.std.specs.List.{find}
use Rattle.zb_process.specs.declared.model.Model.{Model}
use Rattle.zb_faults.specs.Elements.{is_activity, is_boundary_of, is_compensation_boundary}
use Rattle.zb_tokens.specs.declared.board.Cell.{Cell}
use Rattle.zb_tokens.specs.Board.{Board, cell_at, model_under, is_at, owes_none, undoes}

-- the handler of an activity: the one that the compensation event at its boundary names (BPMN 2.0.2, 10.7.1)
abbrev pub handler_of : Model → List ℕ → Option (List ℕ)
handler_of m id = option_map (λ n. n.name) (find (λ n. is_compensation_boundary n.kind) (filter (is_boundary_of id) m.nodes))

-- an activity of a model can be undone: it has a handler (BPMN 2.0.2, 10.7.1)
abbrev pub has_handler_at : Model → List ℕ → Bool
has_handler_at m id = is_at m id is_activity && is_some (handler_of m id)

-- a cell can be undone once it has finished: it runs such an activity as a whole, and is no run of a body, and no handler itself (BPMN 2.0.2, 10.7.1 and 13.5.5)
abbrev pub can_be_undone : Board → Cell → Bool
can_be_undone b c = not (owes_none c) && option_map_or (λ m. has_handler_at m c.node) (model_under b c.definition) false

-- the activity that finished last in a scope, of those that no handler has undone (BPMN 2.0.2, 13.5.5)
abbrev pub last_finished : Cell → Option (List ℕ)
last_finished c = slice_get c.finished (length c.finished - 1)

-- the handler of that activity, in a model
abbrev pub last_handler : Model → Cell → Option (List ℕ)
last_handler m scope = option_and_then (handler_of m) (last_finished scope)

-- the handler that a cell runs next, if it is at a compensation event, and one is left in its scope (BPMN 2.0.2, 10.7.2 and 13.5.5: in the reverse order in which the activities finished)
abbrev pub next_handler : Board → Cell → Option (List ℕ)
next_handler b c = option_and_then (λ m. if undoes m c then option_and_then (last_handler m) (cell_at b c.scope) else None) (model_under b c.definition)

-- such a handler is left
abbrev pub has_handler : Board → Cell → Bool
has_handler b c = is_some (next_handler b c)

-- Which moves events show, and the game of a log.
use Rattle.std.specs.Prelude.{ℕ, ◌==◌, List, [], ◌∷◌, ◌++◌, Bool, false, if◌then◌else◌, Option, Some, None, map, option_map, option_and_then}
use Rattle.std.specs.List.{find}
use Rattle.std.specs.Option.{option_map_or}
use Rattle.zb_instance_records.specs.declared.instance.ElementActivating.{ElementActivating}
use Rattle.zb_instance_records.specs.declared.instance.Role.{Role}
use Rattle.zb_instance_records.specs.declared.instance.Role.TheVariants as roles
use Rattle.zb_model.specs.declared.record.Event.{Event}
use Rattle.zb_model.specs.declared.record.Event.TheVariants as events
use Rattle.zb_tokens.specs.declared.board.Move.{Move}
use Rattle.zb_tokens.specs.declared.board.Move.TheVariants as moves
use Rattle.zb_views.specs.declared.job.Job.{Job}
use Rattle.zb_views.specs.Jobs.{jobs}
use Rattle.zb_views.specs.declared.definition.Definition.{Definition}
use Rattle.zb_tokens.specs.declared.board.Deployed.{Deployed}
use Rattle.zb_tokens.specs.declared.board.Cell.{Cell}
use Rattle.zb_tokens.specs.Board.{Board, cell_at, model_under}
use Rattle.zb_tokens.specs.Bodies.{role_at}
use Rattle.zb_tokens.specs.Game.{empty_board, played}

-- the move that shows by a cell that begins in another: a body begins a run, a compensation event runs a handler, or a token enters a node (BPMN 2.0.2, 13.3.2, 13.3.7 and 13.5.5)
abbrev pub move_of_cell : ElementActivating → Role → Move
move_of_cell e roles.Inner = moves.Inner (record { key = e.key; body = e.scope })
move_of_cell e roles.Handler = moves.Undo (record { key = e.key; event = e.scope; node = e.node })
move_of_cell e role = moves.Enter (record { key = e.key; scope = e.scope; node = e.node; via = e.via })

-- the move that an event shows, these being the jobs that are there, which say whose job it names; others show none
abbrev pub shown_by : List Job → Event → Option Move
shown_by js (events.ProcessCreated e) = Some (moves.Stand (record { key = e.key; version = e.version; model = e.model }))
shown_by js (events.ElementActivating e) = if e.scope == 0 then Some (moves.Start (record { key = e.key; definition = e.definition }))
    else Some (move_of_cell e e.role)
shown_by js (events.ElementActivated e) = Some (moves.Open (record { key = e.key; items = e.items }))
shown_by js (events.ElementCompleting key) = Some (moves.Finish key)
shown_by js (events.ElementCompleted e) = Some (moves.Leave (record { key = e.key; owed = e.owed }))
shown_by js (events.ElementTerminating key) = Some (moves.Halt key)
shown_by js (events.ElementTerminated key) = Some (moves.Gone key)
shown_by js (events.SequenceFlowTaken e) = Some (moves.Take (record { key = e.key; flow = e.flow }))
shown_by js (events.VariableCreated e) = Some (moves.Assign (record { scope = e.scope; name = e.name; value = e.value }))
shown_by js (events.VariableUpdated e) = Some (moves.Update (record { scope = e.scope; name = e.name; value = e.value }))
shown_by js (events.JobCompleted key) = option_map (λ j. moves.Done j.cell) (find (λ j. j.key == key) js)
shown_by js (events.JobErrorThrown e) = option_map (λ j. moves.Throw (record { cell = j.cell; code = e.code })) (find (λ j. j.key == e.key) js)
shown_by js (events.ProcessEventTriggered e) = Some (moves.Trigger (record { cell = e.cell; node = e.node }))
shown_by js (events.IncidentCreated e) = Some (moves.Incident (record { key = e.key; kind = e.kind; cell = e.cell; job = e.job; text = e.text }))
shown_by js (events.IncidentResolved e) = Some (moves.Repair e.key)
shown_by js _ = None

-- the move that an event shows behind those before it
abbrev pub shown : List Event → Event → Option Move
shown before e = shown_by (jobs before) e

-- the board after the move that an event shows, if it shows one
abbrev pub after_shown : Board → Option Move → Option Board
after_shown b None = Some b
after_shown b (Some move) = played b move

-- the board after some events, from the board of those before them
abbrev pub board_from : List Event → Board → List Event → Option Board
board_from before b [] = Some b
board_from before b (e ∷ es) = option_and_then (λ after. board_from (before ++ e ∷ []) after es) (after_shown b (shown before e))

-- the game of a log: the board after its events
abbrev pub board_of : List Event → Option Board
board_of es = board_from [] empty_board es

-- this holds of the game of the events
abbrev pub holds_of_game : (Board → Bool) → List Event → Bool
holds_of_game holds es = option_map_or holds (board_of es) false

-- the role of a cell that a token begins at a node in a scope, by the model of that (BPMN 2.0.2, 13.3.7)
abbrev pub role_on : Board → Cell → List ℕ → Role
role_on b c node = option_map_or (λ m. role_at m node) (model_under b c.definition) roles.Plain

-- the event that shows a forced move
abbrev pub event_of : Board → Move → Option Event
event_of b (moves.Stand d) = None
event_of b (moves.Start s) = None
event_of b (moves.Enter e) = option_map (λ c. events.ElementActivating (record { key = e.key; scope = e.scope; definition = c.definition; node = e.node; role = role_on b c e.node; via = e.via; started = [] })) (cell_at b e.scope)
event_of b (moves.Inner i) = option_map (λ c. events.ElementActivating (record { key = i.key; scope = i.body; definition = c.definition; node = c.node; role = roles.Inner; via = []; started = [] })) (cell_at b i.body)
event_of b (moves.Undo u) = option_map (λ c. events.ElementActivating (record { key = u.key; scope = u.event; definition = c.definition; node = u.node; role = roles.Handler; via = []; started = [] })) (cell_at b u.event)
event_of b (moves.Open o) = Some (events.ElementActivated (record { key = o.key; items = o.items }))
event_of b (moves.Finish key) = Some (events.ElementCompleting key)
event_of b (moves.Leave l) = Some (events.ElementCompleted (record { key = l.key; owed = l.owed }))
event_of b (moves.Take t) = Some (events.SequenceFlowTaken (record { key = t.key; flow = t.flow }))
event_of b (moves.Halt key) = Some (events.ElementTerminating key)
event_of b (moves.Gone key) = Some (events.ElementTerminated key)
event_of b (moves.Assign a) = None
event_of b (moves.Update a) = None
event_of b (moves.Done key) = None
event_of b (moves.Throw t) = None
event_of b (moves.Trigger t) = Some (events.ProcessEventTriggered (record { cell = t.cell; node = t.node }))
event_of b (moves.Incident i) = Some (events.IncidentCreated (record { key = i.key; kind = i.kind; cell = i.cell; job = i.job; text = i.text }))
event_of b (moves.Repair key) = None

-- the definition that a model on a board is of (own)
abbrev pub definition_of_model : Deployed → Definition
definition_of_model d = record { key = d.key; version = d.version; process = d.model.process }

-- the definitions whose models stand on a board (own)
abbrev pub definitions_on : Board → List Definition
definitions_on b = map definition_of_model b.models

-- the model that an event puts on the board, if it does
abbrev pub models_told : Event → List Deployed
models_told (events.ProcessCreated e) = record { key = e.key; version = e.version; model = e.model } ∷ []
models_told _ = []

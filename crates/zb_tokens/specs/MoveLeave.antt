-- A cell has completed, and a token is to go out on each of the flows that it owes (BPMN 2.0.2, 13.3.1 and 13.4.2).
use Rattle.std.specs.Prelude.{ℕ, ◌==◌, List, [], ◌∷◌, ◌++◌, map, filter, Bool, true, false, ◌&&◌, ◌||◌, not, is_some, if◌then◌else◌, Option, option_map, option_and_then, Result, Ok, Err}
use Rattle.std.specs.Option.{option_map_or}
use Rattle.std.specs.Str.{bytes_eq}
use Rattle.zb_base.specs.Results.{◌>>=◌}
use Rattle.zb_process.specs.declared.model.Model.{Model}
use Rattle.zb_process.specs.declared.model.Flow.{Flow}
use Rattle.zb_faults.specs.Elements.{is_event_gateway, is_terminate_end}
use Rattle.zb_tokens.specs.Edits.{edited, removed}
use Rattle.zb_tokens.specs.declared.board.Cell.{Cell}
use Rattle.zb_tokens.specs.declared.board.Leave.{Leave}
use Rattle.zb_tokens.specs.declared.board.Mark.{Mark}
use Rattle.zb_tokens.specs.declared.board.Mark.TheVariants as marks
use Rattle.zb_tokens.specs.declared.board.Phase.TheVariants as phases
use Rattle.zb_tokens.specs.Board.{Board, cell_at, model_under, is_at, is_phase, is_root, in_phase, emptied, owes_none}
use Rattle.zb_tokens.specs.Handlers.{can_be_undone}
use Rattle.zb_tokens.specs.Names.{value_seen}
use Rattle.zb_tokens.specs.Incidents.{Hindrance}
use Rattle.zb_tokens.specs.Choice.{gateway_of, choice_at}
use Rattle.zb_tokens.specs.Mappings.{outputs_of}

-- a flow leads to the node at which the event of an event gateway has come (BPMN 2.0.2, 10.6.6)
abbrev pub leads_to_chosen : Mark → Flow → Bool
leads_to_chosen (marks.Chosen node) f = bytes_eq f.to node
leads_to_chosen mark f = false

-- a flow out of the node of a cell may be taken: at an event gateway the one to the node whose event has come, at any other node each (BPMN 2.0.2, 13.3.1 and 13.4.3)
abbrev pub may_take : (at_event_gateway : Bool) → Cell → Flow → Bool
may_take at_event_gateway c f = not at_event_gateway || leads_to_chosen c.mark f

-- the flows that may be taken out of the node of a cell, in the order of the model (BPMN 2.0.2, 13.3.1 and 13.4.3)
abbrev pub flows_on : Model → Cell → List (List ℕ)
flows_on m c = map (λ f. f.id) (filter (may_take (is_at m c.node is_event_gateway) c) (filter (λ f. bytes_eq f.from c.node) m.flows))

-- the same by its model; a root has none, nor has a run of a body or a handler (BPMN 2.0.2, 13.3.7 and 13.5.5)
abbrev pub flows_of : Board → Cell → List (List ℕ)
flows_of b c = if owes_none c then [] else option_map_or (λ m. flows_on m c) (model_under b c.definition) []

-- these ids are among those, in the same order
abbrev pub are_among : List (List ℕ) → List (List ℕ) → Bool
are_among [] ys = true
are_among (x ∷ xs) [] = false
are_among (x ∷ xs) (y ∷ ys) = if bytes_eq x y then are_among xs ys else are_among (x ∷ xs) ys

-- two lists of ids are the same
abbrev pub ids_eq : List (List ℕ) → List (List ℕ) → Bool
ids_eq [] [] = true
ids_eq (x ∷ xs) (y ∷ ys) = bytes_eq x y && ids_eq xs ys
ids_eq xs ys = false

-- there is one of these, and no other
abbrev pub is_single : List (List ℕ) → Bool
is_single (x ∷ []) = true
is_single xs = false

-- a cell may owe these flows: they may go out of its node, and are one at an exclusive gateway (BPMN 2.0.2, 13.3.1 and 13.4.2)
abbrev pub may_owe : Board → Cell → List (List ℕ) → Bool
may_owe b c owed = are_among owed (flows_of b c) && (if is_some (gateway_of b c) then is_single owed else true)

-- the flows by which a cell is left, or why it can't be: the chosen one at an exclusive gateway, or else all that may go out
-- of its node (BPMN 2.0.2, 13.3.1, 13.4.2 and 13.4.3)
abbrev pub exit_of : Board → Cell → Result (List (List ℕ)) Hindrance
exit_of b c = option_map_or (λ g. choice_at (value_seen b c.key) g >>= (λ f. Ok (f.id ∷ []))) (gateway_of b c) (Ok (flows_of b c))

-- how a cell completes: once its outputs are evaluated, by which flows it is left, or why it can't go on (BPMN 2.0.2, 10.4.2 and 13.3.2)
abbrev pub completion_of : Board → Cell → Result (List (List ℕ)) Hindrance
completion_of b c = outputs_of b c >>= (λ vs. exit_of b c)

-- these flows are the outcome
abbrev pub are_exit : List (List ℕ) → Result (List (List ℕ)) Hindrance → Bool
are_exit owed (Ok flows) = ids_eq owed flows
are_exit owed (Err hindrance) = false

-- when, but for what is evaluated: it is completing, and may owe these flows (BPMN 2.0.2, 13.3.1 and 13.4.2)
abbrev pub fits_leave : Board → Leave → Bool
fits_leave b l = option_map_or (λ c. is_phase c.phase phases.Completing && may_owe b c l.owed) (cell_at b l.key) false

-- what is evaluated: its outputs have values, and it is left by these flows (BPMN 2.0.2, 13.3.1, 13.3.2 and 13.4.2)
abbrev pub agrees_leave : Board → Leave → Bool
agrees_leave b l = option_map_or (λ c. are_exit l.owed (completion_of b c)) (cell_at b l.key) false

-- the board where a cell owes these flows and is leaving; where there are none, it is gone
abbrev pub leaving : List (List ℕ) → ℕ → Board → Option Board
leaving [] key b = option_map (λ cells. record b { cells = cells }) (removed (λ c. c.key == key) b.cells)
leaving (flow ∷ owed) key b = option_map (λ cells. record b { cells = cells }) (edited (λ c. c.key == key) (in_phase phases.Leaving (flow ∷ owed)) b.cells)

-- a cell at a terminate end event ends its scope as it leaves (BPMN 2.0.2, 13.5.6)
abbrev pub ends_scope : Board → Cell → Bool
ends_scope b c = not (is_root c) && option_map_or (λ m. is_at m c.node is_terminate_end) (model_under b c.definition) false

-- the cell, which a terminate end event ends
abbrev pub with_end : Cell → Cell
with_end c = record c { ending = true }

-- the board on which a scope is ended, and empty of tokens and of cells that leave (BPMN 2.0.2, 13.5.6)
abbrev pub scope_ended : ℕ → Board → Board
scope_ended scope b = emptied scope (record b { cells = option_map_or (λ cells. cells) (edited (λ c. c.key == scope) with_end b.cells) b.cells })

-- the cell, in which an activity has finished that can be undone
abbrev pub with_finished : List ℕ → Cell → Cell
with_finished node c = record c { finished = c.finished ++ node ∷ [] }

-- the board on which an activity has finished in a scope (BPMN 2.0.2, 13.5.5)
abbrev pub noted_finished : ℕ → List ℕ → Board → Board
noted_finished scope node b = record b { cells = option_map_or (λ cells. cells) (edited (λ c. c.key == scope) (with_finished node) b.cells) b.cells }

-- what a cell makes of its scope as it leaves: a terminate end event ends it; in it an activity has finished that can be undone (BPMN 2.0.2, 13.5.5 and 13.5.6)
abbrev pub left_behind : Board → Cell → Board → Board
left_behind b c left = if ends_scope b c then scope_ended c.scope left else if can_be_undone b c then noted_finished c.scope c.node left else left

-- effect: it owes them and is leaving; it is gone where there are none. A terminate end event ends its scope, and an activity that can be undone is kept there (BPMN 2.0.2, 13.3.1, 13.5.5 and
-- 13.5.6)
abbrev pub play_leave : Board → Leave → Option Board
play_leave b l = option_and_then (λ c. option_map (left_behind b c) (leaving l.owed l.key b)) (cell_at b l.key)

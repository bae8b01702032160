-- The cells that bodies and compensation events begin next, in the words of a state (BPMN 2.0.2, 13.3.7 and 13.5.5).
use Rattle.std.specs.Prelude.{ℕ, List, if◌then◌else◌, Option, None, option_and_then}
use Rattle.zb_model.specs.declared.record.Event.{Event}
use Rattle.zb_views.specs.View.{next_key}
use Rattle.zb_tokens.specs.declared.board.Move.{Move}
use Rattle.zb_tokens.specs.declared.board.Move.TheVariants as moves
use Rattle.zb_tokens.specs.Board.{Board, cell_at}
use Rattle.zb_tokens.specs.Game.{fits}
use Rattle.zb_tokens.specs.Handlers.{next_handler}
use Rattle.zb_rules.specs.Shown.{board_of, event_of}

-- the event that shows a move on a board, where the move fits it (own)
abbrev pub fitting_event : Board → Move → Option Event
fitting_event b move = if fits b move then event_of b move else None

-- the event by which the body with a key begins its next run under another key on a board, where it may begin one (BPMN 2.0.2, 13.3.7)
abbrev pub inner_event : (key body : ℕ) → Board → Option Event
inner_event key body b = fitting_event b (moves.Inner (record { key = key; body = body }))

-- the event by which a compensation event with a key runs its next handler under another key on a board, where it may run one (BPMN 2.0.2, 10.7.2 and 13.5.5)
abbrev pub undo_event : (key event : ℕ) → Board → Option Event
undo_event key event b = option_and_then (λ c. option_and_then (λ node. fitting_event b (moves.Undo (record { key = key; event = event; node = node }))) (next_handler b c)) (cell_at b event)

-- the event by which the body with a key begins its next run behind these events of partition p, under the next key, where it may begin one (BPMN 2.0.2, 13.3.7)
abbrev pub next_inner : (p : ℕ) → List Event → (body : ℕ) → Option Event
next_inner p es body = option_and_then (inner_event (next_key p es) body) (board_of es)

-- the event by which the compensation event with a key runs its next handler behind these events of partition p, under the next key, where it may run one (BPMN 2.0.2, 10.7.2 and 13.5.5)
abbrev pub next_undo : (p : ℕ) → List Event → (event : ℕ) → Option Event
next_undo p es event = option_and_then (undo_event (next_key p es) event) (board_of es)

-- How a cell becomes active, in the words of the player's own functions.
use Rattle.std.specs.Prelude.{ℕ, ℤ, List, Option, Some, Result, Ok}
use Rattle.zb_base.specs.Results.{◌>>=◌}
use Rattle.zb_base.specs.declared.value.Value.{Value}
use Rattle.zb_base.specs.declared.vars.Variable.{Variable}
use Rattle.zb_process.specs.Expr.{ValueFault, value_of}
use Rattle.zb_process.specs.Tree.{Tree}
use Rattle.zb_process.specs.declared.model.Model.{Model}
use Rattle.zb_process.specs.declared.model.Node.{Node}
use Rattle.zb_tokens.specs.declared.board.Awaited.{Awaited}
use Rattle.zb_tokens.specs.declared.board.Awaited.TheVariants as awaiteds
use Rattle.zb_tokens.specs.declared.board.AwaitedMessage.{AwaitedMessage}
use Rattle.zb_tokens.specs.declared.board.Cell.{Cell}
use Rattle.zb_tokens.specs.declared.board.Opening.{Opening}
use Rattle.zb_tokens.specs.Board.{Board}
use Rattle.zb_tokens.specs.Bodies.{items_told}
use Rattle.zb_tokens.specs.Catches.{items_of, key_told, openings_by, seen_with, text_told, value_given, waits_once}
use Rattle.zb_tokens.specs.Incidents.{Hindrance}
use Rattle.zb_tokens.specs.Names.{value_seen}

-- the text of a time, where names have these values
abbrev pub text_given : (List ℕ → Option Value) → Option Tree → Result (List ℕ) ValueFault
text_given names time = value_given names time >>= text_told

-- the items of a collection, where names have these values
abbrev pub items_given : (List ℕ → Option Value) → Tree → Result (List ℤ) ValueFault
items_given names collection = value_of names collection >>= items_told

-- the items of a cell, where what opens for it can
abbrev pub items_kept : Result (List Opening) Hindrance → List ℤ → Result (List ℤ) Hindrance
items_kept openings items = openings >>= (λ os. Ok items)

-- the items that a cell keeps as it becomes active with these inputs, where its timers and subscriptions can open too at this moment
abbrev pub opened_over : List Variable → Board → ℕ → Cell → Result (List ℤ) Hindrance
opened_over vs b moment c = items_of (seen_with vs (value_seen b c.key)) b c >>= (λ items. items_kept (openings_by (seen_with vs (value_seen b c.key)) b moment c) items)

-- the correlation key that an expression gives, where names have these values
abbrev pub key_given : (List ℕ → Option Value) → Option Tree → Result (List ℕ) ValueFault
key_given names key = value_given names key >>= key_told

-- the message with a correlation key for which a cell of a model waits at a node
abbrev pub message_with : Model → Node → List ℕ → AwaitedMessage
message_with m n key = record { name = n.name; correlation_key = key; process = m.process; cancel = waits_once n }

-- the event that a message is, or why there is none
abbrev pub told_by : Result AwaitedMessage Hindrance → Result (Option Awaited) Hindrance
told_by r = r >>= (λ message. Ok (Some (awaiteds.Message message)))

-- the event that a moment is, or why there is none
abbrev pub timed_by : Result ℕ Hindrance → Result (Option Awaited) Hindrance
timed_by r = r >>= (λ due. Ok (Some (awaiteds.Time due)))

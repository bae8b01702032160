-- A cell becomes active (BPMN 2.0.2, 13.3.2), once its inputs are evaluated; a scope gets a token before its start event.
use Rattle.std.specs.Prelude.{ℕ, ℤ, ◌==◌, List, [], ◌∷◌, ◌++◌, Bool, true, false, ◌&&◌, ◌||◌, is_some, if◌then◌else◌, Option, Result, Ok, Err, option_map, option_and_then}
use Rattle.std.specs.Option.{option_map_or}
use Rattle.std.specs.Ordering.{int_eq}
use Rattle.zb_process.specs.declared.model.Model.{Model}
use Rattle.zb_tokens.specs.Edits.{edited, is_none_of}
use Rattle.zb_tokens.specs.declared.board.Cell.{Cell}
use Rattle.zb_tokens.specs.declared.board.Open.{Open}
use Rattle.zb_tokens.specs.declared.board.Token.{Token}
use Rattle.zb_tokens.specs.declared.board.Spot.TheVariants as spots
use Rattle.zb_tokens.specs.declared.board.Phase.TheVariants as phases
use Rattle.zb_tokens.specs.Board.{Board, cell_at, model_under, start_in, is_body, is_phase, holds_tokens, scope_id}
use Rattle.zb_tokens.specs.Catches.{opened_with}
use Rattle.zb_tokens.specs.Incidents.{Hindrance}

-- the token before the start event of a scope; any other cell gets none (BPMN 2.0.2, 13.2 and 13.3.4)
abbrev pub start_tokens : Cell → Model → List Token
start_tokens c m = if holds_tokens m c then option_map_or (λ n. record { scope = c.key; spot = spots.BeforeNode n.id } ∷ []) (start_in m (scope_id c)) [] else []

-- the tokens that a cell gets; None where its model isn't there
abbrev pub first_tokens : Board → Cell → Option (List Token)
first_tokens b c = option_map (start_tokens c) (model_under b c.definition)

-- the model of a cell is there, and tells which tokens it gets
abbrev pub opens : Board → Cell → Bool
opens b c = is_some (model_under b c.definition)

-- when, but for what is evaluated: it is activating, its model is there, and it keeps items only where it is a body (BPMN 2.0.2, 13.3.2 and 13.3.7)
abbrev pub fits_open : Board → Open → Bool
fits_open b o = option_map_or (λ c. is_phase c.phase phases.Activating && (opens b c && (is_body c || is_none_of o.items))) (cell_at b o.key) false

-- two lists of items are the same
abbrev pub items_eq : List ℤ → List ℤ → Bool
items_eq [] [] = true
items_eq (x ∷ xs) (y ∷ ys) = int_eq x y && items_eq xs ys
items_eq xs ys = false

-- these items are what is evaluated
abbrev pub are_items : List ℤ → Result (List ℤ) Hindrance → Bool
are_items items (Ok given) = items_eq items given
are_items items (Err hindrance) = false

-- what is evaluated: its inputs have values, these are its items, and its timers can open at this moment (BPMN 2.0.2, 10.4.2, 13.3.2, 13.3.7 and 13.5.3)
abbrev pub agrees_open : Board → ℕ → Open → Bool
agrees_open b moment o = option_map_or (λ c. are_items o.items (opened_with b moment c)) (cell_at b o.key) false

-- the cell, which has become active, and keeps these items
abbrev pub with_items : List ℤ → Cell → Cell
with_items items c = record c { phase = phases.Active; items = items }

-- effect: it is active, and keeps the items (BPMN 2.0.2, 13.3.2 and 13.3.7; a process: 13.2)
abbrev pub play_open : Board → Open → Option Board
play_open b o = option_and_then (λ c. option_and_then (λ tokens. option_map (λ cells. record b { cells = cells; tokens = b.tokens ++ tokens })
    (edited (λ x. x.key == o.key) (with_items o.items) b.cells)) (first_tokens b c)) (cell_at b o.key)

-- Which moves a mover makes, and that each has an event.
use Rattle.std.proofs.Common.{◌≡◌, ℕ, ℤ, ◌+◌, ◌≤◌, ◌==◌, List, [], ◌∷◌, ◌++◌, Bool, true, false, ◌&&◌, if◌then◌else◌, IsTrue, is_some, Option, Some, None, option_map, option_and_then, Result, Ok, Err, refl, subst, arith}
use Rattle.std.specs.List.{find}
use Rattle.std.specs.Option.{option_map_or, ok_or}
use Rattle.std.specs.Result.{result_map_both}
use Rattle.std.proofs.lemmas.Bool.Decides.{nat_tests}
use Rattle.zb_base.specs.Results.{◌>>=◌}
use Rattle.zb_base.specs.declared.value.Value.{Value}
use Rattle.zb_process.specs.declared.model.Flow.{Flow}
use Rattle.zb_process.specs.declared.model.Model.{Model}
use Rattle.zb_process.specs.declared.model.Node.{Node}
use Rattle.zb_process.specs.declared.model.Multi.{Multi}
use Rattle.zb_process.specs.Expr.{ValueFault, value_of}
use Rattle.zb_duration.specs.Due.{due_of}
use Rattle.zb_duration.specs.declared.fault.DueFault.{DueFault}
use Rattle.zb_duration.specs.declared.form.TimeForm.{TimeForm}
use Rattle.zb_tokens.specs.Catches.{time_form, is_message_event, time_hindrance, text_told, key_told, value_given, due_by, waits_once, message_by, event_by, opened_at, awaited, openings_in, openings_by, items_of, seen_with, opened_with}
use Rattle.zb_tokens.specs.Bodies.{multi_at, has_item, items_told, items_by}
use Rattle.zb_tokens.specs.Handlers.{next_handler}
use Rattle.zb_tokens.specs.MoveInner.{runs_next}
use Rattle.zb_tokens.specs.MoveUndo.{runs_handler}
use Rattle.zb_tokens.specs.declared.board.Awaited.TheVariants as awaiteds
use Rattle.zb_tokens.specs.declared.board.AwaitedMessage.{AwaitedMessage}
use Rattle.zb_instance_records.specs.declared.happening.IncidentKind.TheVariants as kinds
use Rattle.zb_tokens.specs.declared.board.Cell.{Cell}
use Rattle.zb_tokens.specs.declared.board.Token.{Token}
use Rattle.zb_tokens.specs.declared.board.Move.{Move}
use Rattle.zb_tokens.specs.declared.board.Move.TheVariants as moves
use Rattle.zb_tokens.specs.declared.board.Mover.{Mover}
use Rattle.zb_tokens.specs.declared.board.Mover.TheVariants as movers
use Rattle.zb_tokens.specs.declared.board.Phase.{Phase}
use Rattle.zb_tokens.specs.declared.board.Phase.TheVariants as phases
use Rattle.zb_tokens.specs.Board.{Board, CellsAscend, cell_at, model_under, is_body}
use Rattle.zb_tokens.specs.Doom.{is_doomed}
use Rattle.zb_tokens.specs.Game.{fits}
use Rattle.zb_tokens.proofs.GameLaws.{holds_some, mapped_some}
use Rattle.zb_tokens.specs.Incidents.{Hindrance, hindrance_of}
use Rattle.zb_tokens.specs.declared.board.Triggered.{Triggered}
use Rattle.zb_tokens.specs.Errors.{caught}
use Rattle.zb_tokens.specs.Marks.{error_of}
use Rattle.zb_tokens.specs.Names.{value_seen}
use Rattle.zb_tokens.specs.Choice.{Gateway, gateway_of, truth_at, is_default, decides, decided, by_default, choice_at}
use Rattle.zb_tokens.specs.Mappings.{inputs_of, node_of, outputs_of}
use Rattle.zb_tokens.specs.MoveLeave.{flows_of, exit_of, completion_of}
use Rattle.zb_tokens.specs.Forced.{open_by, leave_by, catch_by, undo_by, finish_by, move_in, end_in, move_at, take_first, move_of, way_of}
use Rattle.zb_rules.specs.Shown.{event_of}
use Rattle.zb_rules.specs.JobEvents.{tells_of_job}

-- the moves that a mover makes, where a new cell or an incident gets this key
abbrev pub IsMade : ℕ → Move → Type 0
IsMade key (moves.Stand d) = ⊥
IsMade key (moves.Start s) = ⊥
IsMade key (moves.Assign a) = ⊥
IsMade key (moves.Update a) = ⊥
IsMade key (moves.Done cell) = ⊥
IsMade key (moves.Throw t) = ⊥
IsMade key (moves.Repair other) = ⊥
IsMade key (moves.Enter e) = e.key ≡ key
IsMade key (moves.Inner i) = i.key ≡ key
IsMade key (moves.Undo u) = u.key ≡ key
IsMade key (moves.Incident i) = (i.key ≡ key) × (i.job ≡ 0) × (tells_of_job i.kind ≡ false)
IsMade key _ = Unit {0}

some_made : (key : ℕ) (a b : Move) → IsMade key a → Some a ≡ Some b → IsMade key b
some_made key a b made is = subst (IsMade key) (let same : a ≡ b = cc in same) made

first_made : (key cell : ℕ) (owed : List (List ℕ)) (move : Move) → take_first cell owed ≡ Some move → IsMade key move
first_made key cell [] move is = absurd (cc)
first_made key cell (flow ∷ owed) move is = some_made key (moves.Take (record { key = cell; flow = flow })) move tt is

-- what keeps a cell from going on doesn't tell of a job
abbrev TellsOfNone : {A : Type 0} → Result A Hindrance → Type 0
TellsOfNone (Ok a) = Unit {0}
TellsOfNone (Err hindrance) = tells_of_job hindrance.kind ≡ false

fault_tells_none : {A : Type 0} (r : Result A ValueFault) → TellsOfNone (result_map_both (λ a. a) hindrance_of r)
fault_tells_none (Ok a) = tt
fault_tells_none (Err fault) = refl

then_tells_none : {A B : Type 0} (r : Result A Hindrance) (next : A → Result B Hindrance) → TellsOfNone r → ((a : A) → TellsOfNone (next a)) → TellsOfNone (r >>= next)
then_tells_none (Ok a) next none behind = behind a
then_tells_none (Err hindrance) next none behind = none

decided_tells_none : (f : Flow) (truth : Result Bool ValueFault) → TellsOfNone (decided f truth)
decided_tells_none f (Ok truth) = tt
decided_tells_none f (Err fault) = refl

default_tells_none : (id : List ℕ) (found : Option Flow) → TellsOfNone (ok_or found (record { kind = kinds.ConditionError; text = id }))
default_tells_none id None = refl
default_tells_none id (Some f) = tt

choice_by : (names : List ℕ → Option Value) (g : Gateway) (found : Option Flow) → TellsOfNone (option_map_or (λ f. decided f (truth_at names f)) found (by_default g))
choice_by names g None = default_tells_none g.node.id (find (is_default g.node) g.outs)
choice_by names g (Some f) = decided_tells_none f (truth_at names f)

exit_by : (b : Board) (c : Cell) (found : Option Gateway) → TellsOfNone (option_map_or (λ g. choice_at (value_seen b c.key) g >>= (λ f. Ok (f.id ∷ []))) found (Ok (flows_of b c)))
exit_by b c None = tt
exit_by b c (Some g) = then_tells_none (choice_at (value_seen b c.key) g) (λ f. Ok (f.id ∷ [])) (choice_by (value_seen b c.key) g (find (decides (value_seen b c.key) g.node) g.outs)) (λ f. tt)

completion_tells_none : (b : Board) (c : Cell) → TellsOfNone (completion_of b c)
completion_tells_none b c = then_tells_none (outputs_of b c) (λ vs. exit_of b c) (fault_tells_none _) (λ vs. exit_by b c (gateway_of b c))

due_tells_none : (r : Result ℕ DueFault) → TellsOfNone (result_map_both (λ due. due) time_hindrance r)
due_tells_none (Ok due) = tt
due_tells_none (Err fault) = refl

time_tells_none : (names : List ℕ → Option Value) (moment : ℕ) (n : Node) (form : Option TimeForm) → TellsOfNone (option_map_or (λ f. due_by names moment f n.expr >>= (λ due. Ok (Some (awaiteds.Time due)))) form (Ok None))
time_tells_none names moment n None = tt
time_tells_none names moment n (Some form) = then_tells_none (due_by names moment form n.expr) (λ due. Ok (Some (awaiteds.Time due)))
    (then_tells_none (result_map_both (λ text. text) hindrance_of (value_given names n.expr >>= text_told)) (λ text. result_map_both (λ due. due) time_hindrance (due_of form text moment)) (fault_tells_none _)
    (λ text. due_tells_none (due_of form text moment))) (λ due. tt)

key_tells_none : (m : Model) (n : Node) (key : Result (List ℕ) ValueFault) → TellsOfNone {A = AwaitedMessage} (result_map_both (λ k. record { name = n.name; correlation_key = k; process = m.process; cancel = waits_once n }) hindrance_of key)
key_tells_none m n (Ok key) = tt
key_tells_none m n (Err fault) = refl

event_tells_none : (names : List ℕ → Option Value) (moment : ℕ) (m : Model) (n : Node) → TellsOfNone (event_by names moment m n)
event_tells_none names moment m n = by_kind (is_message_event n.kind)
  where
    by_kind : (t : Bool) → TellsOfNone (if t then message_by names m n >>= (λ message. Ok (Some (awaiteds.Message message))) else option_map_or (λ f. due_by names moment f n.expr >>= (λ due. Ok (Some (awaiteds.Time due)))) (time_form n.kind) (Ok None))
    by_kind true = then_tells_none (message_by names m n) (λ message. Ok (Some (awaiteds.Message message))) (key_tells_none m n (value_given names n.expr >>= key_told)) (λ message. tt)
    by_kind false = time_tells_none names moment n (time_form n.kind)

each_tells_none : (names : List ℕ → Option Value) (moment : ℕ) (m : Model) (ns : List Node) → TellsOfNone (openings_in names moment m ns)
each_tells_none names moment m [] = tt
each_tells_none names moment m (n ∷ ns) = then_tells_none (event_by names moment m n) (λ event. openings_in names moment m ns >>= (λ os. Ok (opened_at n event ++ os))) (event_tells_none names moment m n)
    (λ event. then_tells_none (openings_in names moment m ns) (λ os. Ok (opened_at n event ++ os)) (each_tells_none names moment m ns) (λ os. tt))

node_tells_none : (names : List ℕ → Option Value) (moment : ℕ) (m : Model) (c : Cell) (found : Option Node) → TellsOfNone (option_map_or (λ n. openings_in names moment m (awaited m c n)) found (Ok []))
node_tells_none names moment m c None = tt
node_tells_none names moment m c (Some n) = each_tells_none names moment m (awaited m c n)

openings_tell_none : (names : List ℕ → Option Value) (b : Board) (moment : ℕ) (c : Cell) (found : Option Model) → TellsOfNone (option_map_or (λ m. option_map_or (λ n. openings_in names moment m (awaited m c n)) (node_of b c) (Ok [])) found (Ok []))
openings_tell_none names b moment c None = tt
openings_tell_none names b moment c (Some m) = node_tells_none names moment m c (node_of b c)

items_tell_none : (names : List ℕ → Option Value) (c : Cell) (found : Option Model) → TellsOfNone (option_map_or (λ m. items_by names m c) found (Ok []))
items_tell_none names c None = tt
items_tell_none names c (Some m) = by_body (is_body c) (multi_at m c.node)
  where
    by_body : (body : Bool) (multi : Option Multi) → TellsOfNone (if body then option_map_or (λ x. result_map_both (λ items. items) hindrance_of (value_of names x.collection >>= items_told)) multi (Ok []) else Ok [])
    by_body true None = tt
    by_body true (Some x) = fault_tells_none (value_of names x.collection >>= items_told)
    by_body false multi = tt

opened_tells_none : (b : Board) (moment : ℕ) (c : Cell) → TellsOfNone (opened_with b moment c)
opened_tells_none b moment c = then_tells_none (inputs_of b c) (λ vs. items_of (seen_with vs (value_seen b c.key)) b c >>= (λ items. openings_by (seen_with vs (value_seen b c.key)) b moment c >>= (λ openings. Ok items))) (fault_tells_none _)
    (λ vs. then_tells_none (items_of (seen_with vs (value_seen b c.key)) b c) (λ items. openings_by (seen_with vs (value_seen b c.key)) b moment c >>= (λ openings. Ok items)) (items_tell_none (seen_with vs (value_seen b c.key)) c (model_under b c.definition))
    (λ items. then_tells_none (openings_by (seen_with vs (value_seen b c.key)) b moment c) (λ openings. Ok items) (openings_tell_none (seen_with vs (value_seen b c.key)) b moment c (model_under b c.definition)) (λ openings. tt)))

open_made : (key : ℕ) (c : Cell) (opened : Result (List ℤ) Hindrance) → TellsOfNone opened → IsMade key (open_by key c opened)
open_made key c (Ok items) none = tt
open_made key c (Err hindrance) none = (refl, refl, none)

catch_made : (key : ℕ) (c : Cell) (code : List ℕ) (caught_at : Option Triggered) → IsMade key (catch_by key c code caught_at)
catch_made key c code None = (refl, refl, refl)
catch_made key c code (Some t) = tt

undo_made : (key : ℕ) (c : Cell) (next : Option (List ℕ)) → IsMade key (undo_by key c next)
undo_made key c None = tt
undo_made key c (Some node) = refl

act_made : (key : ℕ) (c : Cell) (runs : Bool) (next : Option (List ℕ)) → IsMade key (if runs then moves.Inner (record { key = key; body = c.key }) else undo_by key c next)
act_made key c true next = refl
act_made key c false next = undo_made key c next

finish_made : (b : Board) (key : ℕ) (c : Cell) (caught_at : Option Triggered) (error : Option (List ℕ)) → IsMade key (finish_by b key c caught_at error)
finish_made b key c caught_at None = act_made key c (is_body c && has_item c) (next_handler b c)
finish_made b key c caught_at (Some code) = catch_made key c code caught_at

leave_made : (key : ℕ) (c : Cell) (exit : Result (List (List ℕ)) Hindrance) → TellsOfNone exit → IsMade key (leave_by key c exit)
leave_made key c (Ok owed) none = tt
leave_made key c (Err hindrance) none = (refl, refl, none)

phase_made : (b : Board) (moment key : ℕ) (c : Cell) (phase : Phase) (move : Move) → move_in b moment key c phase ≡ Some move → IsMade key move
phase_made b moment key c phases.Activating move is = some_made key (open_by key c (opened_with b moment c)) move (open_made key c (opened_with b moment c) (opened_tells_none b moment c)) is
phase_made b moment key c phases.Active move is = some_made key (finish_by b key c (caught b c) (error_of c.mark)) move (finish_made b key c (caught b c) (error_of c.mark)) is
phase_made b moment key c phases.Completing move is = some_made key (leave_by key c (completion_of b c)) move (leave_made key c (completion_of b c) (completion_tells_none b c)) is
phase_made b moment key c phases.Leaving move is = first_made key c.key c.owed move is
phase_made b moment key c phases.Terminating move is = some_made key (moves.Gone c.key) move tt is

end_made : (key : ℕ) (c : Cell) (phase : Phase) (move : Move) → end_in c phase ≡ Some move → IsMade key move
end_made key c phases.Activating move is = some_made key (moves.Halt c.key) move tt is
end_made key c phases.Active move is = some_made key (moves.Halt c.key) move tt is
end_made key c phases.Completing move is = some_made key (moves.Halt c.key) move tt is
end_made key c phases.Leaving move is = absurd (cc)
end_made key c phases.Terminating move is = some_made key (moves.Gone c.key) move tt is

doomed_made : (b : Board) (moment key : ℕ) (c : Cell) (doomed : Bool) (move : Move) → (if doomed then end_in c c.phase else move_in b moment key c c.phase) ≡ Some move → IsMade key move
doomed_made b moment key c true move is = end_made key c c.phase move is
doomed_made b moment key c false move is = phase_made b moment key c c.phase move is

cell_made : (b : Board) (moment key : ℕ) (found : Option Cell) (move : Move) → option_and_then (move_at b moment key) found ≡ Some move → IsMade key move
cell_made b moment key None move is = absurd (cc)
cell_made b moment key (Some c) move is = doomed_made b moment key c (is_doomed b c) move is

way_made : (key : ℕ) (t : Token) (way : Option (List ℕ × List ℕ)) (move : Move)
    → option_map (λ (w : List ℕ × List ℕ). moves.Enter (record { key = key; scope = t.scope; node = w.0; via = w.1 })) way ≡ Some move → IsMade key move
way_made key t None move is = absurd (cc)
way_made key t (Some way) move is = some_made key (moves.Enter (record { key = key; scope = t.scope; node = way.0; via = way.1 })) move refl is

-- the move of a mover is one of those that somebody is forced to, under this key
pub mover_made : (b : Board) (moment key : ℕ) (mover : Mover) (move : Move) → move_of b moment key mover ≡ Some move → IsMade key move
mover_made b moment key (movers.Cell cell) move is = cell_made b moment key (cell_at b cell) move is
mover_made b moment key (movers.Token t) move is = way_made key t (way_of b t) move is

-- a cell that is found has a key of its own
found_by : (low key : ℕ) (cells : List Cell) (x c : Cell) (t : Bool) → low ≤ x.key → (x.key == key) ≡ t → (find (λ y. y.key == key) cells ≡ Some c → x.key + 1 ≤ key)
    → (if t then Some x else find (λ y. y.key == key) cells) ≡ Some c → low ≤ key
found_by low key cells x c true above same later is = grind (arith, nat_tests)
found_by low key cells x c false above other later is = omega (arith, later is)

-- a cell that is found by its key among cells that ascend from a bound has no lesser key
pub found_key : (low key : ℕ) (cells : List Cell) (c : Cell) → CellsAscend low cells → find (λ x. x.key == key) cells ≡ Some c → low ≤ key
found_key low key [] c up is = absurd (cc)
found_key low key (x ∷ cells) c up is = found_by low key cells x c (x.key == key) up.0 refl (found_key (x.key + 1) key cells c up.1) is

-- cells that ascend from 1 on ascend from 0 on
pub from_none : (cells : List Cell) → CellsAscend 1 cells → CellsAscend 0 cells
from_none [] up = tt
from_none (c ∷ cells) up = (omega arith, up.1)

-- the turn of who is forced is there
pub event_there : (b : Board) (key : ℕ) (move : Move) → IsMade key move → IsTrue (fits b move) → IsTrue (is_some (event_of b move))
event_there b key (moves.Stand d) made fit = absurd made
event_there b key (moves.Start s) made fit = absurd made
event_there b key (moves.Enter e) made fit = mapped_some _ (cell_at b e.scope) (holds_some _ (cell_at b e.scope) fit)
event_there b key (moves.Inner i) made fit = mapped_some _ (cell_at b i.body) (holds_some (runs_next b) (cell_at b i.body) fit)
event_there b key (moves.Undo u) made fit = mapped_some _ (cell_at b u.event) (holds_some (runs_handler b u.node) (cell_at b u.event) fit)
event_there b key (moves.Open o) made fit = refl
event_there b key (moves.Finish cell) made fit = refl
event_there b key (moves.Leave l) made fit = refl
event_there b key (moves.Take t) made fit = refl
event_there b key (moves.Halt cell) made fit = refl
event_there b key (moves.Gone cell) made fit = refl
event_there b key (moves.Assign a) made fit = absurd made
event_there b key (moves.Update a) made fit = absurd made
event_there b key (moves.Done cell) made fit = absurd made
event_there b key (moves.Throw t) made fit = absurd made
event_there b key (moves.Trigger t) made fit = refl
event_there b key (moves.Incident i) made fit = refl
event_there b key (moves.Repair other) made fit = absurd made

-- The event for which a cell waits applies, and so do those by which a timer is triggered; where a boundary event interrupts its cell, that may begin to terminate.
use Rattle.std.proofs.Common.{◌≡◌, ℕ, ◌==◌, nat_le, List, [], ◌∷◌, ◌++◌, filter, Bool, true, false, cond, ◌&&◌, ◌||◌, not, if◌then◌else◌, IsTrue, is_some, is_none, Option, Some, None, refl, sym, ap, ◌∙◌, subst, arith}
use Rattle.std.specs.Option.{option_map_or}
use Rattle.std.specs.List.{find, list_any}
use Rattle.std.specs.Str.{bytes_eq}
use Rattle.std.proofs.lemmas.Bool.{and_parts, or_left, or_right, not-true}
use Rattle.std.proofs.lemmas.Bool.Decides.{nat_tests}
use Rattle.std.proofs.lemmas.List.Folds.{list_any-append}
use Rattle.std.proofs.lemmas.Slice.Eq.{bytes_eq-Decides}
use Rattle.zb_process.specs.declared.model.Model.{Model}
use Rattle.zb_process.specs.declared.model.Node.{Node}
use Rattle.zb_model.specs.declared.record.Event.{Event}
use Rattle.zb_model.specs.declared.record.Event.TheVariants as events
use Rattle.zb_model.specs.declared.record.RejectionKind.TheVariants as kinds
use Rattle.zb_views.specs.declared.timer.Timer.{Timer}
use Rattle.zb_views.specs.Timers.{timers, timer_at}
use Rattle.zb_faults.specs.Elements.{is_boundary_of}
use Rattle.zb_tokens.specs.declared.board.Cell.{Cell}
use Rattle.zb_tokens.specs.declared.board.Move.TheVariants as moves
use Rattle.zb_tokens.specs.declared.board.Phase.{Phase}
use Rattle.zb_tokens.specs.declared.board.Phase.TheVariants as phases
use Rattle.zb_tokens.specs.declared.board.Spot.TheVariants as spots
use Rattle.zb_tokens.specs.declared.board.Token.{Token}
use Rattle.zb_tokens.specs.declared.board.Triggered.{Triggered}
use Rattle.zb_tokens.specs.Board.{Board, cell_at, model_under, node_with, is_inner, is_phase, is_root, with_token}
use Rattle.zb_tokens.specs.Doom.{is_doomed}
use Rattle.zb_tokens.specs.Game.{fits, played}
use Rattle.zb_tokens.proofs.GameLaws.{both_left, both_right, found_passes}
use Rattle.zb_tokens.proofs.LeaveLaws.{same_bytes}
use Rattle.zb_tokens.specs.Marks.{with_mark}
use Rattle.zb_tokens.specs.MoveEnter.{stands_at}
use Rattle.zb_tokens.specs.MoveHalt.{is_alive, interrupts, is_interrupted}
use Rattle.zb_tokens.specs.MoveTrigger.{comes_about_by, fits_trigger, is_awaited, mark_by, ends_cell, is_interrupting}
use Rattle.zb_rules.specs.Behind.{with_events_behind}
use Rattle.zb_rules.specs.Shown.{shown, board_of, holds_of_game}
use Rattle.zb_rules.specs.Applies.{applies, all_apply}
use Rattle.zb_rules.proofs.AppliedLaws.{applied_from, applied_board, board_behind, game_holds}
use Rattle.zb_rules.proofs.MadeLaws.{made_holds}
use Rattle.zb_rules.proofs.PlacedLaws.{scopes_of}
use Rattle.zb_rules.proofs.ScopesLaws.{edited_found}
use Rattle.zb_rules.proofs.CellsLaws.{ascend_between}
use Rattle.zb_rules.proofs.CatchLaws.{told_runs}
use Rattle.zb_views.specs.View.{next_key}
use Rattle.zb_rules.proofs.TimedLaws.{awaits_active}
use Rattle.zb_rules.proofs.OwnLaws.{silent_applies}
use Rattle.zb_rules.proofs.BehindLaws.{MayInterrupt, behind_apply}
use Rattle.zb_rules.proofs.SoundLaws.{BoardKeeps, keeps_on}
use Rattle.zb_rules.specs.TimerEvents.{has_timer}
use Rattle.zb_rules.specs.Trigger.{no_timer, timer_not_due, cell_not_waiting, waits_for, timer_in_wrong_state, reason_to_hold, reason_to_trigger, trigger_events, triggered}

-- one that is found and passes another two tests passes among those that pass the one
module _ (named keep passes : Node → Bool) where
  any_by : (x n : Node) (xs : List Node) (t u : Bool) → keep x ≡ u → named x ≡ t → keep n ≡ true → passes n ≡ true → (find named xs ≡ Some n → list_any passes (filter keep xs) ≡ true)
      → cond t (Some x) (find named xs) ≡ Some n → list_any passes (cond u (x ∷ filter keep xs) (filter keep xs)) ≡ true
  any_by x n xs true true kept it keeps pass later found = let same : x ≡ n = cc in or_left (passes x) (list_any passes (filter keep xs)) (subst (λ (y : Node). passes y ≡ true) (sym same) pass)
  any_by x n xs true false out it keeps pass later found = absurd (let same : x ≡ n = cc in let its : keep x ≡ true = subst (λ (y : Node). keep y ≡ true) (sym same) keeps in cc)
  any_by x n xs false true kept it keeps pass later found = or_right (passes x) (list_any passes (filter keep xs)) (later found)
  any_by x n xs false false out it keeps pass later found = later found

  any_kept : (xs : List Node) (n : Node) → find named xs ≡ Some n → keep n ≡ true → passes n ≡ true → list_any passes (filter keep xs) ≡ true
  any_kept [] n found keeps pass = absurd (cc)
  any_kept (x ∷ xs) n found keeps pass = any_by x n xs (named x) (keep x) refl refl keeps pass (λ later. any_kept xs n later keeps pass) found

active_alive : (c : Cell) (phase : Phase) → c.phase ≡ phase → IsTrue (is_phase phase phases.Active) → is_alive c ≡ true
active_alive c phases.Active at is = rw at refl
active_alive c phase at is = absurd (cc)

three_ways : (a b : Bool) → (a || b || true) ≡ true
three_ways true b = refl
three_ways false true = refl
three_ways false false = refl

module _ (b : Board) (t : Triggered) (c : Cell) (found : cell_at b t.cell ≡ Some c) (runs : IsTrue (is_phase c.phase phases.Active)) where
  abbrev placed : Board
  placed = with_token c.scope (spots.BeforeNode t.node) b

  node_interrupts : (m : Model) (n : Node) → node_with m t.node ≡ Some n → (n.cancel && is_boundary_of c.node n) ≡ true → list_any (interrupts placed c) (filter (is_boundary_of c.node) m.nodes) ≡ true
  node_interrupts m n at ends =
      let parts = and_parts n.cancel (is_boundary_of c.node n) ends in
      let named : bytes_eq n.id t.node ≡ true = found_passes (λ (x : Node). bytes_eq x.id t.node) m.nodes n at in
      let one = (bytes_eq-Decides n.id t.node).0 named in
      let token : Token = record { scope = c.scope; spot = spots.BeforeNode t.node } in
      let its : bytes_eq t.node n.id ≡ true = subst (λ id. bytes_eq t.node id ≡ true) (sym one) (same_bytes t.node) in
      let same : (c.scope == c.scope) ≡ true = grind (arith, nat_tests) in
      let stands : list_any (stands_at c.scope (spots.BeforeNode n.id)) (b.tokens ++ token ∷ []) ≡ true =
      list_any-append (stands_at c.scope (spots.BeforeNode n.id)) b.tokens (token ∷ []) ∙ or_right (list_any (stands_at c.scope (spots.BeforeNode n.id)) b.tokens) _ (rw (same, its) refl) in
      let cancels = parts.0 in
      any_kept (λ x. bytes_eq x.id t.node) (is_boundary_of c.node) (interrupts placed c) m.nodes n at parts.1 (rw (cancels, stands) refl)

  by_node : (m : Model) (at : Option Node) → node_with m t.node ≡ at → IsTrue (option_map_or (λ n. n.cancel && is_boundary_of c.node n) at false) → list_any (interrupts placed c) (filter (is_boundary_of c.node) m.nodes) ≡ true
  by_node m None at ends = absurd (cc)
  by_node m (Some n) at ends = node_interrupts m n at ends

  by_model : is_inner c ≡ false → (m : Option Model) → model_under b c.definition ≡ m → IsTrue (option_map_or (λ x. option_map_or (λ n. n.cancel && is_boundary_of c.node n) (node_with x t.node) false) m false) → is_interrupted placed c ≡ true
  by_model plain None stands ends = absurd (cc)
  by_model plain (Some m) stands ends = rw (plain, stands) (by_node m (node_with m t.node) refl ends)

  -- the cell of a boundary event that interrupts may begin to terminate
  cell_halts : IsTrue (ends_cell placed t c) → IsTrue (fits placed (moves.Halt t.cell))
  cell_halts ends =
      let alive = active_alive c c.phase refl runs in
      let parts = and_parts (not (is_inner c)) _ (both_right (is_none (mark_by b t c)) _ ends) in
      let interrupted = by_model (not-true (is_inner c) parts.0) (model_under b c.definition) refl parts.1 in
      rw (found, alive, interrupted) (three_ways (is_root c) (is_doomed placed c))

none_of_some : {A : Type 0} (o : Option A) (x : A) → o ≡ Some x → IsTrue (is_none o) → ⊥
none_of_some None x is none = cc
none_of_some (Some y) x is none = cc

-- where the event of a node has come about for a cell and interrupts it, the cell may begin to terminate
pub told_halts : (p : ℕ) (es : List Event) (b after : Board) (t : Triggered) → BoardKeeps p es b → IsTrue (fits_trigger b t) → played b (moves.Trigger t) ≡ Some after → IsTrue (is_interrupting t.cell t.node after) → IsTrue (fits after (moves.Halt t.cell))
told_halts p es b after t k fit led = made_holds b (λ (x : Board). IsTrue (is_interrupting t.cell t.node x) → IsTrue (fits x (moves.Halt t.cell))) after (moves.Trigger t)
    (λ c found. (
      λ mark at cells made ends.
          let now : cell_at (record b { cells = cells }) t.cell ≡ Some (with_mark mark c) = edited_found t.cell (with_mark mark) c b.cells cells (λ x. refl) found made in
          let its : IsTrue (ends_cell (record b { cells = cells }) t (with_mark mark c)) = rw now at ends in
          absurd (none_of_some (mark_by b t c) mark at (both_left (is_none (mark_by b t c)) _ its)),
      λ at ends. cell_halts b t c found (told_runs b (ascend_between 1 (next_key p es) b.cells k.stands.between) (scopes_of b k.placed) t c found fit (awaits_active b t c)) (rw found at ends),
    )) led

module _ (p : ℕ) (es : List Event) (b : Board) (is : board_of es ≡ Some b) (k : BoardKeeps p es b) where
  -- behind an event that applies and shows no move the board is the same
  pub board_silent : (e : Event) → IsTrue (applies p es e) → shown es e ≡ None → (board_of (es ++ e ∷ []) ≡ Some b) × BoardKeeps p (es ++ e ∷ []) b
  board_silent e applied shows =
      let r = applied_board p es b e is applied in
      let same : b ≡ r.0 = (let h = rw shows at r.1.leads in cc) in
      (subst (λ (x : Board). board_of (es ++ e ∷ []) ≡ Some x) (sym same) (board_behind p es b e r.0 r.1), subst (λ (x : Board). BoardKeeps p (es ++ e ∷ []) x) (sym same) (keeps_on p es b e r.0 r.1 k))

  -- the event for which a cell waits applies, with those behind it
  pub awaited_apply : (moment : ℕ) (t : Triggered) → IsTrue (is_awaited b t) → IsTrue (all_apply p es (with_events_behind p moment (events.ProcessEventTriggered (record { cell = t.cell; node = t.node })) es))
  awaited_apply moment t waits =
      let e : Event = events.ProcessEventTriggered (record { cell = t.cell; node = t.node }) in
      let fit : IsTrue (fits_trigger b t) = or_left (is_awaited b t) (list_any (comes_about_by b t) b.cells) waits in
      let first : IsTrue (applies p es e) = applied_from p es b e (moves.Trigger t) is refl refl fit in
      let r = applied_board p es b e is first in
      let keeps = keeps_on p es b e r.0 r.1 k in
      let may : MayInterrupt p (es ++ e ∷ []) r.0 t.cell t.node = record { halts = told_halts p es b r.0 t k fit r.1.leads; apart = keeps.incidents.apart; timed = keeps.timers } in
      rw first (behind_apply p moment es e r.0 (board_behind p es b e r.0 r.1) may)

module _ (p moment : ℕ) (es : List Event) (b : Board) (is : board_of es ≡ Some b) (k : BoardKeeps p es b) where
  -- where there is no reason against it, the cell waits for the timer
  waits_by : (t : Timer) (due waits : Bool) → holds_of_game (waits_for t) es ≡ waits
      → (if not due then Some (timer_in_wrong_state (timer_not_due t.key)) else if not waits then Some (timer_in_wrong_state (cell_not_waiting t.cell)) else None) ≡ None → IsTrue (holds_of_game (waits_for t) es)
  waits_by t false waits its none = absurd (cc)
  waits_by t true false its none = absurd (cc)
  waits_by t true true its none = its

  told_apply : (t : Timer) → timer_at t.key es ≡ Some t → reason_to_hold es moment t ≡ None → IsTrue (all_apply p es (trigger_events p moment t es))
  told_apply t there none =
      let e : Event = events.TimerTriggered t.key in
      let has : IsTrue (has_timer t.key es) = ap is_some there in
      let first : IsTrue (applies p es e) = silent_applies p es b e is has refl in
      let over = board_silent p es b is k e first refl in
      let waits : IsTrue (waits_for t b) = game_holds (waits_for t) es b is (waits_by t (nat_le t.due moment) (holds_of_game (waits_for t) es) refl none) in
      rw first (awaited_apply p (es ++ e ∷ []) b over.0 over.1 moment (record { cell = t.cell; node = t.node }) waits)

  found_apply : (key : ℕ) (found : Option Timer) → timer_at key es ≡ found → option_map_or (reason_to_hold es moment) found (Some (record { kind = kinds.NotFound; reason = no_timer key })) ≡ None
      → IsTrue (all_apply p es (option_map_or (λ t. trigger_events p moment t es) found []))
  found_apply key None at none = absurd (cc)
  found_apply key (Some t) at none =
      let its : (t.key == key) ≡ true = found_passes (λ (x : Timer). x.key == key) (timers es) t at in
      let same : t.key ≡ key = grind (arith, nat_tests, its) in
      told_apply t (subst (λ (q : ℕ). timer_at q es ≡ Some t) (sym same) at) none

  -- the own events of a command to trigger apply
  pub trigger_applies : (key : ℕ) → reason_to_trigger es moment key ≡ None → IsTrue (all_apply p es (triggered p moment key es))
  trigger_applies key none = found_apply key (timer_at key es) refl none

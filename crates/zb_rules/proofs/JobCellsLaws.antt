-- Laws of the cells that wait for their work as a move is made, and of those that begin: these were told nothing.
use Rattle.std.proofs.Common.{◌≡◌, ◌⊎◌, ◌<◌, ℕ, ◌==◌, List, [], ◌∷◌, ◌++◌, Bool, true, false, ◌&&◌, ◌||◌, not, if◌then◌else◌, IsTrue, Option, Some, None, All, refl, sym, ap, ◌∙◌, subst}
use Rattle.std.specs.Option.{option_map_or}
use Rattle.std.proofs.lemmas.Bool.{and_parts, and_right, or_parts, not-true}
use Rattle.zb_process.specs.declared.model.Model.{Model}
use Rattle.zb_process.specs.declared.model.Node.{Node}
use Rattle.zb_process.specs.declared.model.NodeKind.{NodeKind}
use Rattle.zb_process.specs.declared.model.NodeKind.TheVariants as kinds
use Rattle.zb_faults.specs.Elements.{is_service_task, is_subprocess}
use Rattle.zb_instance_records.specs.declared.instance.Role.TheVariants as roles
use Rattle.zb_tokens.specs.declared.board.Cell.{Cell}
use Rattle.zb_tokens.specs.declared.board.Deployed.{Deployed}
use Rattle.zb_tokens.specs.declared.board.Mark.{Mark}
use Rattle.zb_tokens.specs.declared.board.Mark.TheVariants as marks
use Rattle.zb_tokens.specs.declared.board.Move.{Move}
use Rattle.zb_tokens.specs.declared.board.Move.TheVariants as moves
use Rattle.zb_tokens.specs.declared.board.Phase.{Phase}
use Rattle.zb_tokens.specs.declared.board.Phase.TheVariants as phases
use Rattle.zb_tokens.specs.Board.{Board, CellsAscend, cell_at, model_under, node_with, is_at, is_body, is_compensation, is_phase, is_root, holds_cells, has_child, is_empty, in_phase, new_cell, leaves_in}
use Rattle.zb_tokens.specs.Marks.{is_unset, has_come_about, awaits_work, with_mark}
use Rattle.zb_tokens.specs.MoveEnter.{entering}
use Rattle.zb_tokens.specs.Bodies.{has_item, is_sequential}
use Rattle.zb_tokens.specs.Handlers.{has_handler}
use Rattle.zb_tokens.specs.MoveInner.{run_in, one_taken}
use Rattle.zb_tokens.specs.MoveUndo.{handler_in, one_undone}
use Rattle.zb_tokens.specs.MoveOpen.{opens, with_items}
use Rattle.zb_tokens.specs.MoveFinish.{rests_at, acts_in, acts, is_done}
use Rattle.zb_tokens.specs.MoveLeave.{may_owe, leaving, with_end, with_finished}
use Rattle.zb_tokens.specs.MoveTake.{is_first, rest_of}
use Rattle.zb_tokens.specs.MoveAssign.{with_variable}
use Rattle.zb_tokens.specs.declared.board.Triggered.{Triggered}
use Rattle.zb_tokens.specs.MoveTrigger.{fits_trigger, mark_by}
use Rattle.zb_rules.proofs.TimedLaws.{awaits_active}
use Rattle.zb_rules.specs.Sound.{is_around}
use Rattle.zb_rules.proofs.CatchLaws.{told_runs, work_unmarked}
use Rattle.zb_tokens.specs.Edits.{edited, is_none_of}
use Rattle.zb_tokens.specs.Game.{fits}
use Rattle.zb_tokens.proofs.GameLaws.{both_left, both_right}
use Rattle.zb_rules.specs.Shown.{after_shown}
use Rattle.zb_rules.specs.Applies.{may_fit}
use Rattle.zb_rules.proofs.MadeLaws.{is_keyed, HoldsMade, left_holds, made_behind, made_holds}
use Rattle.zb_rules.proofs.ModelsLaws.{models_made, among_more, models_shown}
use Rattle.zb_rules.proofs.PlayedLaws.{CellKept, cells_played}
use Rattle.zb_rules.proofs.ScopesLaws.{at_cell, holds_among, AreKept, others_edited, kept_edited, kept_removed, kept_filtered, kept_more}

-- a cell that begins was told nothing
abbrev pub IsUntold : Cell → Type 0
IsUntold c = IsTrue (is_phase c.phase phases.Activating) → IsTrue (is_unset c.mark)

-- the cell with a key waits for its work
abbrev pub waits_at : Board → ℕ → Bool
waits_at b cell = option_map_or (awaits_work b) (cell_at b cell) false

-- a move tells the cell with a key something, or begins to end it
abbrev pub ends_wait : Move → ℕ → Bool
ends_wait (moves.Halt key) cell = cell == key
ends_wait (moves.Done key) cell = cell == key
ends_wait (moves.Throw t) cell = cell == t.cell
ends_wait move cell = false

-- what is in another phase isn't active
inactive : (phase other : Phase) → IsTrue (is_phase phase other) → is_phase other phases.Active ≡ false → is_phase phase phases.Active ≡ false
inactive phases.Activating other is apart = refl
inactive phases.Active phases.Active is apart = apart
inactive phases.Completing other is apart = refl
inactive phases.Leaving other is apart = refl
inactive phases.Terminating other is apart = refl
inactive phase other is apart = absurd (cc)

-- and what is active is in no other
active_alone : (phase other : Phase) → IsTrue (is_phase phase phases.Active) → is_phase other phases.Active ≡ false → is_phase phase other ≡ false
active_alone phases.Active phases.Activating is apart = refl
active_alone phases.Active phases.Completing is apart = refl
active_alone phases.Active phases.Leaving is apart = refl
active_alone phases.Active phases.Terminating is apart = refl
active_alone phase other is apart = absurd (cc)

-- a cell that waits for its work is active
waits_active : (b : Board) (c : Cell) → IsTrue (awaits_work b c) → IsTrue (is_phase c.phase phases.Active)
waits_active b c is = both_left (is_phase c.phase phases.Active) _ is

-- one in another phase doesn't
not_waiting : (b : Board) (c : Cell) (phase : Phase) → IsTrue (is_phase c.phase phase) → is_phase phase phases.Active ≡ false → awaits_work b c ≡ false
not_waiting b c phase is apart = rw (inactive c.phase phase is apart) refl

-- a service task is no scope and no compensation event, and waits
service_waits : (c : Cell) (kind : NodeKind) → IsTrue (is_service_task kind) → (is_subprocess kind ≡ false) × (rests_at c kind ≡ false) × (is_compensation kind ≡ false)
service_waits c kinds.ServiceTask is = (refl, refl, refl)
service_waits c kind is = absurd (cc)

-- a cell that was told nothing is not told that its work is done
unset_waits : (mark : Mark) → IsTrue (is_unset mark) → has_come_about mark ≡ false
unset_waits marks.Unset is = refl
unset_waits mark is = absurd (cc)

node_waits : (c : Cell) (body root child alone empty come : Bool) (found : Option Node) → body ≡ false → root ≡ false → come ≡ false → IsTrue (option_map_or (λ (n : Node). is_service_task n.kind) found false)
    → (if body then child else if not (root || body) && option_map_or (λ (n : Node). is_compensation n.kind) found false then alone else if not body && (root || option_map_or (λ (n : Node). is_subprocess n.kind) found false) then empty else come || option_map_or (λ (n : Node). rests_at c n.kind) found false) ≡ false
node_waits c body root child alone empty come None runs inner not_come is = absurd (cc)
node_waits c body root child alone empty come (Some n) runs inner not_come is = let k = service_waits c n.kind is in rw (runs, inner, k.0, k.2, not_come, k.1) refl

model_waits : (b : Board) (c : Cell) (found : Option Model) → IsTrue (is_unset c.mark) → IsTrue (not (is_root c || is_body c) && option_map_or (λ (m : Model). is_at m c.node is_service_task) found false)
    → option_map_or (λ (m : Model). acts_in m b c) found false ≡ false
model_waits b c None unset is = absurd (let none = (and_parts (not (is_root c || is_body c)) false is).1 in cc)
model_waits b c (Some m) unset is =
    let parts = and_parts (not (is_root c || is_body c)) (is_at m c.node is_service_task) is in
    let apart = or_parts (is_root c) (is_body c) (not-true (is_root c || is_body c) parts.0) in
    node_waits c (is_body c) (is_root c) (not (has_child b c.key) || (has_item c && not (is_sequential m c))) (not (has_child b c.key)) (is_empty b c.key) (has_come_about c.mark) (node_with m c.node) apart.1 apart.0 (unset_waits c.mark unset) parts.1

-- so a cell that waits for its work doesn't act
not_acting : (b : Board) (c : Cell) → IsTrue (awaits_work b c) → acts b c ≡ false
not_acting b c is =
    let inner = both_right (is_phase c.phase phases.Active) _ is in
    model_waits b c (model_under b c.definition) (both_left (is_unset c.mark) _ inner) (both_right (is_unset c.mark) _ inner)

-- and isn't done
not_done : (b : Board) (c : Cell) → IsTrue (awaits_work b c) → is_done b c ≡ false
not_done b c is = ap (λ (t : Bool). t && not ((is_body c && has_item c) || has_handler b c)) (not_acting b c is)

-- where it is of a model still, a cell waits still
grown_by : (active unset apart : Bool) (holds later : Bool) → (IsTrue holds → IsTrue later) → IsTrue (active && (unset && (not apart && holds))) → IsTrue (active && (unset && (not apart && later)))
grown_by true true false holds later more is = more is
grown_by active unset apart holds later more is = absurd (cc)

waits_grown : (b : Board) (more : List Deployed) (c : Cell) → IsTrue (awaits_work b c) → IsTrue (awaits_work (record b { models = b.models ++ more }) c)
waits_grown b more c is = grown_by (is_phase c.phase phases.Active) (is_unset c.mark) (is_root c || is_body c) (option_map_or (λ (m : Model). is_at m c.node is_service_task) (model_under b c.definition) false)
    (option_map_or (λ (m : Model). is_at m c.node is_service_task) (model_under (record b { models = b.models ++ more }) c.definition) false)
    (among_more (λ o. option_map_or (λ (m : Model). is_at m c.node is_service_task) o false) c.definition b.models more refl) is

module _ (b : Board) where
  stays_by : (c : Cell) (same leaves : Bool) → is_phase c.phase phases.Leaving ≡ leaves → IsTrue (awaits_work b c) → not (same && leaves) ≡ true
  stays_by c same true leaves is = absurd (let none = not_waiting b c phases.Leaving leaves refl in cc)
  stays_by c same false stays is = rw (and_right same false refl) refl

  -- it isn't one that leaves
  waiting_stays : (scope : ℕ) (c : Cell) → IsTrue (awaits_work b c) → not (leaves_in scope c) ≡ true
  waiting_stays scope c is = stays_by c (c.scope == scope) (is_phase c.phase phases.Leaving) refl is

  -- of a cell that is found nothing is to be shown where it can't wait
  is_none : (key : ℕ) (edit : Cell → Cell) (holds : Cell → Bool) → IsTrue (option_map_or holds (cell_at b key) false) → ((c : Cell) → IsTrue (holds c) → awaits_work b c ≡ false)
      → (c : Cell) → cell_at b key ≡ Some c → awaits_work b c ≡ false
  is_none key edit holds fit none c found = none c (at_cell holds (cell_at b key) c found fit)

  abbrev Wait : List Cell → Type 0
  Wait cells = AreKept (awaits_work b) b.cells cells

  -- a cell that doesn't wait is edited, or gone
  edit_waits : (key : ℕ) (edit : Cell → Cell) (cells : List Cell) → ((c : Cell) → (edit c).key ≡ c.key) → ((c : Cell) → cell_at b key ≡ Some c → awaits_work b c ≡ false) → edited (is_keyed key) edit b.cells ≡ Some cells → Wait cells
  edit_waits key edit cells keeps none made = kept_edited (awaits_work b) key edit b.cells cells keeps (λ c found h. absurd (let not_its = none c found in cc)) made

  left_waits : (owed : List (List ℕ)) (key : ℕ) (left : Board) → ((c : Cell) → cell_at b key ≡ Some c → awaits_work b c ≡ false) → leaving owed key b ≡ Some left → Wait left.cells
  left_waits owed key left none made = left_holds b (λ (x : Board). Wait x.cells) left owed key (λ cells gone. kept_removed (awaits_work b) key b.cells cells none gone)
      (λ flow more same cells there. edit_waits key (in_phase phases.Leaving (flow ∷ more)) cells (λ c. refl) none there) made

  -- behind a move each cell waits that did, but for the one that it tells something or begins to end
  abbrev CellsWait : Move → Board → Type 0
  CellsWait move x = (q : ℕ) → ends_wait move q ≡ false → IsTrue (holds_among (awaits_work b) q b.cells) → IsTrue (holds_among (awaits_work b) q x.cells)

  waits_made : (move : Move) → IsTrue (fits b move) → HoldsMade b (CellsWait move) move
  waits_made (moves.Stand d) fit = λ q out is. is
  waits_made (moves.Start s) fit = λ m found q out is. kept_more (awaits_work b) b.cells (new_cell s.key 0 s.definition m.process roles.Plain false ∷ []) q is
  waits_made (moves.Enter e) fit = λ c m found under stand q out is. kept_more (awaits_work b) b.cells (entering e c m ∷ []) q is
  waits_made (moves.Inner i) fit = λ c found cells made q out is.
      kept_more (awaits_work b) cells (run_in i c ∷ []) q (kept_edited (awaits_work b) i.body one_taken b.cells cells (λ x. refl) (λ x there h. h) made q is)
  waits_made (moves.Undo u) fit = λ c found cells made q out is.
      kept_more (awaits_work b) cells (handler_in u c ∷ []) q (kept_edited (awaits_work b) c.scope one_undone b.cells cells (λ x. refl) (λ x there h. h) made q is)
  waits_made (moves.Open o) fit = λ c m found stands cells made q out is.
      edit_waits o.key (with_items o.items) cells (λ x. refl)
      (λ x there. let h = at_cell (λ (y : Cell). is_phase y.phase phases.Activating && (opens b y && (is_body y || is_none_of o.items))) (cell_at b o.key) x there fit in not_waiting b x phases.Activating (both_left (is_phase x.phase phases.Activating) _ h) refl) made q is
  waits_made (moves.Finish key) fit = λ cells made q out is.
      kept_edited (awaits_work b) key (in_phase phases.Completing []) b.cells cells (λ x. refl)
      (λ x there waits. let h = at_cell (λ (y : Cell). is_phase y.phase phases.Active && is_done b y) (cell_at b key) x there fit in absurd (let its = both_right (is_phase x.phase phases.Active) (is_done b x) h in let none = not_done b x waits in cc)) made q is
  waits_made (moves.Leave l) fit = λ c found left made q out is.
      let none : (x : Cell) → cell_at b l.key ≡ Some x → awaits_work b x ≡ false = λ x there.
      (let h = at_cell (λ (y : Cell). is_phase y.phase phases.Completing && may_owe b y l.owed) (cell_at b l.key) x there fit in not_waiting b x phases.Completing (both_left (is_phase x.phase phases.Completing) _ h) refl) in
      let kept = left_waits l.owed l.key left none made in
      made_behind Wait b c left kept
      (λ cells edit r its. kept_edited (awaits_work b) c.scope with_end left.cells cells (λ x. refl) (λ x there h. h) edit r (kept r its))
      (λ cells still r its. kept_filtered (awaits_work b) (λ x. not (leaves_in c.scope x)) cells (waiting_stays c.scope) r (still r its))
      (λ can cells edit r its. kept_edited (awaits_work b) c.scope (with_finished c.node) left.cells cells (λ x. refl) (λ x there h. h) edit r (kept r its)) q is
  waits_made (moves.Take t) fit = λ c found left made q out is.
      let none : (x : Cell) → cell_at b t.key ≡ Some x → awaits_work b x ≡ false = λ x there.
      (let h = at_cell (λ (y : Cell). is_phase y.phase phases.Leaving && is_first t.flow y.owed) (cell_at b t.key) x there fit in not_waiting b x phases.Leaving (both_left (is_phase x.phase phases.Leaving) _ h) refl) in
      left_waits (rest_of c.owed) t.key left none made q is
  waits_made (moves.Halt key) fit = λ cells made q out is.
      kept_filtered (awaits_work b) (λ x. not (leaves_in key x)) cells (waiting_stays key) q (others_edited (awaits_work b) key (in_phase phases.Terminating []) b.cells cells (λ x. refl) made q out is)
  waits_made (moves.Gone key) fit = λ cells made q out is.
      kept_removed (awaits_work b) key b.cells cells
      (λ x there. let h = at_cell (λ (y : Cell). is_phase y.phase phases.Terminating && not (has_child b key)) (cell_at b key) x there fit in not_waiting b x phases.Terminating (both_left (is_phase x.phase phases.Terminating) _ h) refl) made q is
  waits_made (moves.Assign a) fit = λ cells made q out is. kept_edited (awaits_work b) a.scope (with_variable a.name a.value) b.cells cells (λ x. refl) (λ x there h. h) made q is
  waits_made (moves.Update a) fit = λ cells made q out is. kept_edited (awaits_work b) a.scope (with_variable a.name a.value) b.cells cells (λ x. refl) (λ x there h. h) made q is
  waits_made (moves.Done key) fit = λ cells made q out is. others_edited (awaits_work b) key (with_mark marks.Done) b.cells cells (λ x. refl) made q out is
  waits_made (moves.Throw t) fit = λ cells made q out is. others_edited (awaits_work b) t.cell (with_mark (marks.Thrown t.code)) b.cells cells (λ x. refl) made q out is
  waits_made (moves.Trigger t) fit = λ c found. (
    λ mark at cells made q out is.
        kept_edited (awaits_work b) t.cell (with_mark mark) b.cells cells (λ x. refl)
        (λ x there works. absurd (let none = work_unmarked b t x works in let same : Some c ≡ Some x = sym found ∙ there in let its : mark_by b t x ≡ Some mark = (let one : c ≡ x = cc in subst (λ (y : Cell). mark_by b t y ≡ Some mark) one at) in cc)) made q is,
    λ at q out is. is,
  )
  waits_made (moves.Incident i) fit = λ q out is. is
  waits_made (moves.Repair key) fit = λ incidents gone q out is. is

  weaker_found : (f g : Cell → Bool) (found : Option Cell) → ((c : Cell) → IsTrue (f c) → IsTrue (g c)) → IsTrue (option_map_or f found false) → IsTrue (option_map_or g found false)
  weaker_found f g None weaker is = absurd (cc)
  weaker_found f g (Some c) weaker is = weaker c is

  -- on the board behind it a cell waits that did on this one, where the move neither tells it something nor begins to end it
  pub waits_on : (after : Board) (move : Option Move) (cell : ℕ) → IsTrue (may_fit move b) → after_shown b move ≡ Some after → option_map_or (λ (m : Move). ends_wait m cell) move false ≡ false
      → IsTrue (waits_at b cell) → IsTrue (waits_at after cell)
  waits_on after None cell fit made out is = subst (λ (x : Board). IsTrue (waits_at x cell)) (let same : b ≡ after = cc in same) is
  waits_on after (Some move) cell fit made out is =
      let kept = made_holds b (CellsWait move) after move (waits_made move fit) made cell out is in
      let more = option_map_or models_made (Some move) [] in
      subst (λ (ms : List Deployed). IsTrue (option_map_or (awaits_work (record b { models = ms })) (cell_at after cell) false)) (sym (models_shown b after (Some move) made))
      (weaker_found (awaits_work b) (awaits_work (record b { models = b.models ++ more })) (cell_at after cell) (waits_grown b more) kept)

-- a cell that begins was told nothing, after a move too
untold_at : (b : Board) (key : ℕ) (mark : Mark) → IsTrue (waits_at b key) → (c : Cell) → cell_at b key ≡ Some c → IsUntold c → IsUntold (with_mark mark c)
untold_at b key mark fit c found is begins =
    let active = waits_active b c (at_cell (awaits_work b) (cell_at b key) c found fit) in
    absurd (let none = active_alone c.phase phases.Activating active refl in cc)

-- cells ascend, and each is a root or stands in one that others may be in
abbrev AreScoped : Board → Type 0
AreScoped b = CellsAscend 1 b.cells × All (λ (c : Cell). (c.scope ≡ 0) ⊎ (IsTrue (is_around holds_cells b c.scope) × (c.scope < c.key))) b.cells

-- a cell that is told of an event doesn't begin
told_untold : (b : Board) (t : Triggered) → AreScoped b → IsTrue (fits_trigger b t) → (c : Cell) → cell_at b t.cell ≡ Some c → (mark : Mark) → mark_by b t c ≡ Some mark → IsUntold c → IsUntold (with_mark mark c)
told_untold b t scoped fit c found mark at is begins =
    let active : IsTrue (is_phase c.phase phases.Active) = told_runs b scoped.0 scoped.1 t c found fit (λ waits. awaits_active b t c waits) in
    absurd (let none = active_alone c.phase phases.Activating active refl in cc)

untold_kept : (b : Board) (move : Move) → AreScoped b → IsTrue (fits b move) → CellKept b IsUntold move
untold_kept b (moves.Stand d) scoped fit = tt
untold_kept b (moves.Start s) scoped fit = λ node there phase. refl
untold_kept b (moves.Enter e) scoped fit = λ c m found under phase. refl
untold_kept b (moves.Inner i) scoped fit = (λ c found phase. refl, λ c found is. is)
untold_kept b (moves.Undo u) scoped fit = λ c found. (λ phase. refl, λ x there is. is)
untold_kept b (moves.Open o) scoped fit = λ c found is phase. absurd (cc)
untold_kept b (moves.Finish key) scoped fit = λ c found is phase. absurd (cc)
untold_kept b (moves.Leave l) scoped fit = (λ flow owed same c found is phase. absurd (cc), λ c is. is, λ c found can scope same is. is)
untold_kept b (moves.Take t) scoped fit = λ flow owed c found is phase. absurd (cc)
untold_kept b (moves.Halt key) scoped fit = λ c found is phase. absurd (cc)
untold_kept b (moves.Gone key) scoped fit = tt
untold_kept b (moves.Assign a) scoped fit = λ c found is. is
untold_kept b (moves.Update a) scoped fit = λ c found is. is
untold_kept b (moves.Done key) scoped fit = untold_at b key marks.Done fit
untold_kept b (moves.Throw t) scoped fit = untold_at b t.cell (marks.Thrown t.code) fit
untold_kept b (moves.Trigger t) scoped fit = told_untold b t scoped fit
untold_kept b (moves.Incident i) scoped fit = tt
untold_kept b (moves.Repair key) scoped fit = tt

-- each cell that begins was told nothing, behind an event that shows the move
pub untold_on : (b after : Board) (move : Option Move) → AreScoped b → IsTrue (may_fit move b) → after_shown b move ≡ Some after → All IsUntold b.cells → All IsUntold after.cells
untold_on b after None scoped fit made all = subst (λ (x : Board). All IsUntold x.cells) (let same : b ≡ after = cc in same) all
untold_on b after (Some move) scoped fit made all = cells_played b IsUntold all after move (untold_kept b move scoped fit) made

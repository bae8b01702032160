-- Each cell of a board of a log has its model, and one that leaves owes a flow.
use Rattle.std.proofs.Common.{◌≡◌, ℕ, List, [], ◌∷◌, Bool, true, false, ◌&&◌, if◌then◌else◌, IsTrue, IsFalse, is_some, Option, Some, None, All, refl, sym, subst}
use Rattle.std.proofs.lemmas.Bool.{or_parts}
use Rattle.std.proofs.lemmas.List.Elements.{All-weaker}
use Rattle.zb_tokens.specs.declared.board.Cell.{Cell}
use Rattle.zb_tokens.specs.declared.board.Take.{Take}
use Rattle.zb_tokens.specs.declared.board.Leave.{Leave}
use Rattle.zb_tokens.specs.declared.board.Deployed.{Deployed}
use Rattle.zb_tokens.specs.declared.board.Move.{Move}
use Rattle.zb_tokens.specs.declared.board.Move.TheVariants as moves
use Rattle.zb_tokens.specs.declared.board.Phase.TheVariants as phases
use Rattle.zb_tokens.specs.Edits.{is_none_of}
use Rattle.zb_tokens.specs.Board.{Board, cell_at, model_under, is_phase, is_root, owes_none}
use Rattle.zb_tokens.specs.MoveLeave.{flows_of, are_among, may_owe}
use Rattle.zb_tokens.specs.MoveTake.{is_first}
use Rattle.zb_tokens.specs.Game.{fits}
use Rattle.zb_tokens.proofs.GameLaws.{both_left, both_right, found_holds}
use Rattle.zb_rules.specs.Shown.{after_shown}
use Rattle.zb_rules.specs.Applies.{may_fit}
use Rattle.zb_rules.proofs.MadeLaws.{is_keyed}
use Rattle.zb_rules.proofs.ModelsLaws.{model_among, models_shown, among_more}
use Rattle.zb_rules.proofs.PlayedLaws.{CellKept, cells_played}
use Rattle.zb_rules.proofs.ScopesLaws.{at_cell}

-- the model of a cell is there
abbrev pub HasModel : Board → Cell → Type 0
HasModel b c = IsTrue (is_some (model_under b c.definition))

-- a cell that leaves owes a flow, and is one that flows leave
abbrev pub Owes : Cell → Type 0
Owes c = IsTrue (is_phase c.phase phases.Leaving) → IsFalse (is_none_of c.owed) × IsFalse (owes_none c)

-- so it is no root
pub owes_inner : (c : Cell) → Owes c → IsTrue (is_phase c.phase phases.Leaving) → IsFalse (is_none_of c.owed) × IsFalse (is_root c)
owes_inner c owes leaves = let its = owes leaves in (its.0, (or_parts (is_root c) _ its.1).0)

pub all_owe : (cells : List Cell) → All Owes cells → All (λ (c : Cell). IsTrue (is_phase c.phase phases.Leaving) → IsFalse (is_none_of c.owed) × IsFalse (is_root c)) cells
all_owe cells = All-weaker Owes (λ (c : Cell). IsTrue (is_phase c.phase phases.Leaving) → IsFalse (is_none_of c.owed) × IsFalse (is_root c)) owes_inner cells

-- the models of a board grow
models_still : (b after : Board) (move : Option Move) → after_shown b move ≡ Some after → (key : ℕ) → IsTrue (is_some (model_under b key)) → IsTrue (is_some (model_under after key))
models_still b after move made key is =
    subst (λ (ms : List Deployed). IsTrue (is_some (model_among ms key))) (sym (models_shown b after move made)) (among_more (λ o. is_some o) key b.models _ refl is)

-- each cell has its model after a move
model_kept : (b after : Board) (move : Move) → ((key : ℕ) → IsTrue (is_some (model_under b key)) → IsTrue (is_some (model_under after key))) → All (HasModel after) b.cells → CellKept b (HasModel after) move
model_kept b after (moves.Stand d) still all = tt
model_kept b after (moves.Start s) still all = λ node there. still s.definition there
model_kept b after (moves.Enter e) still all = λ c m found under. (found_holds (is_keyed e.scope) (HasModel after) b.cells c all found).0
model_kept b after (moves.Inner i) still all = (λ c found. (found_holds (is_keyed i.body) (HasModel after) b.cells c all found).0, λ c found has. has)
model_kept b after (moves.Undo u) still all = λ c found. ((found_holds (is_keyed u.event) (HasModel after) b.cells c all found).0, λ x there has. has)
model_kept b after (moves.Open o) still all = λ c found has. has
model_kept b after (moves.Finish key) still all = λ c found has. has
model_kept b after (moves.Leave l) still all = (λ flow owed is c found has. has, λ c has. has, λ c found can scope same has. has)
model_kept b after (moves.Take t) still all = λ flow owed c found has. has
model_kept b after (moves.Halt key) still all = λ c found has. has
model_kept b after (moves.Gone key) still all = tt
model_kept b after (moves.Assign a) still all = λ c found has. has
model_kept b after (moves.Update a) still all = λ c found has. has
model_kept b after (moves.Done key) still all = λ c found has. has
model_kept b after (moves.Throw t) still all = λ c found has. has
model_kept b after (moves.Trigger t) still all = λ c found mark at has. has
model_kept b after (moves.Incident i) still all = tt
model_kept b after (moves.Repair key) still all = tt

-- each cell has its model after the move that an event shows
pub models_on : (b after : Board) (move : Option Move) → after_shown b move ≡ Some after → All (HasModel b) b.cells → All (HasModel after) after.cells
models_on b after None made all = subst (λ (x : Board). All (HasModel x) x.cells) (let same : b ≡ after = cc in same) all
models_on b after (Some move) made all =
    let still = models_still b after (Some move) made in
    let weaker : All (HasModel after) b.cells = All-weaker (HasModel b) (HasModel after) (λ c has. still c.definition has) b.cells all in
    cells_played b (HasModel after) weaker after move (model_kept b after move still weaker) made

-- a leaving cell owes a flow after a move
flows_leave : (none : Bool) (flow : List ℕ) (owed others : List (List ℕ)) → IsTrue (are_among (flow ∷ owed) (if none then [] else others)) → none ≡ false
flows_leave true flow owed others is = absurd (cc)
flows_leave false flow owed others is = refl

owes_leave : (b : Board) (l : Leave) → IsTrue (fits b (moves.Leave l)) → CellKept b Owes (moves.Leave l)
owes_leave b l fit = (
  λ flow owed is c found has phase.
      let h = at_cell (λ (x : Cell). is_phase x.phase phases.Completing && may_owe b x l.owed) (cell_at b l.key) c found fit in
      let its = both_left (are_among l.owed (flows_of b c)) _ (both_right (is_phase c.phase phases.Completing) (may_owe b c l.owed) h) in
      let among : IsTrue (are_among (flow ∷ owed) (flows_of b c)) = subst (λ (ids : List (List ℕ)). IsTrue (are_among ids (flows_of b c))) is its in
      (refl, flows_leave (owes_none c) flow owed _ among),
  λ c has. has,
  λ c found can scope same has. has,
)

owes_take : (b : Board) (t : Take) → IsTrue (fits b (moves.Take t)) → CellKept b Owes (moves.Take t)
owes_take b t fit = λ flow owed c found has phase.
    let h = at_cell (λ (x : Cell). is_phase x.phase phases.Leaving && is_first t.flow x.owed) (cell_at b t.key) c found fit in
    (refl, (has (both_left (is_phase c.phase phases.Leaving) (is_first t.flow c.owed) h)).1)

owes_kept : (b : Board) (move : Move) → IsTrue (fits b move) → CellKept b Owes move
owes_kept b (moves.Stand d) fit = tt
owes_kept b (moves.Start s) fit = λ node there phase. absurd (cc)
owes_kept b (moves.Enter e) fit = λ c m found under phase. absurd (cc)
owes_kept b (moves.Inner i) fit = (λ c found phase. absurd (cc), λ c found has. has)
owes_kept b (moves.Undo u) fit = λ c found. (λ phase. absurd (cc), λ x there has. has)
owes_kept b (moves.Open o) fit = λ c found has phase. absurd (cc)
owes_kept b (moves.Finish key) fit = λ c found has phase. absurd (cc)
owes_kept b (moves.Leave l) fit = owes_leave b l fit
owes_kept b (moves.Take t) fit = owes_take b t fit
owes_kept b (moves.Halt key) fit = λ c found has phase. absurd (cc)
owes_kept b (moves.Gone key) fit = tt
owes_kept b (moves.Assign a) fit = λ c found has. has
owes_kept b (moves.Update a) fit = λ c found has. has
owes_kept b (moves.Done key) fit = λ c found has. has
owes_kept b (moves.Throw t) fit = λ c found has. has
owes_kept b (moves.Trigger t) fit = λ c found mark at has. has
owes_kept b (moves.Incident i) fit = tt
owes_kept b (moves.Repair key) fit = tt

-- each leaving cell owes a flow after it
pub owes_on : (b after : Board) (move : Option Move) → IsTrue (may_fit move b) → after_shown b move ≡ Some after → All Owes b.cells → All Owes after.cells
owes_on b after None fit made all = subst (λ (x : Board). All Owes x.cells) (let same : b ≡ after = cc in same) all
owes_on b after (Some move) fit made all = cells_played b Owes all after move (owes_kept b move fit) made

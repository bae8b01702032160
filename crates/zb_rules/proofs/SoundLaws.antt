-- What holds of the board of every log whose events apply.
use Rattle.std.proofs.Common.{◌≡◌, ℕ, ◌==◌, List, [], ◌∷◌, ◌++◌, Bool, true, false, if◌then◌else◌, IsTrue, is_some, Option, Some, All, refl, sym, subst}
use Rattle.std.specs.Option.{IfSome}
use Rattle.std.proofs.lemmas.List.Elements.{All-nil}
use Rattle.zb_instance_records.specs.declared.instance.ElementActivating.{ElementActivating}
use Rattle.zb_model.specs.declared.record.Event.{Event}
use Rattle.zb_model.specs.declared.record.Event.TheVariants as events
use Rattle.zb_views.specs.Jobs.{job_at}
use Rattle.zb_views.specs.View.{next_key}
use Rattle.zb_tokens.specs.declared.board.Move.{Move}
use Rattle.zb_tokens.specs.declared.board.Move.TheVariants as moves
use Rattle.zb_tokens.specs.Board.{Board, CellsAscend}
use Rattle.zb_tokens.specs.Game.{empty_board}
use Rattle.zb_tokens.proofs.GameLaws.{both_left}
use Rattle.zb_faults.specs.Faults.{is_well_formed}
use Rattle.zb_tokens.specs.declared.board.Deployed.{Deployed}
use Rattle.zb_rules.proofs.ModelsLaws.{HasFormedModels, formed_on}
use Rattle.zb_rules.specs.Shown.{shown, move_of_cell, board_of}
use Rattle.zb_rules.specs.Applies.{is_fresh, begins_instance, begins_cell, all_apply}
use Rattle.zb_rules.specs.Sound.{IsSound, HasSoundJobs}
use Rattle.zb_rules.proofs.TimerSoundLaws.{HasSoundTimers, timers_sound_on, timers_sound_first}
use Rattle.zb_rules.proofs.CellsLaws.{Between, ascend_between}
use Rattle.zb_rules.proofs.GrowthLaws.{job_shows, started, cell_shows}
use Rattle.zb_rules.proofs.AppliedLaws.{Advances, holds_on, holds_of_all}
use Rattle.zb_rules.proofs.KeysLaws.{HasOrderedCells, board_stands, stands_on, stands_first, begins_by, fresh_is}
use Rattle.zb_rules.proofs.OwesLaws.{HasModel, Owes, all_owe, models_on, owes_on}
use Rattle.zb_rules.proofs.PlacedLaws.{Stands, IsIn, Placed, IsNewIn, placed_on, scopes_of}
use Rattle.zb_rules.proofs.HandlersLaws.{IsOfHandler, handled_on}
use Rattle.zb_rules.proofs.IncidentsLaws.{HasApartIncidents, apart_on, apart_first}
use Rattle.zb_rules.proofs.JobCellsLaws.{IsUntold, untold_on}
use Rattle.zb_rules.proofs.JobSoundLaws.{IsDrawn, jobs_on, jobs_first, drawn_on}

-- the board of a log whose events apply is there
pub board_is_there : (p : ℕ) (es : List Event) → IsTrue (all_apply p [] es) → IsTrue (is_some (board_of es))
board_is_there p es apply =
    let r = holds_on p (λ before b. Unit {0}) (λ before b e after made h. tt) [] es empty_board refl tt apply in
    rw r.1 refl

-- its cells ascend, and none has the key 0
pub cells_ascend : (p : ℕ) (es : List Event) (b : Board) → IsTrue (all_apply p [] es) → board_of es ≡ Some b → CellsAscend 1 b.cells
cells_ascend p es b apply is = ascend_between 1 (next_key p es) b.cells (board_stands p es b apply is).between

-- where a cell enters, its key is behind all
new_by : (p : ℕ) (before : List Event) (b : Board) (a : ElementActivating) (t : Bool) → HasOrderedCells p before b → IsTrue (if t then begins_instance before a else begins_cell p before a)
    → IfSome (if t then Some (moves.Start (started a)) else Some (move_of_cell a a.role)) (IsNewIn b)
new_by p before b a true stands begins = tt
new_by p before b a false stands begins =
    let f = fresh_is p before a.key (both_left (is_fresh p before a.key) _ (both_left _ _ begins)) in
    let new = subst (λ (k : ℕ). Between 1 k b.cells) (sym f.1) stands.between in
    cell_shows (IsNewIn b) a a.role new new new

shown_new : (p : ℕ) (before : List Event) (b : Board) (e : Event) (after : Board) → Advances p before b e after → HasOrderedCells p before b → IfSome (shown before e) (IsNewIn b)
shown_new p before b (events.ElementActivating a) after h stands = new_by p before b a (a.scope == 0) stands (begins_by p before a h.own)
shown_new p before b (events.JobCompleted key) after h stands = job_shows (λ (m : Option Move). IfSome m (IsNewIn b)) (λ j. moves.Done j.cell) (job_at key before) tt (λ j. tt)
shown_new p before b (events.JobErrorThrown t) after h stands = job_shows (λ (m : Option Move). IfSome m (IsNewIn b)) (λ j. moves.Throw (record { cell = j.cell; code = t.code })) (job_at t.key before) tt (λ j. tt)
shown_new p before b e after h stands = tt

-- what each event keeps of the board
pub record BoardKeeps (p : ℕ) (es : List Event) (b : Board) : Type 0 where
  pub stands : HasOrderedCells p es b
  pub models : All (HasModel b) b.cells
  pub owes : All Owes b.cells
  pub handlers : All (IsOfHandler b) b.cells
  pub placed : Placed b
  pub incidents : HasApartIncidents p es b
  pub jobs : HasSoundJobs p es b
  pub timers : HasSoundTimers p es
  pub drawn : All (IsDrawn p es) b.incidents
  pub unset : All IsUntold b.cells
  pub formed : HasFormedModels b

-- an event that applies keeps it
pub keeps_on : (p : ℕ) (before : List Event) (b : Board) (e : Event) (after : Board) → Advances p before b e after → BoardKeeps p before b → BoardKeeps p (before ++ e ∷ []) after
keeps_on p before b e after h k = record {
  stands = stands_on p before b e after h k.stands;
  models = models_on b after (shown before e) h.leads k.models;
  owes = owes_on b after (shown before e) h.fit h.leads k.owes;
  handlers = handled_on b after (shown before e) k.formed h.fit h.leads k.handlers;
  placed = placed_on b after (shown before e) h.fit (shown_new p before b e after h k.stands) h.leads k.owes k.handlers k.placed;
  incidents = apart_on p before b e after h k.incidents;
  jobs = jobs_on p before b e after h k.incidents.apart k.drawn k.jobs;
  timers = timers_sound_on p before b e after h k.timers;
  drawn = drawn_on p before b e after h k.jobs k.drawn;
  unset = untold_on b after (shown before e) (ascend_between 1 (next_key p before) b.cells k.stands.between, scopes_of b k.placed) h.fit h.leads k.unset;
  formed = formed_on p before b e after h k.formed;
}

-- the empty board keeps what a board keeps behind no event
pub keeps_first : (p : ℕ) → BoardKeeps p [] empty_board
keeps_first p = record {
  stands = stands_first p;
  models = All-nil (HasModel empty_board);
  owes = All-nil Owes;
  handlers = All-nil (IsOfHandler empty_board);
  placed = record { cells = All-nil (Stands empty_board); tokens = All-nil (IsIn empty_board) };
  incidents = apart_first p;
  jobs = jobs_first p;
  timers = timers_sound_first p;
  drawn = All-nil (IsDrawn p []);
  unset = All-nil IsUntold;
  formed = All-nil (λ (d : Deployed). IsTrue (is_well_formed d.model));
}

-- the board of a log whose events apply has it
pub board_keeps : (p : ℕ) (es : List Event) (b : Board) → IsTrue (all_apply p [] es) → board_of es ≡ Some b → BoardKeeps p es b
board_keeps p es b apply is = holds_of_all p (BoardKeeps p) (keeps_on p) es b (keeps_first p) apply is

sound_from : (p : ℕ) (es : List Event) (b : Board) → BoardKeeps p es b → IsSound b
sound_from p es b k = record {
  cells = ascend_between 1 (next_key p es) b.cells k.stands.between;
  scopes = scopes_of b k.placed;
  models = k.models;
  tokens = k.placed.tokens;
  leaving = all_owe b.cells k.owes;
  incidents = k.incidents.apart;
}

-- and is sound
pub board_is_sound : (p : ℕ) (es : List Event) (b : Board) → IsTrue (all_apply p [] es) → board_of es ≡ Some b → IsSound b
board_is_sound p es b apply is = sound_from p es b (board_keeps p es b apply is)

-- its jobs are sound
pub jobs_are_sound : (p : ℕ) (es : List Event) (b : Board) → IsTrue (all_apply p [] es) → board_of es ≡ Some b → HasSoundJobs p es b
jobs_are_sound p es b apply is = (board_keeps p es b apply is).jobs

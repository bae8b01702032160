use Rattle.std.proofs.Common.{◌≡◌, Bool, Option, Some, None, option_map, ap, sym}
use Rattle.zb_views.specs.Jobs.{job_at}
use Rattle.zb_tokens.specs.declared.board.Cell.{Cell}
use Rattle.zb_tokens.specs.declared.board.Assignments.{Assignments}
use Rattle.zb_tokens.specs.Board.{cell_at}
use Rattle.zb_tokens.specs.Mappings.{gives_outputs}
use Rattle.zb_rules.specs.Shown.{board_of}
use Rattle.zb_step.proofs.complete.place_of.Goals as goal

-- what is made of a question of a thing that is there
made_of : (asks : Cell → Bool) (makes : Bool → Assignments) (found : Option Cell) (told : Bool) → option_map asks found ≡ Some told → option_map (λ c. makes (asks c)) found ≡ Some (makes told)
made_of asks makes None told is = absurd (cc)
made_of asks makes (Some c) told is = ap (option_map makes) is

pub returns : goal.returns
returns c = λ es is.
    let b = c.game.result.now in
    let job = c.in_ok-scope.field-0.now in
    let board : board_of es ≡ Some b = c.game.ensures es is in
    let there : job_at c.args.command.now.key es ≡ Some job = rw (c.jobs.ensures es is) (sym c.in_ok-scope.ensures.job) in
    let makes : Bool → Assignments = λ local. record { scope = job.cell; local = local; variables = c.args.command.now.variables } in
    rw (there, board) (made_of (gives_outputs b) makes (cell_at b job.cell) c.in_ok-local.local (sym c.in_ok-local.ensures))

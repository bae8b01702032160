use Rattle.std.proofs.Common.{List, Bool, Some, false, refl, sym, subst, ◌∙◌, arith}
use Rattle.std.specs.Option.{option_map_or}
use Rattle.zb_exchange_records.specs.declared.message.MessagePublished.{MessagePublished}
use Rattle.zb_table.specs.Rows.{Ascend}
use Rattle.zb_table.proofs.Ascending.{lower}
use Rattle.zb_views.specs.declared.job.Job.{Job}
use Rattle.zb_views.specs.declared.timer.Timer.{Timer}
use Rattle.zb_lists.specs.Listed.{row_found}
use Rattle.zb_lists.proofs.DueLemmas.{first_listed, due_listed}
use Rattle.zb_rules.proofs.SoundLaws.{board_keeps}
use Rattle.zb_rules.specs.Trigger.{waits_for}
use Rattle.zb_state.specs.declared.facts.Facts.{Facts}
use Rattle.zb_state.specs.Listing.{given_until}
use Rattle.zb_state.specs.State.{IsStateOf}
use Rattle.zb_state.proofs.DueLemmas.{first_by_tables, first_job_place}
use Rattle.zb_state.proofs.state.State.due.Goals as goal

pub returns : goal.returns
returns c = λ es its.
    let s = c.self.inside.facts in
    let listed = c.self.inside.listing in
    let right = c.self.invariant in
    let now = c.args.now in
    let is = subst (λ (f : Facts). IsStateOf es f) (sym c.self.view_is) its in
    let keeps = board_keeps s.place es s.game is.applied is.game in
    let jobs_up : Ascend (λ (j : Job). j.key) 0 s.tables.jobs = subst (λ (js : List Job). Ascend (λ (j : Job). j.key) 0 js) is.jobs (lower (λ (j : Job). j.key) 0 1 _ (omega arith) keeps.jobs.ascend) in
    let timers_up : Ascend (λ (t : Timer). t.key) 0 s.tables.timers = subst (λ (ts : List Timer). Ascend (λ (t : Timer). t.key) 0 ts) is.timers keeps.timers.ascend in
    let awaited : Timer → Bool = λ t. waits_for t s.game in
    let expiry = c.first_due.ensures.first ∙ first_listed (λ (m : MessagePublished). m.key) (λ m. Some m.deadline) now s.messages right.ascend listed.messages.moments c.first_due.ensures.order right.rows.messages_listed.in_time in
    let time_out = c.first_due-2.ensures.first ∙ (first_listed (λ (j : Job). j.key) given_until now s.tables.jobs jobs_up listed.jobs.moments c.first_due-2.ensures.order right.rows.jobs_listed.in_time ∙ first_job_place now s.tables.jobs) in
    let trigger = (rw c.board-game.ensures at c.first_due_that.ensures.first)
    ∙ due_listed (λ (t : Timer). t.key) (λ t. Some t.due) now s.tables.timers timers_up listed.timers.moments c.first_due_that.ensures.order right.rows.timers_listed.in_time awaited
    (λ k. option_map_or awaited (row_found (λ (t : Timer). t.key) s.tables.timers k) false) (λ k t at. rw at refl) in
    let told = rw (c.earlier-2.ensures, c.expiry_of-expiry.ensures, c.earlier.ensures, c.time_out_of-time_out.ensures, c.trigger_of-trigger.ensures) at c.command_of.ensures in
    first_by_tables now es s.game s.messages s.tables.jobs s.tables.timers c.first_due.result c.first_due-2.result c.first_due_that.result c.command_of.result is.game keeps.timers.ascend is.messages is.jobs is.timers expiry time_out trigger told

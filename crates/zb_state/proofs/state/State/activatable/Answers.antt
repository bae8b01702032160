use Rattle.std.proofs.Common.{◌≡◌, List, [], map, filter, sym, ap, subst, ◌∙◌, arith}
use Rattle.zb_model.specs.declared.record.Event.{Event}
use Rattle.zb_table.specs.Rows.{Ascend}
use Rattle.zb_table.proofs.Ascending.{lower}
use Rattle.zb_views.specs.declared.job.Job.{Job}
use Rattle.zb_views.specs.Jobs.{is_offered, jobs}
use Rattle.zb_lists.proofs.ListedLemmas.{keys_listed}
use Rattle.zb_rules.proofs.SoundLaws.{board_keeps}
use Rattle.zb_state.specs.declared.facts.Facts.{Facts}
use Rattle.zb_state.specs.Listing.{given_until, offered_as}
use Rattle.zb_state.specs.State.{IsStateOf}
use Rattle.zb_state.proofs.LentLemmas.{offered_listed}
use Rattle.zb_state.proofs.state.State.activatable.Goals as goal

pub returns : goal.returns
returns c =
    let kind = c.args.kind.now in
    subst (λ (f : Facts). (es : List Event) → IsStateOf es f → c.labelled.result.now ≡ map (λ j. j.key) (filter (is_offered kind) (jobs es))) c.self.view_is
    (λ es is.
    let s = c.self.inside.facts in
    let up : Ascend (λ (j : Job). j.key) 0 s.tables.jobs = subst (λ (js : List Job). Ascend (λ (j : Job). j.key) 0 js) is.jobs (lower (λ (j : Job). j.key) 0 1 _ (omega arith) (board_keeps s.place es s.game is.applied is.game).jobs.ascend) in
    keys_listed (λ (j : Job). j.key) given_until offered_as s.tables.jobs c.self.inside.listing.jobs kind [] c.labelled.result.now up c.self.invariant.rows.jobs_listed c.labelled.ensures.keys c.labelled.ensures.order
    ∙ (ap (map (λ (j : Job). j.key)) (offered_listed kind s.tables.jobs) ∙ ap (λ (js : List Job). map (λ (j : Job). j.key) (filter (is_offered kind) js)) (sym is.jobs)))

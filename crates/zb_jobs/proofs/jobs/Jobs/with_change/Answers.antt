use Rattle.std.proofs.Common.{◌≡◌, map, refl, sym, subst, ◌∙◌}
use Rattle.zb_views.specs.declared.job.Job.{Job}
use Rattle.zb_views.specs.Jobs.{job_changed}
use Rattle.zb_pairs.proofs.FoundLemmas.{edited_all}
use Rattle.zb_jobs.specs.Table.{HaveOwnCells}
use Rattle.zb_jobs.proofs.RowLemmas.{own_mapped}
use Rattle.zb_jobs.proofs.jobs.Jobs.with_change.Goals as goal

pub invariant_of-self : goal.invariant_of-self
invariant_of-self c =
    let f = job_changed c.args.event.now in
    let rows = c.self.inside.rows in
    let now : c.edit.new.self ≡ map f rows = c.in_ok-edit.ensures ∙ edited_all (λ (j : Job). j.key) f c.args.key (λ j. refl) c.requires rows in
    subst HaveOwnCells (sym now) (own_mapped f rows (λ j. refl) c.self.invariant)

pub returns : goal.returns
returns c =
    let f = job_changed c.args.event.now in
    c.in_ok-edit.ensures ∙ (edited_all (λ (j : Job). j.key) f c.args.key (λ j. refl) c.requires c.self.inside.rows ∙ rw c.self.view_is refl)

use Rattle.std.proofs.Common.{◌≡◌, ◌++◌, ◌∷◌, [], List, sym, ap, subst, ◌∙◌}
use Rattle.zb_table.proofs.Growing.{with_last}
use Rattle.zb_views.specs.declared.job.Job.{Job}
use Rattle.zb_views.specs.Jobs.{new_job}
use Rattle.zb_pairs.proofs.FoundLemmas.{none_below}
use Rattle.zb_jobs.specs.Table.{HaveOwnCells}
use Rattle.zb_jobs.proofs.RowLemmas.{has_place, own_more}
use Rattle.zb_jobs.proofs.jobs.Jobs.add.Goals as goal

-- the rows with the new one
added : (c : goal.In_ok-add) → c.add.new.self ≡ c.self.inside.rows ++ new_job c.args.created.now ∷ []
added c =
    let rows = c.self.inside.rows in
    let created = c.args.created.now in
    let place = has_place created.key created.cell rows (rw c.self.view_is c.requires) in
    c.in_ok-add.ensures.ok ∙ rw c.in_ok-job.ensures (with_last (λ (j : Job). j.key) (new_job created) rows place.0)

pub add-requires : goal.add-requires
add-requires c =
    let place = has_place c.args.created.now.key c.args.created.now.cell c.self.inside.rows (rw c.self.view_is c.requires) in
    rw c.in_ok-job.ensures (none_below (λ (j : Job). j.key) c.args.created.now.key c.self.inside.rows place.0)

pub invariant_of-self : goal.invariant_of-self
invariant_of-self c = subst HaveOwnCells (sym c.in_err-add.ensures.err) c.self.invariant

pub invariant_of-self-2 : goal.invariant_of-self-2
invariant_of-self-2 c =
    let rows = c.self.inside.rows in
    let created = c.args.created.now in
    let place = has_place created.key created.cell rows (rw c.self.view_is c.requires) in
    subst HaveOwnCells (sym (added c)) (own_more rows (new_job created) c.self.invariant place.1)

pub returns : goal.returns
returns c = added c ∙ ap (λ (js : List Job). js ++ new_job c.args.created.now ∷ []) c.self.view_is

use Rattle.std.proofs.Common.{◌≡◌, ℕ, ◌==◌, List, filter, not, Option, Some, None, refl, sym, ap, ◌∙◌}
use Rattle.std.specs.Option.{option_map}
use Rattle.zb_table.specs.Rows.{Ascend, without}
use Rattle.zb_views.specs.declared.job.Job.{Job}
use Rattle.zb_pairs.proofs.FoundLemmas.{all_stay}
use Rattle.zb_jobs.specs.Table.{job_of_cell, HaveOwnCells}
use Rattle.zb_jobs.proofs.RowLemmas.{cell_gone}
use Rattle.zb_jobs.proofs.jobs.Jobs.end_on.Goals as goal

-- the job of the cell has the key
gone : (cell key : ℕ) (js : List Job) (found : Option Job) → job_of_cell cell js ≡ found → Some key ≡ option_map (λ j. j.key) found → Ascend (λ j. j.key) 0 js → HaveOwnCells js
    → without (λ j. j.key) key js ≡ filter (λ j. not (j.cell == cell)) js
gone cell key js None is at up own = absurd (cc)
gone cell key js (Some j) is at up own =
    let same : key ≡ j.key = cc in
    ap (λ (k : ℕ). without (λ (x : Job). x.key) k js) same ∙ cell_gone cell 0 js j up own is

absent : (found : Option Job) → None ≡ option_map (λ j. j.key) found → found ≡ None
absent None is = refl
absent (Some j) is = absurd (cc)

pub returns-in-Some : goal.returns-in-Some
returns-in-Some c =
    let js = c.args.self.now in
    c.end.ensures.left ∙ gone c.args.cell c.in-Some.key js (job_of_cell c.args.cell js) refl c.in-Some.ensures c.end.ensures.order c.end.ensures.cells

pub returns-in_default : goal.returns-in_default
returns-in_default c =
    let js = c.args.self.now in
    sym (all_stay (λ (j : Job). j.cell == c.args.cell) js (absent (job_of_cell c.args.cell js) c.in_default.ensures))

use Rattle.std.proofs.Common.{◌==◌, refl, ◌∙◌}
use Rattle.zb_pairs.proofs.FoundLemmas.{first_is_found}
use Rattle.zb_rows.proofs.rows.Rows.get.Goals as goal

pub returns-clause-row : goal.returns-clause-row
returns-clause-row g c = c.get.ensures.row ∙ (first_is_found (λ (r : g.row.R.Denot). g.R.Row.key_in r == c.args.key) c.self.inside.rows ∙ rw c.self.view_is refl)

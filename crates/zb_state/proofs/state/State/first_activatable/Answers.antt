use Rattle.std.proofs.Common.{List, ℕ, take, ap, ◌∙◌}
use Rattle.std.proofs.lemmas.List.{take-map}
use Rattle.zb_views.specs.declared.job.Job.{Job}
use Rattle.zb_state.proofs.state.State.first_activatable.Goals as goal

pub returns : goal.returns
returns c = λ es is. c.from_vec.ensures ∙ (c.in_ok-first_of.ensures ∙ (ap (λ (keys : List ℕ). take c.args.most keys) (c.activatable.ensures es is) ∙ take-map (λ (j : Job). j.key) c.args.most _))

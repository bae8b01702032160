use Rattle.std.proofs.Common.{◌≡◌, ◌==◌, drop, is_none}
use Rattle.std.specs.List.{find, list_any}
use Rattle.zb_views.specs.declared.job.Job.{Job}
use Rattle.zb_state.proofs.facts.jobs.lacks_one.Given as goal

-- of the jobs from here on one isn't there, where of all of them one isn't
abbrev pub invariant-loop-key : goal.invariant-loop-key
invariant-loop-key l = list_any (λ key. is_none (find (λ (j : Job). j.key == key) l.jobs)) (drop l.key-index l.keys) ≡ list_any (λ key. is_none (find (λ (j : Job). j.key == key) l.jobs)) l.keys

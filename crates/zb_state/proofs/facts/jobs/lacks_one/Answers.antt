use Rattle.std.proofs.Common.{◌≡◌, ◌==◌, ◌||◌, ◌+◌, ◌∙◌, ℕ, Bool, true, false, drop, is_none, sym, ap, arith}
use Rattle.std.specs.List.{find, list_any}
use Rattle.zb_views.specs.declared.job.Job.{Job}
use Rattle.zb_state.proofs.JobLemmas.{any_from}
use Rattle.zb_state.proofs.facts.jobs.lacks_one.Goals as goal

pub returns-then-is_missing : goal.returns-then-is_missing
returns-then-is_missing c =
    let keys = c.args.keys.now in
    let at = c.loop-key in
    let missing : ℕ → Bool = λ key. is_none (find (λ (j : Job). j.key == key) c.args.jobs.now) in
    let here : missing c.key-item.result ≡ true = sym c.is_missing.ensures ∙ c.if-is_missing.true in
    sym (sym at.invariant ∙ (any_from missing keys at.key-index c.key-item.result (omega arith) c.key-item.is ∙ ap (λ (t : Bool). t || list_any missing (drop (at.key-index + 1) keys)) here))

pub loop-key-preserved : goal.loop-key-preserved
loop-key-preserved c =
    let keys = c.args.keys.now in
    let at = c.loop-key in
    let missing : ℕ → Bool = λ key. is_none (find (λ (j : Job). j.key == key) c.args.jobs.now) in
    let here : missing c.key-item.result ≡ false = sym c.is_missing.ensures ∙ c.if-is_missing.false in
    sym (any_from missing keys at.key-index c.key-item.result (omega arith) c.key-item.is ∙ ap (λ (t : Bool). t || list_any missing (drop (at.key-index + 1) keys)) here) ∙ at.invariant

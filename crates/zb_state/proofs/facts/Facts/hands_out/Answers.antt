use Rattle.std.proofs.Common.{◌≡◌, ◌&&◌, ℕ, List, Bool, true, sym, ap, ◌∙◌}
use Rattle.zb_views.specs.Jobs.{is_activatable}
use Rattle.zb_tokens.specs.Board.{Board}
use Rattle.zb_tokens.specs.Work.{is_work_in}
use Rattle.zb_state.proofs.JobLemmas.{handed}
use Rattle.zb_state.proofs.facts.Facts.hands_out.Goals as goal

pub returns-then-is_activatable : goal.returns-then-is_activatable
returns-then-is_activatable c = λ es is.
    let s = c.args.self.now in
    let given = c.args.given.now in
    let job = c.in-Some.job.now in
    let works : Bool = is_work_in job.cell given.instance given.node s.game in
    let may : is_activatable job.phase ≡ true = sym c.is_activatable.ensures ∙ c.if-is_activatable.true in
    c.is_work_in.ensures
    ∙ (ap (λ (node : List ℕ). is_work_in job.cell given.instance node c.board.result.now) c.as_str.ensures
    ∙ (ap (λ (b : Board). is_work_in job.cell given.instance given.node b) c.board.ensures ∙ sym (handed es s is given job c.in-Some.ensures.job ∙ ap (λ (t : Bool). t && works) may)))

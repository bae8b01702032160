use Rattle.std.proofs.Common.{◌≡◌, ℕ, List, take, get_or, rules, arith, ap, subst, ◌∙◌}
use Rattle.std.proofs.lemmas.List.{take_all}
use Rattle.zb_rules.specs.Making.{Making, each_made}
use Rattle.zb_rules.specs.Starts.{started_of}
use Rattle.zb_state.specs.State.{partition_of, HasPut}
use Rattle.zb_follow.proofs.MakerLemmas.{cant_at, put_at}
use Rattle.zb_follow.proofs.starting.EachStartingMaker.put.Goals as goal

pub returns-in_err-put-clause-misfit : goal.returns-in_err-put-clause-misfit
returns-in_err-put-clause-misfit c = λ misfit.
    let make : ℕ → List ℕ → Making = λ p id. started_of p c.args.self.message id in
    cant_at make c.args.self.processes.items c.loop-process.process-index c.process-item.result (omega arith) (c.process-item.is ∙ ap (λ (ids : List (List ℕ)). get_or ids c.loop-process.process-index c.process-item.result) c.as_slice-process-items.ensures.value) c.args.state.now c.loop-process.state _ _ c.loop-process.invariant.1 c.loop-process.invariant.0
    (rw c.as_str-process.ensures at (c.in_err-put.ensures.misfit (search rules)))

pub loop-process-preserved : goal.loop-process-preserved
loop-process-preserved c =
    let make : ℕ → List ℕ → Making = λ p id. started_of p c.args.self.message id in (
      put_at make c.args.self.processes.items c.loop-process.process-index c.process-item.result (omega arith) (c.process-item.is ∙ ap (λ (ids : List (List ℕ)). get_or ids c.loop-process.process-index c.process-item.result) c.as_slice-process-items.ensures.value) c.args.state.now c.loop-process.state _ _ c.loop-process.invariant.1 c.loop-process.invariant.0 _ _
          (rw c.as_str-process.ensures at c.in_ok-put.ensures.ok),
      search rules,
      omega (arith, c.in_ok-put.ensures.more, c.loop-process.invariant.2),
    )

pub returns-clause-ok : goal.returns-clause-ok
returns-clause-ok c =
    let things = c.args.self.processes.items in
    let all : take c.loop-process.process-index things ≡ things = take_all c.loop-process.process-index things (omega arith) in
    subst (λ xs. HasPut (each_made (λ id. started_of (partition_of c.args.state.now) c.args.self.message id) xs) c.args.state.now c.loop-process.state c.args.out.now c.loop-process.out) all c.loop-process.invariant.0

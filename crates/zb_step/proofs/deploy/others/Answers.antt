use Rattle.std.proofs.Common.{◌≡◌, ◌-◌, ◌+◌, ◌++◌, ◌∷◌, [], ℕ, suc, List, arith, ap, ◌∙◌, sym}
use Rattle.std.specs.List.{range_with_len}
use Rattle.zb_step.proofs.OwnLemmas.{range_more}
use Rattle.zb_step.proofs.deploy.others.Goals as goal

pub loop-behind-preserved : goal.loop-behind-preserved
loop-behind-preserved c =
    let at = c.loop-behind in
    let k = at.behind in
    let more : k + 1 - 1 ≡ suc (k - 1) = omega (arith, at.auto.behind) in
    record {
      within = omega (arith);
      are = c.in_ok-push.ensures.items ∙ (ap (λ (l : List ℕ). l ++ (k + 1) ∷ []) at.invariant.are ∙ sym (ap (range_with_len 2) more ∙ range_more 2 (k - 1) (k + 1) (omega (arith, at.auto.behind))));
    }

pub returns : goal.returns
returns c =
    let last : c.loop-behind.behind - 1 ≡ c.args.partitions - 1 = omega arith in
    c.loop-behind.invariant.are ∙ ap (range_with_len 2) last

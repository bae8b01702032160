use Rattle.std.proofs.Common.{◌≡◌, ℕ, All, length, take, subst, arith}
use Rattle.std.proofs.lemmas.List.{drop_all}
use Rattle.std.proofs.lemmas.List.Elements.{All-more}
use Rattle.std.specs.declared.cmp.Ordering.TheVariants.{Greater}
use Rattle.zb_base.specs.declared.vars.Variable.{Variable}
use Rattle.zb_base.specs.Vars.{order_of}
use Rattle.zb_base.proofs.vars.place.Goals as goal

pub loop-index-preserved : goal.loop-index-preserved
loop-index-preserved c =
    let IsBehind : Variable → Type 0 = λ v. order_of c.args.name.now v.name ≡ Greater in
    let item = c.index-variables-index.result in
    let here : IsBehind item = cc in
    All-more IsBehind c.args.variables.now c.loop-index.index item c.loop-index-test.true c.loop-index.invariant (subst IsBehind c.index-variables-index.is here)

pub returns-clause-missing : goal.returns-clause-missing
returns-clause-missing c =
    let vs = c.args.variables.now in
    let IsBehind : ℕ → Type 0 = λ n. All (λ (v : Variable). order_of c.args.name.now v.name ≡ Greater) (take n vs) in
    let end : c.loop-index.index ≡ length vs = omega arith in
    record {
      within = omega arith;
      behind = subst IsBehind end c.loop-index.invariant;
      next = rw (drop_all (length vs) vs (omega arith));
    }

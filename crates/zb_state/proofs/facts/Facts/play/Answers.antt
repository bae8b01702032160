use Rattle.std.proofs.Common.{◌≡◌, ◌∙◌, Bool, true, List, Some, IsTrue, IsFalse, OnOk, sym, subst, rules}
use Rattle.zb_rules.specs.Applies.{holds_own, may_fit}
use Rattle.zb_rules.specs.Shown.{shown_by, after_shown}
use Rattle.zb_views.specs.declared.job.Job.{Job}
use Rattle.zb_state.specs.State.{partition_of}
use Rattle.zb_state.proofs.StateLemmas.{applies_by}
use Rattle.zb_state.proofs.facts.Facts.play.Goals as goal

pub returns-clause-applied : goal.returns-clause-applied
returns-clause-applied c = λ es is.
    let s = c.args.self.now in
    let e = c.args.event.now in
    let told = c.in_ok-meets_own.ensures.own es is in
    let own : holds_own (partition_of s) es e ≡ true = sym told ∙ search rules in
    subst (λ (t : Bool). OnOk c.play.result (IsTrue t)) (sym (applies_by (partition_of s) es e s.game own is.game))
    (subst (λ (js : List Job). OnOk c.play.result (IsTrue (may_fit (shown_by js e) s.game))) (sym is.jobs) c.play.ensures.fit)

pub returns-clause-played : goal.returns-clause-played
returns-clause-played c = λ es is.
    let s = c.args.self.now in
    subst (λ (js : List Job). OnOk c.play.result (after_shown s.game (shown_by js c.args.event.now) ≡ Some c.play.new.self)) (sym is.jobs) c.play.ensures.played

pub returns-clause-refused : goal.returns-clause-refused
returns-clause-refused c = λ es is err.
    let s = c.args.self.now in
    let e = c.args.event.now in
    let told = c.in_ok-meets_own.ensures.own es is in
    let own : holds_own (partition_of s) es e ≡ true = sym told ∙ search rules in
    subst (λ (t : Bool). IsFalse t) (sym (applies_by (partition_of s) es e s.game own is.game))
    (subst (λ (js : List Job). IsFalse (may_fit (shown_by js e) s.game)) (sym is.jobs) (c.play.ensures.illegal err))

use Rattle.std.proofs.Common.{◌≡◌, ℕ, Bool, true, false, not, sym, ap, ◌∙◌, arith}
use Rattle.std.specs.List.{list_any}
use Rattle.zb_views.specs.Subscriptions.{is_lock}
use Rattle.zb_course.proofs.FindLemmas.{found_here, found_later}
use Rattle.zb_state.proofs.state.starts.first_free.Goals as goal

pub returns-then-not-is_locked : goal.returns-then-not-is_locked
returns-then-not-is_locked c =
    let free : ℕ → Bool = λ k. not (list_any (is_lock k c.args.process.now) c.args.locks.now) in
    let at = c.loop-key in
    let here : free c.key-item.result ≡ true = ap not (sym c.is_locked.ensures ∙ c.if-not-is_locked.true) in
    sym (sym at.invariant ∙ found_here free c.args.keys.now at.key-index c.key-item.result (omega arith) c.key-item.is here)

pub loop-key-preserved : goal.loop-key-preserved
loop-key-preserved c =
    let free : ℕ → Bool = λ k. not (list_any (is_lock k c.args.process.now) c.args.locks.now) in
    let at = c.loop-key in
    let here : free c.key-item.result ≡ false = ap not (sym c.is_locked.ensures ∙ c.if-not-is_locked.false) in
    sym (found_later free c.args.keys.now at.key-index c.key-item.result (omega arith) c.key-item.is here) ∙ at.invariant

use Rattle.std.proofs.Common.{◌≡◌, ◌-◌, ◌∙◌, ap, sym, subst, length, ℕ, List, take, drop}
use Rattle.zb_store.specs.Step.{IsAtGate, AreFrom}
use Rattle.zb_store.proofs.PieceLemmas.{piece_from}
use Rattle.zb_store.proofs.window.Window.look.Goals as goal

pub returns-clause-step : goal.returns-clause-step
returns-clause-step g c = λ told.
    let view = g.D.Disk.view in
    let now = (view c.hold.new.disk).contents in
    let window = c.hold.new.self in
    let same : now ≡ (view c.args.disk.now).contents = c.hold.ensures.reads.same told in
    let end : length now ≡ window.end = ap length same ∙ sym (c.requires.end told) ∙ sym c.hold.ensures.end in
    let bytes = piece_from now window.bytes.items window.start window.filled c.args.at (c.hold.ensures.piece told) window.inside c.in_ok-hold.ensures.holds.begins in
    let from = subst (λ (l : List ℕ). AreFrom now c.args.at (take (window.filled - (c.args.at - window.start)) (drop (c.args.at - window.start) l))) (sym c.deref.ensures.value) bytes in
    subst (λ (f : List ℕ). IsAtGate f c.args.at c.step_at.result) same (c.step_at.ensures.step now end from)

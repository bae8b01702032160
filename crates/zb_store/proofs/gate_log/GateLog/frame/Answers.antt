use Rattle.std.proofs.Common.{◌≡◌, ◌+◌, ℕ, List, sym, ◌∙◌, ap, arith}
use Rattle.std.specs.Prelude.{Some, slice_range}
use Rattle.std.proofs.lemmas.Result.{on_ok_weaker}
use Rattle.zb_store.specs.Stands.{next_gate}
use Rattle.zb_store.proofs.BodyLemmas.{frame_at}
use Rattle.zb_store.proofs.gate_log.GateLog.frame.Goals as goal

pub returns-clause-body : goal.returns-clause-body
returns-clause-body g c = λ told bodies has.
    let view = g.D.Disk.view in
    let log = c.args.self.now in
    let file = (view log.disk).contents in
    let walked : (view c.walk.new.disk).contents ≡ file = c.walk.ensures.reads.same told in
    let stepped : (view c.gate_behind.new.disk).contents ≡ file = c.gate_behind.ensures.reads.same told ∙ walked in
    let front = c.in_ok-gate.ensures.gate told bodies has.leads (c.near-near.ensures.leads file bodies has) (omega (arith, c.requires, has.count)) in
    let at = frame_at file 0 c.args.i bodies log.last c.in_ok-gate.gate has.leads front (omega (arith, c.requires, has.count)) in
    let next : c.in_ok-next.next ≡ next_gate file c.in_ok-gate.gate = c.in_ok-next.ensures.next told ∙ ap (λ (f : List ℕ). next_gate f c.in_ok-gate.gate) walked in
    let part = at.2.body_is ∙ ap (λ (n : ℕ). slice_range file (c.in_ok-gate.gate + 9) n) (sym next) ∙ ap (λ (f : List ℕ). slice_range f (c.in_ok-gate.gate + 9) c.in_ok-next.next) (sym stepped) in
    on_ok_weaker c.read_part.result (λ read. at.1 ∙ ap (λ (l : List ℕ). Some l) (part ∙ sym read)) (c.read_part.ensures.part told)

use Rattle.std.proofs.Common.{◌≡◌, ◌+◌, ℕ, List, suc, take, sym, subst, ◌∙◌, ap, arith}
use Rattle.zb_store.proofs.CallLaws.{reads_then}
use Rattle.zb_store.specs.Stands.{next_gate, Leads}
use Rattle.zb_store.proofs.BodyLemmas.{frame_at}
use Rattle.zb_store.proofs.walking.walk.Goals as goal

pub loop-passed-preserved : goal.loop-passed-preserved
loop-passed-preserved g c =
    let disks = g.D.Disk in
    let file = (disks.view c.args.disk.now).contents in
    let before = c.loop-passed.invariant in
    let here = c.loop-passed.gate in
    let next = c.in_ok-gate.gate in
    let k = c.loop-passed._passed in
    record {
      inside = c.in_ok-gate.ensures.inside;
      reads = reads_then disks c.args.disk.now c.loop-passed.disk c.gate_behind.new.disk before.reads c.gate_behind.ensures.reads;
      steady = λ counts. c.in_ok-gate.ensures.steady counts ∙ before.steady counts;
      leads = λ told bodies leads near lt.
          let at = frame_at file 0 k bodies c.args.last here leads (before.leads told bodies leads near lt) (omega (arith, lt, c.loop-passed-test.true)) in
          let behind : next ≡ next_gate file here = c.in_ok-gate.ensures.next told ∙ ap (λ (f : List ℕ). next_gate f here) (before.reads.same told) in
          let more : suc k ≡ k + 1 = omega arith in
          subst (λ (n : ℕ). Leads file 0 (take n bodies) next) more (subst (λ (n : ℕ). Leads file 0 (take (suc k) bodies) n) (sym behind) at.3);
    }

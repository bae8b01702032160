use Rattle.std.proofs.Common.{◌∙◌, ◌++◌, ap, map, arith}
use Rattle.std.specs.Option.{option_or}
use Rattle.zb_serve.specs.Running.{files_of, first_writing}
use Rattle.zb_serve.proofs.OpeningLemmas.{first_removed}
use Rattle.zb_serve.proofs.ClosingLemmas.{one_closed, still_first, none_left_open}
use Rattle.zb_serve.proofs.closing.close_all.Goals as goal

pub loop-preserved : goal.loop-preserved
loop-preserved g c =
    let old = c.loop.partitions.items in
    let new = c.remove.new.self.items in
    let split = first_removed old new c.remove.result (omega (arith, c.loop-test.true, c.len-end.ensures, c.loop.invariant.left, c.loop.partitions.ok)) c.remove.ensures.value c.remove.ensures.items in
    let closed = c.stopped-volume.ensures in
    record {
      left = omega (arith, c.loop.invariant.left, c.remove.ensures.len);
      put = omega (arith, c.loop.invariant.put, c.push_reserved.ensures.len);
      room = c.push_reserved.ensures.capacity ∙ c.loop.invariant.room;
      all = ap (λ volumes. volumes ++ map files_of new) c.push_reserved.ensures.items ∙ (one_closed old new c.remove.result c.loop.volumes.items c.stopped-volume.result.volume split closed.log closed.slots ∙ c.loop.invariant.all);
      first = ap (λ writing. option_or writing (first_writing new)) c.or-writing.ensures ∙ (still_first old new c.remove.result c.loop.writing c.stopped-volume.result.in_writing split closed.in_writing ∙ c.loop.invariant.first);
    }

pub returns-clause-in_writing : goal.returns-clause-in_writing
returns-clause-in_writing g c =
    none_left_open c.loop.partitions.items c.loop.writing (omega (arith, c.loop-test.false, c.len-end.ensures, c.loop.invariant.left, c.loop.partitions.ok)) ∙ c.loop.invariant.first

use Rattle.std.proofs.Common.{string_bytes}
use Rattle.zb_show.proofs.EventLemmas.{next_event}
use Rattle.zb_show.proofs.lines.put_events.Goals as goal

pub loop-i-preserved : goal.loop-i-preserved
loop-i-preserved c = next_event c.args.stamp c.behind.result c.args.events.now c.loop-i.i c.index-events-i.result (string_bytes c.args.text.now) (string_bytes c.loop-i.text) _
    c.loop-i-test.true c.index-events-i.is c.behind.ensures c.loop-i.invariant c.in_ok-put_event.ensures

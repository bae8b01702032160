use Rattle.std.proofs.Common.{[], ◌∷◌, ◌++◌, List, take, sym, ap, append_assoc, append-nil, arith}
use Rattle.zb_model.specs.declared.record.Packet.{Packet}
use Rattle.zb_record.specs.Packets.{kept_by}
use Rattle.zb_record.proofs.KeptLaws.{kept_so_far}
use Rattle.zb_world.proofs.packets.add_kept.Goals as goal
use Rattle.zb_world.proofs.packets.add_kept.Goals.{in-Some+in_ok-push, in_default}

pub loop-place-preserved : goal.loop-place-preserved
loop-place-preserved c =
    let es = c.args.events.now in
    let at = c.loop-place.place in
    let first = c.args.packets.now.items in
    let kept : List Packet = kept_by c.args.from c.args.partitions (take at es) in
    let more = kept_so_far c.args.from c.args.partitions es at c.index-events-place.result c.in_ok-packet.field-0 (omega arith) c.index-events-place.is c.in_ok-packet.ensures in
    elim c.match-branch-2.branch [
      | in-Some+in_ok-push w ↦ rw (w.packets-is, w.in_ok-push.ensures.items, c.loop-place.invariant, more, w.in-Some.is) (append_assoc first kept (w.in-Some.packet ∷ []))
      | in_default w ↦ rw (w.packets-is, c.loop-place.invariant, more, w.in_default.is) (ap (λ (l : List Packet). first ++ l) (sym (append-nil kept)))
    ]

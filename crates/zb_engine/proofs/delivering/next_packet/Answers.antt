use Rattle.std.proofs.Common.{rules, ◌<◌, length, slice_get, ap, sym, ◌∙◌}
use Rattle.zb_model.specs.declared.record.Packet.{Packet}
use Rattle.std.proofs.Common.{List}
use Rattle.zb_engine.proofs.DeliveryLemmas.{hand_is_answers}
use Rattle.zb_engine.proofs.NumberLemmas.{first_there}
use Rattle.zb_engine.proofs.delivering.next_packet.Goals as goal

pub returns-clause-taken : goal.returns-clause-taken
returns-clause-taken g c = λ n units is.
    let some : 0 < length c.args.hand.now.items = search rules in
    let first = first_there c.args.hand.now.items c.remove-packet.result some c.remove-packet.ensures.value in
    let answer = hand_is_answers n units c.remove-packet.result (ap (λ (ps : List Packet). slice_get ps 0) (sym is) ∙ first) in
    rw answer c.remove-packet.ensures.items

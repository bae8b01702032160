use Rattle.std.proofs.Common.{arith}
use Rattle.zb_graph.proofs.PlaceLemmas.{places_more}
use Rattle.zb_graph.proofs.places.places_by.Goals as goal

pub loop-place-preserved : goal.loop-place-preserved
loop-place-preserved g c = λ name.
    let added = c.in_ok-add_item.ensures name in
    let so_far = c.loop-place.invariant name in
    let more = places_more (λ x. g.L.Label.has_name x name) c.args.items.now c.loop-place.place c.index-items-place.result (omega arith) c.index-items-place.is in
    cc

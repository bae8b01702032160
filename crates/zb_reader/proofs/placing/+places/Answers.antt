use Rattle.std.proofs.Common.{◌<◌, arith}
use Rattle.serde_json.specs.View.{view}
use Rattle.zb_reader.proofs.PlaceLemmas.{place_in_part-some}
use Rattle.zb_reader.proofs.placing.+places.Goals as goal

pub place_in_part-returns : goal.place_in_part-returns
place_in_part-returns t c =
    let some : 0 < c.args.levels = omega arith in
    rw (place_in_part-some c.args.levels c.args.part (view c.args.value.now) some, ← c.shape_of.ensures) c.place_in_object.ensures

use Rattle.std.proofs.Common.{◌≡◌, ◌∙◌, Some, ap, sym, slice_get, arith}
use Rattle.std.proofs.lemmas.Option.{slice_get-get_or}
use Rattle.zb_tokens.specs.Names.{value_seen}
use Rattle.zb_values.proofs.MappingLemmas.{fault_here, left_behind}
use Rattle.zb_values.proofs.mappings.mapped.Goals as goal

pub returns-in-Err : goal.returns-in-Err
returns-in-Err c =
    let names = value_seen c.args.game.now c.args.cell in
    let all = c.mappings_of-mappings.ensures in
    let at = rw (← all) at c.source_at.ensures in
    rw (← all) (fault_here names c.mappings_of-mappings.result.now c.loop-place.made c.loop-place.place c.source_at.result.now at c.loop-place.invariant c.in-Err.fault c.in-Err.ensures)

pub loop-place-preserved : goal.loop-place-preserved
loop-place-preserved c =
    let names = value_seen c.args.game.now c.args.cell in
    let all = c.mappings_of-mappings.ensures in
    let at = rw (← all) at c.source_at.ensures in
    let there : slice_get c.mappings_of-mappings.result.now c.loop-place.place ≡ Some c.index-mappings-place.result = slice_get-get_or c.mappings_of-mappings.result.now c.loop-place.place c.index-mappings-place.result (omega arith) ∙ ap Some (sym c.index-mappings-place.is) in
    rw c.in_ok-add-in-Ok.ensures (left_behind names c.mappings_of-mappings.result.now c.loop-place.made c.loop-place.place c.source_at.result.now at c.loop-place.invariant c.index-mappings-place.result c.in-Ok.value there c.in-Ok.ensures)

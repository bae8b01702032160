use Rattle.std.proofs.Common.{◌-◌, ◌<◌, length, get_or, arith}
use Rattle.std.proofs.lemmas.Bool.Decides.{nat_tests}
use Rattle.zb_table.proofs.Finding.{all_before, at_place}
use Rattle.zb_table.proofs.search.lower_end.Goals as goal

pub returns-then-lt : goal.returns-then-lt
returns-then-lt g c =
    let ps = c.args.places.now in
    let at = length ps - c.loop-width.width in
    let p = get_or ps at c.index-places-at.result in
    let within : at < length ps = omega (arith, c.loop-width-test.true, c.loop-width.invariant) in
    let below : p.key < c.args.key = grind (arith, nat_tests, c.lt.ensures, c.if-lt.true) in
    all_before g.R.Row.key_in c.args.key 0 ps at p c.requires (at_place ps at c.index-places-at.result within) below

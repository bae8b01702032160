use Rattle.std.proofs.Common.{◌+◌, ◌-◌, ◌/◌, ◌<◌, ◌≤◌, length, get_or, arith}
use Rattle.std.proofs.lemmas.Bool.Decides.{nat_tests}
use Rattle.zb_table.proofs.Finding.{count_within, none_behind, all_before, at_place}
use Rattle.zb_table.proofs.search.search.Goals as goal

pub loop-low-init : goal.loop-low-init
loop-low-init g c = record { from = c.lower_end-low.ensures; to = count_within c.args.key c.args.places.now; within = omega arith }

pub loop-low-preserved-then-lt : goal.loop-low-preserved-then-lt
loop-low-preserved-then-lt g c =
    let ps = c.args.places.now in
    let at = c.loop-low in
    let middle = at.low + (at.high - at.low) / 2 in
    let p = get_or ps middle c.index-places-middle.result in
    let within : middle < length ps = omega (arith, c.loop-low-test.true, at.invariant.within) in
    let below : p.key < c.args.key = grind (arith, nat_tests, c.lt.ensures, c.if-lt.true) in
    let more = all_before g.R.Row.key_in c.args.key 0 ps middle p c.requires (at_place ps middle c.index-places-middle.result within) below in
    record { from = more; to = at.invariant.to; within = at.invariant.within }

pub loop-low-preserved : goal.loop-low-preserved
loop-low-preserved g c =
    let ps = c.args.places.now in
    let at = c.loop-low in
    let middle = at.low + (at.high - at.low) / 2 in
    let p = get_or ps middle c.index-places-middle.result in
    let within : middle < length ps = omega (arith, c.loop-low-test.true, at.invariant.within) in
    let above : c.args.key ≤ p.key = grind (arith, nat_tests, c.lt.ensures, c.if-lt.false) in
    let less = none_behind c.args.key ps middle p (at_place ps middle c.index-places-middle.result within) above in
    record { from = at.invariant.from; to = less; within = omega (arith, within) }

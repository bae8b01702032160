use Rattle.std.proofs.Common.{◌≡◌, ◌-◌, ◌<◌, ◌≤◌, length, get_or, option_map, sym, ap, ◌∙◌, arith}
use Rattle.zb_table.proofs.Backwards.{key_first, key_second, one_back}
use Rattle.zb_table.proofs.search.last_key.Goals as goal

pub returns-in-Some : goal.returns-in-Some
returns-in-Some g c =
    let ps = c.args.places.now in
    let p = c.index-places-i.result in
    let above : 0 < c.loop-i.i = omega arith in
    let within : c.loop-i.i ≤ length ps = omega arith in
    let at : p ≡ get_or ps (c.loop-i.i - 1) p = c.index-places-i.is in
    let split = one_back (g.Q.Query.passes c.args.query.now) ps c.loop-i.i p above within at in
    key_first g.R.Row.key_in _ _ c.in-Some.key c.in-Some.ensures ∙ (ap (option_map g.R.Row.key_in) (sym split) ∙ c.loop-i.invariant)

pub loop-i-preserved : goal.loop-i-preserved
loop-i-preserved g c =
    let ps = c.args.places.now in
    let p = c.index-places-i.result in
    let above : 0 < c.loop-i.i = omega arith in
    let within : c.loop-i.i ≤ length ps = omega arith in
    let at : p ≡ get_or ps (c.loop-i.i - 1) p = c.index-places-i.is in
    let split = one_back (g.Q.Query.passes c.args.query.now) ps c.loop-i.i p above within at in
    sym (key_second g.R.Row.key_in _ _ c.in_default.ensures) ∙ (ap (option_map g.R.Row.key_in) (sym split) ∙ c.loop-i.invariant)

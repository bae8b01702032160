use Rattle.std.proofs.Common.{◌≡◌, ◌<◌, ◌-◌, length, sym, subst, arith}
use Rattle.std.proofs.lemmas.Bool.Decides.{nat_tests}
use Rattle.zb_table.specs.Places.{count_below}
use Rattle.zb_table.proofs.Finding.{all_below, its_own}
use Rattle.zb_table.proofs.search.place_of.Goals as goal

pub returns-in-Some-2 : goal.returns-in-Some-2
returns-in-Some-2 g c =
    let ps = c.args.places.now in
    let last = c.in-Some-2.last.now in
    let same : last.key ≡ c.args.key = grind (arith, nat_tests, c.eq.ensures, c.if-eq.true) in
    subst (λ k. length ps - 1 ≡ count_below k ps) same (sym (its_own g.R.Row.key_in 0 ps (length ps - 1) last c.requires (sym c.in-Some-2.ensures.value)))

pub returns-in_default : goal.returns-in_default
returns-in_default g c =
    let last = c.in-Some-2.last.now in
    let below : last.key < c.args.key = grind (arith, nat_tests, c.gt.ensures, c.if-gt.false, c.eq.ensures, c.if-eq.false) in
    all_below g.R.Row.key_in c.args.key c.args.places.now last c.requires (sym c.in-Some-2.ensures.value) below

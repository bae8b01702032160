use Rattle.std.proofs.Common.{◌≤◌, List, arith, subst}
use Rattle.std.specs.List.Sorted.{IsStrictlySortedBy}
use Rattle.zb_line.proofs.MoveLemmas.{take_view, take_line, rest_view, rest_line}
use Rattle.zb_line.proofs.OrderLemmas.{sorted_left}
use Rattle.zb_line.proofs.line.Line.take.Goals as goal

pub invariant_of-self : goal.invariant_of-self
invariant_of-self g c =
    let v = c.self.inside.items in
    let from = c.self.inside.from in
    let within : from ≤ v.len = omega (arith, c.self.invariant.within, v.ok.0) in
    let order = subst (λ (l : List _). IsStrictlySortedBy g.T.Ord.cmp l) c.self.view_is c.self.invariant.order in
    take_line v.items c.deref_mut.result.now c.move_up.new.row c.args.self.now v.len from c.args.place (omega (arith, v.ok.0)) within c.deref_mut.ensures.value c.self.view_is
    c.requires c.move_up.auto.row c.move_up.ensures g.T.Ord.cmp (sorted_left g.T.Ord.cmp g.met.T.Ord.total c.args.self.now c.args.place order)

pub returns-then-place-len : goal.returns-then-place-len
returns-then-place-len g c =
    let v = c.self.inside.items in
    let from = c.self.inside.from in
    let within : from ≤ v.len = omega (arith, c.self.invariant.within, v.ok.0) in
    take_view v.items c.deref_mut.result.now c.move_up.new.row c.args.self.now v.len from c.args.place (omega (arith, v.ok.0)) within c.deref_mut.ensures.value c.self.view_is
    c.requires c.move_up.auto.row c.move_up.ensures

pub invariant_of-self-else-place-len : goal.invariant_of-self-else-place-len
invariant_of-self-else-place-len g c =
    let order = subst (λ (l : List _). IsStrictlySortedBy g.T.Ord.cmp l) c.self.view_is c.self.invariant.order in
    rest_line c.self.inside.items.items c.args.self.now c.self.inside.from c.self.invariant.within c.self.view_is c.args.place c.remove.new.self.items
    c.remove.ensures.items g.T.Ord.cmp (sorted_left g.T.Ord.cmp g.met.T.Ord.total c.args.self.now c.args.place order)

pub returns-else-place-len : goal.returns-else-place-len
returns-else-place-len g c =
    rest_view c.self.inside.items.items c.args.self.now c.self.inside.from c.self.invariant.within c.self.view_is c.args.place c.remove.new.self.items
    c.remove.ensures.items

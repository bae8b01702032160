use Rattle.std.proofs.Common.{◌≤◌, arith}
use Rattle.zb_line.proofs.MoveLemmas.{put_view, put_line, behind_view, behind_line}
use Rattle.zb_line.proofs.line.Line.put.Goals as goal

pub invariant_of-self : goal.invariant_of-self
invariant_of-self g c =
    let v = c.self.inside.items in
    let from = c.self.inside.from in
    let within : from ≤ v.len = omega (arith, c.self.invariant.within, v.ok.0) in
    put_line v.items c.deref_mut.result.now c.move_down.new.row c.args.self.now v.len from c.args.place (omega (arith, v.ok.0)) within c.deref_mut.ensures.value c.self.view_is
    c.args.item (omega arith) c.requires.within c.move_down.ensures g.T.Ord.cmp c.requires.order

pub returns-then-place-len-clause-ok : goal.returns-then-place-len-clause-ok
returns-then-place-len-clause-ok g c =
    let v = c.self.inside.items in
    let from = c.self.inside.from in
    let within : from ≤ v.len = omega (arith, c.self.invariant.within, v.ok.0) in
    put_view v.items c.deref_mut.result.now c.move_down.new.row c.args.self.now v.len from c.args.place (omega (arith, v.ok.0)) within c.deref_mut.ensures.value c.self.view_is
    c.args.item (omega arith) c.requires.within c.move_down.ensures

pub invariant_of-self-2 : goal.invariant_of-self-2
invariant_of-self-2 g c =
    behind_line c.self.inside.items.items c.args.self.now c.self.inside.from c.self.invariant.within c.self.view_is c.args.place c.put_at.new.items.items
    c.args.item c.in_ok-put_at.ensures.ok g.T.Ord.cmp c.requires.order

pub returns-clause-ok : goal.returns-clause-ok
returns-clause-ok g c =
    behind_view c.self.inside.items.items c.args.self.now c.self.inside.from c.self.invariant.within c.self.view_is c.args.place c.put_at.new.items.items
    c.args.item c.in_ok-put_at.ensures.ok

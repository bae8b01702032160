use Rattle.std.proofs.Common.{◌≡◌, sym, ap, ◌∙◌, subst}
use Rattle.std.proofs.lemmas.Option.{get_or_from_slice_get}
use Rattle.zb_table.specs.declared.row.Place.{Place}
use Rattle.zb_table.specs.Rows.{Ascend, row_at}
use Rattle.zb_table.specs.Places.{rows_in}
use Rattle.zb_table.proofs.Finding.{row_found, row_none, rows_ascend}
use Rattle.zb_table.proofs.table.Table.get.Goals as goal

pub returns-in-Ok-clause-row : goal.returns-in-Ok-clause-row
returns-in-Ok-clause-row g c =
    let key = g.R.Row.key_in in
    let ps = c.self.inside.places.items in
    let has = rw c.deref.ensures.value at c.in-Ok.ensures.found in
    let found : row_at key has.0.key (rows_in ps) ≡ has.0.row = (row_found key 0 ps c.in-Ok.place has.0 c.self.invariant.ordered has.1).1 in
    let same = get_or_from_slice_get ps c.in-Ok.place has.0 c.index.result.now has.1 in
    let read = ap (λ (p : Place _). p.row) (c.index.ensures ∙ same) in
    c.as_ref.ensures.value ∙ (read ∙ (sym found ∙ (ap (λ k. row_at key k (rows_in ps)) has.2 ∙ ap (λ rows. row_at key c.args.key rows) c.self.view_is)))

pub returns-in-Ok-clause-order : goal.returns-in-Ok-clause-order
returns-in-Ok-clause-order g c = subst (λ rows. Ascend g.R.Row.key_in 0 rows) c.self.view_is (rows_ascend g.R.Row.key_in 0 c.self.inside.places.items c.self.invariant.ordered)

pub returns-in-Err-clause-row : goal.returns-in-Err-clause-row
returns-in-Err-clause-row g c =
    let free = rw c.deref.ensures.value at c.in-Err.ensures.free in
    let none = row_none g.R.Row.key_in c.args.key 0 c.self.inside.places.items c.self.invariant.ordered (rw free.0 at free.1) in
    sym (rw c.self.view_is at none)

pub returns-in-Err-clause-order : goal.returns-in-Err-clause-order
returns-in-Err-clause-order g c = subst (λ rows. Ascend g.R.Row.key_in 0 rows) c.self.view_is (rows_ascend g.R.Row.key_in 0 c.self.inside.places.items c.self.invariant.ordered)

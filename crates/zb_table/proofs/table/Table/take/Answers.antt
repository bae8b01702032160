use Rattle.std.proofs.Common.{◌≡◌, None, sym, ap, ◌∙◌, arith, rules}
use Rattle.std.proofs.lemmas.Option.{slice_get_within, get_or_from_slice_get}
use Rattle.zb_table.specs.declared.row.Place.{Place}
use Rattle.zb_table.specs.Rows.{row_at, without}
use Rattle.zb_table.specs.Places.{rows_in}
use Rattle.zb_table.proofs.Finding.{row_found, row_none}
use Rattle.zb_table.proofs.Changing.{emptied, without_absent}
use Rattle.zb_table.proofs.Counting.{place_emptied}
use Rattle.zb_table.proofs.table.Table.take.Goals as goal

pub returns-in_default-clause-row : goal.returns-in_default-clause-row
returns-in_default-clause-row g c =
    let free = rw c.deref.ensures.value at c.in_default.ensures.free in
    sym (rw c.self.view_is at (row_none g.R.Row.key_in c.args.key 0 c.self.inside.places.items c.self.invariant.ordered (rw free.0 at free.1)))

pub returns-in_default-clause-left : goal.returns-in_default-clause-left
returns-in_default-clause-left g c =
    let free = rw c.deref.ensures.value at c.in_default.ensures.free in
    let none = row_none g.R.Row.key_in c.args.key 0 c.self.inside.places.items c.self.invariant.ordered (rw free.0 at free.1) in
    sym (without_absent g.R.Row.key_in c.args.key c.args.self.now (rw c.self.view_is at none))

pub index_mut-requires : goal.index_mut-requires
index_mut-requires g c =
    let has = c.in-Ok.ensures.found in
    omega (arith, slice_get_within c.deref.result.now c.in-Ok.place has.0 has.1, c.deref.ensures.len)

pub returns-in_err-row-clause-row : goal.returns-in_err-row-clause-row
returns-in_err-row-clause-row g c =
    let key = g.R.Row.key_in in
    let ps = c.self.inside.places.items in
    let has = rw c.deref.ensures.value at c.in-Ok.ensures.found in
    let found : row_at key has.0.key (rows_in ps) ≡ has.0.row = (row_found key 0 ps c.in-Ok.place has.0 c.self.invariant.ordered has.1).1 in
    let its = c.index_mut.ensures.value ∙ get_or_from_slice_get ps c.in-Ok.place has.0 c.index_mut.result.now has.1 in
    let none : c.from_residual.result ≡ None = search rules in
    none ∙ (c.in_err-row.ensures.value ∙ (ap (λ (p : Place _). p.row) its ∙ (sym found ∙ (ap (λ k. row_at key k (rows_in ps)) has.2 ∙ ap (λ rows. row_at key c.args.key rows) c.self.view_is))))

pub returns-in_err-row-clause-left : goal.returns-in_err-row-clause-left
returns-in_err-row-clause-left g c =
    let ps = c.self.inside.places.items in
    let has = rw c.deref.ensures.value at c.in-Ok.ensures.found in
    let empty = (emptied g.R.Row.key_in 0 ps c.in-Ok.place has.0 (record { key = c.index_mut.result.now.key; row = c.take.new.self }) c.self.invariant.ordered has.1 c.take.ensures.after).1 in
    empty ∙ (ap (λ k. without g.R.Row.key_in k (rows_in ps)) has.2 ∙ ap (λ rows. without g.R.Row.key_in c.args.key rows) c.self.view_is)

pub invariant_of-self-2 : goal.invariant_of-self-2
invariant_of-self-2 g c =
    let ps = c.self.inside.places.items in
    let has = rw c.deref.ensures.value at c.in-Ok.ensures.found in
    let its = c.index_mut.ensures.value ∙ get_or_from_slice_get ps c.in-Ok.place has.0 c.index_mut.result.now has.1 in
    let was = ap (λ (p : Place _). p.row) (sym its) ∙ sym c.in_ok-row.ensures.value in
    place_emptied g.R.Row.key_in c.self.inside.empty ps c.self.invariant c.in-Ok.place has.0 has.1 c.in_ok-row.row
    (record { key = c.index_mut.result.now.key; row = c.take.new.self }) (ap (λ (p : Place _). p.key) its) was c.take.ensures.after

pub returns-clause-row : goal.returns-clause-row
returns-clause-row g c =
    let key = g.R.Row.key_in in
    let ps = c.self.inside.places.items in
    let has = rw c.deref.ensures.value at c.in-Ok.ensures.found in
    let found : row_at key has.0.key (rows_in ps) ≡ has.0.row = (row_found key 0 ps c.in-Ok.place has.0 c.self.invariant.ordered has.1).1 in
    let its = c.index_mut.ensures.value ∙ get_or_from_slice_get ps c.in-Ok.place has.0 c.index_mut.result.now has.1 in
    c.in_ok-row.ensures.value ∙ (ap (λ (p : Place _). p.row) its ∙ (sym found ∙ (ap (λ k. row_at key k (rows_in ps)) has.2 ∙ ap (λ rows. row_at key c.args.key rows) c.self.view_is)))

pub returns-clause-left : goal.returns-clause-left
returns-clause-left g c =
    let ps = c.self.inside.places.items in
    let has = rw c.deref.ensures.value at c.in-Ok.ensures.found in
    let empty = (emptied g.R.Row.key_in 0 ps c.in-Ok.place has.0 (record { key = c.index_mut.result.now.key; row = c.take.new.self }) c.self.invariant.ordered has.1 c.take.ensures.after).1 in
    c.sweep.ensures ∙ (empty ∙ (ap (λ k. without g.R.Row.key_in k (rows_in ps)) has.2 ∙ ap (λ rows. without g.R.Row.key_in c.args.key rows) c.self.view_is))

use Rattle.std.proofs.Common.{◌≡◌, List, map, Some, slice_set, sym, ap, refl, ◌∙◌, arith}
use Rattle.std.proofs.lemmas.Option.{slice_get_within, get_or_from_slice_get}
use Rattle.std.proofs.lemmas.Result.{err_from_is_err_and}
use Rattle.zb_table.specs.declared.row.Place.{Place}
use Rattle.zb_table.specs.Rows.{row_at, with_edit, without}
use Rattle.zb_table.specs.Places.{rows_in}
use Rattle.zb_table.proofs.Finding.{row_found, row_none, rows_ascend}
use Rattle.zb_table.proofs.Changing.{emptied, edited, edit_absent, edit_keys, without_absent}
use Rattle.zb_table.proofs.Counting.{set_at, set_twice, place_emptied, place_edited}
use Rattle.zb_table.proofs.table.Table.edit.Goals as goal

pub returns-in_default-clause-row : goal.returns-in_default-clause-row
returns-in_default-clause-row g c =
    let free = rw c.deref.ensures.value at c.in_default.ensures.free in
    let none = row_none g.R.Row.key_in c.args.key 0 c.self.inside.places.items c.self.invariant.ordered (rw free.0 at free.1) in
    sym (edit_absent g.R.Row.key_in c.args.key (g.E.Edit.edits c.args.edit) c.args.self.now (rw c.self.view_is at none))

pub index_mut-requires : goal.index_mut-requires
index_mut-requires g c =
    let has = c.in-Ok.ensures.found in
    omega (arith, slice_get_within c.deref.result.now c.in-Ok.place has.0 has.1, c.deref.ensures.len)

pub returns-in_default-take-clause-row : goal.returns-in_default-take-clause-row
returns-in_default-take-clause-row g c =
    let key = g.R.Row.key_in in
    let ps = c.self.inside.places.items in
    let has = rw c.deref.ensures.value at c.in-Ok.ensures.found in
    let its = c.index_mut.ensures.value ∙ get_or_from_slice_get ps c.in-Ok.place has.0 c.index_mut.result.now has.1 in
    let found : row_at key has.0.key (rows_in ps) ≡ has.0.row = (row_found key 0 ps c.in-Ok.place has.0 c.self.invariant.ordered has.1).1 in
    let none = rw has.2 at (found ∙ (ap (λ (p : Place _). p.row) (sym its) ∙ sym c.in_default-take.ensures.value)) in
    let empty = (emptied key 0 ps c.in-Ok.place has.0 (record { key = c.index_mut.result.now.key; row = c.take.new.self }) c.self.invariant.ordered has.1 c.take.ensures.after).1 in
    empty ∙ (ap (λ k. without key k (rows_in ps)) has.2
    ∙ (without_absent key c.args.key (rows_in ps) none
    ∙ (sym (edit_absent key c.args.key (g.E.Edit.edits c.args.edit) (rows_in ps) none) ∙ ap (λ rows. with_edit key c.args.key (g.E.Edit.edits c.args.edit) rows) c.self.view_is)))

pub returns-in_default-take-clause-keys : goal.returns-in_default-take-clause-keys
returns-in_default-take-clause-keys g c =
    let key = g.R.Row.key_in in
    let ps = c.self.inside.places.items in
    let has = rw c.deref.ensures.value at c.in-Ok.ensures.found in
    let its = c.index_mut.ensures.value ∙ get_or_from_slice_get ps c.in-Ok.place has.0 c.index_mut.result.now has.1 in
    let found : row_at key has.0.key (rows_in ps) ≡ has.0.row = (row_found key 0 ps c.in-Ok.place has.0 c.self.invariant.ordered has.1).1 in
    let none = found ∙ (ap (λ (p : Place _). p.row) (sym its) ∙ sym c.in_default-take.ensures.value) in
    let empty = (emptied key 0 ps c.in-Ok.place has.0 (record { key = c.index_mut.result.now.key; row = c.take.new.self }) c.self.invariant.ordered has.1 c.take.ensures.after).1 in
    ap (λ rows. map key rows) (empty ∙ (without_absent key has.0.key (rows_in ps) none ∙ c.self.view_is))

pub invariant_of-self-in_err-edit : goal.invariant_of-self-in_err-edit
invariant_of-self-in_err-edit g c =
    let ps = c.self.inside.places.items in
    let has = rw c.deref.ensures.value at c.in-Ok.ensures.found in
    let its = c.index_mut.ensures.value ∙ get_or_from_slice_get ps c.in-Ok.place has.0 c.index_mut.result.now has.1 in
    let was = ap (λ (p : Place _). p.row) (sym its) ∙ sym c.in-Some.ensures.value in
    place_emptied g.R.Row.key_in c.self.inside.empty ps c.self.invariant c.in-Ok.place has.0 has.1 c.in-Some.row
    (record { key = c.index_mut.result.now.key; row = c.take.new.self }) (ap (λ (p : Place _). p.key) its) was c.take.ensures.after

pub returns-in_err-edit-clause-err : goal.returns-in_err-edit-clause-err
returns-in_err-edit-clause-err g c =
    let key = g.R.Row.key_in in
    let ps = c.self.inside.places.items in
    let has = rw c.deref.ensures.value at c.in-Ok.ensures.found in
    let empty = (emptied key 0 ps c.in-Ok.place has.0 (record { key = c.index_mut.result.now.key; row = c.take.new.self }) c.self.invariant.ordered has.1 c.take.ensures.after).1 in
    let p = err_from_is_err_and c.from_residual.result c.from_residual.ensures.1 in
    rw p.1 (empty ∙ (ap (λ k. without key k (rows_in ps)) has.2 ∙ ap (λ rows. without key c.args.key rows) c.self.view_is))

pub index_mut-requires-2 : goal.index_mut-requires-2
index_mut-requires-2 g c =
    let has = c.in-Ok.ensures.found in
    omega (arith, slice_get_within c.deref.result.now c.in-Ok.place has.0 has.1, c.deref.ensures.len)

pub invariant_of-self-2 : goal.invariant_of-self-2
invariant_of-self-2 g c =
    let ps = c.self.inside.places.items in
    let has = rw c.deref.ensures.value at c.in-Ok.ensures.found in
    let between : Place _ = record { key = c.index_mut.result.now.key; row = c.take.new.self } in
    let its = c.index_mut.ensures.value ∙ get_or_from_slice_get ps c.in-Ok.place has.0 c.index_mut.result.now has.1 in
    let was = ap (λ (p : Place _). p.row) (sym its) ∙ sym c.in-Some.ensures.value in
    let then = c.index_mut-2.ensures.value ∙ get_or_from_slice_get (slice_set ps c.in-Ok.place between) c.in-Ok.place between c.index_mut-2.result.now (set_at ps c.in-Ok.place has.0 between has.1) in
    place_edited g.R.Row.key_in c.self.inside.empty ps c.self.invariant c.in-Ok.place has.0 has.1 c.in-Some.row c.in_ok-edit.field-0 between
    (record { key = c.index_mut-2.result.now.key; row = Some c.in_ok-edit.field-0 }) (ap (λ (p : Place _). p.key) then ∙ ap (λ (p : Place _). p.key) its) was c.in_ok-edit.ensures.key refl

pub returns-clause-row : goal.returns-clause-row
returns-clause-row g c =
    let key = g.R.Row.key_in in
    let f = g.E.Edit.edits c.args.edit in
    let ps = c.self.inside.places.items in
    let has = rw c.deref.ensures.value at c.in-Ok.ensures.found in
    let between : Place _ = record { key = c.index_mut.result.now.key; row = c.take.new.self } in
    let new : Place _ = record { key = c.index_mut-2.result.now.key; row = Some c.in_ok-edit.field-0 } in
    let its = c.index_mut.ensures.value ∙ get_or_from_slice_get ps c.in-Ok.place has.0 c.index_mut.result.now has.1 in
    let was = ap (λ (p : Place _). p.row) (sym its) ∙ sym c.in-Some.ensures.value in
    let now = (edited key f 0 ps c.in-Ok.place has.0 new c.in-Some.row c.self.invariant.ordered has.1 was (ap Some c.in_ok-edit.ensures.row)).1 in
    ap (λ (l : List (Place _)). rows_in l) (set_twice ps c.in-Ok.place between new)
    ∙ (now ∙ (ap (λ k. with_edit key k f (rows_in ps)) has.2 ∙ ap (λ rows. with_edit key c.args.key f rows) c.self.view_is))

pub returns-clause-keys : goal.returns-clause-keys
returns-clause-keys g c =
    let key = g.R.Row.key_in in
    let f = g.E.Edit.edits c.args.edit in
    let ps = c.self.inside.places.items in
    let has = rw c.deref.ensures.value at c.in-Ok.ensures.found in
    let between : Place _ = record { key = c.index_mut.result.now.key; row = c.take.new.self } in
    let new : Place _ = record { key = c.index_mut-2.result.now.key; row = Some c.in_ok-edit.field-0 } in
    let its = c.index_mut.ensures.value ∙ get_or_from_slice_get ps c.in-Ok.place has.0 c.index_mut.result.now has.1 in
    let was = ap (λ (p : Place _). p.row) (sym its) ∙ sym c.in-Some.ensures.value in
    let now = (edited key f 0 ps c.in-Ok.place has.0 new c.in-Some.row c.self.invariant.ordered has.1 was (ap Some c.in_ok-edit.ensures.row)).1 in
    let found = (row_found key 0 ps c.in-Ok.place has.0 c.self.invariant.ordered has.1).1 ∙ was in
    let same = ap key (sym c.in_ok-edit.ensures.row) ∙ c.in_ok-edit.ensures.key in
    ap (λ (l : List (Place _)). map key (rows_in l)) (set_twice ps c.in-Ok.place between new)
    ∙ (ap (λ rows. map key rows) now
    ∙ (edit_keys key has.0.key f 0 (rows_in ps) c.in-Some.row (rows_ascend key 0 ps c.self.invariant.ordered) found same ∙ ap (λ rows. map key rows) c.self.view_is))

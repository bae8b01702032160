use Rattle.std.proofs.Common.{◌≡◌, ◌-◌, Some, cond, sym, ap, refl, subst, slice_set, ◌∙◌, arith}
use Rattle.std.proofs.Math.Nat.{sub-zero}
use Rattle.std.proofs.lemmas.Option.{slice_get_within, get_or_from_slice_get}
use Rattle.zb_table.specs.declared.row.Place.{Place}
use Rattle.zb_table.specs.Rows.{with_row}
use Rattle.zb_table.specs.Places.{ArePlaces}
use Rattle.zb_table.proofs.Finding.{count_within}
use Rattle.zb_table.proofs.Changing.{refilled, inserted}
use Rattle.zb_table.proofs.Counting.{lack, lack_counted, place_filled, place_added}
use Rattle.zb_table.proofs.table.Table.add.Goals as goal

pub index_mut-requires : goal.index_mut-requires
index_mut-requires g c =
    let has = c.in-Ok.ensures.found in
    omega (arith, slice_get_within c.deref.result.now c.in-Ok.place has.0 has.1, c.deref.ensures.len)

pub overflow_sub-self : goal.overflow_sub-self
overflow_sub-self g c =
    let ps = c.self.inside.places.items in
    let has = rw c.deref.ensures.value at c.in-Ok.ensures.found in
    let its = c.index_mut.ensures.value ∙ get_or_from_slice_get ps c.in-Ok.place has.0 c.index_mut.result.now has.1 in
    let empty : lack has.0 ≡ 1 = ap (λ (p : Place _). lack p) (sym its) ∙ ap (λ t. cond t 1 0) (sym c.fill.ensures.empty ∙ c.if-fill.true) in
    omega (arith, empty, lack_counted g.R.Row.key_in c.self.inside.empty ps c.self.invariant c.in-Ok.place has.0 has.1)

pub invariant_of-self : goal.invariant_of-self
invariant_of-self g c =
    let ps = c.self.inside.places.items in
    let has = rw c.deref.ensures.value at c.in-Ok.ensures.found in
    let its = c.index_mut.ensures.value ∙ get_or_from_slice_get ps c.in-Ok.place has.0 c.index_mut.result.now has.1 in
    let empty : lack has.0 ≡ 1 = ap (λ (p : Place _). lack p) (sym its) ∙ ap (λ t. cond t 1 0) (sym c.fill.ensures.empty ∙ c.if-fill.true) in
    let its_key = sym c.key-key.ensures ∙ sym has.2 in
    let keeps = ap (λ (p : Place _). p.key) c.fill.ensures.row ∙ ap (λ (p : Place _). p.key) its in
    let now = place_filled g.R.Row.key_in c.self.inside.empty ps c.self.invariant c.in-Ok.place has.0 has.1 c.args.row c.fill.new.self keeps its_key (ap (λ (p : Place _). p.row) c.fill.ensures.row) in
    subst (λ n. ArePlaces g.R.Row.key_in n (slice_set ps c.in-Ok.place c.fill.new.self)) (ap (λ n. c.self.inside.empty - n) empty) now

pub invariant_of-self-else-fill : goal.invariant_of-self-else-fill
invariant_of-self-else-fill g c =
    let ps = c.self.inside.places.items in
    let has = rw c.deref.ensures.value at c.in-Ok.ensures.found in
    let its = c.index_mut.ensures.value ∙ get_or_from_slice_get ps c.in-Ok.place has.0 c.index_mut.result.now has.1 in
    let empty : lack has.0 ≡ 0 = ap (λ (p : Place _). lack p) (sym its) ∙ ap (λ t. cond t 1 0) (sym c.fill.ensures.empty ∙ c.if-fill.false) in
    let its_key = sym c.key-key.ensures ∙ sym has.2 in
    let keeps = ap (λ (p : Place _). p.key) c.fill.ensures.row ∙ ap (λ (p : Place _). p.key) its in
    let now = place_filled g.R.Row.key_in c.self.inside.empty ps c.self.invariant c.in-Ok.place has.0 has.1 c.args.row c.fill.new.self keeps its_key (ap (λ (p : Place _). p.row) c.fill.ensures.row) in
    subst (λ n. ArePlaces g.R.Row.key_in n (slice_set ps c.in-Ok.place c.fill.new.self)) (ap (λ n. c.self.inside.empty - n) empty ∙ sub-zero c.self.inside.empty) now

pub returns-then-fill-clause-ok : goal.returns-then-fill-clause-ok
returns-then-fill-clause-ok g c =
    let ps = c.self.inside.places.items in
    let has = rw c.deref.ensures.value at c.in-Ok.ensures.found in
    (refilled g.R.Row.key_in 0 ps c.in-Ok.place has.0 c.fill.new.self c.args.row c.self.invariant.ordered has.1 (sym c.key-key.ensures ∙ sym has.2) (ap (λ (p : Place _). p.row) c.fill.ensures.row)).1
    ∙ ap (λ rows. with_row g.R.Row.key_in c.args.row rows) c.self.view_is

pub returns-else-fill-clause-ok : goal.returns-else-fill-clause-ok
returns-else-fill-clause-ok g c =
    let ps = c.self.inside.places.items in
    let has = rw c.deref.ensures.value at c.in-Ok.ensures.found in
    (refilled g.R.Row.key_in 0 ps c.in-Ok.place has.0 c.fill.new.self c.args.row c.self.invariant.ordered has.1 (sym c.key-key.ensures ∙ sym has.2) (ap (λ (p : Place _). p.row) c.fill.ensures.row)).1
    ∙ ap (λ rows. with_row g.R.Row.key_in c.args.row rows) c.self.view_is

pub put_at-requires : goal.put_at-requires
put_at-requires g c =
    let within = count_within c.key-key.result c.deref.result.now in
    omega (arith, within, c.in-Err.ensures.free.0, c.deref.ensures.len)

pub invariant_of-self-in-Err : goal.invariant_of-self-in-Err
invariant_of-self-in-Err g c =
    let ps = c.self.inside.places.items in
    let free = rw c.deref.ensures.value at c.in-Err.ensures.free in
    let added : Place _ = record { key = c.key-key.result; row = Some c.args.row } in
    rw (c.in_ok-put_at-in-Err.ensures.ok, free.0) (place_added g.R.Row.key_in c.self.inside.empty ps c.self.invariant added c.args.row (sym c.key-key.ensures) refl (rw free.0 at free.1))

pub returns-in_ok-put_at-in-Err-clause-ok : goal.returns-in_ok-put_at-in-Err-clause-ok
returns-in_ok-put_at-in-Err-clause-ok g c =
    let ps = c.self.inside.places.items in
    let free = rw c.deref.ensures.value at c.in-Err.ensures.free in
    let added : Place _ = record { key = c.key-key.result; row = Some c.args.row } in
    rw (c.in_ok-put_at-in-Err.ensures.ok, free.0) (inserted g.R.Row.key_in 0 ps added c.args.row c.self.invariant.ordered (omega arith) (sym c.key-key.ensures) refl (rw free.0 at free.1)).0
    ∙ ap (λ rows. with_row g.R.Row.key_in c.args.row rows) c.self.view_is

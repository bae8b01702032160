use Rattle.std.proofs.Common.{◌≡◌, List, position, slice_set, Some, None, refl, ap, ◌∙◌, rules}
use Rattle.std.specs.List.{insert}
use Rattle.std.proofs.lemmas.List.Quantifiers.{position-Some}
use Rattle.zb_arrivals.proofs.EditLemmas.{edited_at, edited_none, put_back}
use Rattle.zb_arrivals.proofs.others.edit.Goals as goal

pub returns-in_default : goal.returns-in_default
returns-in_default g c =
    let is : position (g.Q.Query.passes c.args.query.now) c.args.rows.now.items ≡ None = search rules in
    rw (edited_none (g.Q.Query.passes c.args.query.now) (g.E.Edit.edits c.args.edit) c.args.rows.now.items is) refl

pub returns : goal.returns
returns g c =
    let xs = c.args.rows.now.items in
    let p = g.Q.Query.passes c.args.query.now in
    let f = g.E.Edit.edits c.args.edit in
    let is : position p xs ≡ Some c.in-Some.place = search rules in
    let within = (position-Some p xs c.in-Some.place c.remove-row.result is).0 in
    let made = edited_at p f xs c.in-Some.place c.remove-row.result is c.remove-row.ensures.value in
    rw made (c.in_ok-insert.ensures.items
    ∙ (ap (λ (l : List g.row.R.Denot). insert l c.in-Some.place c.in_ok-edit.field-0) c.remove-row.ensures.items
    ∙ (put_back xs c.in-Some.place c.in_ok-edit.field-0 within
    ∙ ap (slice_set xs c.in-Some.place) c.in_ok-edit.ensures.row)))

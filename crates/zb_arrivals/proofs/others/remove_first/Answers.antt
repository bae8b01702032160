use Rattle.std.proofs.Common.{◌≡◌, position, Some, None, refl, rules}
use Rattle.zb_arrivals.proofs.EditLemmas.{removed_at, removed_none}
use Rattle.zb_arrivals.proofs.others.remove_first.Goals as goal

pub returns-in-Some : goal.returns-in-Some
returns-in-Some g c =
    let is : position (g.Q.Query.passes c.args.query.now) c.args.rows.now.items ≡ Some c.in-Some.place = search rules in
    rw (removed_at (g.Q.Query.passes c.args.query.now) c.args.rows.now.items c.in-Some.place is) c.remove.ensures.items

pub returns-in_default : goal.returns-in_default
returns-in_default g c =
    let is : position (g.Q.Query.passes c.args.query.now) c.args.rows.now.items ≡ None = search rules in
    rw (removed_none (g.Q.Query.passes c.args.query.now) c.args.rows.now.items is) refl

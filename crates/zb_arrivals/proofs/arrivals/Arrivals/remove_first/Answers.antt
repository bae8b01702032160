use Rattle.std.proofs.Common.{◌≡◌, ℕ, ◌==◌, ◌++◌, List, sym, ap, subst, ◌∙◌}
use Rattle.zb_table.specs.Edits.{removed, without_first}
use Rattle.zb_arrivals.proofs.OrderedLemmas.{first_with_key, has_key, none_first, removed_row, removes_first}
use Rattle.zb_arrivals.proofs.SplitLemmas.{removed_front, removed_back}
use Rattle.zb_arrivals.proofs.arrivals.Arrivals.remove_first.Goals as goal

pub returns-in-Some : goal.returns-in-Some
returns-in-Some g c =
    let key = g.R.Row.key_in in
    let p = g.Q.Query.passes c.args.query.now in
    let q = λ (r : g.row.R.Denot). key r == c.in-Some.key in
    let xs = c.self.inside.ordered in
    let ys = c.self.inside.others.items in
    let r = first_with_key key p xs c.in-Some.key c.self.invariant.ascend c.in-Some.ensures.key in
    let gone = removed_row key c.in-Some.key 0 xs r.0 c.self.invariant.ascend r.2 in
    let same = subst (λ (k : ℕ). removed (λ (x : g.row.R.Denot). key x == k) xs ≡ removed p xs) (has_key key c.in-Some.key xs r.0 r.2) (removes_first key p 0 xs r.0 c.self.invariant.ascend r.1) in
    let by_key = removed_front q xs ys _ gone in
    let by_query = removed_front p xs ys _ (sym same ∙ gone) in
    c.remove.ensures ∙ (ap (without_first q) (sym c.self.view_is) ∙ (by_key ∙ (sym by_query ∙ ap (without_first p) c.self.view_is)))

pub returns-in-None : goal.returns-in-None
returns-in-None g c =
    let p = g.Q.Query.passes c.args.query.now in
    let rows = c.self.inside.ordered in
    let none = none_first g.R.Row.key_in p rows c.in-None.ensures.key in
    ap (λ (l : List g.row.R.Denot). rows ++ l) c.remove_first.ensures
    ∙ (sym (removed_back p rows c.self.inside.others.items none) ∙ ap (without_first p) c.self.view_is)

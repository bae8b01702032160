use Rattle.std.proofs.Common.{◌≡◌, ◌+◌, ◌≤◌, ◌++◌, ◌∷◌, [], List, length, true, subst, sym, ap, ◌∙◌, rules, arith, length-append}
use Rattle.zb_table.proofs.Ascending.{ascend_more}
use Rattle.zb_table.proofs.Growing.{with_last, below_higher, below_more}
use Rattle.zb_arrivals.specs.InOrder.{IsInOrder}
use Rattle.zb_arrivals.proofs.SplitLemmas.{none_behind}
use Rattle.zb_arrivals.proofs.arrivals.Arrivals.push.Goals as goal

pub invariant_of-self-then-is_behind : goal.invariant_of-self-then-is_behind
invariant_of-self-then-is_behind g c =
    let key = g.R.Row.key_in in
    let rows = c.self.inside.ordered in
    let row = c.args.row in
    let its = c.key-key.ensures in
    let is : c.is_behind.result ≡ true = search rules in
    let le : c.self.inside.next ≤ key row = omega (arith, its, c.is_behind.ensures.behind is) in
    let below = below_higher key c.self.inside.next (key row) rows le c.self.invariant.below in
    let next : c.in-Some.next ≡ key row + 1 = search rules in
    let count : length rows ≡ c.len.result = sym c.len.ensures.count in
    subst (λ (now : List g.row.R.Denot). IsInOrder key c.in-Some.next now) (sym (c.in_ok-add-in-Some.ensures.ok ∙ with_last key row rows below)) (record {
      ascend = ascend_more key 0 rows row (omega arith) c.self.invariant.ascend below;
      below = below_more key c.in-Some.next rows row (omega (arith, next)) (below_higher key (key row) c.in-Some.next rows (omega (arith, next)) below);
      fits = omega (arith, length-append rows (row ∷ []), count, c.len.ensures.few, c.if-len-eq-MOST.false);
    })

pub returns-in_ok-add-in-Some-clause-added : goal.returns-in_ok-add-in-Some-clause-added
returns-in_ok-add-in-Some-clause-added g c =
    let key = g.R.Row.key_in in
    let rows = c.self.inside.ordered in
    let row = c.args.row in
    let its = c.key-key.ensures in
    let is : c.is_behind.result ≡ true = search rules in
    let le : c.self.inside.next ≤ key row = omega (arith, its, c.is_behind.ensures.behind is) in
    let below = below_higher key c.self.inside.next (key row) rows le c.self.invariant.below in
    let none = sym c.deref.ensures.value ∙ c.is_behind.ensures.none is in
    none_behind c.add.new.self c.self.inside.others.items none
    ∙ (c.in_ok-add-in-Some.ensures.ok ∙ (with_last key row rows below ∙ ap (λ (l : List g.row.R.Denot). l ++ row ∷ []) (sym (none_behind rows c.self.inside.others.items none) ∙ c.self.view_is)))

pub returns-in_ok-add-in-Some-clause-few : goal.returns-in_ok-add-in-Some-clause-few
returns-in_ok-add-in-Some-clause-few g c =
    let key = g.R.Row.key_in in
    let rows = c.self.inside.ordered in
    let row = c.args.row in
    let its = c.key-key.ensures in
    let is : c.is_behind.result ≡ true = search rules in
    let le : c.self.inside.next ≤ key row = omega (arith, its, c.is_behind.ensures.behind is) in
    let below = below_higher key c.self.inside.next (key row) rows le c.self.invariant.below in
    let none = sym c.deref.ensures.value ∙ c.is_behind.ensures.none is in
    let all = none_behind c.add.new.self c.self.inside.others.items none ∙ (c.in_ok-add-in-Some.ensures.ok ∙ with_last key row rows below) in
    omega (arith, ap length all, length-append rows (row ∷ []), c.self.invariant.fits)

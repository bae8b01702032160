use Rattle.std.proofs.Common.{◌≡◌, ℕ, ◌==◌, List, map, Option, None, sym, ap, subst, ◌∙◌}
use Rattle.std.specs.List.{find}
use Rattle.std.specs.Option.{option_map}
use Rattle.zb_views.specs.declared.subscription.Subscription.{Subscription}
use Rattle.zb_subscriptions.specs.declared.opened.Opened.{Opened}
use Rattle.zb_subscriptions.proofs.OpenedLemmas.{its, named, absent, found_its, found_place}
use Rattle.zb_views.specs.OwnKeys.{HaveOwnKeys}
use Rattle.zb_subscriptions.proofs.TakenLemmas.{its_own}
use Rattle.zb_subscriptions.proofs.subscriptions.Subscriptions.get.Goals as goal

-- the subscription with the key, by its row
by_row : (key : ℕ) (os : List Opened) (ss : List Subscription) (row : Option Opened) → find (named key) os ≡ row → map its os ≡ ss → option_map its row ≡ find (λ s. s.key == key) ss
by_row key os ss row at view = ap (option_map its) (sym at) ∙ (sym (found_its (λ s. s.key == key) os) ∙ ap (find (λ (s : Subscription). s.key == key)) view)

pub returns-in-Some-clause-found : goal.returns-in-Some-clause-found
returns-in-Some-clause-found c =
    let os = c.self.inside.rows in
    let row = found_place c.args.key c.in-Some.place os c.self.invariant.ascend c.in-Some.ensures in
    c.at.ensures ∙ by_row c.args.key os c.args.self.now _ (sym row) c.self.view_is

pub returns-in-None-clause-found : goal.returns-in-None-clause-found
returns-in-None-clause-found c =
    let os = c.self.inside.rows in
    by_row c.args.key os c.args.self.now None (absent c.args.key os c.in-None.ensures) c.self.view_is

pub returns-in-Some-clause-own : goal.returns-in-Some-clause-own
returns-in-Some-clause-own c = subst (HaveOwnKeys (λ (s : Subscription). s.key)) c.self.view_is (its_own c.self.inside.rows c.self.invariant.own)

pub returns-in-None-clause-own : goal.returns-in-None-clause-own
returns-in-None-clause-own c = subst (HaveOwnKeys (λ (s : Subscription). s.key)) c.self.view_is (its_own c.self.inside.rows c.self.invariant.own)

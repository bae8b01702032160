use Rattle.std.proofs.Common.{◌≡◌, ◌+◌, ◌==◌, List, [], ◌∷◌, ◌++◌, map, IsTrue, Some, None, refl, sym, ap, subst, ◌∙◌, arith}
use Rattle.std.specs.List.{find}
use Rattle.std.specs.Option.{option_map}
use Rattle.std.proofs.lemmas.List.{map-append}
use Rattle.zb_table.specs.Rows.{Ascend, are_below}
use Rattle.zb_table.proofs.Growing.{with_last, below_higher, below_more}
use Rattle.zb_pairs.proofs.FoundLemmas.{ascend_with, found_with, none_below}
use Rattle.zb_lists.specs.Listed.{row_found, without_named}
use Rattle.zb_views.specs.declared.subscription.Subscription.{Subscription}
use Rattle.zb_subscriptions.specs.declared.opened.Opened.{Opened}
use Rattle.zb_subscriptions.specs.Opened.{opened_as, label_of_opened}
use Rattle.zb_views.specs.OwnKeys.{HaveOwnKeys}
use Rattle.zb_views.proofs.OwnKeyLaws.{own_more}
use Rattle.zb_subscriptions.proofs.OpenedLemmas.{place_in, its, none_its, own_key}
use Rattle.zb_subscriptions.proofs.ListedLemmas.{listed_as, none_named}
use Rattle.zb_subscriptions.proofs.subscriptions.Subscriptions.with.Goals as goal

pub add-requires : goal.add-requires
add-requires c = rw c.new-place.ensures (none_below place_in c.self.inside.next c.self.inside.rows c.self.invariant.below)

-- the rows with the new one
added : (c : goal.In_ok-join) → c.add.new.self ≡ c.self.inside.rows ++ opened_as c.new-place.result c.args.subscription ∷ []
added c =
    let os = c.self.inside.rows in
    let below : IsTrue (are_below place_in c.new-place.result os) = rw c.new-place.ensures c.self.invariant.below in
    c.in_ok-add.ensures.ok ∙ with_last place_in (opened_as c.new-place.result c.args.subscription) os below

pub invariant_of-self : goal.invariant_of-self
invariant_of-self c =
    let os = c.self.inside.rows in
    let place = c.new-place.result in
    let next = c.in_ok-self-inside.field-0 in
    let o = opened_as place c.args.subscription in
    let found = row_found place_in os in
    let below : IsTrue (are_below place_in place os) = rw c.new-place.ensures c.self.invariant.below in
    let none : found place ≡ None = none_below place_in place os below in
    let named : find (λ x. x.subscription.key == c.args.subscription.key) os ≡ None = none_its (λ s. s.key == c.args.subscription.key) os (ap (find (λ (s : Subscription). s.key == c.args.subscription.key)) c.self.view_is ∙ c.requires) in
    let up : next ≡ place + 1 = omega (arith, c.in_ok-self-inside.ensures, c.new-place.ensures) in
    record {
      ascend = subst (λ (l : List Opened). Ascend place_in 0 l) (sym c.in_ok-add.ensures.ok) (ascend_with place_in o 0 os (omega arith) c.self.invariant.ascend);
      below = subst (λ (l : List Opened). IsTrue (are_below place_in next l)) (sym (added c)) (below_more place_in next os o (omega (arith, up)) (below_higher place_in place next os (omega (arith, up)) below));
      own = subst (HaveOwnKeys own_key) (sym (added c)) (own_more own_key os o c.self.invariant.own named);
      listed = c.in_ok-join.ensures found
          (listed_as found (without_named (Some place) found) c.self.inside.lists (λ k. ap (option_map label_of_opened) (none_named found place k none)) c.self.invariant.listed)
          (λ k other. ap (λ (l : List Opened). row_found place_in l k) c.in_ok-add.ensures.ok ∙ (found_with place_in o k os none ∙ rw other refl));
    }

pub returns : goal.returns
returns c =
    ap (map its) (added c)
    ∙ (map-append its c.self.inside.rows (opened_as c.new-place.result c.args.subscription ∷ []) ∙ ap (λ (ss : List Subscription). ss ++ c.args.subscription ∷ []) c.self.view_is)

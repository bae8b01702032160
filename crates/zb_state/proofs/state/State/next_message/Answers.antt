use Rattle.std.proofs.Common.{◌≡◌, ◌==◌, ℕ, not, is_some, map, filter, List, Option, Some, None, true, false, sym, ap, subst, ◌∙◌}
use Rattle.std.specs.List.{find, list_any}
use Rattle.std.specs.Option.{option_and_then}
use Rattle.zb_exchange_records.specs.declared.message.MessagePublished.{MessagePublished}
use Rattle.zb_views.specs.Messages.{buffered}
use Rattle.zb_views.specs.Subscriptions.{is_lock}
use Rattle.zb_state.specs.declared.facts.Facts.{Facts}
use Rattle.zb_tables.specs.Messages.{is_addressed}
use Rattle.zb_state.specs.State.{IsStateOf}
use Rattle.zb_state.proofs.StartLemmas.{next_there}
use Rattle.zb_state.proofs.SubscriptionLemmas.{none_fits, as_started, next_as_started}
use Rattle.zb_state.proofs.state.State.next_message.Goals as goal

pub returns-then-is_some : goal.returns-then-is_some
returns-then-is_some c = λ es its. none_fits c.args.subscription.now es (buffered es) (sym c.is_some.ensures ∙ c.if-is_some.true)

pub returns-in-Some : goal.returns-in-Some
returns-in-Some c = λ es its.
    let s = c.self.inside.facts in
    let subscription = c.args.subscription.now in
    let is : IsStateOf es s = subst (λ (f : Facts). IsStateOf es f) (sym c.self.view_is) its in
    let keys = c.messages_of-keys.result.now in
    let listed : keys ≡ map (λ m. m.key) (filter (is_addressed subscription.name subscription.correlation_key) (buffered es)) =
    c.messages_of-keys.ensures es its ∙ (ap (λ (name : List ℕ). map (λ (m : MessagePublished). m.key) (filter (is_addressed name c.as_str-2.result.now) (buffered es))) c.as_str.ensures
    ∙ ap (λ (key : List ℕ). map (λ (m : MessagePublished). m.key) (filter (is_addressed subscription.name key) (buffered es))) c.as_str-2.ensures) in
    let first : Some c.in-Some.key ≡ find (λ k. not (list_any (is_lock k subscription.process) s.tables.starts.locks)) keys =
    c.in-Some.ensures ∙ ap (λ (process : List ℕ). find (λ k. not (list_any (is_lock k process) s.tables.starts.locks)) keys) c.as_str-3.ensures in
    c.get.ensures.message ∙ (ap (option_and_then (λ (k : ℕ). find (λ (m : MessagePublished). m.key == k) s.messages)) first
    ∙ (next_there es s is (as_started subscription) keys listed c.self.invariant.ascend ∙ next_as_started subscription es (sym c.is_some.ensures ∙ c.if-is_some.false)))

pub returns-in-None : goal.returns-in-None
returns-in-None c = λ es its.
    let s = c.self.inside.facts in
    let subscription = c.args.subscription.now in
    let is : IsStateOf es s = subst (λ (f : Facts). IsStateOf es f) (sym c.self.view_is) its in
    let keys = c.messages_of-keys.result.now in
    let listed : keys ≡ map (λ m. m.key) (filter (is_addressed subscription.name subscription.correlation_key) (buffered es)) =
    c.messages_of-keys.ensures es its ∙ (ap (λ (name : List ℕ). map (λ (m : MessagePublished). m.key) (filter (is_addressed name c.as_str-2.result.now) (buffered es))) c.as_str.ensures
    ∙ ap (λ (key : List ℕ). map (λ (m : MessagePublished). m.key) (filter (is_addressed subscription.name key) (buffered es))) c.as_str-2.ensures) in
    let first : None ≡ find (λ k. not (list_any (is_lock k subscription.process) s.tables.starts.locks)) keys =
    c.in-None.ensures ∙ ap (λ (process : List ℕ). find (λ k. not (list_any (is_lock k process) s.tables.starts.locks)) keys) c.as_str-3.ensures in
    ap (option_and_then (λ (k : ℕ). find (λ (m : MessagePublished). m.key == k) s.messages)) first
    ∙ (next_there es s is (as_started subscription) keys listed c.self.invariant.ascend ∙ next_as_started subscription es (sym c.is_some.ensures ∙ c.if-is_some.false))

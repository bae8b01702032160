-- The own events of what element instances hear from the home of their messages apply, where there is no reason against it.
use Rattle.std.proofs.Common.{◌≡◌, ℕ, ◌==◌, List, [], ◌∷◌, ◌++◌, map, Bool, true, false, cond, not, if◌then◌else◌, IsTrue, Option, Some, None, option_map, refl, sym, ap, ◌∙◌, subst, append-nil, arith}
use Rattle.std.specs.List.{find}
use Rattle.std.specs.Option.{option_map_or}
use Rattle.std.specs.Str.{bytes_eq}
use Rattle.std.proofs.lemmas.Bool.Decides.{nat_tests}
use Rattle.zb_exchange_records.specs.declared.subscription.MessageCorrelation.{MessageCorrelation}
use Rattle.zb_model.specs.declared.record.Event.{Event}
use Rattle.zb_model.specs.declared.record.Event.TheVariants as events
use Rattle.zb_model.specs.declared.record.Rejection.{Rejection}
use Rattle.zb_views.specs.declared.process_subscription.ProcessSubscription.{ProcessSubscription}
use Rattle.zb_views.specs.ProcessSubscriptions.{process_subscription_sort, process_subscription_changed, process_subscriptions, process_subscription_at, is_being_created, is_being_deleted, has_kept}
use Rattle.zb_views.proofs.ProcessSubscriptionLaws.{process_subscriptions_more}
use Rattle.zb_views.proofs.StandingLaws.{each_changed}
use Rattle.zb_tokens.specs.declared.board.Assignments.{Assignments}
use Rattle.zb_tokens.specs.declared.board.Cell.{Cell}
use Rattle.zb_tokens.specs.declared.board.Triggered.{Triggered}
use Rattle.zb_tokens.specs.Board.{Board, cell_at, holds_cells}
use Rattle.zb_tokens.specs.Mappings.{gives_outputs}
use Rattle.zb_tokens.specs.MoveTrigger.{awaits_event, is_awaited}
use Rattle.zb_tokens.proofs.GameLaws.{found_passes, found_holds, holds_some}
use Rattle.zb_rules.specs.Applies.{has_cell, applies, all_apply}
use Rattle.zb_rules.specs.Behind.{with_events_behind, closing_of}
use Rattle.zb_rules.specs.InFront.{assigning, set_all}
use Rattle.zb_rules.specs.Making.{and_then}
use Rattle.zb_rules.specs.Receive.{against, reason_to_confirm, reason_to_forget, waits_for_message, reason_to_pass_over, reason_to_receive, confirmed, forgotten, closed_after, brought_to, brought, event_of_subscription, receive_events, received}
use Rattle.zb_rules.specs.Shown.{board_of, holds_of_game}
use Rattle.zb_rules.specs.Subscribe.{unknown_subscription}
use Rattle.zb_rules.specs.Sound.{holds_by}
use Rattle.zb_rules.specs.WaitEvents.{is_waiting, is_open}
use Rattle.zb_rules.proofs.AppliedLaws.{game_holds, holds_on, some_of}
use Rattle.zb_rules.proofs.BlindLaws.{awaited_still}
use Rattle.zb_rules.proofs.MadeLaws.{is_keyed}
use Rattle.zb_rules.proofs.OwnLaws.{silent_applies}
use Rattle.zb_rules.proofs.PlacedLaws.{InScope, inner_scope, scopes_of}
use Rattle.zb_rules.proofs.ScopesLaws.{at_cell}
use Rattle.zb_rules.proofs.SoundLaws.{BoardKeeps, keeps_on}
use Rattle.zb_rules.proofs.StepLaws.{all_apply_on}
use Rattle.zb_rules.proofs.TimedLaws.{awaits_inner}
use Rattle.zb_rules.proofs.TriggerLaws.{board_silent, awaited_apply}
use Rattle.zb_rules.proofs.UpdateLaws.{each_set}

-- where there is nothing against a subscription it is there
pub none_against : (es : List Event) (key : ℕ) (reason : ProcessSubscription → Option Rejection) → against es key reason ≡ None → (s : ProcessSubscription) × (process_subscription_at key es ≡ Some s) × (reason s ≡ None)
none_against es key reason none = by_found (process_subscription_at key es) refl none
  where
    by_found : (found : Option ProcessSubscription) → process_subscription_at key es ≡ found → option_map_or reason found (Some (unknown_subscription key)) ≡ None → (s : ProcessSubscription) × (process_subscription_at key es ≡ Some s) × (reason s ≡ None)
    by_found None at none = absurd (cc)
    by_found (Some s) at none = (s, at, none)

-- a test without which there is a reason
test_holds : (t : Bool) (r : Rejection) → (if t then None else Some r) ≡ None → t ≡ true
test_holds true r none = refl
test_holds false r none = absurd (cc)

-- three tests, each of them with its reason
pub tests_hold : (kept closes waits : Bool) (a y z : Rejection) → (if kept then Some a else if closes then Some y else if not waits then Some z else None) ≡ None → (kept ≡ false) × (closes ≡ false) × (waits ≡ true)
tests_hold false false true a y z none = (refl, refl, refl)
tests_hold true closes waits a y z none = absurd (cc)
tests_hold false true waits a y z none = absurd (cc)
tests_hold false false false a y z none = absurd (cc)

-- the one with a key is found as each is changed, where keys stay
pub found_changed : (key : ℕ) (e : Event) (ss : List ProcessSubscription) → find (λ s. s.key == key) (map (process_subscription_changed e) ss) ≡ option_map (process_subscription_changed e) (find (λ s. s.key == key) ss)
found_changed key e [] = refl
found_changed key e (s ∷ ss) = by_test (s.key == key) (found_changed key e ss)
  where
    f : ProcessSubscription → ProcessSubscription
    f = process_subscription_changed e

    by_test : (t : Bool) → find (λ s. s.key == key) (map f ss) ≡ option_map f (find (λ s. s.key == key) ss) → cond t (Some (f s)) (find (λ s. s.key == key) (map f ss)) ≡ option_map f (cond t (Some s) (find (λ s. s.key == key) ss))
    by_test true later = refl
    by_test false later = later

module _ (p : ℕ) (es : List Event) (b : Board) (is : board_of es ≡ Some b) (k : BoardKeeps p es b) where
  -- a subscription that is being created
  pub confirm_applies : (key : ℕ) → reason_to_confirm es key ≡ None → IsTrue (all_apply p es (confirmed key es))
  confirm_applies key none =
      let r = none_against es key _ none in
      let at = r.1 in
      let being = test_holds (is_being_created r.0.phase) _ r.2 in
      let own : IsTrue (is_waiting is_being_created key es) = rw at being in
      let first : IsTrue (applies p es (events.ProcessMessageSubscriptionCreated key)) = silent_applies p es b (events.ProcessMessageSubscriptionCreated key) is own refl in
      rw first refl

  -- one that is being deleted
  pub forget_applies : (key : ℕ) → reason_to_forget es key ≡ None → IsTrue (all_apply p es (forgotten key es))
  forget_applies key none =
      let r = none_against es key _ none in
      let at = r.1 in
      let being = test_holds (is_being_deleted r.0.phase) _ r.2 in
      let own : IsTrue (is_waiting is_being_deleted key es) = rw at being in
      let first : IsTrue (applies p es (events.ProcessMessageSubscriptionDeleted key)) = silent_applies p es b (events.ProcessMessageSubscriptionDeleted key) is own refl in
      rw first refl

  -- what a message brings is set, and then the event comes about for which the cell waits
  module _ (moment : ℕ) (c : MessageCorrelation) (s : ProcessSubscription) (waits : IsTrue (waits_for_message s b)) where
    abbrev event : Triggered
    event = record { cell = s.cell; node = s.node }

    abbrev happens : List Event → List Event
    happens before = with_events_behind p moment (event_of_subscription s) before

    keeps_set : (after : Board) (made : List Event) → board_of (es ++ made) ≡ Some after → IsTrue (all_apply p es made) → BoardKeeps p (es ++ made) after
    keeps_set after made led applied =
        let r = holds_on p (BoardKeeps p) (keeps_on p) es made b is k applied in
        let same : r.0 ≡ after = (let e : Some r.0 ≡ Some after = sym r.1 ∙ led in cc) in
        subst (λ (x : Board). BoardKeeps p (es ++ made) x) same r.2

    scope_there : (cell : Cell) → cell_at b s.cell ≡ Some cell → IsTrue (awaits_event b event cell) → IsTrue (has_cell (brought_to b s c.variables cell).scope b)
    scope_there cell at waits = by_test (bytes_eq cell.node s.node)
      where
        brings : Bool → Assignments
        brings t = if t then record { scope = s.cell; local = gives_outputs b cell; variables = c.variables } else record { scope = cell.scope; local = false; variables = c.variables }

        by_test : (t : Bool) → IsTrue (has_cell (brings t).scope b)
        by_test true = rw at refl
        by_test false =
            let scope = inner_scope b cell (found_holds (is_keyed s.cell) (InScope b) b.cells cell (scopes_of b k.placed) at).0 (awaits_inner b event cell waits) in
            holds_some (holds_by holds_cells b) (cell_at b cell.scope) scope.0

    set_apply : (a : Assignments) → IsTrue (has_cell a.scope b) → IsTrue (all_apply p es (set_all a es ++ happens (es ++ set_all a es)))
    set_apply a there =
        let set = each_set p a.local a.scope (λ (x : Board). IsTrue (is_awaited x event)) (awaited_still event) a.variables es b is k waits there in
        let behind = awaited_apply p (es ++ set_all a es) set.after set.is (keeps_set set.after (set_all a es) set.is set.applied) moment event set.holds in
        rw (all_apply_on p es (set_all a es) (happens (es ++ set_all a es)), set.applied, behind) refl

    brought_apply : (seen : List Event) → board_of seen ≡ Some b → IsTrue (all_apply p es (assigning (brought c.variables s seen) es ++ happens (es ++ assigning (brought c.variables s seen) es)))
    brought_apply seen was =
        let found = some_of (cell_at b s.cell) (holds_some (awaits_event b event) (cell_at b s.cell) waits) in
        let its : brought c.variables s seen ≡ Some (brought_to b s c.variables found.0) = brings_by found.0 found.1 in
        subst (λ (o : Option Assignments). IsTrue (all_apply p es (assigning o es ++ happens (es ++ assigning o es)))) (sym its)
        (set_apply (brought_to b s c.variables found.0) (scope_there found.0 found.1 (at_cell (awaits_event b event) (cell_at b s.cell) found.0 found.1 waits)))
      where
        brings_by : (cell : Cell) → cell_at b s.cell ≡ Some cell → brought c.variables s seen ≡ Some (brought_to b s c.variables cell)
        brings_by cell at = rw (was, at) refl

module _ (p : ℕ) (es : List Event) (b : Board) (is : board_of es ≡ Some b) (k : BoardKeeps p es b) (moment : ℕ) (c : MessageCorrelation) (s : ProcessSubscription) (at : process_subscription_at c.subscription es ≡ Some s) (stays : is_being_deleted s.phase ≡ false) (waits : IsTrue (waits_for_message s b)) where
  abbrev given : Event
  given = events.ProcessMessageSubscriptionCorrelated (record { subscription = c.subscription; message = c.message })

  abbrev over : List Event
  over = es ++ given ∷ []

  given_applies : IsTrue (applies p es given)
  given_applies =
      let own : IsTrue (is_waiting is_open c.subscription es) = rw (at, stays) refl in
      silent_applies p es b given is own refl

  -- behind it the subscription has one message more
  at_behind : process_subscription_at c.subscription over ≡ Some (process_subscription_changed given s)
  at_behind =
      ap (find (λ s. s.key == c.subscription)) (process_subscriptions_more es given ∙ each_changed process_subscription_sort es given (process_subscriptions es) refl (λ s. refl))
      ∙ (found_changed c.subscription given (process_subscriptions es) ∙ ap (option_map (process_subscription_changed given)) at)

  -- where it ends with that it begins to be deleted; then what the message brings is set, and the event comes about
  closes_by : (cancel : Bool) → IsTrue (all_apply p over ((if cancel then closing_of (process_subscription_changed given s) ∷ [] else [])
      ++ and_then (assigning (brought c.variables s es)) (with_events_behind p moment (event_of_subscription s)) (over ++ (if cancel then closing_of (process_subscription_changed given s) ∷ [] else []))))
  closes_by cancel =
      let first = board_silent p es b is k given given_applies refl in
      by_cancel first.0 first.1 cancel
    where
      key : s.key ≡ c.subscription
      key = let its = found_passes (λ (x : ProcessSubscription). x.key == c.subscription) (process_subscriptions es) s at in grind (arith, nat_tests, its)

      by_cancel : board_of over ≡ Some b → BoardKeeps p over b → (cancel : Bool) → IsTrue (all_apply p over ((if cancel then closing_of (process_subscription_changed given s) ∷ [] else [])
          ++ and_then (assigning (brought c.variables s es)) (with_events_behind p moment (event_of_subscription s)) (over ++ (if cancel then closing_of (process_subscription_changed given s) ∷ [] else []))))
      by_cancel over_is over_k false = rw (append-nil over) (brought_apply p over b over_is over_k moment c s waits es is)
      by_cancel over_is over_k true =
          let e = closing_of (process_subscription_changed given s) in
          let there : process_subscription_at s.key over ≡ Some (process_subscription_changed given s) = subst (λ (q : ℕ). process_subscription_at q over ≡ Some (process_subscription_changed given s)) (sym key) at_behind in
          let own : IsTrue (is_waiting is_open s.key over) = rw (there, stays) refl in
          let closes : IsTrue (applies p over e) = silent_applies p over b e over_is own refl in
          let behind = board_silent p over b over_is over_k e closes refl in
          rw closes (brought_apply p (over ++ e ∷ []) b behind.0 behind.1 moment c s waits es is)

  events_apply : IsTrue (all_apply p es (receive_events p moment c s es))
  events_apply =
      let there = at_behind in
      let rest : IsTrue (all_apply p over (and_then (closed_after c.subscription) (and_then (assigning (brought c.variables s es)) (with_events_behind p moment (event_of_subscription s))) over)) = rw there (closes_by s.cancel) in
      rw (given_applies) rest

-- a message for a subscription
pub receive_applies : (p : ℕ) (es : List Event) (b : Board) → board_of es ≡ Some b → BoardKeeps p es b → (moment : ℕ) (c : MessageCorrelation) → reason_to_receive es c ≡ None → IsTrue (all_apply p es (received p moment c es))
receive_applies p es b is k moment c none =
    let r = none_against es c.subscription (reason_to_pass_over es c.message) none in
    let s = r.0 in
    let at = r.1 in
    let tests = tests_hold (has_kept c.message s) (is_being_deleted s.phase) (holds_of_game (waits_for_message s) es) _ _ _ r.2 in
    let waits = game_holds (waits_for_message s) es b is tests.2 in
    rw at (events_apply p es b is k moment c s at tests.1 waits)

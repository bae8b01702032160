-- The own events of each command apply, where there is no reason against it.
use Rattle.std.proofs.Common.{◌≡◌, ℕ, ◌+◌, ◌≤◌, ◌==◌, List, [], ◌∷◌, ◌++◌, Bool, true, false, ◌||◌, if◌then◌else◌, IsTrue, not, Some, None, option_and_then, refl, sym, ap, ◌∙◌, subst, arith}
use Rattle.std.specs.List.{list_any}
use Rattle.std.proofs.lemmas.Bool.Decides.{nat_tests}
use Rattle.std.proofs.lemmas.List.Folds.{list_any-append}
use Rattle.zb_model.specs.declared.record.Event.{Event}
use Rattle.zb_model.specs.declared.record.Event.TheVariants as events
use Rattle.zb_exchange_records.specs.declared.message.MessagePublished.{MessagePublished}
use Rattle.zb_views.specs.View.{counter_at, greatest_counter, next_key}
use Rattle.zb_views.proofs.ViewLaws.{greatest_counter_more}
use Rattle.zb_views.proofs.CounterLaws.{counter_at-key_of}
use Rattle.zb_views.specs.Messages.{buffered, is_buffered}
use Rattle.zb_views.proofs.MessageLaws.{buffered_published}
use Rattle.zb_tokens.specs.Board.{Board}
use Rattle.zb_rules.specs.Shown.{shown, after_shown, board_of}
use Rattle.zb_rules.specs.Applies.{is_fresh, holds_own, holds_of_game, may_fit, applies, all_apply}
use Rattle.zb_rules.specs.Sound.{HasKeys}
use Rattle.zb_rules.specs.Expire.{reason_to_expire, expired, is_due_at}
use Rattle.zb_rules.proofs.GrowthLaws.{board_of_more}
use Rattle.zb_rules.proofs.AppliedLaws.{game_holds_from}
use Rattle.zb_rules.proofs.ModelsLaws.{Knows}
use Rattle.zb_model.specs.declared.record.Rejection.{Rejection}

-- a test that one side passes
pub or_true : (t : Bool) → IsTrue (t || true)
or_true true = refl
or_true false = refl

-- a partition that has a key left draws a fresh one
pub fresh_from : (p : ℕ) (es : List Event) → HasKeys p es 1 → IsTrue (is_fresh p es (next_key p es))
fresh_from p es keys = grind (arith, nat_tests)

-- an event that shows no move applies, where its own condition holds and there is a board
pub silent_applies : (p : ℕ) (es : List Event) (b : Board) (e : Event) → board_of es ≡ Some b → IsTrue (holds_own p es e) → shown es e ≡ None → IsTrue (applies p es e)
silent_applies p es b e is own shows =
    let there : IsTrue (holds_of_game (may_fit (shown es e)) es) = game_holds_from (may_fit (shown es e)) es b is (subst (λ o. IsTrue (may_fit o b)) (sym shows) refl) in
    rw (own, there) refl

-- the board behind an event by the move that it shows
pub board_after : (es : List Event) (b after : Board) (e : Event) → board_of es ≡ Some b → after_shown b (shown es e) ≡ Some after → board_of (es ++ e ∷ []) ≡ Some after
board_after es b after e is led = board_of_more es e ∙ (ap (option_and_then (λ (x : Board). after_shown x (shown es e))) is ∙ led)

-- the next key counts one more than all before
pub next_counted : (p : ℕ) (es : List Event) → HasKeys p es 1 → counter_at p (next_key p es) ≡ greatest_counter p es + 1
next_counted p es keys = counter_at-key_of p (greatest_counter p es + 1) keys

-- one more key named
pub one_more : (p : ℕ) (es : List Event) (e : Event) (n : ℕ) → HasKeys p es (n + 1) → greatest_counter p (e ∷ []) ≤ greatest_counter p es + 1 → HasKeys p (es ++ e ∷ []) n
one_more p es e n keys named = omega (arith, greatest_counter_more p es (e ∷ []))

module _ (p : ℕ) (es : List Event) (b : Board) (is : board_of es ≡ Some b) (knows : Knows p es b) where
  -- a message
  pub expires_by : (t : Bool) (m : MessagePublished) → IsTrue (all_apply p (es ++ events.MessagePublished m ∷ []) (if t then events.MessageExpired m.key ∷ [] else []))
  expires_by false m = refl
  expires_by true m =
      let same : (m.key == m.key) ≡ true = grind (arith, nat_tests) in
      let waits : IsTrue (is_buffered m.key (es ++ events.MessagePublished m ∷ [])) = rw (buffered_published es m, list_any-append (λ (x : MessagePublished). x.key == m.key) (buffered es), same) (or_true (list_any (λ (x : MessagePublished). x.key == m.key) (buffered es))) in
      let second : IsTrue (applies p (es ++ events.MessagePublished m ∷ []) (events.MessageExpired m.key)) =
      silent_applies p (es ++ events.MessagePublished m ∷ []) b (events.MessageExpired m.key) (board_after es b b (events.MessagePublished m) is refl) waits refl in
      rw second refl

  -- an expiry
  expiry_by : (key : ℕ) (waits due : Bool) (a z : Rejection) → (if not waits then Some a else if not due then Some z else None) ≡ None → IsTrue waits
  expiry_by key true due a z none = refl
  expiry_by key false due a z none = absurd (cc)

  -- the own event of an expiry applies
  pub expire_applies : (key moment : ℕ) → reason_to_expire es moment key ≡ None → IsTrue (all_apply p es (expired key es))
  expire_applies key moment none =
      let waits = expiry_by key (is_buffered key es) (is_due_at moment key es) _ _ none in
      let first : IsTrue (applies p es (events.MessageExpired key)) = silent_applies p es b (events.MessageExpired key) is waits refl in
      rw first refl

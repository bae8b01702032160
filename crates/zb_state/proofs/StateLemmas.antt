-- A state with an event more.
use Rattle.std.proofs.Common.{◌≡◌, ℕ, ◌+◌, max, Option, Some, None, option_map, true, List, [], ◌∷◌, ◌++◌, IsTrue, refl, sym, ap, subst, ◌∙◌, append-nil}
use Rattle.std.specs.Cmp.Derive.{both_true}
use Rattle.zb_model.specs.declared.record.Event.{Event}
use Rattle.zb_views.specs.View.{keys_in, greatest_among, greatest_counter, next_key}
use Rattle.zb_views.specs.Messages.{message_sort}
use Rattle.zb_views.specs.Jobs.{job_sort}
use Rattle.zb_views.specs.Timers.{timer_sort}
use Rattle.zb_views.specs.Starts.{started_sort}
use Rattle.zb_views.specs.ProcessSubscriptions.{process_subscription_sort}
use Rattle.zb_views.specs.Subscriptions.{subscription_sort, lock_sort}
use Rattle.zb_record.specs.Sendings.{sending_sort}
use Rattle.zb_views.specs.Standing.{standing_by}
use Rattle.zb_views.proofs.StandingLaws.{standing_more}
use Rattle.zb_views.proofs.ViewLaws.{left_more, greatest_counter_more}
use Rattle.zb_rules.proofs.GrowthLaws.{board_of_more}
use Rattle.zb_rules.proofs.StepLaws.{all_apply_more}
use Rattle.zb_rules.specs.Applies.{applies, holds_own, may_fit}
use Rattle.zb_rules.specs.Settling.{in_events, turn_of, turn_with}
use Rattle.zb_rules.specs.Shown.{shown, after_shown, board_of, definitions_on, event_of}
use Rattle.zb_rules.proofs.ModelsLaws.{defined_there}
use Rattle.zb_tokens.specs.Board.{Board}
use Rattle.zb_tokens.specs.Mappings.{assignments_of}
use Rattle.zb_tokens.specs.Forced.{move_of}
use Rattle.zb_tokens.specs.declared.board.Move.{Move}
use Rattle.zb_tokens.specs.declared.board.Mover.{Mover}
use Rattle.zb_views.specs.Definitions.{definitions}
use Rattle.zb_views.specs.declared.definition.Definition.{Definition}
use Rattle.zb_definitions.specs.Kept.{KeepsDefinitions}
use Rattle.zb_definitions.specs.declared.definitions.Definitions.{Definitions}
use Rattle.zb_state.specs.declared.turn.Turn.{Turn}
use Rattle.zb_state.specs.State.{IsStateOf, IsSameBeside, HasTaken}
use Rattle.zb_state.specs.declared.facts.Facts.{Facts}
use Rattle.zb_tables.specs.declared.tables.Tables.{Tables}
use Rattle.zb_state.specs.Starts.{IsChangeOf}
use Rattle.zb_starts.specs.declared.change.Change.{Change}

-- the greatest counter
pub counter_more : (p : ℕ) (es : List Event) (e : Event) → greatest_counter p (es ++ e ∷ []) ≡ max (greatest_counter p es) (greatest_among p (keys_in e))
counter_more p es e =
    greatest_counter_more p es (e ∷ []) ∙ ap (λ (keys : List ℕ). max (greatest_counter p es) (greatest_among p keys)) (append-nil (keys_in e))

-- the state where each part has taken the event in
pub state_more : (es : List Event) (e : Event) (change : Change) (old mid new : Facts) → IsStateOf es old → IsSameBeside old mid → IsTrue (applies old.place es e) → after_shown old.game (shown es e) ≡ Some mid.game
    → IsChangeOf es e change → HasTaken e change (standing_by message_sort [] e mid.messages) mid new → IsStateOf (es ++ e ∷ []) new
state_more es e change old mid new is same applied played changed took =
    let tables = took.tables in
    let jobs_were = is.jobs ∙ ap (λ (t : Tables). t.jobs) (sym same.tables) in
    record {
      applied = rw (took.place, same.place, all_apply_more old.place [] es e) (both_true is.applied applied);
      counter = rw (took.place, same.place, counter_more old.place es e, is.counter) (sym (rw (same.counter, same.place) at took.counter));
      messages = standing_more message_sort es e ∙ (ap (standing_by message_sort [] e) (is.messages ∙ sym same.messages) ∙ sym took.messages);
      sendings = standing_more sending_sort es e ∙ (ap (standing_by sending_sort [] e) (is.sendings ∙ ap (λ (t : Tables). t.sendings) (sym same.tables)) ∙ sym tables.sendings);
      jobs = standing_more job_sort es e ∙ (ap (standing_by job_sort [] e) jobs_were ∙ sym tables.jobs);
      timers = standing_more timer_sort es e ∙ (ap (standing_by timer_sort [] e) (is.timers ∙ ap (λ (t : Tables). t.timers) (sym same.tables)) ∙ sym tables.timers);
      locks = standing_more lock_sort es e ∙ (ap (standing_by lock_sort es e) (is.locks ∙ ap (λ (t : Tables). t.starts.locks) (sym same.tables)) ∙ (changed.locks mid.tables.starts.locks ∙ sym tables.locks));
      starts = standing_more started_sort es e ∙ (ap (standing_by started_sort es e) (is.starts ∙ ap (λ (t : Tables). t.starts.starts) (sym same.tables)) ∙ (changed.starts mid.tables.starts.starts ∙ sym tables.starts));
      subscriptions = standing_more subscription_sort es e ∙ (ap (standing_by subscription_sort [] e) (is.subscriptions ∙ ap (λ (t : Tables). t.subscriptions) (sym same.tables)) ∙ sym tables.subscriptions);
      process_subscriptions = standing_more process_subscription_sort es e
          ∙ (ap (standing_by process_subscription_sort [] e) (is.process_subscriptions ∙ ap (λ (t : Tables). t.process_subscriptions) (sym same.tables)) ∙ sym tables.process_subscriptions);
      left = left_more es e ∙ sym (took.left es jobs_were);
      game = rw (board_of_more es e, is.game) (played ∙ ap (λ (b : Board). Some b) (sym took.game));
    }

-- the board of some events is one alone
pub same_board : (o : Option Board) (a b : Board) → o ≡ Some a → o ≡ Some b → a ≡ b
same_board o a b first second = let e : Some a ≡ Some b = sym first ∙ second in cc

-- an event that meets its own condition applies where its move fits the board
pub applies_by : (p : ℕ) (es : List Event) (e : Event) (b : Board) → holds_own p es e ≡ true → board_of es ≡ Some b → applies p es e ≡ may_fit (shown es e) b
applies_by p es e b own is = rw (own, is) refl

-- what a mover does is one event, with what is set in front of it and those behind it
pub turn_told : (p moment : ℕ) (es : List Event) (b game : Board) (mover : Mover) (key : ℕ) (move : Move) (turn : Option Turn)
    → b ≡ game → key ≡ next_key p es → Some move ≡ move_of game moment key mover → turn ≡ option_map (λ e. record { assignments = assignments_of game move; event = e }) (event_of game move)
    → turn_of p moment es b mover ≡ option_map (λ t. turn_with p moment t.assignments t.event es) turn
turn_told p moment es b game mover key move turn same drawn is_move is_turn =
    let told : move_of game moment (next_key p es) mover ≡ Some move = subst (λ (k : ℕ). move_of game moment k mover ≡ Some move) drawn (sym is_move) in
    rw (same, told, is_turn) (by_event (event_of game move))
  where
    by_event : (event : Option Event) → option_map (λ e. in_events p moment game move e es) event
        ≡ option_map (λ (t : Turn). turn_with p moment t.assignments t.event es) (option_map (λ e. record { assignments = assignments_of game move; event = e }) event)
    by_event None = refl
    by_event (Some e) = refl

-- and nothing where he has no move
pub no_turn_told : (p moment : ℕ) (es : List Event) (b game : Board) (mover : Mover) (key : ℕ)
    → b ≡ game → key ≡ next_key p es → None ≡ move_of game moment key mover → turn_of p moment es b mover ≡ None
no_turn_told p moment es b game mover key same drawn is_move =
    let told : move_of game moment (next_key p es) mover ≡ None = subst (λ (k : ℕ). move_of game moment k mover ≡ None) drawn (sym is_move) in
    rw (same, told) refl

-- what is kept of the definitions whose models stand is kept of those that the events made
pub keeps_told : (es : List Event) (s : Facts) (kept : Definitions) → IsStateOf es s → KeepsDefinitions (definitions_on s.game) kept → KeepsDefinitions (definitions es) kept
keeps_told es s kept is keeps = subst (λ (ds : List Definition). KeepsDefinitions ds kept) (defined_there s.place es s.game is.applied is.game) keeps

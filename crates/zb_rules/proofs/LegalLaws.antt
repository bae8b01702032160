-- Laws of legal moves in a log: an event that applies makes its move legally, where that agrees with what it evaluates.
use Rattle.std.proofs.Common.{◌≡◌, ℕ, ◌==◌, List, [], ◌∷◌, ◌++◌, Bool, true, false, ◌&&◌, not, if◌then◌else◌, IsTrue, Option, Some, None, refl, sym, ap, ◌∙◌, subst}
use Rattle.std.specs.Option.{IfSome, option_map_or}
use Rattle.std.specs.List.{AllByRecursion}
use Rattle.std.proofs.lemmas.Bool.{or_left}
use Rattle.zb_model.specs.declared.record.Command.{Command}
use Rattle.zb_model.specs.declared.record.Command.TheVariants as commands
use Rattle.zb_model.specs.declared.record.Event.{Event}
use Rattle.zb_model.specs.declared.record.Event.TheVariants as events
use Rattle.zb_views.specs.Jobs.{job_at}
use Rattle.zb_tokens.specs.declared.board.Move.{Move}
use Rattle.zb_tokens.specs.Board.{Board}
use Rattle.zb_tokens.specs.Game.{fits, agrees, played}
use Rattle.zb_tokens.proofs.GameLaws.{both_left, both_right, holds_some}
use Rattle.zb_rules.specs.Shown.{shown, after_shown, board_of}
use Rattle.zb_rules.proofs.GrowthLaws.{begin_shows}
use Rattle.zb_rules.specs.Applies.{is_fresh, holds_own, may_fit, applies, all_apply}
use Rattle.zb_rules.specs.JobEvents.{tells_of_job}
use Rattle.zb_rules.specs.Kinds.{comes_beside}
use Rattle.zb_rules.specs.Legal.{IsMadeLegally, AllLegal, EachLegal}
use Rattle.zb_rules.proofs.AppliedLaws.{some_of, applied_board, board_behind}
use Rattle.zb_rules.proofs.KindsLaws.{EachOf, all_weaker, own_kind}
use Rattle.zb_rules.proofs.MadeLaws.{mapped_passes}

-- where an event applies there is a board
pub applied_on : (p : ℕ) (es : List Event) (e : Event) → IsTrue (applies p es e) → (b : Board) × (board_of es ≡ Some b)
applied_on p es e h = some_of (board_of es) (holds_some _ (board_of es) (both_right (holds_own p es e) _ h))

module _ (p moment : ℕ) (seen : List Event) (evaluated : Board) (saw : board_of seen ≡ Some evaluated) where
  made_by : (es : List Event) (e : Event) (b : Board) (move : Option Move) → shown es e ≡ move → board_of es ≡ Some b → IsTrue (applies p es e)
      → ((m : Move) → shown es e ≡ Some m → IsTrue (agrees evaluated moment m)) → IfSome move (IsMadeLegally moment seen es e)
  made_by es e b None shows is h each = tt
  made_by es e b (Some move) shows is h each =
      let r = applied_board p es b e is h in
      let fit : IsTrue (fits b move) = subst (λ (o : Option Move). IsTrue (may_fit o b)) shows r.1.fit in
      let led : played b move ≡ Some r.0 = subst (λ (o : Option Move). after_shown b o ≡ Some r.0) shows r.1.leads in
      record {
        evaluated = evaluated;
        board = b;
        after = r.0;
        is_seen = saw;
        is_before = is;
        is_after = board_behind p es b e r.0 r.1;
        legal = record { fit = fit; agreed = each move shows; leads = led };
      }

  -- an event that applies, and whose move agrees, makes it legally
  pub made_legally : (es : List Event) (e : Event) → IsTrue (applies p es e) → ((move : Move) → shown es e ≡ Some move → IsTrue (agrees evaluated moment move)) → IfSome (shown es e) (IsMadeLegally moment seen es e)
  made_legally es e h each =
      let found = applied_on p es e h in
      made_by es e found.0 (shown es e) refl found.1 h each

-- what an event shows is evaluated: what a cell takes in or gives out, or what keeps it from going on
abbrev pub is_evaluated : Event → Bool
is_evaluated (events.ElementActivated e) = true
is_evaluated (events.ElementCompleted e) = true
is_evaluated (events.IncidentCreated e) = not (tells_of_job e.kind)
is_evaluated e = false

-- nothing of what these events show is
abbrev pub NeverEvaluate : List Event → Type 0
NeverEvaluate es = AllByRecursion (λ e. is_evaluated e ≡ false) es

-- nothing of what a command makes itself is
own_silent : (e : Event) (command : Command) → IsTrue (own_kind command e) → is_evaluated e ≡ false
own_silent (events.ElementActivated e) (commands.DeploymentCreate m) is = absurd (cc)
own_silent (events.ElementActivated e) command is = absurd (cc)
own_silent (events.ElementCompleted e) (commands.DeploymentCreate m) is = absurd (cc)
own_silent (events.ElementCompleted e) command is = absurd (cc)
own_silent (events.IncidentCreated e) (commands.JobFail c) is = ap not is
own_silent (events.IncidentCreated e) command is = absurd (cc)
own_silent e command is = refl

pub own_never : (command : Command) (es : List Event) → EachOf (own_kind command) es → NeverEvaluate es
own_never command es are = all_weaker _ _ (λ e is. own_silent e command is) es are

-- nor is anything beside the event of a move
pub beside_never : (es : List Event) → EachOf comes_beside es → NeverEvaluate es
beside_never es are = all_weaker _ _ (λ e beside. own_silent e commands.ProcessInstanceBatchContinue (or_left (comes_beside e) _ beside)) es are

module _ (b : Board) (moment : ℕ) where
  caused : (t job more zero : Bool) → not t ≡ false → IsTrue (if t then job && more else zero) → IsTrue job
  caused true job more zero silent cause = both_left job more cause
  caused false job more zero silent cause = absurd (cc)

  -- where nothing is evaluated, the move that an event shows agrees, if its own condition holds
  shown_agrees : (p : ℕ) (before : List Event) (e : Event) → is_evaluated e ≡ false → IsTrue (holds_own p before e) → option_map_or (agrees b moment) (shown before e) true ≡ true
  shown_agrees p before (events.ElementActivated e) silent own = absurd (cc)
  shown_agrees p before (events.ElementCompleted e) silent own = absurd (cc)
  shown_agrees p before (events.ElementActivating e) silent own = begin_shows (λ (m : Option Move). option_map_or (agrees b moment) m true ≡ true) e (e.scope == 0) refl refl refl refl
  shown_agrees p before (events.JobCompleted key) silent own = mapped_passes (agrees b moment) _ (λ j. refl) (job_at key before)
  shown_agrees p before (events.JobErrorThrown e) silent own = mapped_passes (agrees b moment) _ (λ j. refl) (job_at e.key before)
  shown_agrees p before (events.IncidentCreated e) silent own =
      or_left (not (e.job == 0)) _ (caused (tells_of_job e.kind) (not (e.job == 0)) _ _ silent (both_right (is_fresh p before e.key) _ own))
  shown_agrees p before e silent own = refl

-- so an event that applies makes its move legally, whatever was seen
silent_legal : (p moment : ℕ) (seen : List Event) (evaluated : Board) → board_of seen ≡ Some evaluated → (es : List Event) (e : Event) → is_evaluated e ≡ false → IsTrue (applies p es e) → IfSome (shown es e) (IsMadeLegally moment seen es e)
silent_legal p moment seen evaluated saw es e silent apply = made_legally p moment seen evaluated saw es e apply
    (λ move shows. sym (ap (λ (o : Option Move). option_map_or (agrees evaluated moment) o true) shows) ∙ shown_agrees evaluated moment p es e silent (both_left (holds_own p es e) _ apply))

-- and so does each of some that apply
pub legal_by : (p moment : ℕ) (seen : List Event) (evaluated : Board) → board_of seen ≡ Some evaluated → (es made : List Event) → NeverEvaluate made → IsTrue (all_apply p es made) → AllLegal moment seen es made
legal_by p moment seen evaluated saw es [] never apply = tt
legal_by p moment seen evaluated saw es (e ∷ made) never apply = (
  silent_legal p moment seen evaluated saw es e never.0 (both_left (applies p es e) _ apply),
  legal_by p moment seen evaluated saw (es ++ e ∷ []) made never.1 (both_right (applies p es e) _ apply),
)

-- and each by itself
pub each_legal_by : (p moment : ℕ) (es own : List Event) → NeverEvaluate own → IsTrue (all_apply p es own) → EachLegal moment es own
each_legal_by p moment es [] never apply = tt
each_legal_by p moment es (e ∷ own) never apply =
    let first = both_left (applies p es e) _ apply in
    let found = applied_on p es e first in
    ((silent_legal p moment es found.0 found.1 es e never.0 first, tt), each_legal_by p moment (es ++ e ∷ []) own never.1 (both_right (applies p es e) _ apply))

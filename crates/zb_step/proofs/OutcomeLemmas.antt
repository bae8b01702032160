-- The outcome that own events and what they force come to.
use Rattle.std.proofs.Common.{◌≡◌, ℕ, List, [], ◌++◌, IsTrue, Some, ap}
use Rattle.std.specs.Cmp.Derive.{both_true}
use Rattle.zb_model.specs.declared.record.Event.{Event}
use Rattle.zb_model.specs.declared.record.Command.{Command}
use Rattle.zb_model.specs.declared.record.Outcome.TheVariants as outcomes
use Rattle.zb_tokens.proofs.GameLaws.{both_right}
use Rattle.zb_rules.specs.Own.{own_events}
use Rattle.zb_rules.specs.Applies.{all_apply}
use Rattle.zb_rules.specs.Legal.{EachLegal}
use Rattle.zb_rules.proofs.StepLaws.{all_apply_on}
use Rattle.zb_rules.specs.Step.{IsAcceptance}
use Rattle.zb_follow.specs.Settled.{SettlesTo}

-- events that apply behind others apply to them
pub behind_apply : (p : ℕ) (es more : List Event) → IsTrue (all_apply p [] (es ++ more)) → IsTrue (all_apply p es more)
behind_apply p es more all = both_right (all_apply p [] es) (all_apply p es more) (rw (all_apply_on p [] es more) at all)

-- own events that apply legally, and what they settle to
pub acceptance_of : (p n moment : ℕ) (before events made : List Event) (command : Command)
    → own_events p n before moment command ≡ Some events → IsTrue (all_apply p before events) → EachLegal moment before events → SettlesTo p moment before events made
    → IsAcceptance p n moment before command (outcomes.Accepted made)
acceptance_of p n moment before events made command are_own applied legal settled = record {
  own = events;
  rest = settled.rest;
  are_own = are_own;
  settles = settled.settles;
  applied = rw (all_apply_on p before events settled.rest) (both_true applied settled.applied);
  own_legal = legal;
  rest_legal = settled.legal;
  accepted = ap outcomes.Accepted settled.is;
}

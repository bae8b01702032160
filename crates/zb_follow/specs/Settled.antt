-- What settling leads to.
use Rattle.std.specs.Prelude.{◌≡◌, ℕ, List, ◌++◌, IsTrue, Some}
use Rattle.zb_model.specs.declared.record.Event.{Event}
use Rattle.zb_rules.specs.Applies.{all_apply}
use Rattle.zb_rules.specs.Legal.{AllLegal, TurnsLegal}
use Rattle.zb_rules.specs.Settling.{turn, IsRest}

-- these events are the next turn behind those before: each of them applies, and each of their moves is legal, where what they evaluate is asked
-- of the board before them all
pub record IsTurn (p moment : ℕ) (es made : List Event) : Type 0 where
  pub forced : turn p moment es ≡ Some made
  pub applied : IsTrue (all_apply p es made)
  pub legal : AllLegal moment es es made

-- behind own events, made on those before, came the rest of a step; each of its events applies, and each of their moves is legal
pub record SettlesTo (p moment : ℕ) (before own made : List Event) : Type 0 where
  pub rest : List Event
  pub is : made ≡ own ++ rest
  pub settles : IsRest p moment before own rest
  pub applied : IsTrue (all_apply p (before ++ own) rest)
  pub legal : TurnsLegal moment (before ++ own) settles.turns

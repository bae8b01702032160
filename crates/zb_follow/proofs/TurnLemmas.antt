-- How settling goes on, turn by turn.
use Rattle.std.proofs.Common.{◌≡◌, ℕ, ◌+◌, ◌<◌, ◌≤◌, ◌⊎◌, List, [], ◌∷◌, ◌++◌, length, IsTrue, Some, refl, sym, ap, ◌∙◌, subst, inl, inr, arith, append-nil, append_assoc}
use Rattle.std.specs.Cmp.Derive.{both_true}
use Rattle.std.proofs.lemmas.List.{length-append}
use Rattle.zb_model.specs.declared.record.Event.{Event}
use Rattle.zb_rules.specs.Applies.{all_apply}
use Rattle.zb_rules.specs.Legal.{AllLegal, TurnsLegal}
use Rattle.zb_rules.specs.Settling.{full, turn, AreTurns, joined, HasQuietGame}
use Rattle.zb_rules.proofs.StepLaws.{all_apply_on}
use Rattle.zb_follow.specs.Settled.{IsTurn, SettlesTo}

-- the events of some turns, and of one behind them
joined_more : (turns : List (List Event)) (made : List Event) → joined (turns ++ made ∷ []) ≡ joined turns ++ made
joined_more [] made = append-nil made
joined_more (first ∷ turns) made = ap (λ es. first ++ es) (joined_more turns made) ∙ sym (append_assoc first (joined turns) made)

-- some turns, and the next one behind them
are_turns_more : (p moment : ℕ) (es : List Event) (count : ℕ) (turns : List (List Event)) (made : List Event)
    → AreTurns p moment es count turns → count + length (joined turns) < full → turn p moment (es ++ joined turns) ≡ Some made → AreTurns p moment es count (turns ++ made ∷ [])
are_turns_more p moment es count [] made each room next =
    let within : count < full = omega (arith, room) in
    let here : turn p moment es ≡ Some made = subst (λ (l : List Event). turn p moment l ≡ Some made) (append-nil es) next in
    (within, here, tt)
are_turns_more p moment es count (first ∷ turns) made each room next =
    let many = length-append first (joined turns) in
    let left : count + length first + length (joined turns) < full = omega (arith, room, many) in
    let behind : turn p moment ((es ++ first) ++ joined turns) ≡ Some made = subst (λ (l : List Event). turn p moment l ≡ Some made) (sym (append_assoc es first (joined turns))) next in
    (each.0, each.1, are_turns_more p moment (es ++ first) (count + length first) turns made each.2 left behind)

-- the moves of some turns are legal, and those of the one behind them
turns_legal_more : (moment : ℕ) (es : List Event) (turns : List (List Event)) (made : List Event) → TurnsLegal moment es turns → AllLegal moment (es ++ joined turns) (es ++ joined turns) made → TurnsLegal moment es (turns ++ made ∷ [])
turns_legal_more moment es [] made each next = (subst (λ (l : List Event). AllLegal moment l l made) (append-nil es) next, tt)
turns_legal_more moment es (first ∷ turns) made each next =
    (each.0, turns_legal_more moment (es ++ first) turns made each.1 (subst (λ (l : List Event). AllLegal moment l l made) (sym (append_assoc es first (joined turns))) next))

-- behind own events, made on those before, came some turns; each of their events applies, and each of their moves is legal
pub record GoesOn (p moment : ℕ) (before own made : List Event) : Type 0 where
  pub turns : List (List Event)
  pub is : made ≡ own ++ joined turns
  pub each : AreTurns p moment (before ++ own) (length own) turns
  pub applied : IsTrue (all_apply p (before ++ own) (joined turns))
  pub legal : TurnsLegal moment (before ++ own) turns

-- no turn came so far
pub goes_on_start : (p moment : ℕ) (before own : List Event) → GoesOn p moment before own own
goes_on_start p moment before own = record { turns = []; is = sym (append-nil own); each = tt; applied = refl; legal = tt }

-- and then came a turn
pub goes_on_more : (p moment : ℕ) (before own made next_turn : List Event)
    → GoesOn p moment before own made → length made < full → IsTurn p moment (before ++ made) next_turn → GoesOn p moment before own (made ++ next_turn)
goes_on_more p moment before own made next_turn so_far room next =
    let turns = so_far.turns in
    let behind : before ++ made ≡ (before ++ own) ++ joined turns = ap (λ (l : List Event). before ++ l) so_far.is ∙ sym (append_assoc before own (joined turns)) in
    let count : length made ≡ length own + length (joined turns) = ap length so_far.is ∙ length-append own (joined turns) in
    let more = joined_more turns next_turn in
    let this : IsTurn p moment ((before ++ own) ++ joined turns) next_turn = subst (λ (l : List Event). IsTurn p moment l next_turn) behind next in
    record {
      turns = turns ++ next_turn ∷ [];
      is = ap (λ (l : List Event). l ++ next_turn) so_far.is ∙ append_assoc own (joined turns) next_turn ∙ ap (λ (l : List Event). own ++ l) (sym more);
      each = are_turns_more p moment (before ++ own) (length own) turns next_turn so_far.each (omega (arith, room, count)) this.forced;
      applied = rw (more, all_apply_on p (before ++ own) (joined turns) next_turn) (both_true so_far.applied this.applied);
      legal = turns_legal_more moment (before ++ own) turns next_turn so_far.legal this.legal;
    }

-- the end of the turns, said of their events
end_of : (p moment : ℕ) (before own made : List Event) (so_far : GoesOn p moment before own made) → HasQuietGame (before ++ made) ⊎ (full ≤ length made)
    → HasQuietGame (before ++ (own ++ joined so_far.turns)) ⊎ (full ≤ length own + length (joined so_far.turns))
end_of p moment before own made so_far (inl quiet) = inl (subst (λ (l : List Event). HasQuietGame (before ++ l)) so_far.is quiet)
end_of p moment before own made so_far (inr filled) =
    let count : length made ≡ length own + length (joined so_far.turns) = ap length so_far.is ∙ length-append own (joined so_far.turns) in
    inr (omega (arith, filled, count))

-- it ends where the game is quiet, and where the batch is full
pub goes_on_end : (p moment : ℕ) (before own made : List Event) → GoesOn p moment before own made → HasQuietGame (before ++ made) ⊎ (full ≤ length made) → SettlesTo p moment before own made
goes_on_end p moment before own made so_far ended = record {
  rest = joined so_far.turns;
  is = so_far.is;
  settles = record {
    turns = so_far.turns;
    is = refl;
    each = so_far.each;
    ended = end_of p moment before own made so_far ended;
  };
  applied = so_far.applied;
  legal = so_far.legal;
}

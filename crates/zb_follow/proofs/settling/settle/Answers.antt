use Rattle.std.proofs.Common.{◌≡◌, ◌∙◌, ℕ, ◌<◌, ◌≤◌, ◌++◌, length, List, ap, sym, subst, inl, inr, arith, append_assoc, refl, rules}
use Rattle.std.proofs.lemmas.Bool.{false≢true}
use Rattle.zb_model.specs.declared.record.Event.{Event}
use Rattle.zb_rules.specs.Settling.{full, turn_with, HasQuietGame}
use Rattle.zb_state.specs.State.{partition_of, IsStateOf}
use Rattle.zb_state.specs.declared.facts.Facts.{Facts}
use Rattle.zb_follow.specs.Settled.{IsTurn}
use Rattle.zb_follow.proofs.TurnLemmas.{goes_on_start, goes_on_more, goes_on_end, GoesOn}
use Rattle.zb_follow.proofs.settling.settle.Goals as goal

-- a state that is as it was comes from the same events
still_state : {old new : Facts} → new ≡ old → (es : List Event) → IsStateOf es old → IsStateOf es new
still_state same es is = subst (λ (f : Facts). IsStateOf es f) (sym same) is

pub loop-alloc-init : goal.loop-alloc-init
loop-alloc-init c = record {
  place = refl;
  goes_on = λ before was. goes_on_start (partition_of c.args.state.now) c.args.moment before c.args.out.now;
  comes_to = λ before was. was;
  unreached = λ none. none;
}

pub loop-alloc-preserved : goal.loop-alloc-preserved
loop-alloc-preserved c =
    let at = c.loop-alloc in
    let moment = c.args.moment in
    let made = at.out in
    let t = c.in_ok-turn-in-Some.turn in
    let has = c.in_ok-put-in-Some.ensures.ok in
    let asked = still_state c.next_mover.ensures.kept in
    let place = ap partition_of c.next_mover.ensures.kept ∙ at.invariant.place in
    let room : length made < full = omega (arith, c.is_full.ensures.room c.loop-alloc-test.true, c.len.ensures) in
    let Is : List Event → Type 0 = λ l. IsStateOf l c.put.new.state in
    let made_by : ℕ → List Event → List Event = λ q. turn_with q moment t.assignments t.event in
    record {
      place = c.put.ensures.place ∙ place;
      goes_on = λ before was.
          let p = partition_of c.args.state.now in
          let es = before ++ made in
          let is = asked es (at.invariant.comes_to before was) in
          let GoesOnTo : List Event → Type 0 = λ l. GoesOn p moment before c.args.out.now l in
          let Turn : ℕ → Type 0 = λ q. IsTurn q moment es (made_by q es) in
          let next = subst Turn place (c.in_ok-turn-in-Some.ensures.turn es is) in
          let told = has.put es is ∙ ap (λ (q : ℕ). made ++ made_by q es) place in
          subst GoesOnTo (sym told) (goes_on_more p moment before c.args.out.now made (made_by p es) (at.invariant.goes_on before was) room next);
      comes_to = λ before was.
          let es = before ++ made in
          let is = asked es (at.invariant.comes_to before was) in
          let its = made_by (partition_of c.next_mover.new.self) es in
          subst Is (append_assoc before made its ∙ ap (λ (l : List Event). before ++ l) (sym (has.put es is))) (has.taken es is);
      unreached = λ none. at.invariant.unreached (λ es is. none (es ++ made_by (partition_of c.next_mover.new.self) es) (has.taken es (asked es is)));
    }

pub returns-in-None-clause-settled : goal.returns-in-None-clause-settled
returns-in-None-clause-settled c = λ before was.
    let at = c.loop-alloc in
    let is = still_state c.next_mover.ensures.kept (before ++ at.out) (at.invariant.comes_to before was) in
    let told = c.in_ok-next_mover.ensures.mover (before ++ at.out) c.next_mover.new.self.game is is.game in
    let quiet : HasQuietGame (before ++ at.out) = record { board = c.next_mover.new.self.game; is = is.game; quiet = sym told ∙ c.in-None.is } in
    goes_on_end (partition_of c.args.state.now) c.args.moment before c.args.out.now at.out (at.invariant.goes_on before was) (inl quiet)

pub returns-clause-settled : goal.returns-clause-settled
returns-clause-settled c = λ before was.
    let at = c.loop-alloc in
    let filled : full ≤ length at.out = omega (arith, c.is_full.ensures.full c.loop-alloc-test.false, c.len.ensures) in
    goes_on_end (partition_of c.args.state.now) c.args.moment before c.args.out.now at.out (at.invariant.goes_on before was) (inr filled)

pub returns-in_err-turn-in-Some-clause-misfit : goal.returns-in_err-turn-in-Some-clause-misfit
returns-in_err-turn-in-Some-clause-misfit c = λ misfit.
    c.loop-alloc.invariant.unreached (λ es is. c.in_err-turn-in-Some.ensures.misfit (search rules) es (still_state c.next_mover.ensures.kept es is))

pub returns-in_err-put-in-Some-clause-misfit : goal.returns-in_err-put-in-Some-clause-misfit
returns-in_err-put-in-Some-clause-misfit c = λ misfit.
    c.loop-alloc.invariant.unreached (λ es is.
    let at = still_state c.next_mover.ensures.kept es is in
    let fits = (c.in_ok-turn-in-Some.ensures.turn es at).applied in
    false≢true (sym (c.in_err-put-in-Some.ensures.misfit (search rules) es at) ∙ fits))

use Rattle.std.proofs.Common.{◌≡◌, ◌++◌, ◌∷◌, [], ◌∙◌, sym, ap, subst, append_assoc, IsTrue, ℕ, List, Some}
use Rattle.std.proofs.lemmas.Bool.{eqb-true}
use Rattle.std.proofs.lemmas.List.{nil_from_length}
use Rattle.zb_model.specs.Layouts.{event}
use Rattle.zb_model.specs.declared.record.Event.{Event}
use Rattle.zb_rules.specs.Applies.{applies}
use Rattle.zb_state.specs.State.{partition_of, IsStateOf}
use Rattle.zb_partition.specs.Reading.{IsRefused}
use Rattle.zb_format.proofs.ListLemmas.{goes_on, is_done}
use Rattle.zb_partition.proofs.ReadingLemmas.{apply_next, are_refused}
use Rattle.zb_partition.proofs.opening.take_events.Goals as goal

pub returns-in-Ok-false-clause-bad : goal.returns-in-Ok-false-clause-bad
returns-in-Ok-false-clause-bad c = λ es was is.
    let at = c.loop in
    let so_far = at.invariant.taken es was in
    let here = c.in-Ok-false.ensures.bad (es ++ so_far.0) so_far.3 c.in-Ok-false.field-0-test in
    are_refused (partition_of c.args.state.now) es so_far.0 c.args.count at.counter at.cursor _ c.loop-test.true so_far.1
    (subst (λ (p : ℕ). IsRefused p (es ++ so_far.0) (event.reading at.cursor)) at.invariant.place here)

-- one more event was read and taken in
pub loop-preserved : goal.loop-preserved
loop-preserved c =
    let at = c.loop in
    record {
      place = c.take_event.ensures.place ∙ at.invariant.place;
      taken = λ es was.
          let so_far = at.invariant.taken es was in
          let next = c.in-Ok-true.ensures.taken (es ++ so_far.0) so_far.3 c.in-Ok-true.field-0-test in
          let Applies : ℕ → Type 0 = λ p. IsTrue (applies p (es ++ so_far.0) next.0) in
          let Is : List Event → Type 0 = λ l. IsStateOf l c.take_event.new.state in (
            so_far.0 ++ next.0 ∷ [],
            sym (goes_on event.reading so_far.0 c.args.count at.counter at.cursor next.0 _ c.loop-test.true next.1) ∙ so_far.1,
            apply_next (partition_of c.args.state.now) es so_far.0 next.0 so_far.2 (subst Applies at.invariant.place next.2),
            subst Is (append_assoc es so_far.0 (next.0 ∷ [])) next.3,
          );
    }

pub returns-clause-taken : goal.returns-clause-taken
returns-clause-taken c = λ es was ended.
    let at = c.loop in
    let so_far = at.invariant.taken es was in
    let nothing : at.cursor ≡ [] = nil_from_length at.cursor (eqb-true _ _ (sym c.is_at_end.ensures ∙ ended)) in
    let all = sym so_far.1 ∙ is_done event.reading so_far.0 c.args.count at.counter at.cursor c.loop-test.false ∙ ap (λ (rest : List ℕ). Some (so_far.0, rest)) nothing in
    (so_far.0, all, so_far.2, so_far.3)

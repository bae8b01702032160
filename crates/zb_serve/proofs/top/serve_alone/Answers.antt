use Rattle.std.proofs.Common.{◌≡◌, ◌∷◌, [], length, map, ap, sym, subst, ◌∙◌, inl, inr, arith, rules}
use Rattle.std.specs.List.{AllZip}
use Rattle.std.specs.String.{string_bytes}
use Rattle.zb_words.specs.declared.plan.ServePlan.{ServePlan}
use Rattle.zb_serve.specs.Words.{IsPlanned}
use Rattle.zb_serve.specs.declared.run.Cause.TheVariants as causes
use Rattle.zb_serve.specs.Ends.{devices_of, IsSafe}
use Rattle.zb_serve.specs.Slots.{AreAllSlotsLeft}
use Rattle.zb_serve.specs.Setting.{setting_of}
use Rattle.zb_serve.proofs.SessionLemmas.{one_member, one_set, run_single, not_usage, usage_fault, memory_fault, one_served}
use Rattle.zb_serve.proofs.OpeningLemmas.{same_safe, same_slots}
use Rattle.zb_serve.proofs.top.serve_alone.Goals as goal

pub returns-clause-closed : goal.returns-clause-closed
returns-clause-closed g c =
    let planned : IsPlanned (map string_bytes c.args.words.now) (length c.args.sessions.items) (length c.args.volumes.items) c.in-Ok.plan = search rules in
    let said = c.serve_by-cause.ensures in
    let session = one_member c.args.sessions.items c.index_mut.result.now planned.one_session c.index_mut.ensures.value in
    let sessions = ap (λ v. v.items) c.closed-2.ensures.sessions ∙ one_set c.args.sessions.items _ c.serve_by-cause.new.session session in
    let volumes = ap (λ v. v.items) c.closed-2.ensures.volumes in
    let stamps = ap (λ v. v.items) c.closed-2.ensures.stamps in
    let ran = said.run in
    let never : c.closed-2.result.cause ≡ causes.Usage → ⊥ = λ is. not_usage _ _ _ _ _ _ _ ran (sym c.closed-2.ensures.cause ∙ is) in
    record {
      status = grind (arith);
      usage = λ is plan other. never is;
      unopened = λ is. absurd (never is);
      untouched = λ is. absurd (never is);
      unread = λ none. sessions ∙ (ap (λ s. s ∷ []) (said.unread (sym stamps ∙ none)) ∙ sym session);
      spared = λ none tells. subst (λ back. AllZip (IsSafe g.D.Disk) c.args.volumes.items back) (sym volumes) (said.spared (sym stamps ∙ none) tells);
      same_sessions = ap length sessions ∙ sym (ap length session);
      same_volumes = ap length volumes ∙ said.same;
      slots = subst (AreAllSlotsLeft c.args.volumes.items) (sym volumes) said.slots;
      run = λ other. inr (
        c.in-Ok.plan,
        planned,
        rw (c.closed-2.ensures.cause, c.closed-2.ensures.stamps, c.closed-2.ensures.units)
            (run_single (devices_of g.S.Source g.K.Sink g.D.Disk) (setting_of c.in-Ok.plan g.C.Clock.tells (g.C.Clock.upcoming c.args.clock.now))
            c.index_mut.result.now c.serve_by-cause.new.session _ _ c.args.volumes.items c.serve_by-cause.result.volumes.items _ _ _ _ session sessions volumes ran),
      );
    }

-- the words were not read
pub returns-in-Err-clause-closed : goal.returns-in-Err-clause-closed
returns-in-Err-clause-closed g c =
    let cause = c.closed.ensures.cause ∙ c.cause_of.ensures in
    let volumes = ap (λ v. v.items) c.closed.ensures.volumes in
    record {
      status = grind (arith);
      usage = λ is plan planned. c.in-Err.ensures.unplanned (usage_fault c.in-Err.fault (sym cause ∙ is)) plan (search rules);
      unopened = λ is. (ap (λ v. v.items) c.closed.ensures.stamps ∙ c.new.ensures.items, c.closed.ensures.units);
      untouched = λ is. volumes;
      unread = λ none. ap (λ v. v.items) c.closed.ensures.sessions;
      spared = λ none tells. subst (λ back. AllZip (IsSafe g.D.Disk) c.args.volumes.items back) (sym volumes) (same_safe g.D.Disk (λ disk left was. g.met.D.Disk.only_now disk left tells was) c.args.volumes.items);
      same_sessions = ap (λ v. length v.items) c.closed.ensures.sessions;
      same_volumes = ap (λ v. length v.items) c.closed.ensures.volumes;
      slots = subst (AreAllSlotsLeft c.args.volumes.items) (sym volumes) (same_slots g.D.Disk c.args.volumes.items);
      run = λ other. inl (record {
        memory = cause ∙ memory_fault c.in-Err.fault (λ is. other (cause ∙ is));
        unopened = (ap (λ v. v.items) c.closed.ensures.stamps ∙ c.new.ensures.items, c.closed.ensures.units);
        untouched = volumes;
      });
    }

-- the words are one plan
pub returns-clause-untouched : goal.returns-clause-untouched
returns-clause-untouched g c = λ plan is by_hand.
    c.serve_by-cause.ensures.untouched (ap (λ (p : ServePlan). p.clock) (one_served (map string_bytes c.args.words.now) c.in-Ok.plan plan c.in-Ok.ensures.planned.words is) ∙ by_hand)

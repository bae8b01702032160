use Rattle.std.proofs.Common.{◌∙◌, refl, sym, inl, inr}
use Rattle.zb_serve.specs.WorkOff.{facts_in}
use Rattle.zb_serve.proofs.WorkLemmas.{cuts_where, uncut_where, left_has}
use Rattle.zb_serve.proofs.running.work_off.Goals as goal

pub deliver-requires : goal.deliver-requires
deliver-requires g c = c.requires (sym c.is_cut.ensures ∙ c.if-is_cut.false)

pub returns-then-is_cut-clause-worked : goal.returns-then-is_cut-clause-worked
returns-then-is_cut-clause-worked g c = λ opening hours found entries unlogged leaves at.
    inl (record { cuts = cuts_where c.args.end c.is_cut.result c.is_cut.ensures c.if-is_cut.true; leaves = leaves; same = (refl, refl) })

pub returns-in-Ok-clause-worked : goal.returns-in-Ok-clause-worked
returns-in-Ok-clause-worked g c = λ opening hours found entries unlogged leaves at.
    let has = (left_has (facts_in opening c.args.solo.now) entries unlogged c.args.end c.is_cut.result c.is_cut.ensures c.if-is_cut.false leaves).0 in
    inr (
      uncut_where c.args.end c.is_cut.result c.is_cut.ensures c.if-is_cut.false,
      inl (record {
        reading = c.read-reading.result;
        read = c.read-reading.ensures.reading hours found (at (sym c.is_cut.ensures ∙ c.if-is_cut.false));
        delivered = c.in-Ok.ensures.delivered opening entries has;
        same = refl;
      }),
    )

pub returns-in-Err-clause-worked : goal.returns-in-Err-clause-worked
returns-in-Err-clause-worked g c = λ opening hours found entries unlogged leaves at.
    let has = (left_has (facts_in opening c.args.solo.now) entries unlogged c.args.end c.is_cut.result c.is_cut.ensures c.if-is_cut.false leaves).0 in
    inr (
      uncut_where c.args.end c.is_cut.result c.is_cut.ensures c.if-is_cut.false,
      inr (record {
        reading = c.read-reading.result;
        read = c.read-reading.ensures.reading hours found (at (sym c.is_cut.ensures ∙ c.if-is_cut.false));
        stop = c.in-Err.field-0;
        cut = c.in-Err.ensures.cut opening entries has;
        told = (refl, refl);
      }),
    )

pub returns-in-Ok-clause-untouched : goal.returns-in-Ok-clause-untouched
returns-in-Ok-clause-untouched g c = λ by_hand. c.read-reading.ensures.untouched (by_hand (sym c.is_cut.ensures ∙ c.if-is_cut.false))

pub returns-in-Err-clause-untouched : goal.returns-in-Err-clause-untouched
returns-in-Err-clause-untouched g c = λ by_hand. c.read-reading.ensures.untouched (by_hand (sym c.is_cut.ensures ∙ c.if-is_cut.false))

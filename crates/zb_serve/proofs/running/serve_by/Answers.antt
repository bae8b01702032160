use Rattle.std.proofs.Common.{◌∙◌, refl, subst}
use Rattle.zb_serve.specs.Ends.{all_told}
use Rattle.zb_serve.specs.Slots.{AreAllSlotsLeft}
use Rattle.zb_serve.proofs.OpeningLemmas.{begun_count, all_spared, all_safe, all_many, all_slots}
use Rattle.zb_serve.proofs.running.serve_by.Goals as goal

pub returns-in-Ok-clause-unread : goal.returns-in-Ok-clause-unread
returns-in-Ok-clause-unread g c = λ none. absurd (c.serve_engine.ensures.some none)

pub returns-in-Ok-clause-same : goal.returns-in-Ok-clause-same
returns-in-Ok-clause-same g c =
    let o = c.in-Ok.ensures.opened in
    c.serve_engine.ensures.same o.0 o.2 ∙ begun_count g.D.Disk c.args.plan.now.limit c.args.plan.now.units c.args.volumes.items o.0 o.1

pub returns-in-Ok-clause-slots : goal.returns-in-Ok-clause-slots
returns-in-Ok-clause-slots g c =
    let o = c.in-Ok.ensures.opened in
    subst (λ volumes. AreAllSlotsLeft volumes c.serve_engine.result.volumes.items) o.1.over (c.serve_engine.ensures.slots o.0 o.2)

pub returns-in-Ok-clause-spared : goal.returns-in-Ok-clause-spared
returns-in-Ok-clause-spared g c = λ none tells. absurd (c.serve_engine.ensures.some none)

pub returns-in-Ok-clause-run : goal.returns-in-Ok-clause-run
returns-in-Ok-clause-run g c =
    let o = c.in-Ok.ensures.opened in
    c.serve_engine.ensures.run o.0 c.args.volumes.items o.2 o.1

-- a log could not be opened, or there was no memory
pub returns-in-Err-clause-same : goal.returns-in-Err-clause-same
returns-in-Err-clause-same g c = all_many g.D.Disk c.args.volumes.items c.in-Err.volumes.items c.in-Err.ensures.back

pub returns-in-Err-clause-slots : goal.returns-in-Err-clause-slots
returns-in-Err-clause-slots g c = all_slots g.D.Disk c.args.volumes.items c.in-Err.volumes.items c.in-Err.ensures.back

pub returns-in-Err-clause-spared : goal.returns-in-Err-clause-spared
returns-in-Err-clause-spared g c = λ none tells.
    all_safe g.D.Disk tells (λ disk left was. g.met.D.Disk.only_now disk left tells was) c.args.volumes.items c.in-Err.volumes.items c.in-Err.ensures.back

pub returns-in-Err-clause-run : goal.returns-in-Err-clause-run
returns-in-Err-clause-run g c =
    let told = all_told g.S.Source.tells g.S.Source.counts_failures g.K.Sink g.D.Disk in
    rw (c.new.ensures.items) (
      c.in-Err.ensures.unopened told (refl, refl),
      all_spared g.D.Disk told refl c.args.volumes.items c.in-Err.volumes.items c.in-Err.ensures.back,
      refl,
    )

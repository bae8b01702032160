use Rattle.std.proofs.Common.{◌-◌, ◌∙◌, ap, sym, arith}
use Rattle.std.proofs.lemmas.List.{get_or_default}
use Rattle.zb_disk.specs.declared.calls.Call.TheVariants.{Other}
use Rattle.zb_disk.specs.Image.{is_sync}
use Rattle.zb_disk.proofs.SyncLemmas.{ends_at_sync}
use Rattle.zb_disk.proofs.image.last_sync.Goals as goal

pub returns-else-not-is_sync : goal.returns-else-not-is_sync
returns-else-not-is_sync c =
    let calls = c.args.calls.now in
    let count = c.loop-count.count in
    let last = c.index-calls-count.result in
    ends_at_sync calls count c.loop-count.invariant.within c.loop-count.invariant.no_other (λ some.
    ap is_sync (get_or_default calls (count - 1) Other last (omega arith) ∙ sym c.index-calls-count.is) ∙ sym c.is_sync.ensures ∙ c.if-not-is_sync.false)

pub returns-after-loop-count : goal.returns-after-loop-count
returns-after-loop-count c = ends_at_sync c.args.calls.now c.loop-count.count c.loop-count.invariant.within c.loop-count.invariant.no_other (λ some. absurd (omega (arith, some)))

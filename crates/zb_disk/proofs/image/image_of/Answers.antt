use Rattle.std.proofs.Common.{◌≡◌, ◌∙◌, ap, subst, arith, take, drop, length, ◌-◌}
use Rattle.std.proofs.lemmas.List.{take_all, length-drop}
use Rattle.zb_disk.specs.Kept.{file_after}
use Rattle.zb_disk.specs.Image.{IsCovered, synced_file, unsynced}
use Rattle.zb_disk.proofs.SyncLemmas.{same_since, file_synced}
use Rattle.zb_disk.proofs.image.image_of.Goals as goal

covered : (c : goal.In_ok-cover) → IsCovered (synced_file c.args.first.now c.args.calls.now) (unsynced c.args.calls.now) c.args.fill.now c.cover.new.image.items
covered c =
    let n = c.last_sync-synced.result in
    let ends = c.last_sync-synced.ensures in
    let behind = take_all (length c.args.calls.now - n) (drop n c.args.calls.now) (omega (arith, length-drop n c.args.calls.now)) ∙ ends.behind in
    let redone : c.redo.new.file.items ≡ file_after c.args.first.now (take n c.args.calls.now) =
    c.in_ok-redo.ensures ∙ ap (λ l. file_after l (take n c.args.calls.now)) (grind (arith, c.in_ok-image.ensures.items_if_clones_equal)) in
    subst (λ l. IsCovered l (unsynced c.args.calls.now) c.args.fill.now c.cover.new.image.items) (redone ∙ file_synced c.args.first.now c.args.calls.now n ends)
    (subst (λ l. IsCovered c.redo.new.file.items l c.args.fill.now c.cover.new.image.items) behind c.in_ok-cover.ensures)

pub returns-clause-left : goal.returns-clause-left
returns-clause-left c = (same_since _ _ _ c.last_sync-synced.ensures).back _ (covered c).left

pub returns-clause-filled : goal.returns-clause-filled
returns-clause-filled c = (covered c).filled

pub returns-clause-longest : goal.returns-clause-longest
returns-clause-longest c = λ image left. (covered c).longest image ((same_since _ _ _ c.last_sync-synced.ensures).into image left)

use Rattle.std.proofs.Common.{◌∙◌, refl, sym, subst, length, arith}
use Rattle.zb_serve.specs.Ends.{volumes_ends}
use Rattle.zb_serve.specs.Served.{FailsToOpen}
use Rattle.zb_serve.proofs.ListLemmas.{no_members}
use Rattle.zb_serve.proofs.OpeningLemmas.{first_removed, opened_over, HasOpened, none_opened, opened_more, all_opened, all_same_back, fails_untouched, refused_back, fails_refused}
use Rattle.zb_serve.proofs.opening.open_all.Goals as goal

-- there was no memory
pub returns-in_default-clause-back : goal.returns-in_default-clause-back
returns-in_default-clause-back g c = all_same_back g.D.Disk c.args.volumes.items

pub returns-in_default-clause-unopened : goal.returns-in_default-clause-unopened
returns-in_default-clause-unopened g c = λ told tells. fails_untouched g.D.Disk told c.args.volumes.items

pub loop-index-init : goal.loop-index-init
loop-index-init g c =
    let volumes = c.args.volumes.items in
    record {
      many = omega arith;
      room = refl;
      opened = c.in-Ok.ensures.len;
      place = omega (arith, c.in-Ok.ensures.capacity, c.len-count.ensures);
      has = subst (λ partitions. HasOpened (length volumes) c.args.limit volumes volumes partitions) (sym c.in-Ok.ensures.items) (none_opened (length volumes) c.args.limit volumes);
    }

-- a log could not be opened
pub returns-in-Err-clause-back : goal.returns-in-Err-clause-back
returns-in-Err-clause-back g c =
    let n = length c.args.volumes.items in
    let left = c.remove-volume.new.self.items in
    let partitions = c.loop-index.partitions.items in
    let split = first_removed c.loop-index.volumes.items left c.remove-volume.result (omega (arith, c.loop-index-test.true, c.len-count.ensures, c.loop-index.invariant.many, c.loop-index.volumes.ok)) c.remove-volume.ensures.value c.remove-volume.ensures.items in
    let has = subst (λ volumes. HasOpened n c.args.limit c.args.volumes.items volumes partitions) split c.loop-index.invariant.has in
    refused_back g.D.Disk n c.args.limit c.args.volumes.items left partitions c.remove-volume.result c.in-Err.volume has (record { opens = c.in-Err.ensures.opens; slots = c.in-Err.ensures.slots }) c.hand_back-volumes.result.items c.hand_back-volumes.ensures

pub returns-in-Err-clause-unopened : goal.returns-in-Err-clause-unopened
returns-in-Err-clause-unopened g c = λ told tells.
    let n = length c.args.volumes.items in
    let left = c.remove-volume.new.self.items in
    let partitions = c.loop-index.partitions.items in
    let split = first_removed c.loop-index.volumes.items left c.remove-volume.result (omega (arith, c.loop-index-test.true, c.len-count.ensures, c.loop-index.invariant.many, c.loop-index.volumes.ok)) c.remove-volume.ensures.value c.remove-volume.ensures.items in
    let has = subst (λ volumes. HasOpened n c.args.limit c.args.volumes.items volumes partitions) split c.loop-index.invariant.has in
    let said = c.in-Err.ensures in
    subst (λ cause. FailsToOpen told (volumes_ends g.D.Disk c.args.volumes.items c.hand_back-volumes.result.items) cause) (sym c.open_cause.ensures)
    (fails_refused g.D.Disk n c.args.limit c.args.volumes.items left partitions c.remove-volume.result c.in-Err.volume c.partition_at-place.result c.in-Err.fault has
    (omega (arith, c.partition_at-place.ensures, c.loop-index.invariant.opened, c.loop-index.partitions.ok)) (record { opens = said.opens; slots = said.slots }) (λ t frame e. said.bad t frame e) said.cause
    c.hand_back-volumes.result.items c.hand_back-volumes.ensures told tells)

pub loop-index-preserved : goal.loop-index-preserved
loop-index-preserved g c =
    let n = length c.args.volumes.items in
    let left = c.remove-volume.new.self.items in
    let partitions = c.loop-index.partitions.items in
    let number = c.partition_at-place.result in
    let split = first_removed c.loop-index.volumes.items left c.remove-volume.result (omega (arith, c.loop-index-test.true, c.len-count.ensures, c.loop-index.invariant.many, c.loop-index.volumes.ok)) c.remove-volume.ensures.value c.remove-volume.ensures.items in
    let has = subst (λ volumes. HasOpened n c.args.limit c.args.volumes.items volumes partitions) split c.loop-index.invariant.has in
    let said = c.in-Ok-open.ensures in
    let is = said.opened.1 in
    let many = is.partitions_are ∙ omega (arith, c.len-count.ensures, c.args.volumes.ok, c.requires.few) in
    let opened = opened_over c.remove-volume.result n c.args.limit number c.in-Ok-open.partition said.opened.0
    (record { volume_is = is.volume_is; place_is = is.place_is; partitions_are = many; limit_is = is.limit_is }) said.opened.2 said.opened.3 said.opens in
    let more = opened_more n c.args.limit c.args.volumes.items partitions c.remove-volume.result left c.in-Ok-open.partition number has (omega (arith, c.partition_at-place.ensures, c.loop-index.invariant.opened, c.loop-index.partitions.ok)) opened in
    record {
      many = omega (arith, c.loop-index.invariant.many, c.remove-volume.ensures.len);
      room = c.remove-volume.ensures.capacity ∙ c.loop-index.invariant.room;
      opened = omega (arith, c.loop-index.invariant.opened, c.push_reserved.ensures.len);
      place = omega (arith, c.loop-index.invariant.place, c.push_reserved.ensures.capacity);
      has = subst (λ more. HasOpened n c.args.limit c.args.volumes.items left more) (sym c.push_reserved.ensures.items) more;
    }

pub returns-clause-opened : goal.returns-clause-opened
returns-clause-opened g c =
    all_opened (length c.args.volumes.items) c.args.limit c.args.volumes.items c.loop-index.partitions.items c.loop-index.volumes.items
    (no_members c.loop-index.volumes.items (omega (arith, c.loop-index-test.false, c.len-count.ensures, c.loop-index.invariant.many, c.loop-index.volumes.ok))) c.loop-index.invariant.has

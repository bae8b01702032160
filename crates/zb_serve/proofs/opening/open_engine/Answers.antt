use Rattle.std.proofs.Common.{◌≡◌, ◌++◌, [], ℕ, length, map, sym, ap, subst, ◌∙◌, arith}
use Rattle.std.specs.List.{AllZip}
use Rattle.zb_engine.specs.Solo.{start_of, HasMade}
use Rattle.zb_serve.specs.Ends.{volumes_ends}
use Rattle.zb_serve.specs.Served.{FailsToOpen}
use Rattle.zb_serve.specs.Opening.{IsHandedBack, IsOpenedOver}
use Rattle.zb_serve.specs.Running.{files_of}
use Rattle.zb_serve.specs.declared.run.Cause.TheVariants as causes
use Rattle.zb_serve.proofs.ListLemmas.{each_length}
use Rattle.zb_serve.proofs.OpeningLemmas.{opened_live, is_begun, all_closed_back, fails_closed}
use Rattle.zb_serve.proofs.opening.open_engine.Goals as goal

pub new-requires-clause-some : goal.new-requires-clause-some
new-requires-clause-some g c =
    let many = each_length (IsOpenedOver (length c.args.volumes.items) c.args.limit) 1 c.args.volumes.items c.in-Ok.opened.0.items c.in-Ok.ensures.opened in
    omega (arith, many, c.requires.some)

pub new-requires-clause-few : goal.new-requires-clause-few
new-requires-clause-few g c =
    let many = each_length (IsOpenedOver (length c.args.volumes.items) c.args.limit) 1 c.args.volumes.items c.in-Ok.opened.0.items c.in-Ok.ensures.opened in
    omega (arith, many, c.requires.few)

pub new-requires-clause-live : goal.new-requires-clause-live
new-requires-clause-live g c = opened_live (length c.args.volumes.items) c.args.limit 1 c.args.volumes.items c.in-Ok.opened.0.items c.in-Ok.ensures.opened

pub returns-in-Ok-new-clause-many : goal.returns-in-Ok-new-clause-many
returns-in-Ok-new-clause-many g c =
    ap length c.in-Ok-new.ensures.partitions ∙ sym (each_length (IsOpenedOver (length c.args.volumes.items) c.args.limit) 1 c.args.volumes.items c.in-Ok.opened.0.items c.in-Ok.ensures.opened)

pub close_behind-requires : goal.close_behind-requires
close_behind-requires g c =
    let many = each_length (IsOpenedOver (length c.args.volumes.items) c.args.limit) 1 c.args.volumes.items c.in-Ok.opened.0.items c.in-Ok.ensures.opened in
    let same = ap (λ v. length v.items) c.in-Err-new.ensures.refused in
    record { room = omega (arith, many, same, c.in-Ok.ensures.room, ap length c.in-Ok.ensures.none, c.in-Ok.opened.1.ok.0, c.in-Err-new.partitions.ok.0) }

pub returns-in-Ok-new-clause-opened : goal.returns-in-Ok-new-clause-opened
returns-in-Ok-new-clause-opened g c =
    let b = is_begun g.D.Disk c.args.limit c.args.units c.args.volumes.items c.in-Ok.opened.0.items c.in-Ok.ensures.opened in
    (b.start, b.begun, subst (λ (n : ℕ). HasMade (start_of b.start.openings n) [] c.in-Ok-new.solo) (sym b.bound) (c.in-Ok-new.ensures.made b.start.openings b.fresh))

-- there was no memory for the stamps
pub returns-in-Err-new-clause-back : goal.returns-in-Err-new-clause-back
returns-in-Err-new-clause-back g c =
    let volumes = c.args.volumes.items in
    let closed : c.close_behind.result.items ≡ map files_of c.in-Ok.opened.0.items =
    c.close_behind.ensures.volumes ∙ (ap (λ front. front ++ map files_of c.in-Err-new.partitions.items) c.in-Ok.ensures.none ∙ ap (λ v. map files_of v.items) c.in-Err-new.ensures.refused) in
    subst (λ back. AllZip (IsHandedBack g.D.Disk) volumes back) (sym closed) (all_closed_back g.D.Disk (length volumes) c.args.limit 1 volumes c.in-Ok.opened.0.items c.in-Ok.ensures.opened)

pub returns-in-Err-new-clause-unopened : goal.returns-in-Err-new-clause-unopened
returns-in-Err-new-clause-unopened g c = λ told tells.
    let volumes = c.args.volumes.items in
    let closed : c.close_behind.result.items ≡ map files_of c.in-Ok.opened.0.items =
    c.close_behind.ensures.volumes ∙ (ap (λ front. front ++ map files_of c.in-Err-new.partitions.items) c.in-Ok.ensures.none ∙ ap (λ v. map files_of v.items) c.in-Err-new.ensures.refused) in
    subst (λ back. FailsToOpen told (volumes_ends g.D.Disk volumes back) causes.Memory) (sym closed)
    (fails_closed g.D.Disk (length volumes) c.args.limit volumes c.in-Ok.opened.0.items c.in-Ok.ensures.opened told tells)

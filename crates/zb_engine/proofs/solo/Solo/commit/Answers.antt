use Rattle.std.proofs.Common.{rules, ◌≡◌, ◌<◌, ◌+◌, ◌-◌, ◌++◌, ◌∷◌, [], length, set, get_or, vec_len, vec_capacity, IsTrue, refl, sym, ap, ◌∙◌, subst, arith}
use Rattle.std.specs.declared.vec.Vec.{Vec}
use Rattle.std.proofs.lemmas.List.{length-set}
use Rattle.zb_partition.specs.Partition.{is_live}
use Rattle.zb_partition.specs.Ledger.{Account, HasAccount}
use Rattle.zb_partition.specs.declared.partition.Partition.{Partition}
use Rattle.zb_engine.specs.Solo.{partitions_in}
use Rattle.zb_engine.proofs.MadeLemmas.{placed, turned_away, away_resting}
use Rattle.zb_engine.proofs.NumberLemmas.{there_within, all_at, all_put, get_within, get_put, put_made_same, put_made_more}
use Rattle.zb_engine.proofs.solo.Solo.commit.Goals as goal

pub returns-in_default-clause-stopped : goal.returns-in_default-clause-stopped
returns-in_default-clause-stopped g c = λ start made has.
    let index = c.number.result - 1 in
    let numbered : c.args.partition ≡ 1 + index = omega (arith, c.number.ensures.value, c.number.ensures.from) in
    let within = there_within (length (partitions_in c.args.self.now)) c.args.partition index c.requires.there numbered in
    rw (c.keep.ensures.stop)
    (away_resting start made c.args.self.now c.keep.new.self has c.args.partition index numbered within g.met.D.Disk.images_told
    c.keep.ensures.partitions c.keep.ensures.stamps c.keep.ensures.kept c.args.reading c.args.command)

pub index_mut-requires : goal.index_mut-requires
index_mut-requires g c =
    let numbered : c.args.partition ≡ 1 + (c.number.result - 1) = omega (arith, c.number.ensures.value, c.number.ensures.from) in
    let within = there_within (length (partitions_in c.args.self.now)) c.args.partition (c.number.result - 1) c.requires.there numbered in
    omega (arith, within, c.args.self.now.same, c.args.self.now.stamps.ok.0)

pub returns-in-Err-clause-stopped : goal.returns-in-Err-clause-stopped
returns-in-Err-clause-stopped g c = λ start made has.
    let index = c.number.result - 1 in
    let numbered : c.args.partition ≡ 1 + index = omega (arith, c.number.ensures.value, c.number.ensures.from) in
    let within = there_within (length (partitions_in c.args.self.now)) c.args.partition index c.requires.there numbered in
    let same = put_made_same (λ (v : Vec _ _). v.items) c.args.self.now.stamps.items index c.reserve.new.self c.index_mut.result.now (c.reserve.ensures.items ∙ ap (λ v. v.items) c.index_mut.ensures.value) in
    rw (c.keep-in-Err.ensures.stop)
    (away_resting start made c.args.self.now c.keep-in-Err.new.self has c.args.partition index numbered within g.met.D.Disk.images_told
    c.keep-in-Err.ensures.partitions (c.keep-in-Err.ensures.stamps ∙ same) c.keep-in-Err.ensures.kept c.args.reading c.args.command)

pub index_mut-requires-2 : goal.index_mut-requires-2
index_mut-requires-2 g c =
    let numbered : c.args.partition ≡ 1 + (c.number.result - 1) = omega (arith, c.number.ensures.value, c.number.ensures.from) in
    let within = there_within (length (partitions_in c.args.self.now)) c.args.partition (c.number.result - 1) c.requires.there numbered in
    omega (arith, within, c.args.self.now.partitions.ok.0)

pub submit-requires-clause-live : goal.submit-requires-clause-live
submit-requires-clause-live g c =
    let index = c.number.result - 1 in
    let numbered : c.args.partition ≡ 1 + index = omega (arith, c.number.ensures.value, c.number.ensures.from) in
    let within = there_within (length (partitions_in c.args.self.now)) c.args.partition index c.requires.there numbered in
    let live = all_at is_live (partitions_in c.args.self.now) index c.index_mut-2.result.now within (c.args.self.now.live c.requires.goes_on) in
    subst (λ (p : Partition _ _). IsTrue (is_live p)) (sym c.index_mut-2.ensures.value) live

pub index_mut-requires-in-Ok-submit : goal.index_mut-requires-in-Ok-submit
index_mut-requires-in-Ok-submit g c =
    let numbered : c.args.partition ≡ 1 + (c.number.result - 1) = omega (arith, c.number.ensures.value, c.number.ensures.from) in
    let within = there_within (length (partitions_in c.args.self.now)) c.args.partition (c.number.result - 1) c.requires.there numbered in
    omega (arith, within, c.args.self.now.same, c.args.self.now.stamps.ok.0)

pub push_reserved-requires : goal.push_reserved-requires
push_reserved-requires g c =
    let index = c.number.result - 1 in
    let numbered : c.args.partition ≡ 1 + index = omega (arith, c.number.ensures.value, c.number.ensures.from) in
    let within = there_within (length (partitions_in c.args.self.now)) c.args.partition index c.requires.there numbered in
    let there : index < length c.args.self.now.stamps.items = omega (arith, within, c.args.self.now.same) in
    let it : c.index_mut-in-Ok-submit.result.now ≡ c.reserve.new.self = c.index_mut-in-Ok-submit.ensures.value ∙ get_put c.args.self.now.stamps.items index c.reserve.new.self c.index_mut-in-Ok-submit.result.now there in
    subst (λ (v : Vec _ _). vec_len v < vec_capacity v) (sym it) (omega (arith, c.in-Ok.ensures.ok, c.in-Ok.ensures.len))

pub invariant_of-self-in-Ok-submit : goal.invariant_of-self-in-Ok-submit
invariant_of-self-in-Ok-submit g c =
    let index = c.number.result - 1 in
    let many = length-set (partitions_in c.args.self.now) index c.submit.new.self in
    let again = length-set c.args.self.now.stamps.items index c.reserve.new.self in
    record {
      some = omega (arith, c.args.self.now.some, many);
      few = omega (arith, c.args.self.now.few, many);
      same = length-set (set c.args.self.now.stamps.items index c.reserve.new.self) index c.push_reserved.new.self ∙ (again ∙ (c.args.self.now.same ∙ sym many));
      live = λ none. all_put is_live (partitions_in c.args.self.now) index c.submit.new.self (c.args.self.now.live none) (c.in-Ok-submit.ensures.live refl);
    }

pub returns-in-Ok-submit-clause-placed : goal.returns-in-Ok-submit-clause-placed
returns-in-Ok-submit-clause-placed g c = λ start made has.
    let index = c.number.result - 1 in
    let numbered : c.args.partition ≡ 1 + index = omega (arith, c.number.ensures.value, c.number.ensures.from) in
    let within = there_within (length (partitions_in c.args.self.now)) c.args.partition index c.requires.there numbered in
    let there : index < length c.args.self.now.stamps.items = omega (arith, within, c.args.self.now.same) in
    let made_of = λ (account : Account _) (given : HasAccount account (get_or (partitions_in c.args.self.now) index c.submit.new.self)).
    (c.in-Ok-submit.ensures.committed account (subst (HasAccount account) (get_within (partitions_in c.args.self.now) index c.submit.new.self c.index_mut-2.result.now within ∙ sym c.index_mut-2.ensures.value) given)) in
    let it : c.index_mut-in-Ok-submit.result.now ≡ c.reserve.new.self = c.index_mut-in-Ok-submit.ensures.value ∙ get_put c.args.self.now.stamps.items index c.reserve.new.self c.index_mut-in-Ok-submit.result.now there in
    let stamped = put_made_more (λ (v : Vec _ _). v.items) c.args.self.now.stamps.items index c.reserve.new.self c.push_reserved.new.self c.index_mut.result.now c.args.self.now.place there
    (c.push_reserved.ensures.items ∙ ap (λ v. v.items ++ c.args.self.now.place ∷ []) it) (c.reserve.ensures.items ∙ ap (λ v. v.items) c.index_mut.ensures.value) in
    placed start made c.args.self.now _ has c.args.partition index numbered within c.args.reading c.args.command c.in-Ok-submit.batch c.submit.new.self made_of refl stamped (search rules) refl refl

pub returns-in-Err-submit-clause-stopped : goal.returns-in-Err-submit-clause-stopped
returns-in-Err-submit-clause-stopped g c = λ start made has.
    let index = c.number.result - 1 in
    let numbered : c.args.partition ≡ 1 + index = omega (arith, c.number.ensures.value, c.number.ensures.from) in
    let within = there_within (length (partitions_in c.args.self.now)) c.args.partition index c.requires.there numbered in
    let refuses = λ (account : Account _) (given : HasAccount account (get_or (partitions_in c.args.self.now) index c.submit.new.self)).
    (c.in-Err-submit.ensures.stopped account (subst (HasAccount account) (get_within (partitions_in c.args.self.now) index c.submit.new.self c.index_mut-2.result.now within ∙ sym c.index_mut-2.ensures.value) given)) in
    let same = put_made_same (λ (v : Vec _ _). v.items) c.args.self.now.stamps.items index c.reserve.new.self c.index_mut.result.now (c.reserve.ensures.items ∙ ap (λ v. v.items) c.index_mut.ensures.value) in
    turned_away start made c.args.self.now _ has c.args.partition index numbered within c.args.reading c.args.command c.in-Err-submit.stop c.submit.new.self refuses refl same refl

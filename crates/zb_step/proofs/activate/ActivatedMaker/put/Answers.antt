use Rattle.std.proofs.Common.{ℕ, refl, rules}
use Rattle.std.proofs.lemmas.Result.{on_ok_weaker}
use Rattle.zb_views.specs.Jobs.{jobs}
use Rattle.zb_rules.specs.Activate.{each_given_out, batch_told, activated}
use Rattle.zb_rules.specs.Making.{Making, and_then}
use Rattle.zb_state.specs.State.{partition_of}
use Rattle.zb_follow.proofs.MakerLemmas.{cant_first, cant_second, put_both, same_cant, same_put}
use Rattle.zb_step.proofs.OwnLemmas.{activated_as}
use Rattle.zb_step.proofs.activate.ActivatedMaker.put.Goals as goal

pub returns-in_err-put-clause-misfit : goal.returns-in_err-put-clause-misfit
returns-in_err-put-clause-misfit c = λ misfit.
    let p = partition_of c.args.state.now in
    let command = c.args.self.0.now in
    let given = each_given_out c.args.moment command c.as_slice-things.result.now in
    let told : ℕ → Making = λ q. batch_told q c.in_ok-keys.keys in
    same_cant (and_then given (told p)) (activated p c.args.moment command) c.args.state.now
    (λ es is. activated_as p c.args.moment es command c.in_ok-keys.keys c.as_slice-things.result.now c.as_str.result.now (jobs es) c.as_str.ensures refl (c.in_ok-keys.ensures es is) c.as_slice-things.ensures)
    (cant_first given told c.args.state.now (c.in_err-put.ensures.misfit (search rules)))

pub returns-clause-ok : goal.returns-clause-ok
returns-clause-ok c =
    let p = partition_of c.args.state.now in
    let command = c.args.self.0.now in
    let given = each_given_out c.args.moment command c.as_slice-things.result.now in
    let told : ℕ → Making = λ q. batch_told q c.in_ok-keys.keys in
    on_ok_weaker c.put-2.result
    (λ both. same_put (and_then given (told p)) (activated p c.args.moment command) c.args.state.now c.put-2.new.state c.args.out.now c.put-2.new.out
    (λ es is. activated_as p c.args.moment es command c.in_ok-keys.keys c.as_slice-things.result.now c.as_str.result.now (jobs es) c.as_str.ensures refl (c.in_ok-keys.ensures es is) c.as_slice-things.ensures)
    (put_both given told c.args.state.now c.put.new.state c.put-2.new.state c.args.out.now c.put.new.out c.put-2.new.out c.put.ensures.place c.in_ok-put.ensures.ok both))
    c.put-2.ensures.ok

pub returns-clause-misfit : goal.returns-clause-misfit
returns-clause-misfit c = λ misfit.
    let p = partition_of c.args.state.now in
    let command = c.args.self.0.now in
    let given = each_given_out c.args.moment command c.as_slice-things.result.now in
    let told : ℕ → Making = λ q. batch_told q c.in_ok-keys.keys in
    same_cant (and_then given (told p)) (activated p c.args.moment command) c.args.state.now
    (λ es is. activated_as p c.args.moment es command c.in_ok-keys.keys c.as_slice-things.result.now c.as_str.result.now (jobs es) c.as_str.ensures refl (c.in_ok-keys.ensures es is) c.as_slice-things.ensures)
    (cant_second given told c.args.state.now c.put.new.state c.args.out.now c.put.new.out c.put.ensures.place c.in_ok-put.ensures.ok (c.put-2.ensures.misfit misfit))

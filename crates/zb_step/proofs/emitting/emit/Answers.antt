use Rattle.std.proofs.Common.{◌∙◌, List, ◌++◌, [], IsTrue, Some, ap, sym, subst, arith}
use Rattle.std.specs.Option.{option_map_or}
use Rattle.std.proofs.lemmas.Bool.{false≢true}
use Rattle.std.proofs.lemmas.Result.{on_ok_weaker}
use Rattle.zb_model.specs.declared.record.Event.{Event}
use Rattle.zb_rules.specs.Own.{own, keys_for}
use Rattle.zb_rules.specs.Sound.{HasKeys}
use Rattle.zb_rules.proofs.ProgressLaws.{own_there, own_apply}
use Rattle.zb_state.specs.State.{partition_of, IsStateOf}
use Rattle.zb_step.proofs.OwnLemmas.{made_of}
use Rattle.zb_step.proofs.emitting.emit.Goals as goal

pub returns-clause-own : goal.returns-clause-own
returns-clause-own c = λ es is.
    let p = partition_of c.args.state.now in
    let command = c.args.own.command.now in
    let make = own p c.args.own.partitions c.args.moment command in
    let made = option_map_or (λ m. m es) make [] in
    on_ok_weaker c.put.result
    (λ has. made_of make es (own_there p c.args.own.partitions es c.args.moment command c.requires.run (c.requires.unrefused es is)) ∙ ap (λ (l : List Event). Some l) (sym (has.put es is ∙ ap (λ (l : List Event). l ++ made) c.requires.none)))
    c.put.ensures.ok

pub returns-clause-state : goal.returns-clause-state
returns-clause-state c = λ es is.
    let make = own (partition_of c.args.state.now) c.args.own.partitions c.args.moment c.args.own.command.now in
    let made = option_map_or (λ m. m es) make [] in
    on_ok_weaker c.put.result
    (λ has. subst (λ (l : List Event). IsStateOf (es ++ l) c.put.new.state) (sym (has.put es is ∙ ap (λ (l : List Event). l ++ made) c.requires.none)) (has.taken es is))
    c.put.ensures.ok

pub returns-clause-misfit : goal.returns-clause-misfit
returns-clause-misfit c = λ misfit es is.
    let p = partition_of c.args.state.now in
    let n = c.args.own.partitions in
    let command = c.args.own.command.now in
    let make = own p n c.args.moment command in
    let left : IsTrue c.has_keys.result = grind arith in
    let keys : HasKeys p es (keys_for es command) = subst (λ k. HasKeys p es k) (c.keys_for.ensures es is) ((c.has_keys.ensures es is).0 left) in
    let unrefused = c.requires.unrefused es is in
    let is_own = made_of make es (own_there p n es c.args.moment command c.requires.run unrefused) in
    let applies = own_apply p n es c.args.moment command (option_map_or (λ m. m es) make []) is.applied keys c.see_names.ensures c.requires.run unrefused is_own in
    false≢true (sym (c.put.ensures.misfit misfit es is) ∙ applies)

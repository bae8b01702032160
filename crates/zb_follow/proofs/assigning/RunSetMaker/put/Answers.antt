use Rattle.std.proofs.Common.{◌∙◌, List, [], true, Option, ap, sym}
use Rattle.std.specs.Option.{option_map_or}
use Rattle.std.proofs.lemmas.Result.{on_ok_weaker}
use Rattle.zb_base.specs.declared.vars.Variable.{Variable}
use Rattle.zb_tokens.specs.Board.{Board}
use Rattle.zb_tokens.specs.Bodies.{run_variables_at}
use Rattle.zb_rules.specs.Behind.{run_set_on}
use Rattle.zb_rules.specs.Update.{set_each}
use Rattle.zb_follow.proofs.MakerLemmas.{same_put}
use Rattle.zb_follow.proofs.assigning.RunSetMaker.put.Goals as goal

pub returns-clause-ok : goal.returns-clause-ok
returns-clause-ok c =
    let cell = c.args.self.0 in
    let sets : Option Board → List Variable = λ b. option_map_or (λ b. run_variables_at b cell) b [] in
    on_ok_weaker c.put.result
    (same_put (set_each true cell c.as_slice-things.result.now) (run_set_on cell) c.args.state.now c.put.new.state c.args.out.now c.put.new.out
    (λ es is. ap (λ (vs : List Variable). set_each true cell vs es) (c.as_slice-things.ensures ∙ c.in_ok-variables.ensures ∙ ap sets (sym (c.game.ensures es is)))))
    c.put.ensures.ok

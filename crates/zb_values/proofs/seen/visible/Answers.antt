use Rattle.std.proofs.Common.{◌∙◌, ◌+◌, List, drop, ap, sym, rules}
use Rattle.std.specs.List.{flat_map}
use Rattle.std.specs.Option.{option_or}
use Rattle.zb_base.specs.declared.vars.Variable.{Variable}
use Rattle.zb_base.specs.Vars.{value_named}
use Rattle.zb_tokens.specs.declared.board.Cell.{Cell}
use Rattle.zb_tokens.specs.Board.{up_from}
use Rattle.zb_tokens.proofs.VisibleLaws.{value_of_both}
use Rattle.zb_board.proofs.ScopeLemmas.{up-none, up-past, up-step}
use Rattle.zb_values.proofs.UnseenLemmas.{or_none, or_assoc, all_seen}
use Rattle.zb_values.proofs.seen.visible.Goals as goal

pub returns-in_default : goal.returns-in_default
returns-in_default c =
    let at = c.loop-step in
    let b = c.args.game.now in
    let none = up-none b at.key (drop at._step b.cells) (search rules) in
    all_seen b c.args.cell at.vars at.invariant.0 (λ name.
    let seen = value_named name at.vars in
    sym (or_none seen) ∙ (ap (λ (cells : List Cell). option_or seen (value_named name (flat_map (λ x. x.variables) cells))) (sym none) ∙ at.invariant.1 name))

pub returns : goal.returns
returns c =
    let at = c.loop-step in
    let b = c.args.game.now in
    let none = up-past b at.key at._step (search rules) in
    all_seen b c.args.cell at.vars at.invariant.0 (λ name.
    let seen = value_named name at.vars in
    sym (or_none seen) ∙ (ap (λ (cells : List Cell). option_or seen (value_named name (flat_map (λ x. x.variables) cells))) (sym none) ∙ at.invariant.1 name))

pub loop-step-preserved : goal.loop-step-preserved
loop-step-preserved c = (
  c.in_ok-add_unseen.ensures.ascending c.loop-step.invariant.0,
  λ name.
      let at = c.loop-step in
      let b = c.args.game.now in
      let around = c.in-Some.around.now in
      let seen = value_named name at.vars in
      let more = flat_map (λ (x : Cell). x.variables) (up_from (drop (at._step + 1) b.cells) b around.scope) in
      let above = value_named name more in
      let step = up-step b at.key at._step around (search rules) (sym c.in-Some.ensures) in
      ap (λ o. option_or o above) (c.in_ok-add_unseen.ensures.values name)
      ∙ (ap (λ (vs : List Variable). option_or (option_or seen (value_named name vs)) above) c.as_slice.ensures.value
      ∙ (or_assoc seen (value_named name around.variables) above
      ∙ (ap (λ o. option_or seen o) (sym (value_of_both name around.variables more))
      ∙ (ap (λ (cells : List Cell). option_or seen (value_named name (flat_map (λ x. x.variables) cells))) (sym step) ∙ at.invariant.1 name)))),
)

use Rattle.std.proofs.Common.{◌∙◌, ◌||◌, ap, sym}
use Rattle.clap.specs.Simple.{app_of, with_rule}
use Rattle.clap.specs.declared.builder.command.Command.TheViews.{out-Command}
use Rattle.zb_words.specs.App.{given_rule_of}
use Rattle.zb_words.proofs.AppLemmas.{nothing_more, with_all, with_next}
use Rattle.zb_words.proofs.app.with_options.Goals as goal

pub loop-option-preserved : goal.loop-option-preserved
loop-option-preserved c =
    let old = c.loop-option.more in
    let added = c.in_ok-more.ensures.shape c.given.ensures.local ∙ ap (with_rule (app_of old)) c.given.ensures.rule in (
      with_next with_rule given_rule_of (app_of old) c.args.options.now c.loop-option.option-index (app_of c.in_ok-more.more) _ c.loop-option-test.true added ∙ c.loop-option.invariant.0,
      c.in_ok-more.ensures.globals ∙ ap (λ b. (out-Command old).has_globals || b) c.given.ensures.local ∙ nothing_more (out-Command old).has_globals ∙ c.loop-option.invariant.1,
    )

pub returns : goal.returns
returns c = record {
  app = sym (with_all with_rule given_rule_of (app_of c.loop-option.more) c.args.options.now c.loop-option.option-index c.loop-option-test.false) ∙ c.loop-option.invariant.0;
  local = c.loop-option.invariant.1;
}

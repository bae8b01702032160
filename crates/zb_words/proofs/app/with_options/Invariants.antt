use Rattle.std.proofs.Common.{◌≡◌, drop, map}
use Rattle.std.specs.List.{fold}
use Rattle.clap.specs.Simple.{app_of, with_rule}
use Rattle.clap.specs.declared.builder.command.Command.TheViews.{out-Command}
use Rattle.zb_words.specs.App.{given_rule_of}
use Rattle.zb_words.proofs.app.with_options.Given as goal

-- the options so far are added
abbrev pub invariant-loop-option : goal.invariant-loop-option
invariant-loop-option l =
    (fold with_rule (app_of l.more) (map given_rule_of (drop l.option-index l.options)) ≡ fold with_rule (app_of l.fn.command) (map given_rule_of l.options))
    × ((out-Command l.more).has_globals ≡ (out-Command l.fn.command).has_globals)

use Rattle.std.proofs.Common.{◌≡◌, ◌∷◌, [], drop, map}
use Rattle.std.specs.List.{fold}
use Rattle.clap.specs.Simple.{app_of, with_subcommand}
use Rattle.zb_words.specs.declared.verb.Verb.TheVariants as verbs
use Rattle.zb_words.specs.App.{shape_for, zbd_app}
use Rattle.zb_words.proofs.app.app.Given as goal

-- the verbs so far are added
abbrev pub invariant-loop-verb : goal.invariant-loop-verb
invariant-loop-verb l = fold with_subcommand (app_of l.app) (map shape_for (drop l.verb-index (verbs.Serve ∷ verbs.Log ∷ verbs.Gen ∷ []))) ≡ zbd_app

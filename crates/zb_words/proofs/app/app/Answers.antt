use Rattle.std.proofs.Common.{◌≡◌, ◌∷◌, ◌∙◌, [], ap, codes, map, sym, true}
use Rattle.std.specs.List.{fold}
use Rattle.clap.specs.Simple.{app_of, app_of_fields, new_app, on_top, with_subcommand}
use Rattle.zb_words.specs.declared.verb.Verb.TheVariants as verbs
use Rattle.zb_words.specs.App.{shape_for}
use Rattle.zb_words.proofs.AppLemmas.{if_ok, with_all, with_next}
use Rattle.zb_words.proofs.app.app.Goals as goal

pub loop-verb-init : goal.loop-verb-init
loop-verb-init c =
    let bare : app_of c.subcommand_required.result ≡ on_top (λ s. record s { no_binary_name = true; subcommand_required = true }) (new_app (codes "zbd")) =
    ap app_of_fields c.subcommand_required.ensures ∙ ap (on_top (λ s. record s { subcommand_required = true }))
    (ap app_of_fields c.no_binary_name.ensures ∙ ap (on_top (λ s. record s { no_binary_name = true })) c.new.ensures.app) in
    ap (λ a. fold with_subcommand a (map shape_for (verbs.Serve ∷ verbs.Log ∷ verbs.Gen ∷ []))) (ap app_of_fields c.about-app.ensures ∙ bare)

pub loop-verb-preserved : goal.loop-verb-preserved
loop-verb-preserved c =
    with_next with_subcommand shape_for (app_of c.loop-verb.app) (verbs.Serve ∷ verbs.Log ∷ verbs.Gen ∷ []) c.loop-verb.verb-index (app_of c.in_ok-app.app) _ c.loop-verb-test.true c.in_ok-app.ensures ∙ c.loop-verb.invariant

pub returns : goal.returns
returns c = if_ok _ _ c.bin_name.result c.bin_name.ensures
    (λ app e. ap app_of_fields e.0 ∙ sym (with_all with_subcommand shape_for (app_of c.loop-verb.app) (verbs.Serve ∷ verbs.Log ∷ verbs.Gen ∷ []) c.loop-verb.verb-index c.loop-verb-test.false) ∙ c.loop-verb.invariant)

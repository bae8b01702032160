use Rattle.std.proofs.Common.{◌≡◌, List, [], ◌∷◌, ◌++◌, map, rules, subst, sym, append-nil}
use Rattle.std.proofs.lemmas.Result.{on_ok_weaker}
use Rattle.zb_rules.specs.Shown.{definition_of_model}
use Rattle.zb_tokens.specs.declared.board.Deployed.{Deployed}
use Rattle.zb_views.specs.declared.definition.Definition.{Definition}
use Rattle.zb_definitions.specs.Kept.{KeepsDefinitions}
use Rattle.zb_course.proofs.VersionLemmas.{keeps_more}
use Rattle.zb_course.proofs.versions.Versions.apply.Goals as goal

pub returns-in-ProcessCreated : goal.returns-in-ProcessCreated
returns-in-ProcessCreated c =
    let d : Deployed = record { key = c.in-ProcessCreated.process.key; version = c.in-ProcessCreated.process.version; model = c.in-ProcessCreated.process.model } in
    on_ok_weaker c.add_starter.result
    (λ starters models keeps. rw c.in-ProcessCreated.is (keeps_more models d c.args.self.now c.add_starter.new.self keeps (rw c.add_starter.ensures.definitions (rw c.in-ProcessCreated.is at (c.in_ok-apply.ensures (map definition_of_model models) keeps.definitions))) starters))
    c.add_starter.ensures.starters

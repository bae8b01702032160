use Rattle.std.proofs.Common.{List, subst, sym}
use Rattle.zb_tokens.specs.declared.board.Deployed.{Deployed}
use Rattle.zb_rules.proofs.ModelsLaws.{models_by}
use Rattle.zb_course.specs.Versions.{KeepsVersions}
use Rattle.zb_course.proofs.course.keep.Goals as goal

pub returns-clause-versions : goal.returns-clause-versions
returns-clause-versions c = λ were.
    subst (λ (ms : List Deployed). KeepsVersions ms c.apply.new.self) (sym (models_by c.args.jobs.now c.args.game.now c.args.event.now c.play.new.game c.in_ok-play.ensures.played)) (c.in_ok-apply.ensures c.args.game.now.models were)

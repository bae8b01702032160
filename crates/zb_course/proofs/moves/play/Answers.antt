use Rattle.std.proofs.Common.{◌≡◌, IsTrue, IsFalse, IsErrOf, OnOk, Option, Some, refl, subst}
use Rattle.zb_model.specs.declared.stop.TableFault.TheVariants as stops
use Rattle.zb_rules.specs.Applies.{may_fit}
use Rattle.zb_rules.specs.Shown.{after_shown}
use Rattle.zb_tokens.specs.declared.board.Move.{Move}
use Rattle.zb_course.proofs.moves.play.Goals as goal

pub returns-in-Some-clause-fit : goal.returns-in-Some-clause-fit
returns-in-Some-clause-fit c = subst (λ (o : Option Move). OnOk c.make.result (IsTrue (may_fit o c.args.game.now))) (rw c.in-Some.is at c.in_ok-step.ensures) c.make.ensures.fit

pub returns-in-Some-clause-played : goal.returns-in-Some-clause-played
returns-in-Some-clause-played c = subst (λ (o : Option Move). OnOk c.make.result (after_shown c.args.game.now o ≡ Some c.make.new.game)) (rw c.in-Some.is at c.in_ok-step.ensures) c.make.ensures.played

pub returns-in-Some-clause-illegal : goal.returns-in-Some-clause-illegal
returns-in-Some-clause-illegal c = subst (λ (o : Option Move). IsErrOf c.make.result stops.NotApplicable → IsFalse (may_fit o c.args.game.now)) (rw c.in-Some.is at c.in_ok-step.ensures) c.make.ensures.illegal

pub returns-in-None-clause-fit : goal.returns-in-None-clause-fit
returns-in-None-clause-fit c = subst (λ (o : Option Move). IsTrue (may_fit o c.args.game.now)) (rw c.in-None.is at c.in_ok-step.ensures) refl

pub returns-in-None-clause-played : goal.returns-in-None-clause-played
returns-in-None-clause-played c = subst (λ (o : Option Move). after_shown c.args.game.now o ≡ Some c.args.game.now) (rw c.in-None.is at c.in_ok-step.ensures) refl

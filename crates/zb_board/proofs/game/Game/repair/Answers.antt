use Rattle.std.proofs.Common.{◌==◌, refl, sym, ap, ◌∙◌}
use Rattle.std.specs.List.{find}
use Rattle.zb_tokens.specs.declared.board.Incident.{Incident}
use Rattle.zb_tokens.specs.Board.{Board}
use Rattle.zb_arrivals.proofs.EditLemmas.{found_place, found_none}
use Rattle.zb_arrivals.proofs.SplitLemmas.{or_kept}
use Rattle.zb_board.proofs.IndexedLemmas.{kept_repaired}
use Rattle.zb_board.proofs.game.Game.repair.Goals as goal

pub returns-in_default-clause-illegal : goal.returns-in_default-clause-illegal
returns-in_default-clause-illegal c = λ _.
    rw ((found_none (λ (x : Incident). x.key == c.args.key) c.args.self.now.incidents (sym c.in_default.ensures)).0) refl

pub invariant_of-self-2 : goal.invariant_of-self-2
invariant_of-self-2 c = λ ascends.
    let incident = c.in-Some.incident.now in
    let incidents = c.self.inside.incidents in
    let its = found_place (λ (x : Incident). x.key == c.args.key) incidents incident (ap (λ (b : Board). find (λ (x : Incident). x.key == c.args.key) b.incidents) c.self.view_is ∙ sym c.in-Some.ensures) in
    let kept = c.self.invariant ascends in
    let left = c.remove-2.ensures ∙ ap (λ o. or_kept o incidents) its.3 in
    rw left (kept_repaired _ _ _ _ _ _ _ kept its.0 incident _ _ its.1 its.2 c.remove.ensures.updates.0 c.in_ok-keep.ensures.others c.in_ok-keep.ensures.kept)

pub returns-clause-played : goal.returns-clause-played
returns-clause-played c =
    let incidents = c.self.inside.incidents in
    let its = found_place (λ (x : Incident). x.key == c.args.key) incidents c.in-Some.incident.now (ap (λ (b : Board). find (λ (x : Incident). x.key == c.args.key) b.incidents) c.self.view_is ∙ sym c.in-Some.ensures) in
    let gone = its.3 in
    rw (c.look_at.ensures, ← c.self.view_is, c.remove-2.ensures, gone) refl

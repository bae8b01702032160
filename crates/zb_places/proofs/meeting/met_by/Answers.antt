use Rattle.std.proofs.Common.{◌≡◌, ℕ, List, All, filter, true, sym, ap, subst, ◌∙◌, rules}
use Rattle.std.specs.Str.{bytes_eq}
use Rattle.zb_process.specs.declared.model.Flow.{Flow}
use Rattle.zb_tokens.specs.declared.board.Spot.{Spot}
use Rattle.zb_places.specs.Places.{first_there, is_kept, IsMetAt}
use Rattle.zb_places.proofs.MeetingLemmas.{met_on, met_before}
use Rattle.zb_places.proofs.meeting.met_by.Goals as goal
use Rattle.zb_places.proofs.meeting.met_by.Goals.{in-OnFlow+in_ok-meet_on-in-OnFlow, in-BeforeNode+in_ok-meet-in-BeforeNode}

pub returns : goal.returns
returns c = λ h first its apart counts comes. elim c.match-token.branch [
  | in-OnFlow+in_ok-meet_on-in-OnFlow w ↦
      let m = c.args.model.now in
      let rows = c.args.tokens.now in
      let t = c.args.token.now in
      let all : All (λ f. IsMetAt m rows t.scope f.to w.meet_on.new.met) (filter (λ (f : Flow). bytes_eq f.id w.in-OnFlow.id) m.flows) =
      subst (λ (id : List ℕ). All (λ f. IsMetAt m rows t.scope f.to w.meet_on.new.met) (filter (λ (f : Flow). bytes_eq f.id id) m.flows)) w.as_str.ensures w.in_ok-meet_on-in-OnFlow.ensures in
      ap (λ (l : List ℕ). is_kept l h.number) w.met-is ∙ met_on m rows t w.meet_on.new.met h first its apart comes w.in-OnFlow.id w.in-OnFlow.is all counts
  | in-BeforeNode+in_ok-meet-in-BeforeNode w ↦
      let m = c.args.model.now in
      let rows = c.args.tokens.now in
      let t = c.args.token.now in
      ap (λ (l : List ℕ). is_kept l h.number) w.met-is
      ∙ met_before m rows t w.meet.new.met h first its apart comes w.in-BeforeNode.field-0 w.in-BeforeNode.is (λ x is. w.in_ok-meet-in-BeforeNode.ensures.here x (ap (λ (s : Spot). first_there t.scope s rows) w.on-spot.ensures ∙ is)) counts
]

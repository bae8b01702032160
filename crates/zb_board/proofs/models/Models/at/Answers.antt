use Rattle.std.proofs.Common.{◌≡◌, ◌==◌, List, Some, None, position, slice_get, sym, ap, ◌∙◌, arith}
use Rattle.std.specs.List.{find}
use Rattle.std.specs.Option.{option_copied}
use Rattle.std.proofs.lemmas.Grind.{common_steps}
use Rattle.std.proofs.lemmas.Option.{gets}
use Rattle.zb_tokens.specs.declared.board.Deployed.{Deployed}
use Rattle.zb_board.proofs.PlaceLemmas.{found_at, none_at}
use Rattle.zb_board.proofs.models.Models.at.Goals as goal

pub returns-in-Some : goal.returns-in-Some
returns-in-Some c =
    let models = c.self.inside.list.items in
    let is : position (λ (d : Deployed). d.key == c.args.key) models ≡ Some c.in-Some.place.now = sym (c.self.invariant c.args.key) ∙ sym c.in-Some.ensures.value in
    let there = (found_at (λ (d : Deployed). d.key == c.args.key) models c.in-Some.place.now is).0 in
    let copied : option_copied c.get-in-Some.result ≡ slice_get c.deref.result.now c.in-Some.place.now = grind (arith, common_steps, gets) in
    copied ∙ (ap (λ (l : List Deployed). slice_get l c.in-Some.place.now) c.deref.ensures.value ∙ (sym there ∙ ap (find (λ (d : Deployed). d.key == c.args.key)) c.self.view_is))

pub returns-in-None : goal.returns-in-None
returns-in-None c =
    let models = c.self.inside.list.items in
    let is : position (λ (d : Deployed). d.key == c.args.key) models ≡ None = sym (c.self.invariant c.args.key) ∙ sym c.in-None.ensures.value in
    sym (ap (find (λ (d : Deployed). d.key == c.args.key)) (sym c.self.view_is) ∙ none_at (λ (d : Deployed). d.key == c.args.key) models is)

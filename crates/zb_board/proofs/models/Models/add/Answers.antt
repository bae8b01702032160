use Rattle.std.proofs.Common.{◌≡◌, ◌++◌, ◌∷◌, [], List, length, refl, ap, ◌∙◌}
use Rattle.zb_tokens.specs.declared.board.Deployed.{Deployed}
use Rattle.zb_board.proofs.KeptLemmas.{placed_more}
use Rattle.zb_board.proofs.models.Models.add.Goals as goal

pub invariant_of-self : goal.invariant_of-self
invariant_of-self c =
    let models = c.self.inside.list.items in
    let d : Deployed = record { key = c.args.key; version = c.args.version; model = c.args.graph } in
    let added : c.push_reserved.new.self.items ≡ models ++ d ∷ [] = c.push_reserved.ensures.items ∙ ap (λ (l : List Deployed). l ++ d ∷ []) c.make_room.ensures.items in
    rw added (placed_more models c.self.inside.places.entries c.make_room.new.places.entries d (length models) c.self.invariant refl c.in-Ok.ensures.first)

use Rattle.std.proofs.Common.{ℕ, [], ◌++◌, ◌∷◌, Option, Vec, Global, ap, ◌∙◌, rules}
use Rattle.std.specs.Option.{option_map_or}
use Rattle.std.proofs.lemmas.Map.Text.{hash_map_updates_text}
use Rattle.indexmap.specs.IndexMap.{get_by_text}
use Rattle.zb_graph.proofs.PlaceLemmas.{added_under}
use Rattle.zb_graph.proofs.places.Places.add.Goals as goal

pub returns-in_ok-push-in-Some : goal.returns-in_ok-push-in-Some
returns-in_ok-push-in-Some c = λ other.
    let new = c.get_mut.follows.lender c.push.new.self in
    let updates = hash_map_updates_text c.args.name.now c.args.self.now.lists new _ ((c.get_mut.follows.holds c.push.new.self).3 (search rules)) other in
    added_under (λ (l : Vec ℕ Global). l.items) (get_by_text c.args.self.now.lists) (get_by_text new) c.args.name.now other c.args.place c.push.new.self updates
    (c.in_ok-push-in-Some.ensures.items ∙ ap (λ (o : Option (Vec ℕ Global)). option_map_or (λ (l : Vec ℕ Global). l.items) o [] ++ c.args.place ∷ []) c.in-Some.ensures.value)

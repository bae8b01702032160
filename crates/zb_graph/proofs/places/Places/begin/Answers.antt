use Rattle.std.proofs.Common.{◌≡◌, ℕ, List, [], ◌++◌, ◌∷◌, Option, Some, Vec, Global, sym, ap, subst, ◌∙◌}
use Rattle.std.specs.Option.{option_map_or}
use Rattle.std.specs.Map.{update}
use Rattle.std.specs.Str.{bytes_eq}
use Rattle.std.specs.String.{string_bytes}
use Rattle.std.proofs.lemmas.Map.Text.{hash_map_updates_text}
use Rattle.indexmap.specs.IndexMap.{get_by_text}
use Rattle.zb_graph.proofs.PlaceLemmas.{added_under}
use Rattle.zb_graph.proofs.places.Places.begin.Goals as goal

pub returns : goal.returns
returns c = λ other.
    let old = get_by_text c.args.self.now.lists in
    let updates = hash_map_updates_text (string_bytes c.in_ok-from_str.field-0) c.args.self.now.lists c.insert.new.self (Some c.push.new.self) c.in_ok-insert.ensures.updates other in
    let named = subst (λ (n : List ℕ). get_by_text c.insert.new.self other ≡ update bytes_eq old n (Some c.push.new.self) other) c.in_ok-from_str.ensures.ok updates in
    added_under (λ (l : Vec ℕ Global). l.items) old (get_by_text c.insert.new.self) c.args.name.now other c.args.place c.push.new.self named
    (c.in_ok-push.ensures.items ∙ (ap (λ (l : List ℕ). l ++ c.args.place ∷ []) c.in_ok-list.ensures.items ∙ ap (λ (o : Option (Vec ℕ Global)). option_map_or (λ (l : Vec ℕ Global). l.items) o [] ++ c.args.place ∷ []) (sym c.requires)))

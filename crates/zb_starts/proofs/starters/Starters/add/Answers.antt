use Rattle.std.proofs.Common.{ℕ, List, [], Option, ap, ◌∙◌, rules}
use Rattle.std.specs.BTreeSet.{insert_key}
use Rattle.std.specs.Option.{option_map_or}
use Rattle.std.proofs.lemmas.Map.Text.{hash_map_updates_text}
use Rattle.indexmap.specs.IndexMap.{get_by_text}
use Rattle.zb_base.specs.Vars.{order_of}
use Rattle.zb_views.proofs.NamedLaws.{put_under}
use Rattle.zb_starts.proofs.starters.Starters.add.Goals as goal

pub returns-in_ok-add-in-Some : goal.returns-in_ok-add-in-Some
returns-in_ok-add-in-Some c = λ other.
    let new = c.get_mut.follows.lender c.add.new.self in
    let read : Option (List (List ℕ)) → List (List ℕ) = λ found. option_map_or (λ ids. ids) found [] in
    let put : List (List ℕ) → List (List ℕ) = λ ids. insert_key order_of ids c.args.process.now in
    let updates = hash_map_updates_text c.args.name.now c.args.self.now.names new _ ((c.get_mut.follows.holds c.add.new.self).3 (search rules)) other in
    put_under read (get_by_text c.args.self.now.names) (get_by_text new) c.args.name.now other c.add.new.self put updates
    (c.in_ok-add-in-Some.ensures ∙ ap (λ (o : Option (List (List ℕ))). put (read o)) c.in-Some.ensures.value)

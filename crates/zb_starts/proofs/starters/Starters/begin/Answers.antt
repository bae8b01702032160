use Rattle.std.proofs.Common.{◌≡◌, ℕ, List, [], Option, Some, string_bytes, sym, ap, subst, ◌∙◌}
use Rattle.std.specs.BTreeSet.{insert_key}
use Rattle.std.specs.Map.{update}
use Rattle.std.specs.Option.{option_map_or}
use Rattle.std.specs.Str.{bytes_eq}
use Rattle.std.proofs.lemmas.Map.Text.{hash_map_updates_text}
use Rattle.indexmap.specs.IndexMap.{get_by_text}
use Rattle.zb_base.specs.Vars.{order_of}
use Rattle.zb_views.proofs.NamedLaws.{put_under}
use Rattle.zb_starts.proofs.starters.Starters.begin.Goals as goal

pub returns : goal.returns
returns c = λ other.
    let old = get_by_text c.args.self.now.names in
    let new = get_by_text c.insert.new.self in
    let read : Option (List (List ℕ)) → List (List ℕ) = λ found. option_map_or (λ ids. ids) found [] in
    let put : List (List ℕ) → List (List ℕ) = λ ids. insert_key order_of ids c.args.process.now in
    let updates = hash_map_updates_text (string_bytes c.in_ok-from_str.field-0) c.args.self.now.names c.insert.new.self (Some c.add.new.self) c.in_ok-insert.ensures.updates other in
    let named = subst (λ (n : List ℕ). new other ≡ update bytes_eq old n (Some c.add.new.self) other) c.in_ok-from_str.ensures.ok updates in
    put_under read old new c.args.name.now other c.add.new.self put named
    (c.in_ok-add.ensures ∙ ap put (c.empty-ids.ensures ∙ ap read (sym c.requires)))

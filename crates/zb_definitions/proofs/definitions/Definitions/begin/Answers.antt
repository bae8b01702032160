use Rattle.std.proofs.Common.{◌≡◌, ℕ, ◌==◌, max, List, Option, Some, if◌then◌else◌, option_and_then, sym, ap, subst, ◌∙◌}
use Rattle.std.specs.Option.{option_map_or}
use Rattle.std.specs.Map.{update}
use Rattle.std.specs.Str.{bytes_eq}
use Rattle.std.specs.String.{string_bytes}
use Rattle.std.proofs.lemmas.Map.Text.{hash_map_updates_text}
use Rattle.indexmap.specs.IndexMap.{get_by_text}
use Rattle.zb_definitions.specs.Versions.{counting_key, greater_key}
use Rattle.zb_definitions.specs.declared.process.Process.{Process}
use Rattle.zb_views.proofs.NamedLaws.{put_under}
use Rattle.zb_definitions.proofs.PutLemmas.{if_both}
use Rattle.zb_definitions.proofs.definitions.Definitions.begin.Goals as goal

pub returns-clause-latest : goal.returns-clause-latest
returns-clause-latest c = λ other.
    let old = get_by_text c.args.self.now.processes in
    let new = get_by_text c.insert.new.self in
    let read : Option Process → ℕ = λ found. option_map_or (λ p. p.latest) found 0 in
    let updates = hash_map_updates_text (string_bytes c.in_ok-from_str.field-0) c.args.self.now.processes c.insert.new.self (Some c.put.new.self) c.in_ok-insert.ensures.updates other in
    let named = subst (λ (n : List ℕ). new other ≡ update bytes_eq old n (Some c.put.new.self) other) c.in_ok-from_str.ensures.ok updates in
    put_under read old new c.args.process.now other c.put.new.self (max c.args.version) named
    (c.in_ok-put.ensures.latest ∙ ap (max c.args.version) (c.empty-begun.ensures.latest ∙ ap read (sym c.requires)))

pub returns-clause-keys : goal.returns-clause-keys
returns-clause-keys c = λ other v.
    let old = get_by_text c.args.self.now.processes in
    let new = get_by_text c.insert.new.self in
    let read : Option Process → Option ℕ = λ found. option_and_then (λ p. counting_key v p.versions) found in
    let put : Option ℕ → Option ℕ = λ found. if c.args.version == v then Some (greater_key c.args.definition found) else found in
    let updates = hash_map_updates_text (string_bytes c.in_ok-from_str.field-0) c.args.self.now.processes c.insert.new.self (Some c.put.new.self) c.in_ok-insert.ensures.updates other in
    let named = subst (λ (n : List ℕ). new other ≡ update bytes_eq old n (Some c.put.new.self) other) c.in_ok-from_str.ensures.ok updates in
    put_under read old new c.args.process.now other c.put.new.self put named
    (c.in_ok-put.ensures.keys v ∙ ap put (ap (counting_key v) c.empty-begun.ensures.versions ∙ ap read (sym c.requires)))
    ∙ if_both (bytes_eq c.args.process.now other) (c.args.version == v) (Some (greater_key c.args.definition (read (old other)))) (read (old other))

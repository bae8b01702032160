use Rattle.std.proofs.Common.{ℕ, ◌==◌, max, Option, Some, if◌then◌else◌, option_and_then, ap, ◌∙◌, rules}
use Rattle.std.specs.Option.{option_map_or}
use Rattle.std.specs.Str.{bytes_eq}
use Rattle.std.proofs.lemmas.Map.Text.{hash_map_updates_text}
use Rattle.indexmap.specs.IndexMap.{get_by_text}
use Rattle.zb_definitions.specs.Versions.{counting_key, greater_key}
use Rattle.zb_definitions.specs.declared.process.Process.{Process}
use Rattle.zb_views.proofs.NamedLaws.{put_under}
use Rattle.zb_definitions.proofs.PutLemmas.{if_both}
use Rattle.zb_definitions.proofs.definitions.Definitions.keep_version.Goals as goal

pub returns-in_ok-put-in-Some-clause-latest : goal.returns-in_ok-put-in-Some-clause-latest
returns-in_ok-put-in-Some-clause-latest c = λ other.
    let new = c.get_mut.follows.lender c.put.new.self in
    let read : Option Process → ℕ = λ found. option_map_or (λ p. p.latest) found 0 in
    let updates = hash_map_updates_text c.args.process.now c.args.self.now.processes new _ ((c.get_mut.follows.holds c.put.new.self).3 (search rules)) other in
    put_under read (get_by_text c.args.self.now.processes) (get_by_text new) c.args.process.now other c.put.new.self (max c.args.version) updates
    (c.in_ok-put-in-Some.ensures.latest ∙ ap (λ (o : Option Process). max c.args.version (read o)) c.in-Some.ensures.value)

pub returns-in_ok-put-in-Some-clause-keys : goal.returns-in_ok-put-in-Some-clause-keys
returns-in_ok-put-in-Some-clause-keys c = λ other v.
    let old = get_by_text c.args.self.now.processes in
    let new = c.get_mut.follows.lender c.put.new.self in
    let read : Option Process → Option ℕ = λ found. option_and_then (λ p. counting_key v p.versions) found in
    let put : Option ℕ → Option ℕ = λ found. if c.args.version == v then Some (greater_key c.args.definition found) else found in
    let updates = hash_map_updates_text c.args.process.now c.args.self.now.processes new _ ((c.get_mut.follows.holds c.put.new.self).3 (search rules)) other in
    put_under read old (get_by_text new) c.args.process.now other c.put.new.self put updates
    (c.in_ok-put-in-Some.ensures.keys v ∙ ap (λ (o : Option Process). put (read o)) c.in-Some.ensures.value)
    ∙ if_both (bytes_eq c.args.process.now other) (c.args.version == v) (Some (greater_key c.args.definition (read (old other)))) (read (old other))

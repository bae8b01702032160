use Rattle.std.proofs.Common.{◌≡◌, ℕ, ◌==◌, ◌&&◌, max, List, Option, Some, None, if◌then◌else◌, option_map, option_and_then, sym, ap, ◌∙◌, rules}
use Rattle.std.specs.Option.{option_or, option_map_or}
use Rattle.std.specs.Str.{bytes_eq}
use Rattle.indexmap.specs.IndexMap.{get_by_text}
use Rattle.zb_table.specs.Rows.{row_at}
use Rattle.zb_views.specs.Definitions.{greatest_version, version_of}
use Rattle.zb_views.specs.declared.definition.Definition.{Definition}
use Rattle.zb_definitions.specs.Versions.{counting_key, greater_key}
use Rattle.zb_definitions.specs.Kept.{latest_in, key_in}
use Rattle.zb_definitions.specs.declared.version.Defined.{Defined}
use Rattle.zb_definitions.proofs.KeepLemmas.{version_more, greatest_more, under_more}
use Rattle.zb_definitions.proofs.definitions.Definitions.push.Goals as goal

pub returns : goal.returns
returns c = λ ds keeps.
    let old = c.args.self.now in
    let mid = c.keep_key.new.self in
    let made = c.args.process.now in
    let d : Definition = record { key = made.key; version = made.version; process = made.model.process } in
    let processes : mid.processes ≡ old.processes = c.keep_key.ensures.processes in
    let named : c.as_str.result.now ≡ d.process = search rules in
    record {
      versions = λ key.
          ap (λ (rows : List Defined). option_map (λ x. x.version) (row_at (λ x. x.key) key rows)) c.keep_version.ensures.defined
          ∙ (c.in_ok-keep_key.ensures.versions key
          ∙ (ap (λ (found : Option ℕ). option_or found (if d.key == key then Some d.version else None)) (keeps.versions key) ∙ sym (under_more key ds d)));
      latest = λ process.
          let before : latest_in mid process ≡ greatest_version process ds = ap (λ m. option_map_or (λ p. p.latest) (get_by_text m process) 0) processes ∙ keeps.latest process in
          c.in_ok-keep_version.ensures.latest process
          ∙ (ap (λ (n : ℕ). if bytes_eq c.as_str.result.now process then max d.version n else n) before
          ∙ (ap (λ (name : List ℕ). if bytes_eq name process then max d.version (greatest_version process ds) else greatest_version process ds) named ∙ sym (greatest_more process ds d)));
      keys = λ process version.
          let counts : Option ℕ = option_map (λ x. x.key) (version_of process version ds) in
          let before : key_in mid process version ≡ counts = ap (λ m. option_and_then (λ p. counting_key version p.versions) (get_by_text m process)) processes ∙ keeps.keys process version in
          c.in_ok-keep_version.ensures.keys process version
          ∙ (ap (λ (found : Option ℕ). if bytes_eq c.as_str.result.now process && (d.version == version) then Some (greater_key d.key found) else found) before
          ∙ (ap (λ (name : List ℕ). if bytes_eq name process && (d.version == version) then Some (greater_key d.key counts) else counts) named ∙ sym (version_more process version ds d)));
    }

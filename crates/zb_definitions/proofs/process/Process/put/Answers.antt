use Rattle.std.proofs.Common.{ℕ, ◌==◌, List, option_map, ap, ◌∙◌}
use Rattle.zb_table.specs.Rows.{row_at}
use Rattle.zb_definitions.specs.Versions.{counting_key, greater_key}
use Rattle.zb_definitions.specs.declared.version.Version.{Version}
use Rattle.zb_definitions.proofs.PutLemmas.{row_put, read_where, put_greater}
use Rattle.zb_definitions.proofs.process.Process.put.Goals as goal

pub returns-clause-keys : goal.returns-clause-keys
returns-clause-keys c = λ other.
    let old = c.args.self.now.versions in
    let greater = c.greater_key-definition.result in
    let row : Version = record { number = c.args.version; definition = greater } in
    ap (λ (rows : List Version). counting_key other rows) c.in_ok-add.ensures.ok
    ∙ (ap (option_map (λ (v : Version). v.definition)) (row_put (λ v. v.number) row other old)
    ∙ (read_where (λ v. v.definition) (c.args.version == other) row (row_at (λ v. v.number) other old)
    ∙ put_greater (λ (v : ℕ). counting_key v old) c.args.version other c.args.definition greater (c.greater_key-definition.ensures ∙ ap (greater_key c.args.definition) c.definition.ensures)))

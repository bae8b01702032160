use Rattle.std.proofs.Common.{◌==◌, List, is_some, option_map, sym, ap, ◌∙◌}
use Rattle.zb_table.specs.Rows.{row_at}
use Rattle.zb_definitions.specs.Kept.{version_at}
use Rattle.zb_definitions.specs.declared.version.Defined.{Defined}
use Rattle.zb_definitions.proofs.PutLemmas.{row_put, read_where, put_absent}
use Rattle.zb_definitions.proofs.definitions.Definitions.keep_key.Goals as goal

pub returns-clause-versions : goal.returns-clause-versions
returns-clause-versions c = λ other.
    let old = c.args.self.now in
    let row : Defined = record { key = c.args.key; version = c.args.version } in
    let none = sym (ap is_some c.version_under.ensures.kept) ∙ (sym c.is_some.ensures ∙ c.if-is_some.false) in
    ap (λ (rows : List Defined). option_map (λ d. d.version) (row_at (λ d. d.key) other rows)) c.in_ok-add.ensures.ok
    ∙ (ap (option_map (λ (d : Defined). d.version)) (row_put (λ d. d.key) row other old.defined)
    ∙ (read_where (λ d. d.version) (c.args.key == other) row (row_at (λ d. d.key) other old.defined)
    ∙ put_absent (version_at old) c.args.key other c.args.version none))

-- The keys under texts.
use Rattle.std.specs.Prelude.{ℕ, List, [], if◌then◌else◌}
use Rattle.std.specs.Option.{option_map_or}
use Rattle.std.specs.HashMap.{get_by_text}
use Rattle.std.specs.Str.{bytes_eq}
use Rattle.zb_line.specs.declared.firsts.Firsts.{Firsts}
use Rattle.zb_line.specs.declared.firsts.Firsts.TheVariants as kinds
use Rattle.zb_line.specs.declared.labels.Labels.{Labels}
use Rattle.zb_line.specs.declared.texts.Texts.{Texts}

-- the keys under a text; none where it isn't there (own)
abbrev pub keys_at : Texts → List ℕ → List ℕ
keys_at t text = option_map_or (λ keys. keys) (get_by_text t.texts text) []

-- the keys under the first text of a pair: of a single one, or of several (own)
abbrev pub keys_by_first : Firsts → List ℕ → List ℕ
keys_by_first (kinds.One single keys) text = if bytes_eq single text then keys else []
keys_by_first (kinds.Several texts) text = keys_at texts text

-- the keys under a pair of texts; none where the second isn't there (own)
abbrev pub keys_labelled : Labels → List ℕ → List ℕ → List ℕ
keys_labelled l first second = option_map_or (λ f. keys_by_first f first) (get_by_text l.seconds second) []

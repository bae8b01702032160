use Rattle.std.proofs.Common.{◌==◌, ℕ, List, ap, ◌∙◌}
use Rattle.std.specs.List.{list_any}
use Rattle.zb_views.proofs.given.Given.has.Goals as goal

pub returns : goal.returns
returns c = c.contains.ensures ∙ (c.self.invariant c.args.message ∙ ap (λ (keys : List ℕ). list_any (λ key. key == c.args.message) keys) c.self.view_is)

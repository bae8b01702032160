-- How tokens come to nodes.
use Rattle.std.proofs.Common.{◌≡◌, ℕ, List, Option, Some, None, refl, sym, ap, ◌∙◌}
use Rattle.std.specs.List.{find}
use Rattle.std.specs.Str.{bytes_eq}
use Rattle.zb_process.specs.declared.model.Model.{Model}
use Rattle.zb_process.specs.declared.model.Flow.{Flow}
use Rattle.zb_tokens.specs.declared.board.Spot.{Spot}
use Rattle.zb_tokens.specs.declared.board.Spot.TheVariants as spots
use Rattle.zb_tokens.specs.Forced.{entry_at, way_by}

module _ (m : Model) (spot : Spot) (id text : List ℕ) where
  found_by : (found : Option Flow) → text ≡ id → found ≡ find (λ x. bytes_eq x.id text) m.flows → find (λ x. bytes_eq x.id id) m.flows ≡ found
  found_by found is_text at = sym (at ∙ ap (λ (t : List ℕ). find (λ (x : Flow). bytes_eq x.id t) m.flows) is_text)

  -- by the flow that was found
  pub entry_at-found : (f : Flow) → spot ≡ spots.OnFlow id → text ≡ id → Some f ≡ find (λ x. bytes_eq x.id text) m.flows → entry_at m spot ≡ Some (f.to, way_by m f.to id)
  entry_at-found f is_spot is_text at = let found = found_by (Some f) is_text at in rw (is_spot, found) refl

  -- by no flow where none was found
  pub entry_at-none : spot ≡ spots.OnFlow id → text ≡ id → None ≡ find (λ x. bytes_eq x.id text) m.flows → entry_at m spot ≡ None
  entry_at-none is_spot is_text at = let found = found_by None is_text at in rw (is_spot, found) refl

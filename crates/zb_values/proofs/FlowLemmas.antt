-- The flows out of a node.
use Rattle.std.proofs.Common.{◌≡◌, ℕ, Bool, true, false, if◌then◌else◌, List, [], ◌∷◌, filter, refl}
use Rattle.std.specs.Str.{bytes_eq}
use Rattle.zb_process.specs.declared.model.Flow.{Flow}
use Rattle.zb_tokens.specs.MoveLeave.{are_among}
use Rattle.zb_values.specs.Exits.{left_after}
pub use Rattle.zb_places.proofs.FlowLemmas.{flows_from, ids_of_flows, suc_not, are_among-none, is_none_of-length, many, is_flow, ids_more, flow_left, ids_left}

-- what is still sought once an id was met
pub among_left : (ids : List (List ℕ)) (id : List ℕ) (rest : List (List ℕ)) → are_among (left_after ids id) rest ≡ are_among ids (id ∷ rest)
among_left [] id rest = refl
among_left (first ∷ ids) id rest = by_test (bytes_eq first id)
  where
    by_test : (t : Bool) → are_among (if t then ids else first ∷ ids) rest ≡ (if t then are_among ids rest else are_among (first ∷ ids) rest)
    by_test true = refl
    by_test false = refl

-- of the flows that are left, those that pass a test
module _ (p : Flow → Bool) (flows rest : List Flow) (flow : Flow) (left : flows ≡ flow ∷ rest) where
  -- the first one, if it does, and others behind it
  pub ids_taken : p flow ≡ true → ids_of_flows (filter p flows) ≡ flow.id ∷ ids_of_flows (filter p rest)
  ids_taken takes = rw (left, takes) refl

  -- else others alone
  pub ids_passed : p flow ≡ false → ids_of_flows (filter p flows) ≡ ids_of_flows (filter p rest)
  ids_passed out = rw (left, out) refl

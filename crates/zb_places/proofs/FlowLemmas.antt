-- The flows out of a node, and those into it.
use Rattle.std.proofs.Common.{◌≡◌, ℕ, zero, suc, ◌+◌, ◌-◌, ◌≤◌, length-drop, ◌<◌, ◌==◌, Bool, true, false, not, ◌&&◌, ◌||◌, List, [], ◌∷◌, ◌++◌, length, take, drop, get_or, slice_get, map, filter, Option, Some, refl, sym, ap, subst, ◌∙◌, arith}
use Rattle.std.proofs.lemmas.List.{take_all, take_more, drop_more, length-map, map-append, drop-map}
use Rattle.std.proofs.lemmas.Option.{slice_get_within}
use Rattle.std.proofs.lemmas.Bool.Decides.{nat_tests}
use Rattle.std.specs.Str.{bytes_eq}
use Rattle.std.specs.List.{list_any, list_all}
use Rattle.zb_tokens.specs.Board.{is_spot}
use Rattle.zb_tokens.specs.Edits.{is_none_of}
use Rattle.zb_tokens.specs.MoveLeave.{are_among}
use Rattle.zb_process.specs.declared.model.Flow.{Flow}
use Rattle.zb_process.specs.declared.model.Model.{Model}
use Rattle.zb_tokens.specs.MoveEnter.{stands_at, stand_at_each}
use Rattle.zb_tokens.specs.declared.board.Token.{Token}
use Rattle.zb_tokens.specs.declared.board.Spot.TheVariants as spots

-- the flows of a model that go out of a node
abbrev pub flows_from : Model → List ℕ → List Flow
flows_from m node = filter (λ f. bytes_eq f.from node) m.flows

-- and those that lead into it
abbrev pub flows_to : Model → List ℕ → List Flow
flows_to m node = filter (λ f. bytes_eq f.to node) m.flows

-- the ids of some flows
abbrev pub ids_of_flows : List Flow → List (List ℕ)
ids_of_flows flows = map (λ f. f.id) flows

-- a list with a member is not empty
pub suc_not : (n : ℕ) → (suc n == 0) ≡ false
suc_not n = grind (arith, nat_tests)

-- only no ids are among none
pub are_among-none : (ids : List (List ℕ)) → are_among ids [] ≡ (length ids == 0)
are_among-none [] = refl
are_among-none (id ∷ ids) = sym (suc_not (length ids))

-- there are none where the length is 0
pub is_none_of-length : {A : Type 0} (xs : List A) → is_none_of xs ≡ (length xs == 0)
is_none_of-length [] = refl
is_none_of-length (x ∷ xs) = sym (suc_not (length xs))

-- what some numbers name, one by one
pub named_at : {A : Type 0} (named : ℕ → Option A) (numbers : List ℕ) (items : List A) (i : ℕ) → map named numbers ≡ map Some items → i < length numbers → (x : A) × (named (get_or numbers i 0) ≡ Some x) × (get_or items i x ≡ x) × (i < length items)
named_at named [] items i same within = absurd (omega arith)
named_at named (n ∷ numbers) [] i same within = absurd (cc)
named_at named (n ∷ numbers) (x ∷ items) zero same within = let here : named n ≡ Some x = cc in (x, here, refl, omega arith)
named_at {A} named (n ∷ numbers) (x ∷ items) (suc i) same within =
    let rest : map named numbers ≡ map {A = A} Some items = cc in
    let at = named_at named numbers items i rest (omega arith) in
    (at.0, at.1, at.2, omega (arith, at.3))

module _ (m : Model) (flows : List Flow) (numbers : List ℕ) (named : map (slice_get m.flows) numbers ≡ map Some flows) where
  -- as many numbers as there are flows
  pub many : length numbers ≡ length flows
  many = sym (length-map numbers (slice_get m.flows)) ∙ (ap length named ∙ length-map flows Some)

  -- the numbers from a place on name the flows from there on
  pub named_behind : (k : ℕ) → map (slice_get m.flows) (take (length numbers - k) (drop k numbers)) ≡ map Some (drop k flows)
  named_behind k =
      let rest : length (drop k numbers) ≤ length numbers - k = omega (arith, length-drop {A = ℕ}) in
      ap (map (slice_get m.flows)) (take_all (length numbers - k) (drop k numbers) rest) ∙ (sym (drop-map (slice_get m.flows) k numbers) ∙ (ap (drop k) named ∙ drop-map Some k flows))

  -- one of the numbers, and the flow that it names
  module _ (i : ℕ) (within : i < length numbers) where
    pub is_flow : get_or numbers i 0 < length m.flows
    is_flow = let at = named_at (slice_get m.flows) numbers flows i named within in slice_get_within m.flows (get_or numbers i 0) at.0 at.1

    module _ (flow : Flow) (there : slice_get m.flows (get_or numbers i 0) ≡ Some flow) where
      stands : (get_or flows i flow ≡ flow) × (i < length flows)
      stands =
          let at = named_at (slice_get m.flows) numbers flows i named within in
          let same : at.0 ≡ flow = (let e : Some at.0 ≡ Some flow = sym at.1 ∙ there in cc) in
          (subst (λ (f : Flow). get_or flows i f ≡ f) same at.2, at.3)

      -- with one more
      pub flow_more : take (i + 1) flows ≡ take i flows ++ flow ∷ []
      flow_more = take_more flows i flow stands.1 ∙ ap (λ (f : Flow). take i flows ++ f ∷ []) stands.0

      -- and its id
      pub ids_more : ids_of_flows (take (i + 1) flows) ≡ ids_of_flows (take i flows) ++ flow.id ∷ []
      ids_more = ap ids_of_flows flow_more ∙ map-append (λ (f : Flow). f.id) (take i flows) (flow ∷ [])

      -- with one fewer that is left
      pub flow_left : drop i flows ≡ flow ∷ drop (i + 1) flows
      flow_left = drop_more flows i flow stands.1 ∙ ap (λ (f : Flow). f ∷ drop (i + 1) flows) stands.0

      pub ids_left : ids_of_flows (drop i flows) ≡ flow.id ∷ ids_of_flows (drop (i + 1) flows)
      ids_left = ap ids_of_flows flow_left

-- on each flow of these a token stands in a scope
abbrev pub on_each : ℕ → List (List ℕ) → List Token → Bool
on_each scope ids tokens = list_all (λ spot. list_any (stands_at scope spot) tokens) (map spots.OnFlow ids)

module _ (scope : ℕ) (tokens : List Token) (id : List ℕ) (ids rest : List (List ℕ)) (left : ids ≡ id ∷ rest) where
  -- no token is on the first of the flows that are left
  pub on_each-not : list_any (stands_at scope (spots.OnFlow id)) tokens ≡ false → on_each scope ids tokens ≡ false
  on_each-not none = rw (left, none) refl

  -- one is, and the others are asked
  pub on_each-more : list_any (stands_at scope (spots.OnFlow id)) tokens ≡ true → on_each scope ids tokens ≡ on_each scope rest tokens
  on_each-more some = rw (left, some) refl

-- a spot on a flow is on one of those with these ids where one of them is its id
pub spot_among : (id : List ℕ) (ids : List (List ℕ)) → list_any (is_spot (spots.OnFlow id)) (map spots.OnFlow ids) ≡ list_any (bytes_eq id) ids
spot_among id [] = refl
spot_among id (x ∷ ids) = ap (λ (t : Bool). bytes_eq id x || t) (spot_among id ids)

-- and one before a node is on none
pub spot_apart : (node : List ℕ) (ids : List (List ℕ)) → list_any (is_spot (spots.BeforeNode node)) (map spots.OnFlow ids) ≡ false
spot_apart node [] = refl
spot_apart node (x ∷ ids) = spot_apart node ids

-- where tokens aren't on each flow of some
pub not_at_each : (scope : ℕ) (ids : List (List ℕ)) (tokens : List Token) → on_each scope ids tokens ≡ false → stand_at_each scope (map spots.OnFlow ids) tokens ≡ false
not_at_each scope ids tokens none = rw none (by_test (not (is_none_of (map spots.OnFlow ids))))
  where
    by_test : (t : Bool) → (t && false) ≡ false
    by_test true = refl
    by_test false = refl

-- where they are, and there are flows
pub at_each : (scope : ℕ) (ids : List (List ℕ)) (tokens : List Token) → on_each scope ids tokens ≡ true → stand_at_each scope (map spots.OnFlow ids) tokens ≡ not (length ids == 0)
at_each scope [] tokens all = refl
at_each scope (id ∷ ids) tokens all = all ∙ sym (ap not (suc_not (length ids)))

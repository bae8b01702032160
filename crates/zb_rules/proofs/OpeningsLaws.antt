-- What opens for a cell may, and there is little of it.
use Rattle.std.proofs.Common.{◌≡◌, ℕ, ◌≤◌, ◌+◌, List, [], ◌∷◌, ◌++◌, filter, length, get_or, All, Bool, true, false, cond, ◌&&◌, ◌||◌, if◌then◌else◌, IsTrue, Option, Some, None, Result, Ok, Err, refl, sym, subst, arith}
use Rattle.std.specs.Option.{option_map_or}
use Rattle.std.specs.Str.{bytes_eq}
use Rattle.std.proofs.lemmas.Bool.{and_from, or_right}
use Rattle.std.proofs.lemmas.List.{length-append}
use Rattle.std.proofs.lemmas.List.Elements.{All-nil, All-cons, All-head, All-tail, All-append, All-filter, filter_passes}
use Rattle.std.proofs.lemmas.Slice.Eq.{bytes_eq-Decides}
use Rattle.zb_base.specs.Results.{◌>>=◌}
use Rattle.zb_base.specs.declared.value.Value.{Value}
use Rattle.zb_process.specs.declared.model.Model.{Model}
use Rattle.zb_process.specs.declared.model.Node.{Node}
use Rattle.zb_duration.specs.declared.form.TimeForm.{TimeForm}
use Rattle.zb_faults.specs.Faults.{is_well_formed, most_nodes}
use Rattle.zb_tokens.specs.declared.board.Awaited.{Awaited}
use Rattle.zb_tokens.specs.declared.board.Awaited.TheVariants as awaiteds
use Rattle.zb_tokens.specs.declared.board.AwaitedMessage.{AwaitedMessage}
use Rattle.zb_tokens.specs.declared.board.Catch.{Catch}
use Rattle.zb_tokens.specs.declared.board.Catch.TheVariants as catches
use Rattle.zb_tokens.specs.declared.board.Cell.{Cell}
use Rattle.zb_tokens.specs.declared.board.Opening.{Opening}
use Rattle.zb_tokens.specs.Board.{Board, model_under, node_with, is_root}
use Rattle.zb_tokens.specs.Catches.{time_form, is_message_event, is_caught_at, due_by, message_by, event_by, opened_at, waits_itself, waits_beside, awaited, openings_in, openings_of, is_awaited_at, awaits}
use Rattle.zb_tokens.proofs.GameLaws.{found_passes}
use Rattle.zb_tokens.specs.Incidents.{Hindrance}
use Rattle.zb_tokens.proofs.LeaveLaws.{same_bytes}
use Rattle.zb_tokens.specs.Mappings.{node_of}
use Rattle.zb_tokens.specs.Names.{value_seen}
use Rattle.zb_rules.proofs.NodesLaws.{nodes_found, nodes_few}

-- what is caught where a cell waits for such an event
abbrev pub catch_of : Awaited → Catch
catch_of (awaiteds.Time due) = catches.Time
catch_of (awaiteds.Message m) = catches.Message

module _ (names : List ℕ → Option Value) (moment : ℕ) (m : Model) (P : Catch → List ℕ → Type 0) where
  -- what holds of each of these openings, and how many there are at most
  abbrev Is : Opening → Type 0
  Is o = P (catch_of o.event) o.node

  abbrev Are : ℕ → List Opening → Type 0
  Are most os = All Is os × (length os ≤ most)

  -- and of a node of what is caught there
  abbrev MayOpen : Node → Type 0
  MayOpen n = (catch : Catch) → IsTrue (is_caught_at n.kind catch) → P catch n.id

  pub no_openings : (most : ℕ) (os : List Opening) (r : Result (List Opening) Hindrance) → r ≡ Ok [] → r ≡ Ok os → Are most os
  no_openings most os r none is = subst (Are most) (let same : [] ≡ os = cc in same) (All-nil Is, omega arith)

  event_may : (n : Node) (event : Awaited) → MayOpen n → event_by names moment m n ≡ Ok (Some event) → P (catch_of event) n.id
  event_may n event may is = by_kind (is_message_event n.kind) refl is
    where
      by_message : (r : Result AwaitedMessage Hindrance) → IsTrue (is_message_event n.kind) → (r >>= (λ message. Ok (Some (awaiteds.Message message)))) ≡ Ok (Some event) → P (catch_of event) n.id
      by_message (Err e) caught is = absurd (cc)
      by_message (Ok message) caught is = let same : awaiteds.Message message ≡ event = cc in subst (λ (x : Awaited). P (catch_of x) n.id) same (may catches.Message caught)

      by_due : (form : TimeForm) (r : Result ℕ Hindrance) → time_form n.kind ≡ Some form → (r >>= (λ due. Ok (Some (awaiteds.Time due)))) ≡ Ok (Some event) → P (catch_of event) n.id
      by_due form (Err e) timed is = absurd (cc)
      by_due form (Ok due) timed is = let same : awaiteds.Time due ≡ event = cc in subst (λ (x : Awaited). P (catch_of x) n.id) same (may catches.Time (rw timed refl))

      by_form : (form : Option TimeForm) → time_form n.kind ≡ form → option_map_or (λ f. due_by names moment f n.expr >>= (λ due. Ok (Some (awaiteds.Time due)))) form (Ok None) ≡ Ok (Some event) → P (catch_of event) n.id
      by_form None timed is = absurd (cc)
      by_form (Some form) timed is = by_due form (due_by names moment form n.expr) timed is

      by_kind : (t : Bool) → is_message_event n.kind ≡ t → (if t then message_by names m n >>= (λ message. Ok (Some (awaiteds.Message message)))
          else option_map_or (λ f. due_by names moment f n.expr >>= (λ due. Ok (Some (awaiteds.Time due)))) (time_form n.kind) (Ok None)) ≡ Ok (Some event) → P (catch_of event) n.id
      by_kind true caught is = by_message (message_by names m n) caught is
      by_kind false none is = by_form (time_form n.kind) refl is

  -- each is of one of the nodes, at which that is caught
  pub opened_from : (ns : List Node) (os : List Opening) → All MayOpen ns → openings_in names moment m ns ≡ Ok os → Are (length ns) os
  opened_from [] os each is = no_openings 0 os (Ok []) refl is
  opened_from (n ∷ ns) os each is = by_event (event_by names moment m n) refl (λ later opens. opened_from ns later (All-tail MayOpen n ns each) opens) is
    where
      Later : Type 0
      Later = (later : List Opening) → openings_in names moment m ns ≡ Ok later → Are (length ns) later

      one_more : (event : Option Awaited) (later : List Opening) → event_by names moment m n ≡ Ok event → Are (length ns) later → Are (length (n ∷ ns)) (opened_at n event ++ later)
      one_more None later gives r = (r.0, omega (arith, r.1))
      one_more (Some event) later gives r = (All-cons Is (record { node = n.id; event = event }) later (event_may n event (All-head MayOpen n ns each) gives) r.0, omega (arith, r.1))

      by_rest : (event : Option Awaited) (rest : Result (List Opening) Hindrance) → event_by names moment m n ≡ Ok event → openings_in names moment m ns ≡ rest → Later → (rest >>= (λ later. Ok (opened_at n event ++ later))) ≡ Ok os → Are (length (n ∷ ns)) os
      by_rest event (Err e) gives opens behind is = absurd (cc)
      by_rest event (Ok later) gives opens behind is =
          let same : opened_at n event ++ later ≡ os = cc in
          subst (Are (length (n ∷ ns))) same (one_more event later gives (behind later opens))

      by_event : (r : Result (Option Awaited) Hindrance) → event_by names moment m n ≡ r → Later → (r >>= (λ event. openings_in names moment m ns >>= (λ later. Ok (opened_at n event ++ later)))) ≡ Ok os → Are (length (n ∷ ns)) os
      by_event (Err e) gives behind is = absurd (cc)
      by_event (Ok event) gives behind is = by_rest event (openings_in names moment m ns) gives refl behind is

-- no more pass than there are
fewer_kept : {A : Type 0} (keep : A → Bool) (xs : List A) → length (filter keep xs) ≤ length xs
fewer_kept keep [] = omega arith
fewer_kept keep (x ∷ xs) = by_test (keep x) (fewer_kept keep xs)
  where
    by_test : (t : Bool) → length (filter keep xs) ≤ length xs → length (cond t (x ∷ filter keep xs) (filter keep xs)) ≤ length (x ∷ xs)
    by_test true later = omega (arith, later)
    by_test false later = omega (arith, later)

-- in a model without faults, a cell at a node waits for what is caught at each of the nodes whose events it waits for
module _ (m : Model) (formed : IsTrue (is_well_formed m)) (c : Cell) (n : Node) (at : node_with m c.node ≡ Some n) where
  abbrev Waits : Node → Type 0
  Waits x = (catch : Catch) → IsTrue (is_caught_at x.kind catch) → IsTrue (is_awaited_at catch m c n x.id)

  own_awaited : IsTrue (waits_itself c n) → Waits n
  own_awaited itself catch caught =
      let named : bytes_eq n.id c.node ≡ true = found_passes (λ (x : Node). bytes_eq x.id c.node) m.nodes n at in
      let one = (bytes_eq-Decides n.id c.node).0 named in
      let found : node_with m n.id ≡ Some n = subst (λ id. node_with m id ≡ Some n) (sym one) at in
      let same : bytes_eq c.node n.id ≡ true = subst (λ id. bytes_eq id n.id ≡ true) one (same_bytes n.id) in
      rw (found, same, itself, caught) refl

  its_own : (own : Bool) → waits_itself c n ≡ own → All Waits (if own then n ∷ [] else []) × (length (if own then n ∷ [] else []) ≤ 1)
  its_own true is = (All-cons Waits n [] (own_awaited is) (All-nil Waits), omega arith)
  its_own false is = (All-nil Waits, omega arith)

  one_beside : (x : Node) → node_with m x.id ≡ Some x → waits_beside m c n x ≡ true → Waits x
  one_beside x found its catch caught = rw found (and_from ((bytes_eq c.node x.id && waits_itself c n) || waits_beside m c n x) (is_caught_at x.kind catch) (or_right (bytes_eq c.node x.id && waits_itself c n) (waits_beside m c n x) its) caught)

  beside_awaited : All Waits (filter (waits_beside m c n) m.nodes)
  beside_awaited =
      let ids = All-filter (waits_beside m c n) (λ (x : Node). node_with m x.id ≡ Some x) m.nodes (nodes_found m formed) in
      let pass = filter_passes (waits_beside m c n) m.nodes in
      λ k d within catch caught. one_beside (get_or (filter (waits_beside m c n) m.nodes) k d) (ids k d within) (pass k d within) catch caught

  -- and there is at most one more than the model has nodes
  pub all_awaited : All Waits (awaited m c n) × (length (awaited m c n) ≤ most_nodes + 1)
  all_awaited =
      let own = its_own (waits_itself c n) refl in
      let here = if waits_itself c n then n ∷ [] else [] in
      let others = filter (waits_beside m c n) m.nodes in
      let whole = length-append here others in
      let few = fewer_kept (waits_beside m c n) m.nodes in
      let nodes = nodes_few m formed in
      (All-append Waits here others own.0 beside_awaited, omega (arith, whole, own.1, few, nodes))

-- what opens for a cell does at nodes for whose event it waits, and there is little of it
module _ (b : Board) (moment : ℕ) (c : Cell) (formed : (m : Model) → model_under b c.definition ≡ Some m → IsTrue (is_well_formed m)) (os : List Opening) where
  abbrev Opens : Catch → List ℕ → Type 0
  Opens catch id = IsTrue (awaits catch b c id)

  abbrev names : List ℕ → Option Value
  names = value_seen b c.key

  at_node : (m : Model) (found : Option Node) → model_under b c.definition ≡ Some m → node_of b c ≡ found → option_map_or (λ n. openings_in names moment m (awaited m c n)) found (Ok []) ≡ Ok os → Are names moment m Opens (most_nodes + 1) os
  at_node m None stands at is = no_openings names moment m Opens (most_nodes + 1) os (Ok []) refl is
  at_node m (Some n) stands at is =
      let inner = by_root (is_root c) refl at in
      let all = all_awaited m (formed m stands) c n inner in
      let each : All (MayOpen names moment m Opens) (awaited m c n) = λ k d within catch caught. rw (at, stands) (all.0 k d within catch caught) in
      let r = opened_from names moment m Opens (awaited m c n) os each is in
      (r.0, omega (arith, r.1, all.1))
    where
      by_root : (root : Bool) → is_root c ≡ root → node_of b c ≡ Some n → node_with m c.node ≡ Some n
      by_root true is_one at = let none : None ≡ Some n = rw is_one at at in absurd (cc)
      by_root false inner at = rw (inner, stands) at at

  at_model : (found : Option Model) → model_under b c.definition ≡ found → option_map_or (λ m. option_map_or (λ n. openings_in names moment m (awaited m c n)) (node_of b c) (Ok [])) found (Ok []) ≡ Ok os
      → All (λ (o : Opening). IsTrue (awaits (catch_of o.event) b c o.node)) os × (length os ≤ most_nodes + 1)
  at_model None stands is = subst (λ (l : List Opening). All (λ (o : Opening). IsTrue (awaits (catch_of o.event) b c o.node)) l × (length l ≤ most_nodes + 1)) (let same : [] ≡ os = cc in same) (All-nil (λ (o : Opening). IsTrue (awaits (catch_of o.event) b c o.node)), omega arith)
  at_model (Some m) stands is = at_node m (node_of b c) stands refl is

  -- each timer or subscription that opens is at a node for whose event the cell waits, and there are no more of them than nodes and one
  pub openings_may : openings_of b moment c ≡ Ok os → All (λ (o : Opening). IsTrue (awaits (catch_of o.event) b c o.node)) os × (length os ≤ most_nodes + 1)
  openings_may is = at_model (model_under b c.definition) refl is

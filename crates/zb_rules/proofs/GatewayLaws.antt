-- A cell at an event gateway is left by one way alone: that to the node whose event has come.
use Rattle.std.proofs.Common.{◌≡◌, ℕ, ◌≤◌, ◌+◌, ◌==◌, List, [], ◌∷◌, map, filter, count_by, length, Bool, true, false, cond, ◌&&◌, ◌||◌, not, nat_lt, if◌then◌else◌, IsTrue, IsFalse, All, get_or, Option, Some, None, refl, ap, subst, arith, ⊎_elim}
use Rattle.std.specs.Option.{option_map_or}
use Rattle.std.specs.List.{find}
use Rattle.std.specs.Str.{bytes_eq}
use Rattle.std.proofs.lemmas.Bool.{and_parts, or_parts}
use Rattle.std.proofs.lemmas.Bool.Decides.{nat_tests}
use Rattle.std.proofs.lemmas.List.{length-map}
use Rattle.std.proofs.lemmas.List.Elements.{All-filter, filter_passes}
use Rattle.std.proofs.lemmas.List.Sums.{sum_by-append}
use Rattle.std.proofs.lemmas.Slice.Eq.{bytes_eq-Decides}
use Rattle.zb_process.specs.declared.model.Model.{Model}
use Rattle.zb_process.specs.declared.model.Node.{Node}
use Rattle.zb_process.specs.declared.model.Flow.{Flow}
use Rattle.zb_faults.specs.Elements.{node_with, incoming, outgoing, is_at, is_activity, is_catch, is_event_gateway}
use Rattle.zb_faults.specs.Faults.{is_well_formed, is_alternative, strays, lacks_alternatives}
use Rattle.zb_faults.proofs.FaultLaws.{well_formed_has_none}
use Rattle.zb_tokens.specs.declared.board.Cell.{Cell}
use Rattle.zb_tokens.specs.declared.board.Leave.{Leave}
use Rattle.zb_tokens.specs.declared.board.Mark.{Mark}
use Rattle.zb_tokens.specs.declared.board.Mark.TheVariants as marks
use Rattle.zb_tokens.specs.declared.board.Move.TheVariants as moves
use Rattle.zb_tokens.specs.declared.board.Phase.TheVariants as phases
use Rattle.zb_tokens.specs.Board.{Board, cell_at, model_under, is_phase, is_root, owes_none}
use Rattle.zb_tokens.specs.Game.{fits}
use Rattle.zb_tokens.proofs.GameLaws.{both_left, both_right, found_holds, found_passes, none_found}
use Rattle.zb_tokens.specs.MoveLeave.{are_among, flows_of, may_owe, may_take}
use Rattle.zb_tokens.specs.MoveTrigger.{awaits_event, fits_trigger, is_gateway_cell}
use Rattle.zb_process.specs.declared.model.NodeKind.{NodeKind}
use Rattle.zb_process.specs.declared.model.NodeKind.TheVariants as kinds
use Rattle.zb_rules.proofs.CatchLaws.{ComesAbout, waits_or_catches, caught_node}
use Rattle.zb_tokens.specs.declared.board.Catch.TheVariants as catches
use Rattle.zb_tokens.specs.Catches.{awaits}
use Rattle.zb_tokens.specs.Doom.{is_doomed}
use Rattle.zb_tokens.specs.Marks.{error_of, has_come_about, is_unset}
use Rattle.zb_tokens.specs.declared.board.Triggered.{Triggered}
use Rattle.zb_rules.proofs.HandlersLaws.{no_fault}
use Rattle.zb_rules.proofs.PlacedLaws.{none_passes}
use Rattle.zb_rules.proofs.ScopesLaws.{at_cell}

-- what is among others is no longer
among_few : (xs ys : List (List ℕ)) → are_among xs ys ≡ true → length xs ≤ length ys
among_few [] ys is = omega arith
among_few (x ∷ xs) [] is = absurd (cc)
among_few (x ∷ xs) (y ∷ ys) is = by_test (bytes_eq x y) is (λ later. among_few xs ys later) (λ later. among_few (x ∷ xs) ys later)
  where
    by_test : (t : Bool) → (if t then are_among xs ys else are_among (x ∷ xs) ys) ≡ true → (are_among xs ys ≡ true → length xs ≤ length ys) → (are_among (x ∷ xs) ys ≡ true → length (x ∷ xs) ≤ length ys) → length (x ∷ xs) ≤ length (y ∷ ys)
    by_test true is one other = let r = one is in omega (arith, r)
    by_test false is one other = let r = other is in omega (arith, r)

-- no more pass two tests than one
module _ {A : Type 0} (passes keep : A → Bool) where
  both_few : (xs : List A) → length (filter passes (filter keep xs)) ≤ count_by passes xs
  both_few [] = omega arith
  both_few (x ∷ xs) = by_tests (keep x) (passes x) refl (sum_by-append (λ (y : A). cond (passes y) 1 0) (x ∷ []) xs) (both_few xs)
    where
      by_tests : (k t : Bool) → passes x ≡ t → count_by passes (x ∷ xs) ≡ count_by passes (x ∷ []) + count_by passes xs → length (filter passes (filter keep xs)) ≤ count_by passes xs → length (filter passes (cond k (x ∷ filter keep xs) (filter keep xs))) ≤ count_by passes (x ∷ xs)
      by_tests true true it whole later = rw (whole, it) (omega (arith, later))
      by_tests true false out whole later = rw (whole, out) (omega (arith, later))
      by_tests false true it whole later = rw (whole, it) (omega (arith, later))
      by_tests false false out whole later = rw (whole, out) (omega (arith, later))

none_kept : {A : Type 0} (passes : A → Bool) (xs : List A) → find passes xs ≡ None → filter passes xs ≡ []
none_kept passes [] is = refl
none_kept passes (x ∷ xs) is = by_test (passes x) is (λ later. none_kept passes xs later)
  where
    by_test : (t : Bool) → cond t (Some x) (find passes xs) ≡ None → (find passes xs ≡ None → filter passes xs ≡ []) → cond t (x ∷ filter passes xs) (filter passes xs) ≡ []
    by_test true is later = absurd (cc)
    by_test false is later = later is

-- in a model without faults one flow alone leads to a node behind an event gateway
module _ (m : Model) (good : IsTrue (is_well_formed m)) (id : List ℕ) (n : Node) (at : node_with m id ≡ Some n) (gateway : IsTrue (is_event_gateway n.kind)) where
  no_strays : strays m n.id ≡ false
  no_strays =
      let none = well_formed_has_none m good in
      let fine = none_found (lacks_alternatives m) (λ (x : Node). lacks_alternatives m x ≡ false) (λ x out. out) m.nodes (no_fault (λ (x : Node). x.id) (find (lacks_alternatives m) m.nodes) none.1.1.1.1.1.1.1.1.1.1.0) in
      let its : lacks_alternatives m n ≡ false = (found_holds (λ (x : Node). bytes_eq x.id id) (λ (x : Node). lacks_alternatives m x ≡ false) m.nodes n fine at).0 in
      let both : (nat_lt (outgoing m n.id) 2 || strays m n.id) ≡ false = rw gateway at its in
      (or_parts (nat_lt (outgoing m n.id) 2) (strays m n.id) both).1

  one_by : (f : Flow) → (not (is_alternative m f) && bytes_eq f.from n.id) ≡ false → bytes_eq f.from n.id ≡ true → incoming m f.to ≡ 1
  one_by f out leaves = by_test (is_alternative m f) refl
    where
      by_test : (t : Bool) → is_alternative m f ≡ t → incoming m f.to ≡ 1
      by_test true is = let one = (and_parts (is_at m f.to is_catch) (incoming m f.to == 1) is).1 in grind (arith, nat_tests)
      by_test false is = absurd (let it : (not (is_alternative m f) && bytes_eq f.from n.id) ≡ true = rw (is, leaves) refl in cc)

  each_one : All (λ (f : Flow). incoming m f.to ≡ 1) (filter (λ f. bytes_eq f.from n.id) m.flows)
  each_one =
      let out = none_passes (λ (f : Flow). not (is_alternative m f) && bytes_eq f.from n.id) m.flows no_strays in
      let those = All-filter (λ (f : Flow). bytes_eq f.from n.id) (λ (f : Flow). (not (is_alternative m f) && bytes_eq f.from n.id) ≡ false) m.flows out in
      let leave = filter_passes (λ (f : Flow). bytes_eq f.from n.id) m.flows in
      λ k d within. one_by (get_or (filter (λ f. bytes_eq f.from n.id) m.flows) k d) (those k d within) (leave k d within)

  to_node : (node : List ℕ) (found : Option Flow) → find (λ f. bytes_eq f.to node) (filter (λ f. bytes_eq f.from n.id) m.flows) ≡ found → length (filter (λ f. bytes_eq f.to node) (filter (λ f. bytes_eq f.from n.id) m.flows)) ≤ 1
  to_node node None is = rw (none_kept (λ (f : Flow). bytes_eq f.to node) (filter (λ f. bytes_eq f.from n.id) m.flows) is) (omega arith)
  to_node node (Some f) is =
      let r = found_holds (λ (x : Flow). bytes_eq x.to node) (λ (x : Flow). incoming m x.to ≡ 1) (filter (λ x. bytes_eq x.from n.id) m.flows) f each_one is in
      let same = (bytes_eq-Decides f.to node).0 r.1 in
      let one : incoming m node ≡ 1 = subst (λ x. incoming m x ≡ 1) same r.0 in
      let few = both_few (λ (x : Flow). bytes_eq x.to node) (λ (x : Flow). bytes_eq x.from n.id) m.flows in
      omega (arith, one, few)

  -- so a cell there has one way at most
  one_way : (c : Cell) (mark : Mark) → c.mark ≡ mark → length (filter (may_take true c) (filter (λ f. bytes_eq f.from n.id) m.flows)) ≤ 1
  one_way c (marks.Chosen node) is = rw is (to_node node (find (λ f. bytes_eq f.to node) (filter (λ f. bytes_eq f.from n.id) m.flows)) refl)
  one_way c mark is = rw is (no_way (filter (λ f. bytes_eq f.from n.id) m.flows))
    where
      no_way : (fs : List Flow) → length (filter (λ (f : Flow). false) fs) ≤ 1
      no_way [] = omega arith
      no_way (f ∷ fs) = no_way fs

module _ (b : Board) (c : Cell) (m : Model) (formed : IsTrue (is_well_formed m)) (stands : model_under b c.definition ≡ Some m) where
  few_flows : (found : Option Node) → owes_none c ≡ false → node_with m c.node ≡ found → IsTrue (option_map_or (λ n. is_event_gateway n.kind) found false) → length (flows_of b c) ≤ 1
  few_flows None leaves at gateway = absurd (cc)
  few_flows (Some n) leaves at gateway =
      let named : bytes_eq n.id c.node ≡ true = found_passes (λ (x : Node). bytes_eq x.id c.node) m.nodes n at in
      let same = (bytes_eq-Decides n.id c.node).0 named in
      let its : flows_of b c ≡ map (λ f. f.id) (filter (may_take true c) (filter (λ f. bytes_eq f.from c.node) m.flows)) = rw (leaves, stands, at, gateway) refl in
      let one = one_way m formed c.node n at gateway c c.mark refl in
      let here : length (filter (may_take true c) (filter (λ f. bytes_eq f.from c.node) m.flows)) ≤ 1 = subst (λ id. length (filter (may_take true c) (filter (λ (f : Flow). bytes_eq f.from id) m.flows)) ≤ 1) same one in
      let mapped = length-map (filter (may_take true c) (filter (λ f. bytes_eq f.from c.node) m.flows)) (λ (f : Flow). f.id) in
      let whole = ap length its in
      omega (arith, here, mapped, whole)

  few_by : (none : Bool) → owes_none c ≡ none → IsTrue (is_gateway_cell b c) → length (flows_of b c) ≤ 1
  few_by true is gateway = rw is (omega arith)
  few_by false is gateway = let inner = (or_parts (is_root c) _ is).0 in few_flows (node_with m c.node) is refl (rw (inner, stands) at gateway)

-- a cell at an event gateway leaves by one flow at most
pub leaves_one_way : (b : Board) (l : Leave) (c : Cell) (m : Model) → IsTrue (is_well_formed m) → cell_at b l.key ≡ Some c → model_under b c.definition ≡ Some m → IsTrue (is_gateway_cell b c) → IsTrue (fits b (moves.Leave l)) → length l.owed ≤ 1
leaves_one_way b l c m formed found stands gateway fit =
    let h = at_cell (λ (x : Cell). is_phase x.phase phases.Completing && may_owe b x l.owed) (cell_at b l.key) c found fit in
    let among = both_left (are_among l.owed (flows_of b c)) _ (both_right (is_phase c.phase phases.Completing) (may_owe b c l.owed) h) in
    let few = few_by b c m formed stands (owes_none c) refl gateway in
    let less = among_few l.owed (flows_of b c) among in
    omega (arith, few, less)

-- and one that was told of an event is told of no other
pub told_once : (b : Board) (t : Triggered) (c : Cell) → cell_at b t.cell ≡ Some c → IsTrue (is_gateway_cell b c) → IsTrue (has_come_about c.mark) → IsFalse (fits_trigger b t)
told_once b t c found gateway come = by_test (fits_trigger b t) refl
  where
    come_apart : (mark : Mark) → IsTrue (has_come_about mark) → (is_unset mark ≡ false) × (error_of mark ≡ None)
    come_apart marks.Done is = (refl, refl)
    come_apart (marks.Chosen node) is = (refl, refl)
    come_apart mark is = absurd (cc)

    none_of_both : (x y : Bool) → ((x && false) && y) ≡ false
    none_of_both true y = refl
    none_of_both false y = refl

    not_awaited : IsTrue (awaits_event b t c) → ⊥
    not_awaited waits =
        let apart = come_apart c.mark come in
        let unset = apart.0 in
        let error = apart.1 in
        let none : awaits_event b t c ≡ false = rw (unset, error) (none_of_both (is_phase c.phase phases.Active && not (is_doomed b c)) (awaits catches.Time b c t.node || awaits catches.Message b c t.node)) in
        cc

    no_gateway : (kind : NodeKind) → IsTrue (is_activity kind) → is_event_gateway kind ≡ false
    no_gateway kinds.ServiceTask is = refl
    no_gateway kinds.ReceiveTask is = refl
    no_gateway kinds.SubProcess is = refl
    no_gateway kind is = absurd (cc)

    not_caught : (d : Cell) → ComesAbout b t d → ⊥
    not_caught d comes =
        let n = caught_node b t c d comes found in
        let at = n.1 in
        let other = no_gateway n.0.kind n.2 in
        let none : is_gateway_cell b c ≡ false = rw (at, other) refl in
        cc

    by_test : (fit : Bool) → fits_trigger b t ≡ fit → fit ≡ false
    by_test false is = refl
    by_test true is = absurd (⊎_elim (λ waits. not_awaited (at_cell (awaits_event b t) (cell_at b t.cell) c found waits)) (λ r. not_caught r.0 r.2) (waits_or_catches (λ (x : Cell). Unit {0}) b t (λ k d within. tt) is))

-- The nodes of a model without faults have ids of their own, and there are few.
use Rattle.std.proofs.Common.{◌≡◌, ℕ, ◌≤◌, List, [], ◌∷◌, ◌++◌, map, length, All, Bool, true, false, cond, IsTrue, Some, None, refl, subst}
use Rattle.std.specs.List.{find}
use Rattle.std.specs.Str.{bytes_eq}
use Rattle.std.proofs.lemmas.Bool.{or_right}
use Rattle.std.proofs.lemmas.List.Elements.{All-nil, All-cons}
use Rattle.std.proofs.lemmas.Slice.Eq.{bytes_eq-Decides}
use Rattle.zb_process.specs.declared.model.Model.{Model}
use Rattle.zb_process.specs.declared.model.Node.{Node}
use Rattle.zb_process.specs.declared.model.Flow.{Flow}
use Rattle.zb_faults.specs.Elements.{node_with}
use Rattle.zb_faults.specs.Faults.{find_behind, has_id, double_id, is_well_formed, most_nodes}
use Rattle.zb_faults.proofs.FaultLaws.{well_formed_has_none, sizes_are_bound}
use Rattle.zb_tokens.proofs.LeaveLaws.{same_bytes}

abbrev ids : List Node → List (List ℕ)
ids ns = map (λ n. n.id) ns

-- an id that was used before isn't that of a node behind
none_behind : (before : List (List ℕ)) (ns : List Node) (rest : List (List ℕ)) (id : List ℕ) → find_behind has_id before (ids ns ++ rest) ≡ None → has_id before id ≡ true → All (λ (n : Node). bytes_eq id n.id ≡ false) ns
none_behind before [] rest id none used = All-nil (λ (n : Node). bytes_eq id n.id ≡ false)
none_behind before (n ∷ ns) rest id none used = by_test (has_id before n.id) refl none (λ later. none_behind (n.id ∷ before) ns rest id later (or_right (bytes_eq n.id id) (has_id before id) used))
  where
    differs : (same : Bool) → has_id before n.id ≡ false → bytes_eq id n.id ≡ same → same ≡ false
    differs false fresh other = refl
    differs true fresh same =
        let one = (bytes_eq-Decides id n.id).0 same in
        let its : has_id before n.id ≡ true = subst (λ x. has_id before x ≡ true) one used in
        absurd (cc)

    by_test : (t : Bool) → has_id before n.id ≡ t → cond t (Some n.id) (find_behind has_id (n.id ∷ before) (ids ns ++ rest)) ≡ None
        → (find_behind has_id (n.id ∷ before) (ids ns ++ rest) ≡ None → All (λ (x : Node). bytes_eq id x.id ≡ false) ns) → All (λ (x : Node). bytes_eq id x.id ≡ false) (n ∷ ns)
    by_test true it found later = absurd (cc)
    by_test false it found later = All-cons (λ (x : Node). bytes_eq id x.id ≡ false) n ns (differs (bytes_eq id n.id) it refl) (later found)

-- each node of a list is the one that is found in it by its id
all_found : (before : List (List ℕ)) (ns : List Node) (rest : List (List ℕ)) → find_behind has_id before (ids ns ++ rest) ≡ None → All (λ (x : Node). find (λ (n : Node). bytes_eq n.id x.id) ns ≡ Some x) ns
all_found before [] rest none = All-nil (λ (x : Node). find (λ (n : Node). bytes_eq n.id x.id) [] ≡ Some x)
all_found before (n ∷ ns) rest none = by_test (has_id before n.id) none (λ found. all_found (n.id ∷ before) ns rest found)
  where
    Found : Node → Type 0
    Found x = find (λ (y : Node). bytes_eq y.id x.id) (n ∷ ns) ≡ Some x

    here : Found n
    here = let same = same_bytes n.id in rw same refl

    used : has_id (n.id ∷ before) n.id ≡ true
    used = let same = same_bytes n.id in rw same refl

    by_test : (t : Bool) → cond t (Some n.id) (find_behind has_id (n.id ∷ before) (ids ns ++ rest)) ≡ None
        → (find_behind has_id (n.id ∷ before) (ids ns ++ rest) ≡ None → All (λ (x : Node). find (λ (y : Node). bytes_eq y.id x.id) ns ≡ Some x) ns) → All Found (n ∷ ns)
    by_test true found behind = absurd (cc)
    by_test false found behind =
        let later = behind found in
        let apart = none_behind (n.id ∷ before) ns rest n.id found used in
        All-cons Found n ns here (λ k d within. let other = apart k d within in let its = later k d within in rw other its)

no_double : (m : Model) → IsTrue (is_well_formed m) → double_id m ≡ None
no_double m good = (well_formed_has_none m good).1.0

-- each node is the one with its id
pub nodes_found : (m : Model) → IsTrue (is_well_formed m) → All (λ (n : Node). node_with m n.id ≡ Some n) m.nodes
nodes_found m good = by_test (has_id [] m.process) (no_double m good)
  where
    by_test : (t : Bool) → cond t (Some m.process) (find_behind has_id (m.process ∷ []) (ids m.nodes ++ map (λ (f : Flow). f.id) m.flows)) ≡ None → All (λ (n : Node). node_with m n.id ≡ Some n) m.nodes
    by_test true found = absurd (cc)
    by_test false found = all_found (m.process ∷ []) m.nodes (map (λ (f : Flow). f.id) m.flows) found

-- and there are at most so many
pub nodes_few : (m : Model) → IsTrue (is_well_formed m) → length m.nodes ≤ most_nodes
nodes_few m good = (sizes_are_bound m good).0

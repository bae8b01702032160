-- What a state lends of its rows.
use Rattle.std.proofs.Common.{◌≡◌, ℕ, ◌==◌, ◌&&◌, ◌||◌, List, [], ◌∷◌, map, filter, bytes_eq, Bool, true, false, cond, if◌then◌else◌, Option, Some, None, All, refl, ap}
use Rattle.std.specs.List.{find, list_any}
use Rattle.std.specs.Option.{option_map_or}
use Rattle.std.proofs.lemmas.List.Elements.{All-head, All-tail}
use Rattle.zb_exchange_records.specs.declared.message.MessagePublished.{MessagePublished}
use Rattle.zb_exchange_records.specs.declared.message.MessagePublish.{MessagePublish}
use Rattle.zb_table.specs.Rows.{Ascend}
use Rattle.zb_table.proofs.Ascending.{finds_own}
use Rattle.zb_views.specs.declared.job.Job.{Job}
use Rattle.zb_views.specs.Jobs.{is_activatable, is_offered}
use Rattle.zb_lists.specs.Listed.{is_label}
use Rattle.zb_rules.specs.Publish.{is_same}
use Rattle.zb_state.specs.Listing.{offered_as}
use Rattle.zb_tables.specs.Messages.{is_addressed}

-- the jobs that are listed under a type are those that are offered as it
pub offered_listed : (kind : List ℕ) (js : List Job) → filter (λ j. is_label kind [] (offered_as j)) js ≡ filter (is_offered kind) js
offered_listed kind [] = refl
offered_listed kind (j ∷ js) = rw (here (is_activatable j.phase) (bytes_eq j.kind kind)) (ap (λ (l : List Job). cond (is_activatable j.phase && bytes_eq j.kind kind) (j ∷ l) l) (offered_listed kind js))
  where
    here : (t u : Bool) → is_label kind [] (if t then Some (j.kind, []) else None) ≡ (t && bytes_eq j.kind kind)
    here true u = alone (bytes_eq j.kind kind)
      where
        alone : (b : Bool) → (b && true) ≡ b
        alone true = refl
        alone false = refl
    here false u = refl

-- a message that is buffered has an id where the message with its key has it
abbrev has_id : List ℕ → List MessagePublished → ℕ → Bool
has_id id all k = option_map_or (λ m. bytes_eq m.id id) (find (λ m. m.key == k) all) false

-- of those with a name and a correlation key one has an id where one of all is the same
same_among : (c : MessagePublish) (all ms : List MessagePublished) → All (λ m. find (λ x. x.key == m.key) all ≡ Some m) ms
    → list_any (has_id c.id all) (map (λ m. m.key) (filter (is_addressed c.name c.correlation_key) ms)) ≡ list_any (is_same c) ms
same_among c all [] found = refl
same_among c all (m ∷ ms) found =
    by_test (is_addressed c.name c.correlation_key m) (same_among c all ms (All-tail (λ (x : MessagePublished). find (λ y. y.key == x.key) all ≡ Some x) m ms found))
  where
    its : has_id c.id all m.key ≡ bytes_eq m.id c.id
    its = ap (λ (o : Option MessagePublished). option_map_or (λ x. bytes_eq x.id c.id) o false) (All-head (λ (x : MessagePublished). find (λ y. y.key == x.key) all ≡ Some x) m ms found)

    by_test : (t : Bool) → list_any (has_id c.id all) (map (λ x. x.key) (filter (is_addressed c.name c.correlation_key) ms)) ≡ list_any (is_same c) ms
        → list_any (has_id c.id all) (map (λ x. x.key) (cond t (m ∷ filter (is_addressed c.name c.correlation_key) ms) (filter (is_addressed c.name c.correlation_key) ms))) ≡ ((t && bytes_eq m.id c.id) || list_any (is_same c) ms)
    by_test true later = rw (its, later) refl
    by_test false later = later

pub same_there : (c : MessagePublish) (ms : List MessagePublished) → Ascend (λ m. m.key) 0 ms → list_any (has_id c.id ms) (map (λ m. m.key) (filter (is_addressed c.name c.correlation_key) ms)) ≡ list_any (is_same c) ms
same_there c ms up = same_among c ms ms (λ i d within. finds_own (λ (m : MessagePublished). m.key) 0 ms i d within up)

-- A key that is drawn freshly is of its partition, and no event before names it; and which messages are buffered.
use Rattle.std.proofs.Common.{◌≡◌, ◌≤◌, ℕ, ◌+◌, ◌/◌, ◌<◌, ◌^◌, ◌==◌, ◌&&◌, not, nat_le, List, [], ◌∷◌, ◌++◌, map, Bool, true, false, ◌||◌, if◌then◌else◌, Some, Contains, inl, inr, refl, ap, sym, ◌∙◌, arith}
use Rattle.std.specs.List.{find, flat_map, list_any}
use Rattle.std.specs.Option.{option_map_or}
use Rattle.std.proofs.lemmas.Bool.Decides.{nat_tests}
use Rattle.std.proofs.lemmas.List.Folds.{list_any-append}
use Rattle.zb_exchange_records.specs.declared.message.MessagePublished.{MessagePublished}
use Rattle.zb_model.specs.declared.record.Event.{Event}
use Rattle.zb_model.specs.declared.record.Event.TheVariants as events
use Rattle.zb_views.specs.View.{keys_in, counter_at, greatest_among, greatest_counter, next_key}
use Rattle.zb_views.proofs.CounterLaws.{counter_at-key_of}
use Rattle.zb_views.specs.Standing.{lasting, standing_behind}
use Rattle.zb_views.specs.Messages.{message_sort, expiry_told, is_buffered}
use Rattle.zb_once.proofs.ListLemmas.{nothing_in, first_or_later, flat_in}
use Rattle.zb_once.specs.Tellings.{home}
use Rattle.zb_once.specs.Views.{expires, publishes, still_buffered}
use Rattle.zb_world.specs.Tellings.{tells}

-- no key of some has a counter beyond the greatest of them
counted : (p key : ℕ) (keys : List ℕ) → Contains keys key → counter_at p key ≤ greatest_among p keys
counted p key [] is = absurd (nothing_in key is)
counted p key (k ∷ keys) is = elim (first_or_later k key keys is) [
  | inl same ↦ let one : counter_at p key ≡ counter_at p k = ap (counter_at p) same in omega (arith, one)
  | inr rest ↦ omega (arith, counted p key keys rest)
]

-- no event before names the next key
pub unnamed : (p : ℕ) (before : List Event) (e : Event) → greatest_counter p before + 1 < 2 ^ 51 → Contains before e → Contains (keys_in e) (next_key p before) → ⊥
unnamed p before e left among names =
    let its = counter_at-key_of p (greatest_counter p before + 1) left in
    let most = counted p (next_key p before) (flat_map keys_in before) (flat_in keys_in before e (next_key p before) among names) in
    omega (arith, its, most)

-- and it is of its partition
pub drawn_home : (n p : ℕ) (before : List Event) → 1 ≤ p → p ≤ n → greatest_counter p before + 1 < 2 ^ 51 → home n (next_key p before) ≡ p
unfolding home
drawn_home n p before low high left =
    let q : next_key p before / 2 ^ 51 ≡ p = omega (arith, left) in
    let a : nat_le 1 (next_key p before / 2 ^ 51) ≡ true = grind (arith, nat_tests) in
    let b : nat_le (next_key p before / 2 ^ 51) n ≡ true = grind (arith, nat_tests) in
    rw (a, b) q

-- a message stays as long as no event says that it has expired
lasting_is : (m : ℕ) (x : MessagePublished) (before after : List Event) → list_any (λ y. y.key == m) (lasting message_sort before after x) ≡ (x.key == m) && not (list_any (expires m) (map tells after))
lasting_is m x before [] = by_key (x.key == m)
  where
    by_key : (b : Bool) → (b || false) ≡ (b && true)
    by_key true = refl
    by_key false = refl
lasting_is m x before (e ∷ after) = by_event e (lasting_is m x (before ++ e ∷ []) after)
  where
    by_event : (e : Event) → list_any (λ y. y.key == m) (lasting message_sort (before ++ e ∷ []) after x) ≡ (x.key == m) && not (list_any (expires m) (map tells after))
        → list_any (λ y. y.key == m) (if option_map_or (λ key. x.key == key) (expiry_told e) false then [] else lasting message_sort (before ++ e ∷ []) after x)
        ≡ (x.key == m) && not (expires m (tells e) || list_any (expires m) (map tells after))
    by_event (events.MessageExpired key) later = by_key (x.key == key) refl
      where
        passed : (its rest : Bool) → false ≡ (its && not (its || rest))
        passed true rest = refl
        passed false rest = refl

        kept : (its other rest : Bool) → (its ≡ true → other ≡ false) → (its && not rest) ≡ (its && not (other || rest))
        kept true other rest apart = rw (apart refl) refl
        kept false other rest apart = refl

        by_key : (gone : Bool) → (x.key == key) ≡ gone → list_any (λ y. y.key == m) (if gone then [] else lasting message_sort (before ++ events.MessageExpired key ∷ []) after x) ≡ (x.key == m) && not ((key == m) || list_any (expires m) (map tells after))
        by_key true same =
            let one : x.key ≡ key = grind (arith, nat_tests) in
            let both : (x.key == m) ≡ (key == m) = ap (λ (k : ℕ). k == m) one in
            rw both (passed (key == m) (list_any (expires m) (map tells after)))
        by_key false other = later ∙ kept (x.key == m) (key == m) (list_any (expires m) (map tells after)) (λ its. let one : x.key ≡ m = grind (arith, nat_tests, its) in grind (arith, nat_tests, one, other))
    by_event _ later = later

-- the messages that are buffered are those
pub buffered_same : (m : ℕ) (es : List Event) → still_buffered m (map tells es) ≡ is_buffered m es
buffered_same m es = behind [] es
  where
    behind : (before es : List Event) → still_buffered m (map tells es) ≡ list_any (λ y. y.key == m) (standing_behind message_sort before es)
    behind before [] = refl
    behind before (e ∷ es) = rw (behind (before ++ e ∷ []) es) (by_event e)
      where
        by_event : (e : Event) → ((publishes m (tells e) && not (list_any (expires m) (map tells es))) || list_any (λ y. y.key == m) (standing_behind message_sort (before ++ e ∷ []) es))
            ≡ list_any (λ y. y.key == m) (standing_behind message_sort before (e ∷ es))
        by_event (events.MessagePublished x) =
            let next = before ++ events.MessagePublished x ∷ [] in
            sym (list_any-append (λ (y : MessagePublished). y.key == m) (lasting message_sort next es x) (standing_behind message_sort next es) ∙ rw (lasting_is m x next es) refl)
        by_event _ = refl

-- the message that is found has the key, and one with it is there
pub keyed : (key : ℕ) (ms : List MessagePublished) (m : MessagePublished) → find (λ (x : MessagePublished). x.key == key) ms ≡ Some m → m.key ≡ key
keyed key [] m is = absurd (cc)
keyed key (x ∷ ms) m is = by_test (x.key == key) refl (keyed key ms m) is
  where
    by_test : (t : Bool) → (x.key == key) ≡ t → (find (λ (y : MessagePublished). y.key == key) ms ≡ Some m → m.key ≡ key) → (if t then Some x else find (λ (y : MessagePublished). y.key == key) ms) ≡ Some m → m.key ≡ key
    by_test true same later is = let one : x ≡ m = cc in let its : x.key ≡ key = grind (arith, nat_tests, same) in ap (λ (y : MessagePublished). y.key) (sym one) ∙ its
    by_test false other later is = later is

pub any_found : (key : ℕ) (ms : List MessagePublished) (m : MessagePublished) → find (λ (x : MessagePublished). x.key == key) ms ≡ Some m → list_any (λ (x : MessagePublished). x.key == key) ms ≡ true
any_found key [] m is = absurd (cc)
any_found key (x ∷ ms) m is = by_test (x.key == key) (any_found key ms m) is
  where
    by_test : (t : Bool) → (find (λ (y : MessagePublished). y.key == key) ms ≡ Some m → list_any (λ (y : MessagePublished). y.key == key) ms ≡ true) → (if t then Some x else find (λ (y : MessagePublished). y.key == key) ms) ≡ Some m → (t || list_any (λ (y : MessagePublished). y.key == key) ms) ≡ true
    by_test true later is = refl
    by_test false later is = later is

-- What holds of the buffered messages of a log whose events apply.
use Rattle.std.proofs.Common.{◌≡◌, ℕ, zero, suc, ◌<◌, ◌==◌, List, [], ◌∷◌, ◌++◌, Bool, true, false, if◌then◌else◌, IsTrue, Some, None, All, Contains, refl, sym, ap, ◌∙◌, subst, arith}
use Rattle.std.specs.List.{find}
use Rattle.std.proofs.lemmas.Bool.Decides.{nat_tests}
use Rattle.std.proofs.lemmas.List.Elements.{All-nil, All-cons, All-append, All-head, All-tail, All-contains}
use Rattle.zb_base.specs.Vars.{is_ascending}
use Rattle.zb_exchange_records.specs.declared.message.MessagePublished.{MessagePublished}
use Rattle.zb_model.specs.declared.record.Event.{Event}
use Rattle.zb_model.specs.declared.record.Event.TheVariants as events
use Rattle.zb_views.specs.View.{next_key}
use Rattle.zb_views.specs.Standing.{left_by, begun_by}
use Rattle.zb_views.proofs.StandingLaws.{standing_more, each_left}
use Rattle.zb_views.specs.Messages.{message_told, message_sort, buffered, message_at}
use Rattle.zb_views.specs.Starts.{published_told, published_in}
use Rattle.zb_views.proofs.ToldLaws.{last_told_more}
use Rattle.zb_tokens.specs.Board.{Board}
use Rattle.zb_tokens.proofs.GameLaws.{both_left, both_right}
use Rattle.zb_rules.specs.Shown.{board_of}
use Rattle.zb_rules.specs.Applies.{is_fresh, all_apply}
use Rattle.zb_rules.proofs.AppliedLaws.{Advances, holds_of_all}
use Rattle.zb_rules.proofs.KeysLaws.{next_key_more, fresh_is, fresh_below, first_named}

-- a message is the last that was published under its key, which was drawn, and the names of its variables ascend
pub record IsKnownMessage (p : ℕ) (es : List Event) (m : MessagePublished) : Type 0 where
  pub last : published_in m.key es ≡ Some m
  pub drawn : m.key < next_key p es
  pub ascends : IsTrue (is_ascending m.variables)

-- each buffered message is
abbrev pub AreKnownMessages : ℕ → List Event → Board → Type 0
AreKnownMessages p es b = All (IsKnownMessage p es) (buffered es)

-- what is published has another key than one that was drawn before
other_told : (p : ℕ) (before : List Event) (b : Board) (e : Event) (after : Board) → Advances p before b e after → (key : ℕ) → key < next_key p before → published_told key e ≡ None
other_told p before b (events.MessagePublished m) after h key drawn =
    let f = fresh_is p before m.key (both_left (is_fresh p before m.key) _ h.own) in
    let other : (m.key == key) ≡ false = (let is = f.1 in grind (arith, nat_tests, is, drawn)) in
    rw other refl
other_told p before b e after h key drawn = refl

-- a message that is there stays known
still_known : (p : ℕ) (before : List Event) (b : Board) (e : Event) (after : Board) → Advances p before b e after → (m : MessagePublished) → IsKnownMessage p before m → IsKnownMessage p (before ++ e ∷ []) m
still_known p before b e after h m k = record {
  last = last_told_more (published_told m.key) before e ∙ rw (other_told p before b e after h m.key k.drawn) (k.last);
  drawn = let less = k.drawn in omega (arith, less, next_key_more p before e);
  ascends = k.ascends;
}

-- one that is published is known
published_known : (p : ℕ) (before : List Event) (b : Board) (m : MessagePublished) (after : Board) → Advances p before b (events.MessagePublished m) after → IsKnownMessage p (before ++ events.MessagePublished m ∷ []) m
published_known p before b m after h =
    let fresh = both_left (is_fresh p before m.key) _ h.own in
    let same : (m.key == m.key) ≡ true = grind (arith, nat_tests) in
    record {
      last = last_told_more (published_told m.key) before (events.MessagePublished m) ∙ rw same refl;
      drawn = fresh_below p before (events.MessagePublished m) m.key fresh (first_named p m.key []);
      ascends = both_right (is_fresh p before m.key) _ h.own;
    }

pub known_on : (p : ℕ) (before : List Event) (b : Board) (e : Event) (after : Board) → Advances p before b e after → AreKnownMessages p before b → AreKnownMessages p (before ++ e ∷ []) after
known_on p before b e after h k =
    let P = IsKnownMessage p (before ++ e ∷ []) in
    subst (All P) (sym (standing_more message_sort before e))
    (All-append P (left_by message_sort before e (buffered before)) (begun_by (message_told e))
    (each_left message_sort P before e (buffered before) (λ m among lasts. still_known p before b e after h m (All-contains (IsKnownMessage p before) (buffered before) m k among)))
    (by_event e h))
  where
    by_event : (e : Event) → Advances p before b e after → All (IsKnownMessage p (before ++ e ∷ [])) (begun_by (message_told e))
    by_event (events.MessagePublished m) h = All-cons (IsKnownMessage p (before ++ events.MessagePublished m ∷ [])) m [] (published_known p before b m after h) (All-nil (IsKnownMessage p (before ++ events.MessagePublished m ∷ [])))
    by_event e h = All-nil (IsKnownMessage p (before ++ e ∷ []))

-- in a log whose events apply each buffered message is known
pub messages_known : (p : ℕ) (es : List Event) (b : Board) → board_of es ≡ Some b → IsTrue (all_apply p [] es) → All (IsKnownMessage p es) (buffered es)
messages_known p es b is apply = holds_of_all p (AreKnownMessages p) (known_on p) es b (All-nil (IsKnownMessage p [])) apply is

-- so a message that is known and buffered is the one with its key
pub known_alone : (p : ℕ) (es : List Event) (m : MessagePublished) → All (IsKnownMessage p es) (buffered es) → Contains (buffered es) m → message_at m.key es ≡ Some m
known_alone p es m known among = by_found (buffered es) known among
  where
    one : (x : MessagePublished) → IsKnownMessage p es x → IsKnownMessage p es m → x.key ≡ m.key → Some x ≡ Some m
    one x k its same = sym k.last ∙ (ap (λ (key : ℕ). published_in key es) same ∙ its.last)

    its : IsKnownMessage p es m
    its = All-contains (IsKnownMessage p es) (buffered es) m known among

    later : (x : MessagePublished) (xs : List MessagePublished) → (x.key == m.key) ≡ false → Contains (x ∷ xs) m → Contains xs m
    later x xs other (zero, within, is) = absurd (let same : x.key ≡ m.key = ap (λ (y : MessagePublished). y.key) is in let t : (x.key == m.key) ≡ true = grind (arith, nat_tests, same) in cc (t, other))
    later x xs other (suc k, within, is) = (k, omega (arith, within), is)

    by_found : (ms : List MessagePublished) → All (IsKnownMessage p es) ms → Contains ms m → find (λ (x : MessagePublished). x.key == m.key) ms ≡ Some m
    by_found [] known (i, within, is) = absurd (omega (arith, within))
    by_found (x ∷ xs) known among = by_test (x.key == m.key) refl (λ other. by_found xs (All-tail (IsKnownMessage p es) x xs known) (later x xs other among))
      where
        by_test : (t : Bool) → (x.key == m.key) ≡ t → ((x.key == m.key) ≡ false → find (λ (y : MessagePublished). y.key == m.key) xs ≡ Some m) → (if t then Some x else find (λ (y : MessagePublished). y.key == m.key) xs) ≡ Some m
        by_test true same rest = one x (All-head (IsKnownMessage p es) x xs known) its (grind (arith, nat_tests, same))
        by_test false other rest = rest other

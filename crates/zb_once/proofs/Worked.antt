-- A history of messages at two partitions, worked out by hand: a subscription keeps a message; what was asked comes again when that is over, so that it begins to correlate another message, which is refused; at last it is gone, and is asked for the first message once more.
use Rattle.std.proofs.Common.{◌≡◌, ℕ, ◌==◌, ◌&&◌, List, [], ◌∷◌, ◌++◌, take, Bool, true, false, Option, Some, None, Contains, ◌↔◌, inl, inr, codes, refl, sym, subst, append-nil, arith}
use Rattle.std.specs.List.{list_any}
use Rattle.zb_rules.specs.Step.{EachOn}
use Rattle.zb_rules.proofs.StepLaws.{each_on_none, each_on_more, each_on_joined}
use Rattle.zb_once.specs.Tellings.{Terms, Telling, Asking, Refusal, home, seat}
use Rattle.zb_once.specs.Tellings.Telling.{Defined, Published, Started, Opened, Correlating, Correlated, Rejected, Deleted, Opens, Kept, Closing, Gone}
use Rattle.zb_once.specs.Tellings.Asking.{Else, Create, IsCreated, Correlate, WasKept, Reject, Delete, IsDeleted}
use Rattle.zb_once.specs.Tellings.Refusal.{NoSubscription, WasCorrelated, BeingDeleted, AnyOther}
use Rattle.zb_once.specs.Views.{publishes}
use Rattle.zb_once.specs.May.{MayAnswer}
use Rattle.zb_once.specs.History.{Deed, tellings_at, IsNextDeed, IsMessageHistory}
use Rattle.zb_once.specs.Once.{CorrelatesOnce}
use Rattle.zb_once.proofs.ListLemmas.{nothing_in, the_one, here_in, first_or_later, has_passed}
use Rattle.zb_once.proofs.OnceLaws.{correlates_once}

-- the key of a subscription of partition 1, and those of two messages and a definition of partition 2
abbrev s : ℕ
s = 2251799813685249

abbrev m : ℕ
m = 4503599627370497

abbrev k : ℕ
k = 4503599627370498

abbrev d : ℕ
d = 4503599627370499

-- the terms of the subscription: its messages live at partition 2, and it ends with the first one
abbrev terms : Terms
terms = record { name = codes "n"; correlation_key = codes "c"; process = codes "p"; cancel = true }

-- a deed, by its fields
abbrev deed : (partition begin : ℕ) → Asking → Option Refusal → List Telling → Deed
deed partition begin asked refusal told = record { partition = partition; begin = begin; asked = asked; refusal = refusal; told = told }

-- the subscription opens at its own partition
abbrev opened : Deed
opened = deed 1 0 Else None (Opens s terms ∷ [])

-- and is opened at the home of its messages
abbrev created : Deed
created = deed 2 1 (Create s terms) None (Opened s terms ∷ [])

-- a message is published there, and it begins to correlate that
abbrev published : Deed
published = deed 2 2 Else None (Published m ∷ Correlating s m ∷ [])

-- it keeps the message, and closes
abbrev kept : Deed
kept = deed 1 3 (Correlate s m) None (Kept s m ∷ Closing s (codes "c") (m ∷ []) ∷ [])

-- it is asked once more to keep it
abbrev kept_again : Deed
kept_again = deed 1 4 (Correlate s m) (Some WasCorrelated) []

-- and once more to be opened, where it is there
abbrev created_again : Deed
created_again = deed 2 5 (Create s terms) (Some AnyOther) []

-- it has correlated the message, so it isn't there any more
abbrev correlated : Deed
correlated = deed 2 6 (WasKept s m) None (Correlated s m ∷ [])

-- it is opened once more by a letter that comes late
abbrev created_late : Deed
created_late = deed 2 7 (Create s terms) None (Opened s terms ∷ [])

-- so it begins to correlate another message
abbrev published_late : Deed
published_late = deed 2 8 Else None (Published k ∷ Correlating s k ∷ [])

-- which is refused at its own partition, since it has closed
abbrev refused : Deed
refused = deed 1 9 (Correlate s k) (Some BeingDeleted) []

-- it is deleted, and gives that message up
abbrev deleted : Deed
deleted = deed 2 10 (Delete s (m ∷ [])) None (Rejected s k ∷ Deleted s ∷ [])

-- now the refusal comes, and isn't needed any more
abbrev refused_late : Deed
refused_late = deed 2 11 (Reject s k) (Some AnyOther) []

-- it is gone
abbrev gone : Deed
gone = deed 1 12 (IsDeleted s) None (Gone s ∷ [])

-- it is asked for the first message once more, and isn't there
abbrev asked_late : Deed
asked_late = deed 1 13 (Correlate s m) (Some NoSubscription) []

-- that refusal is of no use either
abbrev refused_last : Deed
refused_last = deed 2 14 (Reject s m) (Some AnyOther) []

-- all of them
abbrev history : List Deed
history =
    opened ∷ created ∷ published ∷ kept ∷ kept_again ∷ created_again ∷ correlated ∷ created_late ∷ published_late
    ∷ refused ∷ deleted ∷ refused_late ∷ gone ∷ asked_late ∷ refused_last ∷ []

-- what a partition has told in the first few deeds
abbrev told : (count p : ℕ) → List Telling
told count p = tellings_at (take count history) p

-- it says that a subscription closes
abbrev closes : ℕ → Telling → Bool
closes subscription (Closing key correlation_key keys) = key == subscription
closes subscription _ = false

-- it says that a subscription keeps a message
abbrev keeps : (subscription message : ℕ) → Telling → Bool
keeps subscription message (Kept key other) = (key == subscription) && (other == message)
keeps subscription message _ = false

-- what passes isn't among those of which none does
none_among : (test : Telling → Bool) (es : List Telling) (e : Telling) → list_any test es ≡ false → test e ≡ true → Contains es e → ⊥
none_among test es e none passes is = let some = has_passed test es e is passes in absurd (cc (none, some))

-- it replies nothing
no_reply : (after : List Telling) (asked reply : Asking) → Contains [] reply → MayAnswer after asked reply
no_reply after asked reply is = absurd (nothing_in reply is)

-- it replies one thing
one_reply : (after : List Telling) (asked answer : Asking) → MayAnswer after asked answer → (reply : Asking) → Contains (answer ∷ []) reply → MayAnswer after asked reply
one_reply after asked answer may reply is = subst (MayAnswer after asked) (sym (the_one answer reply is)) may

-- each of them may be the next one
is_opened : IsNextDeed 2 [] opened
unfolding home seat
is_opened = record {
  step = record { each = ((refl, λ other is. nothing_in (Opens s other) is), tt); answers = no_reply (told 1 1) Else };
  begin = omega arith;
  letter = λ by. absurd (cc);
}

is_created : IsNextDeed 2 (take 1 history) created
unfolding home seat
is_created = record {
  step = record { each = ((refl, refl), tt); answers = one_reply (told 2 2) (Create s terms) (IsCreated s) tt };
  begin = omega arith;
  letter = λ by. record { letter = record { to = 2; asked = Create s terms }; posted = record { place = 0; sender = opened; at = refl; before = omega arith; sends = (0, omega arith, refl) }; to = refl; asked = refl };
}

is_published : IsNextDeed 2 (take 2 history) published
unfolding home seat
is_published = record {
  step = record {
    each = ((refl, none_among (publishes m) (told 2 2) (Published m) refl refl), ((terms, refl, refl, refl, refl, refl), tt));
    answers = no_reply (told 3 2) Else;
  };
  begin = omega arith;
  letter = λ by. absurd (cc);
}

-- it closes with the one message that it has kept
keys_are : (x : ℕ) → Contains (m ∷ []) x ↔ Contains (Opens s terms ∷ Kept s m ∷ []) (Kept s x)
keys_are x = (
  λ named. subst (λ (y : ℕ). Contains (Opens s terms ∷ Kept s m ∷ []) (Kept s y)) (sym (the_one m x named)) (1, omega arith, refl),
  λ is. elim (first_or_later (Opens s terms) (Kept s x) (Kept s m ∷ []) is) [
    | inl first ↦ absurd (cc first)
    | inr rest ↦ let its = the_one (Kept s m) (Kept s x) rest in let same : x ≡ m = cc in subst (Contains (m ∷ [])) (sym same) (here_in m [])
  ],
)

is_kept : IsNextDeed 2 (take 3 history) kept
unfolding home seat
is_kept = record {
  step = record {
    each = (
      (refl, λ correlation_key keys is. none_among (closes s) (told 3 1) (Closing s correlation_key keys) refl refl is, none_among (keeps s m) (told 3 1) (Kept s m) refl refl),
      ((terms, (0, omega arith, refl), refl, keys_are), tt),
    );
    answers = one_reply (told 4 1) (Correlate s m) (WasKept s m) (1, omega arith, refl);
  };
  begin = omega arith;
  letter = λ by. record { letter = record { to = 1; asked = Correlate s m }; posted = record { place = 2; sender = published; at = refl; before = omega arith; sends = (0, omega arith, refl) }; to = refl; asked = refl };
}

is_kept_again : IsNextDeed 2 (take 4 history) kept_again
unfolding home seat
is_kept_again = record {
  step = record { each = tt; answers = one_reply (told 5 1) (Correlate s m) (WasKept s m) (1, omega arith, refl) };
  begin = omega arith;
  letter = λ by. record { letter = record { to = 1; asked = Correlate s m }; posted = record { place = 2; sender = published; at = refl; before = omega arith; sends = (0, omega arith, refl) }; to = refl; asked = refl };
}

is_created_again : IsNextDeed 2 (take 5 history) created_again
unfolding home seat
is_created_again = record {
  step = record { each = tt; answers = one_reply (told 6 2) (Create s terms) (IsCreated s) tt };
  begin = omega arith;
  letter = λ by. record { letter = record { to = 2; asked = Create s terms }; posted = record { place = 0; sender = opened; at = refl; before = omega arith; sends = (0, omega arith, refl) }; to = refl; asked = refl };
}

is_correlated : IsNextDeed 2 (take 6 history) correlated
unfolding home seat
is_correlated = record {
  step = record { each = ((refl, refl), tt); answers = no_reply (told 7 2) (WasKept s m) };
  begin = omega arith;
  letter = λ by. record { letter = record { to = 2; asked = WasKept s m }; posted = record { place = 4; sender = kept_again; at = refl; before = omega arith; sends = (0, omega arith, refl) }; to = refl; asked = refl };
}

is_created_late : IsNextDeed 2 (take 7 history) created_late
unfolding home seat
is_created_late = record {
  step = record { each = ((refl, refl), tt); answers = one_reply (told 8 2) (Create s terms) (IsCreated s) tt };
  begin = omega arith;
  letter = λ by. record { letter = record { to = 2; asked = Create s terms }; posted = record { place = 0; sender = opened; at = refl; before = omega arith; sends = (0, omega arith, refl) }; to = refl; asked = refl };
}

is_published_late : IsNextDeed 2 (take 8 history) published_late
unfolding home seat
is_published_late = record {
  step = record {
    each = ((refl, none_among (publishes k) (told 8 2) (Published k) refl refl), ((terms, refl, refl, refl, refl, refl), tt));
    answers = no_reply (told 9 2) Else;
  };
  begin = omega arith;
  letter = λ by. absurd (cc);
}

is_refused : IsNextDeed 2 (take 9 history) refused
unfolding home seat
is_refused = record {
  step = record {
    each = tt;
    answers = one_reply (told 10 1) (Correlate s k) (Reject s k) (refl, inr ((codes "c", m ∷ [], (2, omega arith, refl)), none_among (keeps s k) (told 10 1) (Kept s k) refl refl));
  };
  begin = omega arith;
  letter = λ by. record { letter = record { to = 1; asked = Correlate s k }; posted = record { place = 8; sender = published_late; at = refl; before = omega arith; sends = (0, omega arith, refl) }; to = refl; asked = refl };
}

is_deleted : IsNextDeed 2 (take 10 history) deleted
unfolding home seat
is_deleted = record {
  step = record {
    each = ((refl, inr (m ∷ [], refl, λ named. let same : k ≡ m = the_one m k named in omega (arith, same))), ((m ∷ [], refl), tt));
    answers = one_reply (told 11 2) (Delete s (m ∷ [])) (IsDeleted s) (m ∷ [], refl, refl);
  };
  begin = omega arith;
  letter = λ by. record { letter = record { to = 2; asked = Delete s (m ∷ []) }; posted = record { place = 3; sender = kept; at = refl; before = omega arith; sends = (0, omega arith, refl) }; to = refl; asked = refl };
}

is_refused_late : IsNextDeed 2 (take 11 history) refused_late
unfolding home seat
is_refused_late = record {
  step = record { each = tt; answers = no_reply (told 12 2) (Reject s k) };
  begin = omega arith;
  letter = λ by. record { letter = record { to = 2; asked = Reject s k }; posted = record { place = 9; sender = refused; at = refl; before = omega arith; sends = (0, omega arith, refl) }; to = refl; asked = refl };
}

is_gone : IsNextDeed 2 (take 12 history) gone
unfolding home seat
is_gone = record {
  step = record { each = (refl, tt); answers = no_reply (told 13 1) (IsDeleted s) };
  begin = omega arith;
  letter = λ by. record { letter = record { to = 1; asked = IsDeleted s }; posted = record { place = 10; sender = deleted; at = refl; before = omega arith; sends = (0, omega arith, refl) }; to = refl; asked = refl };
}

is_asked_late : IsNextDeed 2 (take 13 history) asked_late
unfolding home seat
is_asked_late = record {
  step = record { each = tt; answers = one_reply (told 14 1) (Correlate s m) (Reject s m) (refl, inl (inr (3, omega arith, refl))) };
  begin = omega arith;
  letter = λ by. record { letter = record { to = 1; asked = Correlate s m }; posted = record { place = 2; sender = published; at = refl; before = omega arith; sends = (0, omega arith, refl) }; to = refl; asked = refl };
}

is_refused_last : IsNextDeed 2 (take 14 history) refused_last
unfolding home seat
is_refused_last = record {
  step = record { each = tt; answers = no_reply (told 15 2) (Reject s m) };
  begin = omega arith;
  letter = λ by. record { letter = record { to = 2; asked = Reject s m }; posted = record { place = 13; sender = asked_late; at = refl; before = omega arith; sends = (0, omega arith, refl) }; to = refl; asked = refl };
}

-- each of these may be the next one, behind those before it
abbrev AreNext : List Deed → List Deed → Type 0
AreNext before [] = Unit {0}
AreNext before (x ∷ more) = IsNextDeed 2 before x × AreNext (before ++ x ∷ []) more

-- so they are a history
are_next : (before more : List Deed) → AreNext before more → EachOn (IsNextDeed 2) before more
are_next before [] are = each_on_none (IsNextDeed 2) before
are_next before (x ∷ more) (is, are) =
    let one : EachOn (IsNextDeed 2) before (x ∷ []) = each_on_more (IsNextDeed 2) before [] x (each_on_none (IsNextDeed 2) before) (rw (append-nil before) is) in
    each_on_joined (IsNextDeed 2) before (x ∷ []) more one (are_next (before ++ x ∷ []) more are)

-- these deeds are one
is_history : IsMessageHistory 2 history
is_history = are_next [] history (
  is_opened,
  (is_created, (is_published, (is_kept, (is_kept_again, (is_created_again, (is_correlated, (is_created_late, (is_published_late, (is_refused, (is_deleted, (is_refused_late, (is_gone, (is_asked_late, (is_refused_last, tt)))))))))))))),
)

-- so in it the message is correlated once
correlated_once : CorrelatesOnce history
correlated_once = correlates_once 2 history is_history

-- a subscription for a process keeps a message, and that starts an instance of it: that is twice
abbrev doubled : List Deed
doubled = deed 1 0 Else None (Opens s terms ∷ Kept s m ∷ []) ∷ deed 2 0 Else None (Defined d (codes "p") ∷ Started m d ∷ []) ∷ []

-- and not once
correlated_twice : CorrelatesOnce doubled → ⊥
correlated_twice once = let same : ◌≡◌ {A = ℕ} 1 3 = once m (codes "p") 1 3 (Kept s m) (Started m d) refl refl refl refl in absurd (cc same)

-- Laws of the views: what stands where a view says something, and what one telling more makes of it.
use Rattle.std.proofs.Common.{◌≡◌, ℕ, ◌==◌, ◌&&◌, not, ◌||◌, if◌then◌else◌, List, [], ◌∷◌, ◌++◌, Bool, true, false, Option, Some, None, Contains, ◌⊎◌, inl, inr, refl, sym, ap, ◌∙◌, subst, append-nil, append_assoc, arith}
use Rattle.std.specs.Option.{option_map_or, option_or}
use Rattle.std.specs.List.{list_any}
use Rattle.std.specs.Str.{bytes_eq}
use Rattle.std.proofs.lemmas.Bool.{cases_eq, and_parts}
use Rattle.std.proofs.lemmas.Bool.Decides.{nat_tests}
use Rattle.std.proofs.lemmas.List.Folds.{list_any-append}
use Rattle.std.proofs.lemmas.Slice.Eq.{bytes_eq-Decides}
use Rattle.zb_once.specs.Tellings.{Terms, Telling}
use Rattle.zb_once.specs.Tellings.Telling.{Defined, Published, Expired, Started, Opened, Correlating, Correlated, Rejected, Deleted}
use Rattle.zb_once.specs.Views.{said_last, said_about, terms_told, terms_of, cancels, presence_told, is_there, task_told, task_of, is_for_process, defined_told, defined_process, is_defined_for, lock_by, lock_behind, is_locked, publishes, expires, still_buffered}
use Rattle.zb_once.proofs.ListLemmas.{here_in, later_in}

-- a number is itself, where the test says so
pub eq_true : (a b : ℕ) → (a == b) ≡ true → a ≡ b
eq_true a b is = grind (arith, nat_tests)

-- and the test does
pub eq_refl : (a : ℕ) → (a == a) ≡ true
eq_refl a = grind (arith, nat_tests)

-- a text is itself, where the test says so
pub text_true : (a b : List ℕ) → bytes_eq a b ≡ true → a ≡ b
text_true a b is = (bytes_eq-Decides a b).0 is

-- and the test does
pub text_refl : (a : List ℕ) → bytes_eq a a ≡ true
text_refl a = (bytes_eq-Decides a a).1 refl

-- of three the last one that says something
or_behind : {A : Type 0} (told last first : Option A) → option_or (option_or told last) first ≡ option_or told (option_or last first)
or_behind None last first = refl
or_behind (Some x) last first = refl

-- behind none one is itself
or_none : {A : Type 0} (told : Option A) → option_or None told ≡ option_or told None
or_none None = refl
or_none (Some x) = refl

module _ {A : Type 0} (says : Telling → Option A) where
  -- what the last one says, behind one more
  pub said_last_more : (es : List Telling) (e : Telling) → said_last says (es ++ e ∷ []) ≡ option_or (says e) (said_last says es)
  said_last_more [] e = or_none (says e)
  said_last_more (x ∷ es) e = ap (λ (o : Option A). option_or o (says x)) (said_last_more es e) ∙ or_behind (says e) (said_last says es) (says x)

  -- what is said last, one of them says
  pub said_last_stands : (es : List Telling) (said : A) → said_last says es ≡ Some said → (e : Telling) × Contains es e × (says e ≡ Some said)
  said_last_stands [] said is = absurd (cc)
  said_last_stands (e ∷ es) said is = by_rest (said_last says es) refl (said_last_stands es said) is
    where
      by_rest : (rest : Option A) → said_last says es ≡ rest → (said_last says es ≡ Some said → (x : Telling) × Contains es x × (says x ≡ Some said)) → option_or rest (says e) ≡ Some said
          → (x : Telling) × Contains (e ∷ es) x × (says x ≡ Some said)
      by_rest None none further here = (e, here_in e es, here)
      by_rest (Some b) some further here = let found = further (some ∙ here) in (found.0, later_in e found.0 es found.1, found.2)

-- what is said about a thing is said under its key
pub said_is : {A : Type 0} (thing key : ℕ) (said x : A) → said_about thing key said ≡ Some x → (key ≡ thing) × (said ≡ x)
said_is {A = A} thing key said x is = elim (cases_eq thing key) [
  | inl same ↦ let its : (thing == key) ≡ true = grind (arith, nat_tests, same) in let got : Some said ≡ Some x = rw its at is in (sym same, cc)
  | inr other ↦ let out : (thing == key) ≡ false = grind (arith, nat_tests, other) in let got : ◌≡◌ {A = Option A} None (Some x) = rw out at is in absurd (cc)
]

-- what is said about a thing under its key is said
said_same : {A : Type 0} (thing key : ℕ) (said : A) → key ≡ thing → said_about thing key said ≡ Some said
said_same thing key said same = let its : (thing == key) ≡ true = grind (arith, nat_tests, same) in rw its refl

-- under another key nothing is said about it
said_other : {A : Type 0} (thing key : ℕ) (said : A) → (key ≡ thing → ⊥) → said_about thing key said ≡ None
said_other thing key said other = let out : (thing == key) ≡ false = grind (arith, nat_tests, other) in rw out refl

-- a subscription that has terms was opened with them
pub terms_stand : (s : ℕ) (terms : Terms) (es : List Telling) → terms_of s es ≡ Some terms → Contains es (Opened s terms)
terms_stand s terms es is = let found = said_last_stands (terms_told s) es terms is in subst (Contains es) (by_telling found.0 found.2) found.1
  where
    by_telling : (e : Telling) → terms_told s e ≡ Some terms → e ≡ Opened s terms
    by_telling (Opened key x) told = let r = said_is s key x terms told in cc (r.0, r.1)
    by_telling e told = absurd (cc)

-- a definition that has a process was made of it
pub definition_stands : (d : ℕ) (process : List ℕ) (es : List Telling) → defined_process d es ≡ Some process → Contains es (Defined d process)
definition_stands d process es is = let found = said_last_stands (defined_told d) es process is in subst (Contains es) (by_telling found.0 found.2) found.1
  where
    by_telling : (e : Telling) → defined_told d e ≡ Some process → e ≡ Defined d process
    by_telling (Defined key x) told = let r = said_is d key x process told in cc (r.0, r.1)
    by_telling e told = absurd (cc)

-- a subscription that is correlating a message has begun to
pub task_stands : (s m : ℕ) (es : List Telling) → task_of s es ≡ Some m → Contains es (Correlating s m)
task_stands s m es is = by_test (is_there s es) (said_last (task_told s) es) refl is
  where
    by_telling : (e : Telling) → task_told s e ≡ Some (Some m) → e ≡ Correlating s m
    by_telling (Opened key x) told = let r = said_is s key None (Some m) told in absurd (cc (r.1))
    by_telling (Correlating key x) told = let r = said_is s key (Some x) (Some m) told in cc (r.0, r.1)
    by_telling (Correlated key x) told = let r = said_is s key None (Some m) told in absurd (cc (r.1))
    by_telling (Rejected key x) told = let r = said_is s key None (Some m) told in absurd (cc (r.1))
    by_telling e told = absurd (cc)

    by_test : (there : Bool) (task : Option (Option ℕ)) → said_last (task_told s) es ≡ task → (if there then option_map_or (λ t. t) task None else None) ≡ Some m → Contains es (Correlating s m)
    by_test false task last says = absurd (cc)
    by_test true None last says = absurd (cc)
    by_test true (Some x) last says = let found = said_last_stands (task_told s) es (Some m) (last ∙ ap Some says) in subst (Contains es) (by_telling found.0 found.2) found.1

-- it tells of what a subscription correlates
abbrev pub Touches : ℕ → Telling → Type 0
Touches s (Opened key terms) = key ≡ s
Touches s (Correlating key m) = key ≡ s
Touches s (Correlated key m) = key ≡ s
Touches s (Rejected key m) = key ≡ s
Touches s (Deleted key) = key ≡ s
Touches s _ = ⊥

-- it tells so, and isn't that a subscription begins to correlate: it leaves that without a message
abbrev pub Parts : ℕ → Telling → Type 0
Parts s (Opened key terms) = key ≡ s
Parts s (Correlated key m) = key ≡ s
Parts s (Rejected key m) = key ≡ s
Parts s (Deleted key) = key ≡ s
Parts s _ = ⊥

-- it says nothing about a subscription
record Leaves (s : ℕ) (e : Telling) : Type 0 where
  terms : terms_told s e ≡ None
  presence : (cancel : Bool) → presence_told s cancel e ≡ None
  task : task_told s e ≡ None

-- what doesn't touch a subscription says nothing about it
untouched : (s : ℕ) (e : Telling) → (Touches s e → ⊥) → Leaves s e
untouched s (Opened key terms) out = record { terms = said_other s key terms out; presence = λ c. said_other s key true out; task = said_other s key None out }
untouched s (Correlating key m) out = record { terms = refl; presence = λ c. refl; task = said_other s key (Some m) out }
untouched s (Correlated key m) out = record { terms = refl; presence = λ c. by_cancel c; task = said_other s key None out }
  where
    by_cancel : (c : Bool) → (if c then said_about s key false else None) ≡ None
    by_cancel true = said_other s key false out
    by_cancel false = refl
untouched s (Rejected key m) out = record { terms = refl; presence = λ c. said_other s key false out; task = said_other s key None out }
untouched s (Deleted key) out = record { terms = refl; presence = λ c. said_other s key false out; task = refl }
untouched s _ out = record { terms = refl; presence = λ c. refl; task = refl }

-- where it opens no subscription, whether one is there behind it says it, and else what was said before
there_more : (s : ℕ) (es : List Telling) (e : Telling) → terms_told s e ≡ None
    → is_there s (es ++ e ∷ []) ≡ option_map_or (λ there. there) (option_or (presence_told s (cancels s es) e) (said_last (presence_told s (cancels s es)) es)) false
there_more s es e none = rw (said_last_more (terms_told s) es e, none, said_last_more (presence_told s (cancels s es)) es e) refl

-- what says nothing about a subscription leaves it its message
still : (s : ℕ) (es : List Telling) (e : Telling) → Leaves s e → task_of s (es ++ e ∷ []) ≡ task_of s es
still s es e l = rw (there_more s es e l.terms, l.presence (cancels s es), said_last_more (task_told s) es e, l.task) refl

-- a subscription that is there may begin to correlate a message
pub task_now : (s m : ℕ) (es : List Telling) → is_there s es ≡ true → task_of s (es ++ Correlating s m ∷ []) ≡ Some m
task_now s m es there = rw (there_more s es (Correlating s m) refl, there, said_last_more (task_told s) es (Correlating s m), said_same s s (Some m) refl) refl

-- it has no message where that is said
idle : (s : ℕ) (es : List Telling) (e : Telling) → task_told s e ≡ Some None → task_of s (es ++ e ∷ []) ≡ None
idle s es e told = rw (said_last_more (task_told s) es e, told) (by_there (is_there s (es ++ e ∷ [])))
  where
    by_there : (b : Bool) → ◌≡◌ {A = Option ℕ} (if b then None else None) None
    by_there true = refl
    by_there false = refl

-- a subscription that is deleted isn't there
pub deleted_out : (s key : ℕ) (es : List Telling) → key ≡ s → is_there s (es ++ Deleted key ∷ []) ≡ false
deleted_out s key es its = rw (there_more s es (Deleted key) refl, said_same s key false its) refl

-- what parts a subscription from its message leaves it without one
pub parted : (s : ℕ) (es : List Telling) (e : Telling) → Parts s e → task_of s (es ++ e ∷ []) ≡ None
parted s es (Opened key terms) its = idle s es (Opened key terms) (said_same s key None its)
parted s es (Correlated key m) its = idle s es (Correlated key m) (said_same s key None its)
parted s es (Rejected key m) its = idle s es (Rejected key m) (said_same s key None its)
parted s es (Deleted key) its = rw (deleted_out s key es its) refl
parted s es _ its = absurd its

-- a telling doesn't touch a subscription, or parts it from its message, or says that it begins to correlate one
touch : (s : ℕ) (e : Telling) → (Touches s e → ⊥) ⊎ (Parts s e ⊎ (m : ℕ) × (e ≡ Correlating s m))
touch s (Opened key terms) = elim (cases_eq key s) [ inl its ↦ inr (inl its) | inr out ↦ inl out ]
touch s (Correlating key m) = elim (cases_eq key s) [ inl its ↦ inr (inr (m, ap (λ k. Correlating k m) its)) | inr out ↦ inl out ]
touch s (Correlated key m) = elim (cases_eq key s) [ inl its ↦ inr (inl its) | inr out ↦ inl out ]
touch s (Rejected key m) = elim (cases_eq key s) [ inl its ↦ inr (inl its) | inr out ↦ inl out ]
touch s (Deleted key) = elim (cases_eq key s) [ inl its ↦ inr (inl its) | inr out ↦ inl out ]
touch s _ = inl (λ out. out)

-- what a subscription is correlating behind one more it was, and that one doesn't touch it; or it begins to by that
pub task_back : (s m : ℕ) (es : List Telling) (e : Telling) → task_of s (es ++ e ∷ []) ≡ Some m → ((task_of s es ≡ Some m) × (Touches s e → ⊥)) ⊎ (e ≡ Correlating s m)
task_back s m es e is = elim (touch s e) [
  | inl out ↦ inl (sym (still s es e (untouched s e out)) ∙ is, out)
  | inr (inl its) ↦ let none = parted s es e its in absurd (cc)
  | inr (inr (k, its)) ↦ inr (by_there k its (is_there s es) refl)
]
  where
    by_there : (k : ℕ) → e ≡ Correlating s k → (b : Bool) → is_there s es ≡ b → e ≡ Correlating s m
    by_there k its true there =
        let now = task_now s k es there in
        let same = subst (λ (x : Telling). task_of s (es ++ x ∷ []) ≡ Some m) its is in
        let one : k ≡ m = cc in
        its ∙ ap (Correlating s) one
    by_there k its false there =
        let same = subst (λ (x : Telling). task_of s (es ++ x ∷ []) ≡ Some m) its is in
        let out : is_there s (es ++ Correlating s k ∷ []) ≡ false = rw (there_more s es (Correlating s k) refl) there in
        let none : task_of s (es ++ Correlating s k ∷ []) ≡ None = rw out refl in
        absurd (cc)

-- what it was correlating it is behind one more, or that one parts them, or it begins to correlate one by that
pub task_on : (s m : ℕ) (es : List Telling) (e : Telling) → task_of s es ≡ Some m → (task_of s (es ++ e ∷ []) ≡ Some m) ⊎ (Parts s e ⊎ (k : ℕ) × (e ≡ Correlating s k))
task_on s m es e is = elim (touch s e) [
  | inl out ↦ inl (still s es e (untouched s e out) ∙ is)
  | inr its ↦ inr its
]

-- the lock behind some that stand behind others, and one more
lock_behind_more : (before : List Telling) (was : Bool) (m : ℕ) (process : List ℕ) (es : List Telling) (e : Telling)
    → lock_behind before was m process (es ++ e ∷ []) ≡ lock_by (before ++ es) m process e (lock_behind before was m process es)
lock_behind_more before was m process [] e = rw (append-nil before) refl
lock_behind_more before was m process (x ∷ es) e =
    lock_behind_more (before ++ x ∷ []) (lock_by before m process x was) m process es e
    ∙ ap (λ all. lock_by all m process e (lock_behind (before ++ x ∷ []) (lock_by before m process x was) m process es)) (append_assoc before (x ∷ []) es)

-- the lock behind one more is what that makes of the lock
pub lock_more : (m : ℕ) (process : List ℕ) (es : List Telling) (e : Telling) → is_locked m process (es ++ e ∷ []) ≡ lock_by es m process e (is_locked m process es)
lock_more m process es e = lock_behind_more [] false m process es e

-- a subscription was opened for a process, where the test says so
for_process_true : (s : ℕ) (process : List ℕ) (es : List Telling) → is_for_process s process es ≡ true → (terms : Terms) × (terms_of s es ≡ Some terms) × (terms.process ≡ process)
for_process_true s process es is = by_terms (terms_of s es) refl is
  where
    by_terms : (found : Option Terms) → terms_of s es ≡ found → option_map_or (λ (terms : Terms). bytes_eq terms.process process) found false ≡ true
        → (terms : Terms) × (terms_of s es ≡ Some terms) × (terms.process ≡ process)
    by_terms None at says = absurd (cc)
    by_terms (Some terms) at says = (terms, at, text_true terms.process process says)

-- by it a subscription for a process gives up a message
abbrev pub GivesUp : List Telling → (m : ℕ) (process : List ℕ) → Telling → Type 0
GivesUp es m process e = (s : ℕ) × (e ≡ Rejected s m) × (terms : Terms) × (terms_of s es ≡ Some terms) × (terms.process ≡ process)

-- a message that is locked for a process still is behind one more, or expires by that, or is given up
pub lock_on : (m : ℕ) (process : List ℕ) (es : List Telling) (e : Telling) → is_locked m process es ≡ true → (is_locked m process (es ++ e ∷ []) ≡ true) ⊎ ((e ≡ Expired m) ⊎ GivesUp es m process e)
lock_on m process es e was = by_telling e (lock_more m process es e ∙ ap (lock_by es m process e) was)
  where
    either : (b l : Bool) → l ≡ (if b then true else true) → l ≡ true
    either true l is = is
    either false l is = is

    by_telling : (e : Telling) → is_locked m process (es ++ e ∷ []) ≡ lock_by es m process e true → (is_locked m process (es ++ e ∷ []) ≡ true) ⊎ ((e ≡ Expired m) ⊎ GivesUp es m process e)
    by_telling (Started k d) is = inl (either ((k == m) && is_defined_for d process es) (is_locked m process (es ++ Started k d ∷ [])) is)
    by_telling (Correlating s k) is = inl (either ((k == m) && is_for_process s process es) (is_locked m process (es ++ Correlating s k ∷ [])) is)
    by_telling (Expired k) is = by_key (k == m) refl
      where
        by_key : (b : Bool) → (k == m) ≡ b → (is_locked m process (es ++ Expired k ∷ []) ≡ true) ⊎ ((Expired k ≡ Expired m) ⊎ GivesUp es m process (Expired k))
        by_key true same = inr (inl (ap Expired (eq_true k m same)))
        by_key false other = inl (is ∙ rw other refl)
    by_telling (Rejected s k) is = by_key ((k == m) && is_for_process s process es) refl
      where
        by_key : (b : Bool) → ((k == m) && is_for_process s process es) ≡ b → (is_locked m process (es ++ Rejected s k ∷ []) ≡ true) ⊎ ((Rejected s k ≡ Expired m) ⊎ GivesUp es m process (Rejected s k))
        by_key true same =
            let both = and_parts (k == m) (is_for_process s process es) same in
            let its = for_process_true s process es both.1 in
            inr (inr (s, ap (Rejected s) (eq_true k m both.0), its.0, its.1, its.2))
        by_key false other = inl (is ∙ rw other refl)
    by_telling _ is = inl is

-- a start locks its message for the definition's process
pub lock_started : (m d : ℕ) (process : List ℕ) (es : List Telling) → defined_process d es ≡ Some process → is_locked m process (es ++ Started m d ∷ []) ≡ true
lock_started m d process es at = lock_more m process es (Started m d) ∙ rw (eq_refl m, at, text_refl process) refl

-- a subscription that begins to correlate a message locks it for its process
pub lock_correlating : (s m : ℕ) (terms : Terms) (es : List Telling) → terms_of s es ≡ Some terms → is_locked m terms.process (es ++ Correlating s m ∷ []) ≡ true
lock_correlating s m terms es at = lock_more m terms.process es (Correlating s m) ∙ rw (eq_refl m, at, text_refl terms.process) refl

-- what publishes a message says so
publishes_is : (m : ℕ) (e : Telling) → publishes m e ≡ true → e ≡ Published m
publishes_is m (Published k) passes = ap Published (eq_true k m passes)
publishes_is m _ passes = absurd (cc)

-- whether a message is buffered behind one more, by the tests alone
buffered_step : (a x y b z : Bool) → ((a && not (x || (y || false))) || ((b && not y) || z)) ≡ ((((a && not x) || b) && not y) || z)
buffered_step false x y b z = refl
buffered_step true true y b z = refl
buffered_step true false true true z = refl
buffered_step true false true false z = refl
buffered_step true false false b z = refl

-- a message is buffered behind one more where it was and doesn't expire by that, or is published by it
pub buffered_more : (m : ℕ) (es : List Telling) (e : Telling) → still_buffered m (es ++ e ∷ []) ≡ ((still_buffered m es && not (expires m e)) || publishes m e)
buffered_more m [] e = by_tests (publishes m e)
  where
    by_tests : (b : Bool) → ((b && true) || false) ≡ b
    by_tests true = refl
    by_tests false = refl
buffered_more m (x ∷ es) e = rw (list_any-append (expires m) es (e ∷ []), buffered_more m es e) (buffered_step (publishes m x) (list_any (expires m) es) (expires m e) (still_buffered m es) (publishes m e))

-- a message that was just published is buffered
pub buffered_published : (m : ℕ) (es : List Telling) → still_buffered m (es ++ Published m ∷ []) ≡ true
buffered_published m es = buffered_more m es (Published m) ∙ rw (eq_refl m) (by_test (still_buffered m es && true))
  where
    by_test : (b : Bool) → (b || true) ≡ true
    by_test true = refl
    by_test false = refl

-- a message that is buffered was published
pub buffered_stands : (m : ℕ) (es : List Telling) → still_buffered m es ≡ true → Contains es (Published m)
buffered_stands m [] is = absurd (cc)
buffered_stands m (e ∷ es) is = by_test (publishes m e && not (list_any (expires m) es)) refl is (buffered_stands m es)
  where
    by_test : (b : Bool) → (publishes m e && not (list_any (expires m) es)) ≡ b → (b || still_buffered m es) ≡ true → (still_buffered m es ≡ true → Contains es (Published m)) → Contains (e ∷ es) (Published m)
    by_test true here says further = subst (Contains (e ∷ es)) (publishes_is m e (and_parts (publishes m e) (not (list_any (expires m) es)) here).0) (here_in e es)
    by_test false here says further = later_in e (Published m) es (further says)

-- it stays so until it expires
pub buffered_on : (m : ℕ) (es more : List Telling) → still_buffered m es ≡ true → list_any (expires m) more ≡ false → still_buffered m (es ++ more) ≡ true
buffered_on m es [] is none = rw (append-nil es) is
buffered_on m es (e ∷ more) is none = by_tests (expires m e) (list_any (expires m) more) refl refl none (buffered_on m (es ++ e ∷ []) more)
  where
    next : expires m e ≡ false → still_buffered m (es ++ e ∷ []) ≡ true
    next lasts = buffered_more m es e ∙ rw (is, lasts) refl

    by_tests : (x y : Bool) → expires m e ≡ x → list_any (expires m) more ≡ y → (x || y) ≡ false
        → (still_buffered m (es ++ e ∷ []) ≡ true → list_any (expires m) more ≡ false → still_buffered m ((es ++ e ∷ []) ++ more) ≡ true) → still_buffered m (es ++ e ∷ more) ≡ true
    by_tests false false here there says further = subst (λ (xs : List Telling). still_buffered m xs ≡ true) (append_assoc es (e ∷ []) more) (further (next here) there)
    by_tests true y here there says further = absurd (cc)
    by_tests false true here there says further = absurd (cc)

-- a message that is buffered behind one more was, and doesn't expire by that, or is published by it
pub buffered_back : (m : ℕ) (es : List Telling) (e : Telling) → still_buffered m (es ++ e ∷ []) ≡ true → ((still_buffered m es ≡ true) × (e ≡ Expired m → ⊥)) ⊎ (e ≡ Published m)
buffered_back m es e is = by_tests (still_buffered m es) (expires m e) (publishes m e) refl refl refl (sym (buffered_more m es e) ∙ is)
  where
    by_tests : (b x z : Bool) → still_buffered m es ≡ b → expires m e ≡ x → publishes m e ≡ z → ((b && not x) || z) ≡ true → ((still_buffered m es ≡ true) × (e ≡ Expired m → ⊥)) ⊎ (e ≡ Published m)
    by_tests b x true was out now says = inr (publishes_is m e now)
    by_tests true false false was out now says = inl (was, λ same. let passes : expires m e ≡ true = rw same (eq_refl m) in absurd (cc))
    by_tests true true false was out now says = absurd (cc)
    by_tests false x false was out now says = absurd (cc)

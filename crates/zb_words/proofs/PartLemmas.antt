-- The parts that words give: there is one list of them, and it is read from the front.
use Rattle.std.proofs.Common.{◌≡◌, ℕ, ◌==◌, Bool, true, false, List, [], ◌∷◌, ◌++◌, length, get_or, take, drop, refl, ap, sym, ◌∙◌, subst, inl, inr, arith, Option, Some, None, map, ◌+◌, ◌≤◌, not, suc}
use Rattle.std.specs.Prelude.{codes, option_to_list, position, nat_lt, cond}
use Rattle.std.specs.List.{filter_map, list_any, list_all, position_or_len}
use Rattle.std.specs.Str.{bytes_eq}
use Rattle.std.proofs.lemmas.Bool.{eqb-true, eq-eqb}
use Rattle.std.proofs.lemmas.List.{length-append, length-map}
use Rattle.std.proofs.lemmas.List.Folds.{prefix_len-append}
use Rattle.std.proofs.lemmas.Slice.Eq.{bytes_eq-Decides}
use Rattle.std.proofs.Math.Seq.{take-append_seam, drop-append_seam}
use Rattle.zb_words.specs.declared.verb.Verb.{Verb}
use Rattle.zb_words.specs.declared.verb.Verb.TheVariants as verbs
use Rattle.zb_words.specs.Part.{options_of, is_option, has_dash, Part, Gives, GiveAll, GiveOnce, GiveFiles, text_for, file_in, is_dashes, AskFor, IsMeant}

-- what holds of every name of a list holds of a text that is among them
among : (p : List ℕ → Bool) (names : List (List ℕ)) (text : List ℕ) → list_all p names ≡ true → list_any (bytes_eq text) names ≡ true → p text ≡ true
among p [] text each is = cc
among p (name ∷ names) text each is = go (bytes_eq text name) (p name) refl refl (among p names text)
  where
    go : (t u : Bool) → bytes_eq text name ≡ t → p name ≡ u → (list_all p names ≡ true → list_any (bytes_eq text) names ≡ true → p text ≡ true) → p text ≡ true
    go true true e f others = rw ((bytes_eq-Decides text name).0 e) f
    go false true e f others = others (rw f at each) (rw e at is)
    go t false e f others = let no : false ≡ true = rw f at each in cc

-- where the first '=' stands, or the length where none does
abbrev pub cut_at : List ℕ → ℕ
cut_at text = position_or_len (λ b. b == 61) text

-- no option has a '='
no_equals : (verb : Verb) (option : List ℕ) → is_option verb option ≡ true → cut_at option ≡ length option
no_equals verb option is = eqb-true (cut_at option) (length option) (each verb is)
  where
    each : (verb : Verb) → is_option verb option ≡ true → (cut_at option == length option) ≡ true
    each verbs.Serve is = among (λ name. cut_at name == length name) (options_of verbs.Serve) option refl is
    each verbs.Log is = among (λ name. cut_at name == length name) (options_of verbs.Log) option refl is
    each verbs.Gen is = among (λ name. cut_at name == length name) (options_of verbs.Gen) option refl is

-- and each begins with '-'
option_dash : (verb : Verb) (option : List ℕ) → is_option verb option ≡ true → has_dash option ≡ true
option_dash verbs.Serve option is = among has_dash (options_of verbs.Serve) option refl is
option_dash verbs.Log option is = among has_dash (options_of verbs.Log) option refl is
option_dash verbs.Gen option is = among has_dash (options_of verbs.Gen) option refl is

-- so does a word that begins with one
joined_dash : (option more : List ℕ) → has_dash option ≡ true → has_dash (option ++ more) ≡ true
joined_dash [] more e = cc
joined_dash (b ∷ option) more e = e

-- a word of an option and its value is cut behind the option
cut_joined : (option value : List ℕ) → cut_at option ≡ length option → cut_at (option ++ (codes "=" ++ value)) ≡ length option
cut_joined option value none = prefix_len-append (λ b. not (b == 61)) option (codes "=" ++ value) ∙ rw (none, eq-eqb (length option) (length option) refl) (omega arith)

-- no option is such a word
no_word : (verb : Verb) (n m w : List ℕ) → is_option verb n ≡ true → is_option verb m ≡ true → n ≡ m ++ (codes "=" ++ w) → ⊥
no_word verb n m w is is' e =
    let cut : length n ≡ length m = sym (no_equals verb n is) ∙ ap cut_at e ∙ cut_joined m w (no_equals verb m is') in
    let long : length n ≡ length m + suc (length w) = ap length e ∙ length-append m (codes "=" ++ w) in
    omega arith

-- and such a word tells its option and its value
one_word : (verb : Verb) (n m v w : List ℕ) → is_option verb n ≡ true → is_option verb m ≡ true → n ++ (codes "=" ++ v) ≡ m ++ (codes "=" ++ w) → (n ≡ m) × (v ≡ w)
one_word verb n m v w is is' e =
    let cut : length n ≡ length m = sym (cut_joined n v (no_equals verb n is)) ∙ ap cut_at e ∙ cut_joined m w (no_equals verb m is') in
    let option : n ≡ m = sym (take-append_seam n (codes "=" ++ v)) ∙ ap (take (length n)) e ∙ ap (λ i. take i (m ++ (codes "=" ++ w))) cut ∙ take-append_seam m (codes "=" ++ w) in
    let value : codes "=" ++ v ≡ codes "=" ++ w = sym (drop-append_seam n (codes "=" ++ v)) ∙ ap (drop (length n)) e ∙ ap (λ i. drop i (m ++ (codes "=" ++ w))) cut ∙ drop-append_seam m (codes "=" ++ w) in
    (option, ap (drop 1) value)

-- words begin with one setting
one_setting : (verb : Verb) (words : List (List ℕ)) (n v m w : List ℕ) (rest left : List (List ℕ)) → Gives verb words (Some n, v) rest → Gives verb words (Some m, w) left → (n ≡ m) × (v ≡ w) × (rest ≡ left)
one_setting verb words n v m w rest left (is, some, inl a) (is', some', inl b) =
    let joined : n ∷ v ∷ rest ≡ m ∷ w ∷ left = sym a.0 ∙ b.0 in
    (cc, cc, cc)
one_setting verb words n v m w rest left (is, some, inl a) (is', some', inr b) =
    let joined : n ∷ v ∷ rest ≡ (m ++ (codes "=" ++ w)) ∷ left = sym a.0 ∙ b in
    absurd (no_word verb n m w is is' cc)
one_setting verb words n v m w rest left (is, some, inr a) (is', some', inl b) =
    let joined : m ∷ w ∷ left ≡ (n ++ (codes "=" ++ v)) ∷ rest = sym b.0 ∙ a in
    absurd (no_word verb m n v is' is cc)
one_setting verb words n v m w rest left (is, some, inr a) (is', some', inr b) =
    let joined : (n ++ (codes "=" ++ v)) ∷ rest ≡ (m ++ (codes "=" ++ w)) ∷ left = sym a ∙ b in
    let parts : (n ≡ m) × (v ≡ w) = one_word verb n m v w is is' cc in
    (parts.0, parts.1, cc)

-- the first word of a setting begins with '-'
pub setting_dash : (verb : Verb) (n v w : List ℕ) (rest left : List (List ℕ)) → Gives verb (w ∷ left) (Some n, v) rest → has_dash w ≡ true
setting_dash verb n v w rest left (is, some, inl a) =
    let same : w ∷ left ≡ n ∷ v ∷ rest = a.0 in
    let first : w ≡ n = cc in
    rw first (option_dash verb n is)
setting_dash verb n v w rest left (is, some, inr a) =
    let same : w ∷ left ≡ (n ++ (codes "=" ++ v)) ∷ rest = a in
    let first : w ≡ n ++ (codes "=" ++ v) = cc in
    rw first (joined_dash n (codes "=" ++ v) (option_dash verb n is))

-- words don't begin both with a setting and with a FILE
no_both : (verb : Verb) (words : List (List ℕ)) (n v w : List ℕ) (rest left : List (List ℕ)) → Gives verb words (Some n, v) rest → Gives verb words (None, w) left → ⊥
no_both verb words n v w rest left setting (takes, is, plain) =
    let dash : has_dash w ≡ true = setting_dash verb n v w rest left (subst (λ (ws : List (List ℕ)). Gives verb ws (Some n, v) rest) is setting) in
    let both : true ≡ false = sym dash ∙ plain in
    cc

-- words begin with one part
one_first : (verb : Verb) (words : List (List ℕ)) (s t : Part) (rest left : List (List ℕ)) → Gives verb words s rest → Gives verb words t left → (s ≡ t) × (rest ≡ left)
one_first verb words (Some n, v) (Some m, w) rest left gives gives' =
    let same = one_setting verb words n v m w rest left gives gives' in
    (ap (λ x. (Some x, v)) same.0 ∙ ap (λ y. (Some m, y)) same.1, same.2)
one_first verb words (Some n, v) (None, w) rest left gives gives' = absurd (no_both verb words n v w rest left gives gives')
one_first verb words (None, v) (Some m, w) rest left gives gives' = absurd (no_both verb words m w v left rest gives' gives)
one_first verb words (None, v) (None, w) rest left (takes, is, plain) (takes', is', plain') =
    let joined : v ∷ rest ≡ w ∷ left = sym is ∙ is' in
    let same : v ≡ w = cc in
    (ap (λ x. (None, x)) same, cc)

-- a part takes a word at least
some_word : (verb : Verb) (words : List (List ℕ)) (s : Part) (rest : List (List ℕ)) → Gives verb words s rest → words ≡ [] → ⊥
some_word verb words (Some n, v) rest (is, some, inl a) e =
    let none : [] ≡ n ∷ v ∷ rest = sym e ∙ a.0 in
    cc
some_word verb words (Some n, v) rest (is, some, inr a) e = cc
some_word verb words (None, v) rest (takes, is, plain) e = cc

-- behind the first part stand the others
given_next : (verb : Verb) (words : List (List ℕ)) (s : Part) (rest : List (List ℕ)) (all : List Part) → Gives verb words s rest → GiveAll verb words all → (more : List Part) × (all ≡ s ∷ more) × GiveAll verb rest more
given_next verb words s rest [] gives none = absurd (some_word verb words s rest gives none)
given_next verb words s rest (t ∷ ts) gives (left, gives', given) =
    let same : (s ≡ t) × (rest ≡ left) = one_first verb words s t rest left gives gives' in
    (ts, ap (λ (x : Part). x ∷ ts) (sym same.0), subst (λ (ws : List (List ℕ)). GiveAll verb ws ts) (sym same.1) given)

-- words give one list of parts
pub one_list : (verb : Verb) (words : List (List ℕ)) (all others : List Part) → GiveAll verb words all → GiveAll verb words others → all ≡ others
one_list verb words [] [] e given = refl
one_list verb words [] (t ∷ ts) e (rest, gives, given) = absurd (some_word verb words t rest gives e)
one_list verb words (s ∷ ss) others (rest, gives, given) given' =
    let next = given_next verb words s rest others gives given' in
    ap (λ (more : List Part). s ∷ more) (one_list verb rest ss next.0 given next.2) ∙ sym next.1

once_more : (a b : Option (List ℕ)) → option_to_list a ≡ option_to_list b → a ≡ b
once_more None None e = refl
once_more None (Some y) e = cc
once_more (Some x) None e = cc
once_more (Some x) (Some y) e = ap Some (ap (λ texts. get_or texts 0 x) e)

-- the words give an option one text at most
pub one_text : (verb : Verb) (words : List (List ℕ)) (option : List ℕ) (text other : Option (List ℕ)) → GiveOnce verb words option text → GiveOnce verb words option other → text ≡ other
one_text verb words option text other once once' = once_more text other
    (sym once.once ∙ ap (filter_map (text_for option)) (one_list verb words once.parts once'.parts once.given once'.given) ∙ once'.once)

-- and one list of FILEs
pub one_files : (verb : Verb) (words files others : List (List ℕ)) → GiveFiles verb words files → GiveFiles verb words others → files ≡ others
one_files verb words files others given given' =
    sym given.all ∙ ap (filter_map file_in) (one_list verb words given.parts given'.parts given.given given'.given) ∙ given'.all

-- so they ask for what this text says
pub asked_by : {X : Type 0} (verb : Verb) (words : List (List ℕ)) (option : List ℕ) (Says : List ℕ → X → Type 0) (default : Option X) (x : X) (text : Option (List ℕ)) → GiveOnce verb words option text
    → AskFor verb words option Says default x → IsMeant Says text default x
asked_by verb words option Says default x text once ask = subst (λ t. IsMeant Says t default x) (one_text verb words option ask.text text ask.once once) ask.meant

-- ---- the words before "--"

cut-map : {X : Type 0} (p : List ℕ → Bool) (f : X → List ℕ) (xs : List X) → position_or_len p (map f xs) ≡ position_or_len (λ x. p (f x)) xs
cut-map p f [] = refl
cut-map p f (x ∷ xs) = rw (cut-map p f xs) refl

-- they are known from where it stands first
pub dashes_found : {X : Type 0} (f : X → List ℕ) (xs : List X) (i : ℕ) → position (λ x. is_dashes (f x)) xs ≡ Some i → position_or_len is_dashes (map f xs) ≡ i
dashes_found f xs i e = cut-map is_dashes f xs ∙ go (nat_lt (position_or_len (λ x. is_dashes (f x)) xs) (length xs)) e
  where
    go : (b : Bool) → cond b (Some (position_or_len (λ x. is_dashes (f x)) xs)) None ≡ Some i → position_or_len (λ x. is_dashes (f x)) xs ≡ i
    go true e = grind arith
    go false e = cc

pub dashes_nowhere : {X : Type 0} (f : X → List ℕ) (xs : List X) → position (λ x. is_dashes (f x)) xs ≡ None → length (map f xs) ≤ position_or_len is_dashes (map f xs)
dashes_nowhere f xs e = rw (cut-map is_dashes f xs, length-map) (go (nat_lt (position_or_len (λ x. is_dashes (f x)) xs) (length xs)) refl e)
  where
    go : (b : Bool) → nat_lt (position_or_len (λ x. is_dashes (f x)) xs) (length xs) ≡ b → cond b (Some (position_or_len (λ x. is_dashes (f x)) xs)) None ≡ None → length xs ≤ position_or_len (λ x. is_dashes (f x)) xs
    go true test e = cc
    go false test e = grind arith

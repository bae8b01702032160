-- What clap's walk over the words behind a verb makes of one word.
use Rattle.std.proofs.Common.{◌≡◌, ◌&&◌, Bool, true, false, List, [], ◌∷◌, ◌++◌, Option, Some, None, codes, refl, ap, subst, true≢false}
use Rattle.std.specs.Bool.{⊤}
use Rattle.std.specs.List.{fold}
use Rattle.std.specs.Str.{bytes_eq}
use Rattle.clap.specs.Lexer.{long_of, short_of}
use Rattle.clap.specs.Walk.{Held, Row, Rule, Text, Waiting, Walk, arg_by_long, idle, is_pending, option, positional, settled_rows, subcommand_met, used, walked}
use Rattle.clap.specs.Kinds.{Kinds, or_else}
use Rattle.clap.specs.Faults.{long_fault, settle_fault, turn_fault, use_fault, walk_fault, word_fault}
use Rattle.clap.specs.declared.error.kind.ErrorKind.{ErrorKind}
use Rattle.clap.specs.declared.error.kind.ErrorKind.TheVariants.{DisplayHelp, TooManyValues, UnknownArgument}
use Rattle.zb_words.specs.declared.verb.Verb.{Verb}
use Rattle.zb_words.specs.Part.{has_dash, is_option, takes_files}
use Rattle.zb_words.specs.App.{leaf}
use Rattle.zb_words.proofs.RowLemmas.{same_bytes}
use Rattle.zb_words.proofs.LeafLemmas.{IsOption, built_file, built_help, built_option, dashes, file_at, no_file_at, no_option}

-- what is pending
abbrev pub Pending : Type 0
Pending = Option (Text × List Text)

abbrev pub held : List Row → Pending → Held
held rows pending = record { rows = rows; pending = pending; skip = 0 }

-- the walk between two words, in front of "--" or behind it
abbrev pub at : Bool → List Row → Pending → Waiting → Walk
at behind rows pending waiting = record { held = held rows pending; waiting = waiting; position = 1; is_trailing = behind; stopped = None }

-- no option waits for its value
abbrev pub IsFree : Waiting → Type 0
IsFree idle = ⊤
IsFree (option id) = ⊥
IsFree positional = ⊤

-- what clap finds wrong with the words, and with what is pending at their end
abbrev pub total : Verb → Walk → List Text → Kinds
total verb w words = or_else (walk_fault (leaf verb) [] w words) (settle_fault (leaf verb).rules false (fold (walked (leaf verb).rules []) w words).held)

-- the rows at their end
abbrev pub final : Verb → Walk → List Text → List Row
final verb w words = settled_rows (leaf verb).rules (fold (walked (leaf verb).rules []) w words).held.pending (fold (walked (leaf verb).rules []) w words).held.rows

is_fault : Kinds → Bool
is_fault [] = false
is_fault (k ∷ ks) = true

pub no_fault : (k : ErrorKind) (ks : Kinds) → k ∷ ks ≡ [] → ⊥
unfolding is_fault
no_fault k ks e = true≢false (ap is_fault e)

pub neither : (a b : Kinds) → or_else a b ≡ [] → (a ≡ []) × (b ≡ [])
neither [] b e = (refl, e)
neither (k ∷ ks) b e = absurd (no_fault k ks e)

or_else_again : (a b d : Kinds) → or_else (or_else a b) d ≡ or_else a (or_else b d)
or_else_again [] b d = refl
or_else_again (k ∷ ks) b d = refl

-- one word, and then the others
pub next_word : (verb : Verb) (w : Walk) (word : Text) (rest : List Text) → total verb w (word ∷ rest) ≡ or_else (turn_fault (leaf verb) [] w word) (total verb (walked (leaf verb).rules [] w word) rest)
unfolding walk_fault
next_word verb w word rest = or_else_again (turn_fault (leaf verb) [] w word) (walk_fault (leaf verb) [] (walked (leaf verb).rules [] w word) rest) (settle_fault (leaf verb).rules false (fold (walked (leaf verb).rules []) w (word ∷ rest)).held)

no_subcommand : (waiting : Waiting) (word : Text) → subcommand_met [] waiting word ≡ None
no_subcommand idle word = refl
no_subcommand (option id) word = refl
no_subcommand positional word = refl

not_and : (b : Bool) → (b && false) ≡ false
not_and true = refl
not_and false = refl

-- a word that doesn't begin with '-' is no flag
pub plain_word : (word : Text) → has_dash word ≡ false → (long_of word ≡ None) × (short_of word ≡ None) × (bytes_eq word dashes ≡ false)
plain_word [] e = (refl, refl, refl)
plain_word (b ∷ word) e = (rw e refl, rw e refl, rw e refl)

module _ (verb : Verb) where
  -- an option alone
  pub turn_bare : (word : Text) (o : IsOption (leaf verb).rules word) (rows : List Row) (p : Pending) (w : Waiting)
      → turn_fault (leaf verb) [] (at false rows p w) word ≡ or_else (settle_fault (leaf verb).rules false (held rows p)) []
  unfolding leaf
  turn_bare word o rows p w = rw (no_subcommand w word, o.no_dashes, o.bare, o.by_long) refl

  pub walked_bare : (word : Text) (o : IsOption (leaf verb).rules word) (rows : List Row) (p : Pending) (w : Waiting)
      → walked (leaf verb).rules [] (at false rows p w) word ≡ at false (settled_rows (leaf verb).rules p rows) (Some (o.id, [])) (option o.id)
  unfolding walked
  walked_bare word o rows p w = rw (no_subcommand w word, o.no_dashes, o.bare, o.by_long) refl

  -- an option with its value, as one word
  pub turn_joined : (word : Text) (o : IsOption (leaf verb).rules word) (v : Text) (rows : List Row) (p : Pending) (w : Waiting)
      → turn_fault (leaf verb) [] (at false rows p w) (word ++ (codes "=" ++ v))
      ≡ or_else (or_else (settle_fault (leaf verb).rules false (held rows p)) (use_fault false (built_option o.id o.required) (v ∷ []) (settled_rows (leaf verb).rules p rows))) []
  unfolding leaf
  turn_joined word o v rows p w = rw (no_subcommand w (word ++ (codes "=" ++ v)), o.no_joined_dashes v, o.joined v, o.by_long) refl

  pub walked_joined : (word : Text) (o : IsOption (leaf verb).rules word) (v : Text) (rows : List Row) (p : Pending) (w : Waiting)
      → walked (leaf verb).rules [] (at false rows p w) (word ++ (codes "=" ++ v)) ≡ at false (used (built_option o.id o.required) (v ∷ []) (settled_rows (leaf verb).rules p rows)) None idle
  unfolding walked
  walked_joined word o v rows p w = rw (no_subcommand w (word ++ (codes "=" ++ v)), o.no_joined_dashes v, o.joined v, o.by_long) refl

  -- the value behind an option
  pub turn_value : (word v : Text) (o : IsOption (leaf verb).rules word) (rows : List Row) → has_dash v ≡ false → turn_fault (leaf verb) [] (at false rows (Some (o.id, [])) (option o.id)) v ≡ []
  unfolding leaf
  turn_value word v o rows plain =
      let its = plain_word v plain in
      rw (its.2, its.0, its.1) refl

  pub walked_value : (word v : Text) (o : IsOption (leaf verb).rules word) (rows : List Row) → has_dash v ≡ false
      → walked (leaf verb).rules [] (at false rows (Some (o.id, [])) (option o.id)) v ≡ at false rows (Some (o.id, v ∷ [])) idle
  unfolding walked
  walked_value word v o rows plain =
      let its = plain_word v plain in
      rw (its.2, its.0, its.1, o.by_id, same_bytes o.id) refl

  -- a FILE
  pub turn_file : (v : Text) (rows : List Row) (p : Pending) (w : Waiting) → takes_files verb ≡ true → IsFree w → has_dash v ≡ false
      → turn_fault (leaf verb) [] (at false rows p w) v ≡ settle_fault (leaf verb).rules false (held rows p)
  unfolding leaf
  turn_file v rows p idle takes free plain =
      let its = plain_word v plain in
      rw (its.2, its.0, its.1, file_at verb takes, not_and (is_pending built_file p)) refl
  turn_file v rows p positional takes free plain =
      let its = plain_word v plain in
      rw (its.2, its.0, its.1, file_at verb takes, not_and (is_pending built_file p)) refl
  turn_file v rows p (option id) takes free plain = absurd free

  pub walked_file : (v : Text) (rows : List Row) (p : Pending) (w : Waiting) → takes_files verb ≡ true → IsFree w → has_dash v ≡ false
      → walked (leaf verb).rules [] (at false rows p w) v ≡ at false (settled_rows (leaf verb).rules p rows) (Some (codes "FILE", v ∷ [])) positional
  unfolding walked
  walked_file v rows p idle takes free plain =
      let its = plain_word v plain in
      rw (its.2, its.0, its.1, file_at verb takes, not_and (is_pending built_file p)) refl
  walked_file v rows p positional takes free plain =
      let its = plain_word v plain in
      rw (its.2, its.0, its.1, file_at verb takes, not_and (is_pending built_file p)) refl
  walked_file v rows p (option id) takes free plain = absurd free

  -- where no FILEs may follow it is a fault
  pub stray_file : (v : Text) (rows : List Row) (p : Pending) (w : Waiting) → takes_files verb ≡ false → IsFree w → has_dash v ≡ false → turn_fault (leaf verb) [] (at false rows p w) v ≡ [] → ⊥
  unfolding leaf
  stray_file v rows p idle takes free plain e =
      let its = plain_word v plain in
      no_fault UnknownArgument [] (rw (its.2, its.0, its.1, no_file_at verb takes) at e)
  stray_file v rows p positional takes free plain e =
      let its = plain_word v plain in
      no_fault UnknownArgument [] (rw (its.2, its.0, its.1, no_file_at verb takes) at e)
  stray_file v rows p (option id) takes free plain e = absurd free

  -- "--"
  pub turn_dashes : (rows : List Row) (p : Pending) (w : Waiting) → turn_fault (leaf verb) [] (at false rows p w) dashes ≡ []
  unfolding leaf
  turn_dashes rows p w = rw (no_subcommand w dashes) refl

  pub walked_dashes : (rows : List Row) (p : Pending) (w : Waiting) → walked (leaf verb).rules [] (at false rows p w) dashes ≡ at true rows p w
  unfolding walked
  walked_dashes rows p w = rw (no_subcommand w dashes) refl

  -- a word behind it
  pub turn_behind : (v : Text) (rows : List Row) (p : Pending) (w : Waiting) → takes_files verb ≡ true → turn_fault (leaf verb) [] (at true rows p w) v ≡ settle_fault (leaf verb).rules false (held rows p)
  unfolding leaf
  turn_behind v rows p w takes = rw (file_at verb takes, not_and (is_pending built_file p)) refl

  pub walked_behind : (v : Text) (rows : List Row) (p : Pending) (w : Waiting) → takes_files verb ≡ true
      → walked (leaf verb).rules [] (at true rows p w) v ≡ at true (settled_rows (leaf verb).rules p rows) (Some (codes "FILE", v ∷ [])) positional
  unfolding walked
  walked_behind v rows p w takes = rw (file_at verb takes, not_and (is_pending built_file p)) refl

  -- a word that begins with two '-'
  long_turn : (word name : Text) (value : Option Text) (rows : List Row) (p : Pending) (w : Waiting) → bytes_eq word dashes ≡ false → long_of word ≡ Some (name, value)
      → turn_fault (leaf verb) [] (at false rows p w) word ≡ [] → long_fault (leaf verb).rules false (arg_by_long (leaf verb).rules name) value (held rows p) ≡ []
  unfolding leaf
  long_turn word name value rows p w differ long e =
      let first : word_fault (leaf verb) [] false w word (held rows p) ≡ [] = (neither _ _ e).0 in
      rw (no_subcommand w word, differ, long) at first

  -- names an option
  pub long_named : (word name : Text) (value : Option Text) (rows : List Row) (p : Pending) (w : Waiting) → bytes_eq word dashes ≡ false → long_of word ≡ Some (name, value)
      → turn_fault (leaf verb) [] (at false rows p w) word ≡ [] → is_option verb (45 ∷ 45 ∷ name) ≡ true
  long_named word name value rows p w differ long e = go (is_option verb (45 ∷ 45 ∷ name)) refl (arg_by_long (leaf verb).rules name) refl value (long_turn word name value rows p w differ long e)
    where
      go : (b : Bool) → is_option verb (45 ∷ 45 ∷ name) ≡ b → (found : Option Rule) → arg_by_long (leaf verb).rules name ≡ found → (value : Option Text)
          → long_fault (leaf verb).rules false found value (held rows p) ≡ [] → is_option verb (45 ∷ 45 ∷ name) ≡ true
      go true is found at value e = is
      go false is None at value e = absurd (no_fault UnknownArgument [] e)
      go false is (Some a) at (Some v) e =
          absurd (no_fault TooManyValues [] (subst (λ x. long_fault (leaf verb).rules false (Some x) (Some v) (held rows p) ≡ []) (no_option verb name a is at) e))
      go false is (Some a) at None e =
          let fault = subst (λ x. long_fault (leaf verb).rules false (Some x) None (held rows p) ≡ []) (no_option verb name a is at) e in
          absurd (no_fault DisplayHelp [] (neither (settle_fault (leaf verb).rules false (held rows p)) (use_fault false built_help [] (settled_rows (leaf verb).rules p rows)) fault).1)

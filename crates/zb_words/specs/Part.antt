-- The parts of a command line: options with the texts of their values, and FILEs.
use Rattle.std.specs.Prelude.{◌≡◌, ◌==◌, ◌<◌, ◌%◌, ◌⊎◌, ℕ, Bool, true, false, Option, Some, None, List, [], ◌∷◌, ◌++◌, length, codes, slice_index, option_to_list, if◌then◌else◌}
use Rattle.std.specs.List.{filter_map, list_any, before_first, after_first}
use Rattle.std.specs.Str.{bytes_eq}
use Rattle.zb_words.specs.declared.verb.Verb.{Verb}
use Rattle.zb_words.specs.declared.verb.Verb.TheVariants as verbs

-- the options of a verb (own)
abbrev pub options_of : Verb → List (List ℕ)
options_of verbs.Serve = codes "--partitions" ∷ codes "--dir" ∷ codes "--clock" ∷ codes "--limit" ∷ codes "--units" ∷ []
options_of verbs.Log = codes "--partitions" ∷ codes "--dir" ∷ codes "--partition" ∷ []
options_of verbs.Gen = codes "--number" ∷ codes "--requests" ∷ codes "--partitions" ∷ []

-- whether the text is an option of the verb (own)
abbrev pub is_option : Verb → List ℕ → Bool
is_option verb text = list_any (bytes_eq text) (options_of verb)

-- whether FILEs may follow the verb (own)
abbrev pub takes_files : Verb → Bool
takes_files verbs.Serve = true
takes_files verbs.Log = false
takes_files verbs.Gen = false

-- whether the text begins with '-' (own)
abbrev pub has_dash : List ℕ → Bool
has_dash text = slice_index text 0 == 45

-- a part of a command line: an option with the text of its value, or a FILE, which has no option (own)
abbrev pub Part : Type 0
Part = Option (List ℕ) × List ℕ

-- the words begin with this part, and these are the rest; an option and its value, which isn't empty, are two words, of which the second
-- doesn't begin with '-', or one with '=' between the two; a FILE is a word that doesn't begin with '-' (own)
abbrev pub Gives : Verb → List (List ℕ) → Part → List (List ℕ) → Type 0
Gives verb words (Some option, text) rest = (is_option verb option ≡ true) × (0 < length text)
    × (((words ≡ option ∷ text ∷ rest) × (has_dash text ≡ false)) ⊎ (words ≡ (option ++ (codes "=" ++ text)) ∷ rest))
Gives verb words (None, text) rest = (takes_files verb ≡ true) × (words ≡ text ∷ rest) × (has_dash text ≡ false)

-- the words give these parts, one after another (own)
abbrev pub GiveAll : Verb → List (List ℕ) → List Part → Type 0
GiveAll verb words [] = words ≡ []
GiveAll verb words (part ∷ parts) = (rest : List (List ℕ)) × Gives verb words part rest × GiveAll verb rest parts

-- the text that the part gives the option (own)
abbrev pub text_for : List ℕ → Part → Option (List ℕ)
text_for option (Some name, text) = if bytes_eq name option then Some text else None
text_for option (None, text) = None

-- the FILE that the part is (own)
abbrev pub file_in : Part → Option (List ℕ)
file_in (Some name, text) = None
file_in (None, text) = Some text

-- the words are parts, of which one at most gives the option a text, which is this one (own)
pub record GiveOnce (verb : Verb) (words : List (List ℕ)) (option : List ℕ) (text : Option (List ℕ)) : Type 0 where
  pub parts : List Part
  pub given : GiveAll verb words parts
  pub once : filter_map (text_for option) parts ≡ option_to_list text

-- x is what the text says, or the default where there is no text (own)
abbrev pub IsMeant : {X : Type 0} → (List ℕ → X → Type 0) → Option (List ℕ) → Option X → X → Type 0
IsMeant Says (Some text) default x = Says text x
IsMeant Says None (Some default) x = x ≡ default
IsMeant Says None None x = ⊥

-- the words are parts, which ask for x by this option; where there is no default they have to (own)
pub record AskFor {X : Type 0} (verb : Verb) (words : List (List ℕ)) (option : List ℕ) (Says : List ℕ → X → Type 0) (default : Option X) (x : X) : Type 0 where
  pub text : Option (List ℕ)
  pub once : GiveOnce verb words option text
  pub meant : IsMeant Says text default x

-- whether the word tells that only FILEs follow (own)
abbrev pub is_dashes : List ℕ → Bool
is_dashes word = bytes_eq word (codes "--")

-- the words before "--", or all where there is none (own)
abbrev pub before_dashes : List (List ℕ) → List (List ℕ)
before_dashes words = before_first is_dashes words

-- the words behind "--" (own)
abbrev pub behind_dashes : List (List ℕ) → List (List ℕ)
behind_dashes words = after_first is_dashes words

-- the words are parts, and these are the FILEs among them (own)
pub record GiveFiles (verb : Verb) (words files : List (List ℕ)) : Type 0 where
  pub parts : List Part
  pub given : GiveAll verb words parts
  pub all : filter_map file_in parts ≡ files

-- the FILEs of a command line: those among these words, and then each of the words behind "--"; they come in pairs (own)
pub record ArePaths (words behind files : List (List ℕ)) : Type 0 where
  pub among : List (List ℕ)
  pub given : GiveFiles verbs.Serve words among
  pub all : files ≡ among ++ behind
  pub pairs : length files % 2 ≡ 0

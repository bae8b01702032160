-- The lines of a stream, served and to come.
use Rattle.std.proofs.Common.{◌≡◌, ◌≢◌, ℕ, ◌<◌, ◌≤◌, List, [], ◌∷◌, ◌++◌, length, Bool, true, false, IsTrue, eqb, refl, sym, ap, ◌∙◌, append_assoc, arith}
use Rattle.std.proofs.lemmas.Bool.{eqb-true, eqb-false, false≢true}
use Rattle.std.proofs.lemmas.List.{append-nil}
use Rattle.std.proofs.lemmas.Grind.{flat_map-append}
use Rattle.std.specs.List.{flat_map, AllByRecursion}
use Rattle.zb_outside.specs.Stream.{SourceView}
use Rattle.zb_lines.specs.Taken.{TakesBytes}
use Rattle.zb_lines.specs.Line.{newline, IsOneLine, ended, AreLines}
use Rattle.zb_rules.proofs.KindsLaws.{all_joined}
use Rattle.zb_session.specs.Answer.{Answer}
use Rattle.zb_session.specs.Session.{replies_of, last_line, most_taken}

-- the lines of some bytes
pub record Splits (bytes : List ℕ) : Type 0 where
  pub lines : List (List ℕ)
  pub rest : List ℕ
  pub are : AreLines bytes lines rest

-- a newline ends an empty line
splits_newline : (byte : ℕ) (bytes : List ℕ) → byte ≡ newline → Splits bytes → Splits (byte ∷ bytes)
unfolding IsOneLine
splits_newline byte bytes is later = record {
  lines = [] ∷ later.lines;
  rest = later.rest;
  are = record { whole = rw (is, later.are.whole) refl; each = (tt, later.are.each); partial = later.are.partial };
}

-- any other byte begins the line behind it
splits_byte : (byte : ℕ) (bytes : List ℕ) → byte ≢ newline → (lines : List (List ℕ)) (rest : List ℕ) → AreLines bytes lines rest → Splits (byte ∷ bytes)
unfolding IsOneLine
splits_byte byte bytes other [] rest are = record {
  lines = [];
  rest = byte ∷ rest;
  are = record { whole = ap (λ bs. byte ∷ bs) are.whole; each = tt; partial = (other, are.partial) };
}
splits_byte byte bytes other (line ∷ lines) rest are = record {
  lines = (byte ∷ line) ∷ lines;
  rest = rest;
  are = record { whole = ap (λ bs. byte ∷ bs) are.whole; each = ((other, are.each.0), are.each.1); partial = are.partial };
}

splits_by : (byte : ℕ) (bytes : List ℕ) (is_newline : Bool) → eqb byte newline ≡ is_newline → Splits bytes → Splits (byte ∷ bytes)
splits_by byte bytes true is later = splits_newline byte bytes (eqb-true byte newline is) later
splits_by byte bytes false is later = splits_byte byte bytes (eqb-false byte newline is) later.lines later.rest later.are

-- any bytes are lines and a rest
pub splits : (bytes : List ℕ) → Splits bytes
unfolding IsOneLine
splits [] = record { lines = []; rest = []; are = record { whole = refl; each = tt; partial = tt } }
splits (byte ∷ bytes) = splits_by byte bytes (eqb byte newline) refl (splits bytes)

-- the replies of one answer more
pub replies_of_more : (answers : List Answer) (answer : Answer) → replies_of (answers ++ answer ∷ []) ≡ replies_of answers ++ answer.reply
replies_of_more answers answer = flat_map-append (λ (a : Answer). a.reply) answers (answer ∷ []) ∙ ap (λ bs. replies_of answers ++ bs) (append-nil answer.reply)

-- a source has told its end, and has nothing left where it tells its bytes
abbrev pub IsAtItsEnd : Bool → SourceView → Type 0
IsAtItsEnd tells now = IsTrue now.ended × (IsTrue tells → now.left ≡ [])

-- what a session took, the lines that were served and those that weren't
pub record IsStream (tells : Bool) (start now : SourceView) (served unserved : List (List ℕ)) (at_end : Bool) : Type 0 where
  pub taken : List ℕ
  pub lines : List (List ℕ)
  pub rest : List ℕ
  pub takes : TakesBytes tells start now taken
  pub within : length taken ≤ most_taken
  pub are : AreLines taken lines rest
  pub to_end : IsTrue at_end → IsAtItsEnd tells now
  pub not_ended : at_end ≡ false → now.ended ≡ start.ended
  pub first : lines ++ last_line at_end rest ≡ served ++ unserved

-- bytes behind served lines
pub record IsBehind (tells : Bool) (start now : SourceView) (lines : List (List ℕ)) (bytes : List ℕ) : Type 0 where
  pub taken : List ℕ
  pub takes : TakesBytes tells start now taken
  pub within : length taken ≤ most_taken
  pub whole : taken ≡ flat_map ended lines ++ bytes
  pub each : AllByRecursion IsOneLine lines

-- the stream stopped somewhere
pub stream_cut : (tells : Bool) (start now : SourceView) (lines : List (List ℕ)) (bytes : List ℕ) → IsBehind tells start now lines bytes → now.ended ≡ start.ended → (s : Splits bytes) → IsStream tells start now lines s.lines false
stream_cut tells start now lines bytes behind still s = record {
  taken = behind.taken;
  lines = lines ++ s.lines;
  rest = s.rest;
  takes = behind.takes;
  within = behind.within;
  are = record {
    whole = behind.whole ∙ rw (s.are.whole, flat_map-append ended lines s.lines) (sym (append_assoc (flat_map ended lines) (flat_map ended s.lines) s.rest));
    each = all_joined IsOneLine lines s.lines behind.each s.are.each;
    partial = s.are.partial;
  };
  to_end = λ none. absurd (false≢true none);
  not_ended = λ none. still;
  first = append-nil (lines ++ s.lines);
}

-- the stream stopped within a line
pub stream_within : (tells : Bool) (start now : SourceView) (lines : List (List ℕ)) (bytes : List ℕ) → IsBehind tells start now lines bytes → now.ended ≡ start.ended → IsOneLine bytes → IsStream tells start now lines [] false
stream_within tells start now lines bytes behind still one = record {
  taken = behind.taken;
  lines = lines;
  rest = bytes;
  takes = behind.takes;
  within = behind.within;
  are = record { whole = behind.whole; each = behind.each; partial = one };
  to_end = λ none. absurd (false≢true none);
  not_ended = λ none. still;
  first = refl;
}

last_line_some : (bytes : List ℕ) → 0 < length bytes → last_line true bytes ≡ bytes ∷ []
last_line_some [] some = absurd (omega arith)
last_line_some (byte ∷ bytes) some = refl

-- the stream came to its end within a line
pub stream_last : (tells : Bool) (start now : SourceView) (lines : List (List ℕ)) (bytes : List ℕ) → IsBehind tells start now lines bytes → IsOneLine bytes → 0 < length bytes
    → IsAtItsEnd tells now → IsStream tells start now lines (bytes ∷ []) true
stream_last tells start now lines bytes behind one some end = record {
  taken = behind.taken;
  lines = lines;
  rest = bytes;
  takes = behind.takes;
  within = behind.within;
  are = record { whole = behind.whole; each = behind.each; partial = one };
  to_end = λ ended. end;
  not_ended = λ none. absurd (false≢true (sym none));
  first = ap (λ more. lines ++ more) (last_line_some bytes some);
}

-- the stream came to its end behind a line
pub stream_end : (tells : Bool) (start now : SourceView) (lines : List (List ℕ)) (bytes : List ℕ) → IsBehind tells start now lines bytes → bytes ≡ []
    → IsAtItsEnd tells now → IsStream tells start now lines [] true
unfolding IsOneLine
stream_end tells start now lines bytes behind none end = record {
  taken = behind.taken;
  lines = lines;
  rest = [];
  takes = behind.takes;
  within = behind.within;
  are = record { whole = behind.whole ∙ ap (λ bs. flat_map ended lines ++ bs) none; each = behind.each; partial = tt };
  to_end = λ ended. end;
  not_ended = λ none. absurd (false≢true (sym none));
  first = refl;
}

-- the first line that isn't served is
pub stream_on : (tells : Bool) (start now : SourceView) (served : List (List ℕ)) (line : List ℕ) (unserved : List (List ℕ)) (at_end : Bool)
    → IsStream tells start now served (line ∷ unserved) at_end → IsStream tells start now (served ++ line ∷ []) unserved at_end
stream_on tells start now served line unserved at_end s = record {
  taken = s.taken;
  lines = s.lines;
  rest = s.rest;
  takes = s.takes;
  within = s.within;
  are = s.are;
  to_end = s.to_end;
  not_ended = s.not_ended;
  first = s.first ∙ sym (append_assoc served (line ∷ []) unserved);
}

-- the stream stopped behind a line with its newline
pub stream_line : (tells : Bool) (start now : SourceView) (lines : List (List ℕ)) (bytes line left : List ℕ) → IsBehind tells start now lines bytes → now.ended ≡ start.ended → bytes ≡ ended line ++ left → IsOneLine line
    → IsStream tells start now lines (line ∷ (splits left).lines) false
stream_line tells start now lines bytes line left behind still is one =
    let later = splits left in
    stream_cut tells start now lines bytes behind still (record {
      lines = line ∷ later.lines;
      rest = later.rest;
      are = record {
        whole = is ∙ ap (λ bs. ended line ++ bs) later.are.whole ∙ sym (append_assoc (ended line) (flat_map ended later.lines) later.rest);
        each = (one, later.are.each);
        partial = later.are.partial;
      };
    })

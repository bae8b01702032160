-- How a reader goes through a line.
use Rattle.std.proofs.Common.{◌≡◌, ◌↔◌, ◌+◌, ◌<◌, ℕ, Bool, true, List, [], ◌∷◌, ◌++◌, length, take, refl, ap, sym, ◌∙◌, arith, IsTrue, Result, Ok, Err}
use Rattle.std.proofs.lemmas.List.{append_assoc, append-nil, length-append}
use Rattle.std.specs.declared.alloc.AllocError.{AllocError}
use Rattle.zb_outside.specs.Stream.{SourceView}
use Rattle.zb_outside.specs.declared.trouble.Trouble.{Trouble}
use Rattle.zb_outside.specs.declared.trouble.Trouble.TheVariants as troubles
use Rattle.zb_lines.specs.declared.reader.Next.{Next}
use Rattle.zb_lines.specs.declared.reader.Next.TheVariants as nexts
use Rattle.zb_lines.specs.Taken.{TakesBytes}
use Rattle.zb_lines.proofs.TakenLaws.{takes_on, takes_nothing}
use Rattle.zb_lines.specs.Line.{IsOneLine, Comes, ended, newline}
use Rattle.zb_lines.specs.Step.{kept, HandsOut, ReadsLine}
use Rattle.zb_lines.proofs.LineLemmas.{IsOneLine-append, one_nothing, take-none, kept-take}

-- what a call did to the source and the budget, and how the stream went on
abbrev pub Came : Bool → SourceView → SourceView → ℕ → ℕ → ℕ → Result Next Trouble → List ℕ → List ℕ → List ℕ → Type 0
Came tells old new budget after most result first left shown = (more : List ℕ) × TakesBytes tells old new more × (budget ≡ after + length more) × Comes most result (first ++ more) left shown

-- at the start of a line
pub starts : (tells : Bool) (view : SourceView) (budget most : ℕ) (first shown : List ℕ) (is_begun : Bool) → shown ≡ [] → (IsTrue is_begun ↔ (0 < length first)) → ReadsLine tells view view budget budget most first first shown is_begun
starts tells view budget most first shown is_begun none begun = record {
  more = [];
  seen = [];
  takes = takes_nothing tells view;
  spent = omega arith;
  bytes = append-nil first;
  one = one_nothing;
  shows = none ∙ sym (take-none most);
  begun = rw (append-nil first) begun;
}

-- a piece was gone through without a newline, and another came
pub goes_on : (tells : Bool) (old mid new : SourceView) (budget before after most : ℕ) (first held shown shown' next : List ℕ) (is_begun : Bool) → ReadsLine tells old mid budget before most first held shown is_begun → IsOneLine held → shown' ≡ kept most shown held → TakesBytes tells mid new next → before ≡ after + length next → 0 < length next → ReadsLine tells old new budget after most first next shown' true
goes_on tells old mid new budget before after most first held shown shown' next is_begun r one shows takes spent some = record {
  more = r.more ++ next;
  seen = r.seen ++ held;
  takes = takes_on tells old mid new r.more next r.takes takes;
  spent = omega (arith, length-append r.more next);
  bytes = sym (append_assoc first r.more next) ∙ ap (λ bs. bs ++ next) r.bytes;
  one = IsOneLine-append r.seen held r.one one;
  shows = shows ∙ (ap (λ bs. kept most bs held) r.shows ∙ kept-take most r.seen held);
  begun = (λ _. omega (arith, length-append first (r.more ++ next), length-append r.more next), λ _. refl);
}

-- a newline came
pub ends_line : (tells : Bool) (old new : SourceView) (budget after most : ℕ) (first held left shown shown' : List ℕ) (is_begun : Bool) → ReadsLine tells old new budget after most first held shown is_begun → HandsOut {E = AllocError} most (Ok true) held left shown shown' → Came tells old new budget after most (Ok nexts.Line) first left shown'
ends_line tells old new budget after most first held left shown shown' is_begun r (part, one, split, shows) =
    let line = r.seen ++ part in
    let whole : first ++ r.more ≡ ended line ++ left =
    r.bytes ∙ (ap (λ bs. r.seen ++ bs) split ∙ (sym (append_assoc r.seen (ended part) left) ∙ ap (λ bs. bs ++ left) (sym (append_assoc r.seen part (newline ∷ []))))) in
    (r.more, r.takes, r.spent, (line, IsOneLine-append r.seen part r.one one, whole, shows ∙ (ap (λ bs. kept most bs part) r.shows ∙ kept-take most r.seen part)))

-- the source gave no more
pub gives_no_more : (tells : Bool) (old mid new : SourceView) (budget before after most : ℕ) (first held shown : List ℕ) (is_begun : Bool) → ReadsLine tells old mid budget before most first held shown is_begun → TakesBytes tells mid new [] → before ≡ after → ReadsLine tells old new budget after most first held shown is_begun
gives_no_more tells old mid new budget before after most first held shown is_begun r takes same = record {
  more = r.more;
  seen = r.seen;
  takes = rw append-nil at (takes_on tells old mid new r.more [] r.takes takes);
  spent = r.spent ∙ ap (λ n. n + length r.more) same;
  bytes = r.bytes;
  one = r.one;
  shows = r.shows;
  begun = r.begun;
}

-- no newline has come
pub none_came : (tells : Bool) (old new : SourceView) (budget after most : ℕ) (first held shown : List ℕ) (is_begun : Bool) → (r : ReadsLine tells old new budget after most first held shown is_begun) → IsOneLine held → IsOneLine (first ++ r.more)
none_came tells old new budget after most first held shown is_begun r one = rw r.bytes (IsOneLine-append r.seen held r.one one)

-- the source had ended behind the line's bytes
pub ends_stream : (tells : Bool) (old new : SourceView) (budget after most : ℕ) (first held left shown shown' : List ℕ) → ReadsLine tells old new budget after most first held shown true → IsOneLine held → shown' ≡ kept most shown held → left ≡ [] → Came tells old new budget after most (Ok nexts.Last) first left shown'
ends_stream tells old new budget after most first held left shown shown' r one shows none =
    let shows_all : shown' ≡ take most (first ++ r.more) =
    shows ∙ (ap (λ bs. kept most bs held) r.shows ∙ (kept-take most r.seen held ∙ ap (λ bs. take most bs) (sym r.bytes))) in
    (r.more, r.takes, r.spent, (none_came tells old new budget after most first held shown true r one, r.begun.0 refl, none, shows_all))

-- the source was refused
pub stops : (tells : Bool) (old new : SourceView) (budget after most : ℕ) (first held left shown shown' : List ℕ) (is_begun : Bool) (trouble : Trouble) → ReadsLine tells old new budget after most first held shown is_begun → IsOneLine held → Came tells old new budget after most (Err trouble) first left shown'
stops tells old new budget after most first held left shown shown' is_begun troubles.Failed r one =
    (r.more, r.takes, r.spent, none_came tells old new budget after most first held shown is_begun r one)
stops tells old new budget after most first held left shown shown' is_begun troubles.Memory r one = (r.more, r.takes, r.spent, tt)

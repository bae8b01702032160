-- The lines of events, one more at a time.
use Rattle.std.proofs.Common.{◌≡◌, ℕ, ◌+◌, List, [], ◌∷◌, ◌++◌, length, ap, sym, ◌∙◌, append_assoc, arith, take, get_or, ◌<◌, ◌≤◌}
use Rattle.std.proofs.lemmas.List.{append-nil, take_more, length-take-le}
use Rattle.zb_model.specs.declared.record.Event.{Event}
use Rattle.zb_show.specs.declared.lines.Stamp.{Stamp}
use Rattle.zb_show.specs.Lines.{event_line, event_lines, stamp_behind}

pub event_lines_more : (s : Stamp) (i : ℕ) (es : List Event) (e : Event) → event_lines s i (es ++ e ∷ []) ≡ event_lines s i es ++ event_line (stamp_behind s (i + length es)) e
event_lines_more s i [] e =
    let same : i + 0 ≡ i = omega arith in
    append-nil (event_line (stamp_behind s i) e) ∙ ap (λ n. event_line (stamp_behind s n) e) (sym same)
event_lines_more s i (x ∷ es) e =
    let same : i + 1 + length es ≡ i + length (x ∷ es) = omega arith in
    ap (λ ls. event_line (stamp_behind s i) x ++ ls) (event_lines_more s (i + 1) es e ∙ ap (λ n. event_lines s (i + 1) es ++ event_line (stamp_behind s n) e) same)
    ∙ sym (append_assoc (event_line (stamp_behind s i) x) (event_lines s (i + 1) es) _)

-- one event more has its line
pub next_event : (s st : Stamp) (es : List Event) (i : ℕ) (e : Event) (before text more : List ℕ) → i < length es → e ≡ get_or es i e → st ≡ stamp_behind s i
    → text ≡ before ++ event_lines s 0 (take i es) → more ≡ text ++ event_line st e → more ≡ before ++ event_lines s 0 (take (i + 1) es)
next_event s st es i e before text more within at stamp so_far adds =
    let front : take (i + 1) es ≡ take i es ++ e ∷ [] = take_more es i e within ∙ ap (λ x. take i es ++ x ∷ []) (sym at) in
    let short : i ≤ length es = omega arith in
    let count : 0 + length (take i es) ≡ i = rw (length-take-le i es short) (omega arith) in
    let lines : event_lines s 0 (take (i + 1) es) ≡ event_lines s 0 (take i es) ++ event_line st e =
    ap (event_lines s 0) front ∙ event_lines_more s 0 (take i es) e ∙ ap (λ n. event_lines s 0 (take i es) ++ event_line (stamp_behind s n) e) count
    ∙ ap (λ x. event_lines s 0 (take i es) ++ event_line x e) (sym stamp) in
    adds ∙ ap (λ t. t ++ event_line st e) so_far ∙ append_assoc before (event_lines s 0 (take i es)) (event_line st e) ∙ ap (λ ls. before ++ ls) (sym lines)

-- What lines are answered.
use Rattle.std.proofs.Common.{◌≡◌, ℕ, List, [], ◌∷◌, ◌++◌, None, Err, refl, ap, ◌∙◌}
use Rattle.std.proofs.lemmas.Grind.{flat_map-append}
use Rattle.std.proofs.lemmas.List.{append-nil, map-append}
use Rattle.zb_wire.specs.declared.given.Given.{Given}
use Rattle.zb_wire.specs.declared.request.LineFault.{LineFault}
use Rattle.zb_wire.specs.Request.{request_of}
use Rattle.zb_reply.specs.Reply.{line_of}
use Rattle.zb_reply.specs.declared.reply.Reply.TheVariants as replies
use Rattle.zb_session.specs.Answer.{Answer, IsAnswer, found_in, entries_made}

-- one answer more
pub found_more : (answers : List Answer) (answer : Answer) → found_in (answers ++ answer ∷ []) ≡ found_in answers ++ answer.asked ∷ []
found_more answers answer = map-append (λ (a : Answer). a.asked) answers (answer ∷ [])

pub entries_more : (answers : List Answer) (answer : Answer) → entries_made (answers ++ answer ∷ []) ≡ entries_made answers ++ answer.entries
entries_more answers answer = flat_map-append (λ (a : Answer). a.entries) answers (answer ∷ []) ∙ ap (λ es. entries_made answers ++ es) (append-nil answer.entries)

-- a line that is no request is answered by its fault
pub fault_answered : (given : Given) (line reply old : List ℕ) (fault : LineFault) → request_of given line ≡ Err fault → old ≡ []
    → reply ≡ old ++ line_of (replies.Fault given.number fault) None → IsAnswer given line (record { asked = Err fault; reading = 0; entries = []; reply = reply })
fault_answered given line reply old fault is none put = record {
  found = is;
  replied = (refl, put ∙ ap (λ bs. bs ++ line_of (replies.Fault given.number fault) None) none);
}

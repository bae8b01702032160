-- Texts in UTF-8.
use Rattle.std.proofs.Common.{◌≡◌, ℕ, Bool, true, false, None, Some, List, refl}
use Rattle.std.specs.Str.{IsUtf8, is_utf8}
use Rattle.std.proofs.lemmas.Str.{IsUtf8-from_is_utf8, is_utf8-from_IsUtf8}
use Rattle.zb_format.specs.Reading.{passed}

pub good : (bytes : List ℕ) → IsUtf8 bytes → passed is_utf8 bytes ≡ Some bytes
good bytes h = rw (is_utf8-from_IsUtf8 bytes h) refl

bad_by : (bytes : List ℕ) (b : Bool) → is_utf8 bytes ≡ b → (IsUtf8 bytes → ⊥) → passed is_utf8 bytes ≡ None
bad_by bytes true e h = absurd (h (IsUtf8-from_is_utf8 bytes e))
bad_by bytes false e h = rw e refl

pub bad : (bytes : List ℕ) → (IsUtf8 bytes → ⊥) → passed is_utf8 bytes ≡ None
bad bytes h = bad_by bytes (is_utf8 bytes) refl h

pub ruleset texts = (good, bad)

pub is_text : (bytes : List ℕ) → IsUtf8 bytes → is_utf8 bytes ≡ true
is_text bytes h = is_utf8-from_IsUtf8 bytes h

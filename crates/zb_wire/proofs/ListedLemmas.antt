-- A list of members, and the object that it is.
use Rattle.std.specs.Prelude.{◌≡◌, ℕ, List, [], ◌∷◌, ◌++◌, true, false, Option, Some, String, string_bytes, refl}
use Rattle.std.specs.declared.alloc.Global.{Global}
use Rattle.std.specs.declared.cmp.Ordering.{Ordering}
use Rattle.std.specs.declared.cmp.Ordering.TheVariants.{Less, Equal, Greater}
use Rattle.std.proofs.Common.{◌+◌, ◌<◌, length, drop, get_or, sym, ap, ◌∙◌}
use Rattle.std.proofs.lemmas.List.{drop_more}
use Rattle.std.proofs.lemmas.Map.Text.{is_eq-slice_cmp}
use Rattle.std.specs.Cmp.Lexicographic.{slice_cmp}
use Rattle.std.specs.Ordering.{nat_cmp, match_ordering, is_eq}
use Rattle.std.specs.Str.{bytes_eq}
use Rattle.serde_json.specs.Data.{Data, object, Members, member}
use Rattle.serde_json.specs.Find.{get_member, as_object}
use Rattle.serde_json.specs.View.{view, members_view}
use Rattle.serde_json.specs.declared.value.Value.{Value as Json}
use Rattle.zb_wire.specs.declared.members.Member.{Member}
use Rattle.zb_wire.specs.Listed.{members_then, members_listed}

push_behind : (ms : List Member) (m : Member) (rest : Members) → members_then (ms ++ m ∷ []) rest ≡ members_then ms (member m.name.now (view m.value.now) rest)
push_behind [] m rest = refl
push_behind (x ∷ xs) m rest = ap (member x.name.now (view x.value.now)) (push_behind xs m rest)

-- one more member was read, and it was listed
pub listed-step : (all : Members) (listed more : List Member) (es left : List (String Global × Json)) (e : String Global × Json) (m : Member) → all ≡ members_then listed (members_view es) → es ≡ e ∷ left → m.name.now ≡ string_bytes e.0 → m.value.now ≡ e.1 → more ≡ listed ++ m ∷ [] → all ≡ members_then more (members_view left)
listed-step all listed more es left e m so_far first named valued grown =
    let step : members_then (listed ++ m ∷ []) (members_view left) ≡ members_then listed (members_view (e ∷ left)) = push_behind listed m (members_view left) ∙ rw (named, valued) refl in
    rw grown ((rw first at so_far) ∙ sym step)

chosen : (o : Ordering) (found later : Option Data) → is_eq o ≡ true → match_ordering o later found later ≡ found
chosen Less found later is = absurd (cc)
chosen Equal found later is = refl
chosen Greater found later is = absurd (cc)

passed : (o : Ordering) (found later : Option Data) → is_eq o ≡ false → match_ordering o later found later ≡ later
passed Less found later is = refl
passed Equal found later is = absurd (cc)
passed Greater found later is = refl

found_first : (name key : List ℕ) (d : Data) (ms : Members) → true ≡ bytes_eq name key → get_member name (member key d ms) ≡ Some d
found_first name key d ms same = chosen (slice_cmp nat_cmp name key) (Some d) (get_member name ms) (is_eq-slice_cmp name key ∙ sym same)

found_later : (name key : List ℕ) (d : Data) (ms : Members) → false ≡ bytes_eq name key → get_member name (member key d ms) ≡ get_member name ms
found_later name key d ms other = passed (slice_cmp nat_cmp name key) (Some d) (get_member name ms) (is_eq-slice_cmp name key ∙ sym other)

-- what is left of a list begins with the member at its place
left_from : (ms : List Member) (i : ℕ) (m : Member) → i < length ms → m ≡ get_or ms i m → members_listed (drop i ms) ≡ member m.name.now (view m.value.now) (members_listed (drop (i + 1) ms))
left_from ms i m within is = ap members_listed (drop_more ms i m within ∙ ap (λ (x : Member). x ∷ drop (i + 1) ms) (sym is))

-- the member at this place has the name
pub found-here : (name : List ℕ) (all : Option Data) (ms : List Member) (i : ℕ) (m : Member) → i < length ms → m ≡ get_or ms i m → all ≡ get_member name (members_listed (drop i ms)) → true ≡ bytes_eq name m.name.now → Some (view m.value.now) ≡ all
found-here name all ms i m within is so_far same = sym (so_far ∙ ap (get_member name) (left_from ms i m within is) ∙ found_first name m.name.now (view m.value.now) (members_listed (drop (i + 1) ms)) same)

-- the member at this place has another
pub found-later : (name : List ℕ) (all : Option Data) (ms : List Member) (i : ℕ) (m : Member) → i < length ms → m ≡ get_or ms i m → all ≡ get_member name (members_listed (drop i ms)) → false ≡ bytes_eq name m.name.now → all ≡ get_member name (members_listed (drop (i + 1) ms))
found-later name all ms i m within is so_far other = so_far ∙ ap (get_member name) (left_from ms i m within is) ∙ found_later name m.name.now (view m.value.now) (members_listed (drop (i + 1) ms)) other

-- a value that has members is the object that has them
pub object_by : (d : Data) (ms : Members) → as_object d ≡ Some ms → d ≡ object ms
object_by (object ms) rest is = cc
object_by d rest is = absurd (cc)

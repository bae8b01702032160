-- Queries over definitions, where there is one more behind the others.
use Rattle.std.proofs.Common.{◌≡◌, ℕ, ◌==◌, max, List, [], ◌∷◌, ◌++◌, Bool, true, false, ◌&&◌, ◌||◌, cond, if◌then◌else◌, is_some, Option, Some, None, refl, sym, ap, ◌∙◌, option_map, arith}
use Rattle.std.specs.List.{find, list_any}
use Rattle.std.specs.Option.{option_or}
use Rattle.std.specs.Str.{bytes_eq}
use Rattle.std.proofs.lemmas.Bool.Decides.{nat_tests}
use Rattle.std.proofs.lemmas.List.Folds.{find-append}
use Rattle.zb_views.specs.declared.definition.Definition.{Definition}
use Rattle.zb_views.specs.Definitions.{greatest_version, newer_definition, version_of}
use Rattle.zb_definitions.specs.Versions.{greater_key}

-- the key of a definition, if there is one
abbrev key_found : Option Definition → Option ℕ
key_found found = option_map (λ d. d.key) found

newer_key : (d : Definition) (found : Option Definition) → key_found (newer_definition d found) ≡ Some (greater_key d.key (key_found found))
newer_key d None = refl
newer_key d (Some f) = by_test (max d.key f.key == f.key) refl
  where
    by_test : (t : Bool) → (max d.key f.key == f.key) ≡ t → key_found (if t then Some f else Some d) ≡ Some (max d.key f.key)
    by_test true is = let e : f.key ≡ max d.key f.key = grind (arith, nat_tests) in ap (λ (k : ℕ). Some k) e
    by_test false is = let e : d.key ≡ max d.key f.key = grind (arith, nat_tests) in ap (λ (k : ℕ). Some k) e

swapped : (a b : ℕ) (found : Option ℕ) → greater_key a (Some (greater_key b found)) ≡ greater_key b (Some (greater_key a found))
swapped a b None = omega arith
swapped a b (Some c) = omega arith

-- the key that counts for a version of a process
pub version_more : (process : List ℕ) (version : ℕ) (ds : List Definition) (d : Definition) → key_found (version_of process version (ds ++ d ∷ []))
    ≡ (if bytes_eq d.process process && (d.version == version) then Some (greater_key d.key (key_found (version_of process version ds))) else key_found (version_of process version ds))
version_more process version [] d = by_test (bytes_eq d.process process && (d.version == version))
  where
    by_test : (t : Bool) → key_found (if t then newer_definition d None else None) ≡ (if t then Some (greater_key d.key None) else None)
    by_test true = refl
    by_test false = refl
version_more process version (x ∷ ds) d = by_tests (bytes_eq x.process process && (x.version == version)) (bytes_eq d.process process && (d.version == version)) (version_more process version ds d)
  where
    by_tests : (t u : Bool) → key_found (version_of process version (ds ++ d ∷ [])) ≡ (if u then Some (greater_key d.key (key_found (version_of process version ds))) else key_found (version_of process version ds))
        → key_found (if t then newer_definition x (version_of process version (ds ++ d ∷ [])) else version_of process version (ds ++ d ∷ []))
        ≡ (if u then Some (greater_key d.key (key_found (if t then newer_definition x (version_of process version ds) else version_of process version ds))) else key_found (if t then newer_definition x (version_of process version ds) else version_of process version ds))
    by_tests true true rest =
        newer_key x (version_of process version (ds ++ d ∷ []))
        ∙ (ap (λ (o : Option ℕ). Some (greater_key x.key o)) rest
        ∙ (ap (λ (k : ℕ). Some k) (swapped x.key d.key (key_found (version_of process version ds)))
        ∙ ap (λ (o : Option ℕ). Some (greater_key d.key o)) (sym (newer_key x (version_of process version ds)))))
    by_tests true false rest =
        newer_key x (version_of process version (ds ++ d ∷ []))
        ∙ (ap (λ (o : Option ℕ). Some (greater_key x.key o)) rest ∙ sym (newer_key x (version_of process version ds)))
    by_tests false u rest = rest

-- the greatest version of a process
pub greatest_more : (process : List ℕ) (ds : List Definition) (d : Definition) → greatest_version process (ds ++ d ∷ []) ≡ (if bytes_eq d.process process then max d.version (greatest_version process ds) else greatest_version process ds)
greatest_more process [] d = refl
greatest_more process (x ∷ ds) d = by_tests (bytes_eq x.process process) (bytes_eq d.process process) (greatest_more process ds d)
  where
    by_tests : (t u : Bool) → greatest_version process (ds ++ d ∷ []) ≡ (if u then max d.version (greatest_version process ds) else greatest_version process ds)
        → (if t then max x.version (greatest_version process (ds ++ d ∷ [])) else greatest_version process (ds ++ d ∷ []))
        ≡ (if u then max d.version (if t then max x.version (greatest_version process ds) else greatest_version process ds) else (if t then max x.version (greatest_version process ds) else greatest_version process ds))
    by_tests true true rest = rw rest (omega arith)
    by_tests true false rest = rw rest refl
    by_tests false u rest = rest

-- the version of the first definition with a key
pub under_more : (key : ℕ) (ds : List Definition) (d : Definition) → option_map (λ x. x.version) (find (λ x. x.key == key) (ds ++ d ∷ [])) ≡ option_or (option_map (λ x. x.version) (find (λ x. x.key == key) ds)) (if d.key == key then Some d.version else None)
under_more key ds d = ap (λ (o : Option Definition). option_map (λ x. x.version) o) (find-append (λ x. x.key == key) ds (d ∷ [])) ∙ by_found (find (λ x. x.key == key) ds) (d.key == key)
  where
    by_found : (found : Option Definition) (t : Bool) → option_map (λ x. x.version) (option_or found (cond t (Some d) None)) ≡ option_or (option_map (λ x. x.version) found) (if t then Some d.version else None)
    by_found (Some f) t = refl
    by_found None true = refl
    by_found None false = refl

-- a definition has a key where one is found under it
pub found_any : (key : ℕ) (ds : List Definition) → is_some (option_map (λ d. d.version) (find (λ d. d.key == key) ds)) ≡ list_any (λ d. d.key == key) ds
found_any key [] = refl
found_any key (d ∷ ds) = by_test (d.key == key) (found_any key ds)
  where
    by_test : (t : Bool) → is_some (option_map (λ x. x.version) (find (λ x. x.key == key) ds)) ≡ list_any (λ x. x.key == key) ds
        → is_some (option_map (λ x. x.version) (cond t (Some d) (find (λ x. x.key == key) ds))) ≡ (t || list_any (λ x. x.key == key) ds)
    by_test true later = refl
    by_test false later = later

-- An instance that a message starts applies, and so does what is published, with what it starts.
use Rattle.std.proofs.Common.{◌≡◌, ◌≤◌, ℕ, zero, suc, ◌+◌, ◌==◌, List, [], ◌∷◌, ◌++◌, length, map, filter, Bool, true, false, if◌then◌else◌, IsTrue, Option, Some, None, option_map, Contains, inl, inr, refl, sym, ap, ◌∙◌, subst, append_assoc, append-nil, arith}
use Rattle.std.specs.List.{find, flat_map}
use Rattle.std.specs.Option.{option_map_or, option_and_then}
use Rattle.std.specs.Str.{bytes_eq}
use Rattle.std.proofs.lemmas.Bool.Decides.{nat_tests}
use Rattle.std.proofs.lemmas.Slice.Eq.{bytes_eq-Decides}
use Rattle.zb_exchange_records.specs.declared.message.MessagePublish.{MessagePublish}
use Rattle.zb_exchange_records.specs.declared.message.MessagePublished.{MessagePublished}
use Rattle.zb_base.specs.Vars.{is_ascending}
use Rattle.zb_table.proofs.EarliestLaws.{any_of}
use Rattle.std.proofs.lemmas.Bool.{and_from}
use Rattle.zb_instance_records.specs.declared.deployment.ProcessDefinition.{ProcessDefinition}
use Rattle.zb_process.specs.declared.model.Model.{Model}
use Rattle.zb_model.specs.declared.record.Event.{Event}
use Rattle.zb_model.specs.declared.record.Event.TheVariants as events
use Rattle.zb_views.specs.View.{keys_in, counter_at, greatest_among, greatest_counter, next_key}
use Rattle.zb_views.proofs.ViewLaws.{greatest_among_more, greatest_counter_more}
use Rattle.zb_views.specs.Definitions.{definition_told, definitions, definition_for}
use Rattle.zb_views.specs.declared.definition.Definition.{Definition}
use Rattle.zb_views.specs.declared.left.Left.TheVariants as lefts
use Rattle.zb_views.specs.Messages.{buffered, is_buffered}
use Rattle.zb_views.specs.Processes.{process_in, processes}
use Rattle.zb_views.specs.Starts.{published_told, published_in, started_instances}
use Rattle.zb_views.specs.declared.started.Started.{Started}
use Rattle.zb_views.proofs.ToldLaws.{last_told_more}
use Rattle.zb_tokens.specs.declared.board.Deployed.{Deployed}
use Rattle.zb_tokens.specs.Board.{Board, model_under}
use Rattle.zb_tokens.proofs.LeaveLaws.{same_bytes}
use Rattle.zb_rules.specs.Shown.{board_of}
use Rattle.zb_rules.specs.Sound.{HasKeys}
use Rattle.zb_rules.specs.Applies.{is_fresh, starts_with, holds_own, applies, all_apply}
use Rattle.zb_rules.specs.Starts.{starts_by, starting_definition, may_start, instance_started, started_of, starts_of, in_byte_order, starters, next_starter, started_behind}
use Rattle.zb_base.specs.declared.vars.Variable.{Variable}
use Rattle.zb_instance_records.specs.declared.instance.Role.TheVariants as roles
use Rattle.zb_views.proofs.MessageLaws.{buffered_published, buffered_kept}
use Rattle.zb_rules.specs.Create.{variable_event}
use Rattle.zb_views.specs.Subscriptions.{wants_messages, subscriptions}
use Rattle.zb_views.specs.declared.subscription.Subscription.{Subscription}
use Rattle.zb_rules.specs.Correlate.{correlated_all}
use Rattle.zb_rules.proofs.CorrelateLaws.{each_correlated}
use Rattle.zb_rules.specs.Publish.{message_under, expiry_of, published}
use Rattle.zb_rules.specs.Making.{each_made}
use Rattle.zb_rules.proofs.AppliedLaws.{some_of}
use Rattle.zb_rules.proofs.StepLaws.{all_apply_on}
use Rattle.zb_rules.proofs.CreateLaws.{root_applies, of_process, found_of}
use Rattle.zb_rules.proofs.KeysLaws.{HasOrderedCells, board_stands}
use Rattle.zb_rules.proofs.MadeLaws.{made_of_any}
use Rattle.zb_rules.proofs.MessageSoundLaws.{IsKnownMessage, messages_known, known_alone}
use Rattle.zb_rules.proofs.ModelsLaws.{Knows, board_knows}
use Rattle.zb_rules.proofs.NamedLaws.{counted_below}
use Rattle.zb_rules.proofs.OwnLaws.{fresh_from, silent_applies, next_counted, one_more}
use Rattle.zb_rules.proofs.ProcessLaws.{deployed_by, has_key, are_recorded, found_of_made, processes_more}
use Rattle.zb_rules.proofs.SoundLaws.{board_is_there}
use Rattle.std.proofs.lemmas.List.Elements.{All-contains, Contains-append_right, Contains-append_cases}

module _ (p : ℕ) (es : List Event) (apply : IsTrue (all_apply p [] es)) (b : Board) (is : board_of es ≡ Some b) where
  knows : Knows p es b
  knows = board_knows p es b apply is

  stands : HasOrderedCells p es b
  stands = board_stands p es b apply is

  -- the model of a process that was made is the one of its definition
  model_is : (d : Definition) (made : ProcessDefinition) → process_in d.key es ≡ Some made → model_under b d.key ≡ Some made.model
  model_is d made found =
      let r = are_recorded p es b is apply in
      let alone : find (has_key d.key) (processes es) ≡ Some made = sym (r.alone d.key) ∙ found in
      let among : find (λ (x : Deployed). x.key == d.key) b.models ≡ Some (deployed_by made) = ap (find (λ (x : Deployed). x.key == d.key)) r.models ∙ (found_of_made deployed_by (λ (x : Deployed). x.key == d.key) (processes es) ∙ ap (option_map deployed_by) alone) in
      ap (option_map (λ (x : Deployed). x.model)) among

  -- an instance that a message starts applies
  start_applies : (m : MessagePublished) (d : Definition) (made : ProcessDefinition) → HasKeys p es 1 → Contains (buffered es) m → Contains (definitions es) d → process_in d.key es ≡ Some made → may_start m d.process es ≡ true
      → IsTrue (all_apply p es (instance_started (next_key p es) d m))
  start_applies m d made keys among defined found may =
      let known = messages_known p es b is apply in
      let k = All-contains (IsKnownMessage p es) (buffered es) m known among in
      let alone = known_alone p es m known among in
      let e = events.MessageStartEventSubscriptionCorrelated (record { message = m.key; definition = d.key; instance = next_key p es }) in
      let its = of_process p es b is stands knows d d.process (defined, same_bytes d.process) in
      let under = model_is d made found in
      let process : made.model.process ≡ d.process = (bytes_eq-Decides made.model.process d.process).0 (subst (λ (o : Option Model). IsTrue (option_map_or (λ x. bytes_eq x.process d.process) o false)) under its) in
      let own : IsTrue (holds_own p es e) = rw (fresh_from p es keys, alone, found, process, may) refl in
      let first : IsTrue (applies p es e) = silent_applies p es b e is own refl in
      let last : published_in m.key (es ++ e ∷ []) ≡ Some m = last_told_more (published_told m.key) es e ∙ k.last in
      let starts : starts_with (lefts.Root (record { key = next_key p es; definition = d.key; message = Some m.key })) (es ++ e ∷ []) ≡ m.correlation_key = rw last refl in
      let rest = root_applies p es b is stands knows e (Some m.key) m.correlation_key d.process m.variables d.key made.model first refl refl starts k.ascends its under in
      rw (first, rest) refl

-- a message starts what it may
pub started_applies : (p : ℕ) (es : List Event) (m : MessagePublished) (process : List ℕ) → IsTrue (all_apply p [] es) → HasKeys p es 1 → Contains (buffered es) m → IsTrue (all_apply p es (started_of p m process es))
started_applies p es m process apply keys among =
    let found = some_of (board_of es) (board_is_there p es apply) in
    made_of_any (λ (x : List Event). IsTrue (all_apply p es x)) (λ (d : Definition). if may_start m process es then instance_started (next_key p es) d m else []) (starting_definition m.name process es) refl
    (λ d asked. by_definition found.0 found.1 d (definition_for process 0 es) refl asked)
  where
    by_definition : (b : Board) → board_of es ≡ Some b → (d : Definition) (latest : Option Definition) → definition_for process 0 es ≡ latest
        → option_and_then (λ (x : Definition). if option_map_or (λ (made : ProcessDefinition). starts_by m.name made.model) (process_in x.key es) false then Some x else None) latest ≡ Some d
        → IsTrue (all_apply p es (if may_start m process es then instance_started (next_key p es) d m else []))
    by_definition b is d None found asked = absurd (cc)
    by_definition b is d (Some x) found asked = by_made (process_in x.key es) refl asked
      where
        by_may : (made : ProcessDefinition) → process_in x.key es ≡ Some made → x ≡ d → (t : Bool) → may_start m process es ≡ t → IsTrue (all_apply p es (if t then instance_started (next_key p es) d m else []))
        by_may made at same false may = refl
        by_may made at same true may =
            let of = found_of process 0 es x found in
            let its : x.process ≡ process = (bytes_eq-Decides x.process process).0 of.1 in
            subst (λ (y : Definition). IsTrue (all_apply p es (instance_started (next_key p es) y m))) same
            (start_applies p es apply b is m x made keys among of.0 at (ap (λ (id : List ℕ). may_start m id es) its ∙ may))

        by_made : (made : Option ProcessDefinition) → process_in x.key es ≡ made → (if option_map_or (λ (y : ProcessDefinition). starts_by m.name y.model) made false then Some x else None) ≡ Some d
            → IsTrue (all_apply p es (if may_start m process es then instance_started (next_key p es) d m else []))
        by_made None at asked = absurd (cc)
        by_made (Some made) at asked = by_test (starts_by m.name made.model) asked
          where
            by_test : (t : Bool) → (if t then Some x else None) ≡ Some d → IsTrue (all_apply p es (if may_start m process es then instance_started (next_key p es) d m else []))
            by_test true asked = by_may made at (let same : x ≡ d = cc in same) (may_start m process es) refl
            by_test false asked = absurd (cc)

-- what is found is there
found_there : {A : Type 0} (passes : A → Bool) (xs : List A) (x : A) → find passes xs ≡ Some x → Contains xs x
found_there passes [] x is = absurd (cc)
found_there passes (y ∷ ys) x is = by_test (passes y) (λ rest. found_there passes ys x rest) is
  where
    by_test : (t : Bool) → (find passes ys ≡ Some x → Contains ys x) → (if t then Some y else find passes ys) ≡ Some x → Contains (y ∷ ys) x
    by_test true later is = let same : y ≡ x = cc in (zero, omega arith, same)
    by_test false later is = let r = later is in (suc r.0, omega (arith, r.1), r.2)

-- behind the end of an instance the next message may start one
pub restart_applies : (p : ℕ) (seen es : List Event) (instance : ℕ) → IsTrue (all_apply p [] es) → HasKeys p es 1 → IsTrue (all_apply p es (started_behind p seen instance es))
restart_applies p seen es instance apply keys =
    made_of_any (λ (x : List Event). IsTrue (all_apply p es x)) (λ (s : Started). option_map_or (λ m. started_of p m s.process es) (next_starter s es) []) (find (λ (s : Started). s.instance == instance) (started_instances seen)) refl
    (λ s found. made_of_any (λ (x : List Event). IsTrue (all_apply p es x)) (λ (m : MessagePublished). started_of p m s.process es) (next_starter s es) refl
    (λ m next. started_applies p es m s.process apply keys (found_there _ (buffered es) m next)))

-- a start ends no message
silent_start : (key : ℕ) (d : Definition) (m : MessagePublished) (es : List Event) → buffered (es ++ instance_started key d m) ≡ buffered es
silent_start key d m es =
    let e = events.MessageStartEventSubscriptionCorrelated (record { message = m.key; definition = d.key; instance = key }) in
    let root = events.ElementActivating (record { key = key; scope = 0; definition = d.key; node = d.process; role = roles.Plain; via = []; started = m.correlation_key }) in
    ap buffered (sym (append_assoc es (e ∷ []) (root ∷ map (variable_event key) m.variables))) ∙ (ap buffered (sym (append_assoc (es ++ e ∷ []) (root ∷ []) (map (variable_event key) m.variables)))
    ∙ (set_silent ((es ++ e ∷ []) ++ root ∷ []) m.variables ∙ (buffered_kept (es ++ e ∷ []) root refl refl ∙ buffered_kept es e refl refl)))
  where
    set_silent : (es : List Event) (vs : List Variable) → buffered (es ++ map (variable_event key) vs) ≡ buffered es
    set_silent es [] = ap buffered (append-nil es)
    set_silent es (v ∷ vs) = ap buffered (sym (append_assoc es (variable_event key v ∷ []) (map (variable_event key) vs))) ∙ (set_silent (es ++ variable_event key v ∷ []) vs ∙ buffered_kept es (variable_event key v) refl refl)

still_buffered_by : (p : ℕ) (es : List Event) (m x : MessagePublished) (process : List ℕ) → Contains (buffered es) x → Contains (buffered (es ++ started_of p m process es)) x
still_buffered_by p es m x process among = by_definition (starting_definition m.name process es)
  where
    none : Contains (buffered (es ++ [])) x
    none = subst (λ (l : List Event). Contains (buffered l) x) (sym (append-nil es)) among

    by_test : (d : Definition) (t : Bool) → Contains (buffered (es ++ (if t then instance_started (next_key p es) d m else []))) x
    by_test d true = subst (λ (l : List MessagePublished). Contains l x) (sym (silent_start (next_key p es) d m es)) among
    by_test d false = none

    by_definition : (found : Option Definition) → Contains (buffered (es ++ option_map_or (λ (d : Definition). if may_start m process es then instance_started (next_key p es) d m else []) found [])) x
    by_definition None = none
    by_definition (Some d) = by_test d (may_start m process es)

-- the definition that starts is the latest
pub latest_of : (name process : List ℕ) (es : List Event) (d : Definition) → starting_definition name process es ≡ Some d → definition_for process 0 es ≡ Some d
latest_of name process es d asked = by_latest (definition_for process 0 es) asked
  where
    by_latest : (latest : Option Definition) → option_and_then (λ (x : Definition). if option_map_or (λ (made : ProcessDefinition). starts_by name made.model) (process_in x.key es) false then Some x else None) latest ≡ Some d → latest ≡ Some d
    by_latest None asked = absurd (cc)
    by_latest (Some x) asked = by_test (option_map_or (λ (made : ProcessDefinition). starts_by name made.model) (process_in x.key es) false) asked
      where
        by_test : (t : Bool) → (if t then Some x else None) ≡ Some d → Some x ≡ Some d
        by_test true asked = asked
        by_test false asked = absurd (cc)

-- the key of a definition was named
definition_counted : (p : ℕ) (es : List Event) (d : Definition) → Contains (definitions es) d → counter_at p d.key ≤ greatest_counter p es
definition_counted p [] d (i, within, is) = absurd (omega (arith, within))
definition_counted p (e ∷ es) d among =
    let more = greatest_among_more p (keys_in e) (flat_map keys_in es) in
    elim (Contains-append_cases (definition_told e) (definitions es) d among) [
      | inl here ↦ omega (arith, more, by_event e here)
      | inr later ↦ omega (arith, more, definition_counted p es d later)
    ]
  where
    by_event : (e : Event) → Contains (definition_told e) d → counter_at p d.key ≤ greatest_among p (keys_in e)
    by_event (events.ProcessCreated c) (zero, within, is) = let same : c.key ≡ d.key = ap (λ (x : Definition). x.key) is in let one : counter_at p c.key ≡ counter_at p d.key = ap (counter_at p) same in omega (arith, one)
    by_event (events.ProcessCreated c) (suc i, within, is) = absurd (omega (arith, within))
    by_event e (i, within, is) = absurd (omega (arith, within))

-- a start names no keys but those of its message, its definition and its root
start_counted : (p key : ℕ) (d : Definition) (m : MessagePublished) (top : ℕ) → counter_at p m.key ≤ top → counter_at p d.key ≤ top → counter_at p key ≤ top → greatest_counter p (instance_started key d m) ≤ top
start_counted p key d m top message definition drawn = omega (arith, message, definition, drawn, set_counted m.variables, nothing)
  where
    nothing : counter_at p 0 ≤ top
    nothing = grind (arith, nat_tests)

    set_counted : (vs : List Variable) → greatest_among p (flat_map keys_in (map (variable_event key) vs)) ≤ top
    set_counted [] = omega arith
    set_counted (v ∷ vs) = omega (arith, drawn, set_counted vs)

-- as many keys are left behind a start, but for the one that it draws
start_keys : (p n : ℕ) (es : List Event) (m : MessagePublished) (process : List ℕ) → IsTrue (all_apply p [] es) → HasKeys p es (n + 1) → Contains (buffered es) m → HasKeys p (es ++ started_of p m process es) n
start_keys p n es m process apply keys among = by_definition (starting_definition m.name process es) refl
  where
    top : ℕ
    top = greatest_counter p es + 1

    none : HasKeys p (es ++ []) n
    none = subst (λ (l : List Event). HasKeys p l n) (sym (append-nil es)) (omega (arith, keys))

    message_counted : counter_at p m.key ≤ top
    message_counted =
        let found = some_of (board_of es) (board_is_there p es apply) in
        let k = All-contains (IsKnownMessage p es) (buffered es) m (messages_known p es found.0 found.1 apply) among in
        omega (arith, counted_below p m.key es (omega (arith, keys)) k.drawn)

    drawn_counted : counter_at p (next_key p es) ≤ top
    drawn_counted = omega (arith, next_counted p es (omega (arith, keys)))

    by_test : (d : Definition) → definition_for process 0 es ≡ Some d → (t : Bool) → HasKeys p (es ++ (if t then instance_started (next_key p es) d m else [])) n
    by_test d latest true =
        let more = greatest_counter_more p es (instance_started (next_key p es) d m) in
        let defined : counter_at p d.key ≤ top = omega (arith, definition_counted p es d (found_of process 0 es d latest).0) in
        omega (arith, keys, more, start_counted p (next_key p es) d m top message_counted defined drawn_counted)
    by_test d latest false = none

    by_definition : (found : Option Definition) → starting_definition m.name process es ≡ found → HasKeys p (es ++ option_map_or (λ (d : Definition). if may_start m process es then instance_started (next_key p es) d m else []) found []) n
    by_definition None at = none
    by_definition (Some d) at = by_test d (latest_of m.name process es d at) (may_start m process es)

-- a message starts an instance of each process that it may, where there are as many keys as processes
each_starts : (p : ℕ) (m : MessagePublished) (ids : List (List ℕ)) (es : List Event) → IsTrue (all_apply p [] es) → HasKeys p es (length ids) → Contains (buffered es) m → IsTrue (all_apply p es (each_made (started_of p m) ids es))
each_starts p m [] es apply keys among = refl
each_starts p m (process ∷ ids) es apply keys among =
    let made = started_of p m process es in
    let first = started_applies p es m process apply (omega (arith, keys)) among in
    let over : IsTrue (all_apply p [] (es ++ made)) = rw (all_apply_on p [] es made, apply) first in
    let rest = each_starts p m ids (es ++ made) over (start_keys p (length ids) es m process apply (omega (arith, keys)) among) (still_buffered_by p es m m process among) in
    rw (all_apply_on p es made (each_made (started_of p m) ids (es ++ made)), first) rest

-- a message stays buffered over what it starts
each_buffered : (p : ℕ) (m : MessagePublished) (ids : List (List ℕ)) (es : List Event) → Contains (buffered es) m → Contains (buffered (es ++ each_made (started_of p m) ids es)) m
each_buffered p m [] es among = subst (λ (l : List Event). Contains (buffered l) m) (sym (append-nil es)) among
each_buffered p m (process ∷ ids) es among =
    let made = started_of p m process es in
    subst (λ (l : List Event). Contains (buffered l) m) (append_assoc es made (each_made (started_of p m) ids (es ++ made))) (each_buffered p m ids (es ++ made) (still_buffered_by p es m m process among))

-- and expires then, where it has no time to live
expires_after : (p : ℕ) (m : MessagePublished) (c : MessagePublish) (es : List Event) → IsTrue (all_apply p [] es) → Contains (buffered es) m → IsTrue (all_apply p es (expiry_of m.key c))
expires_after p m c es apply among = by_test (c.time_to_live == 0)
  where
    waits : IsTrue (is_buffered m.key es)
    waits = any_of (λ (x : MessagePublished). x.key == m.key) (buffered es) m among (grind (arith, nat_tests))

    by_test : (t : Bool) → IsTrue (all_apply p es (if t then events.MessageExpired m.key ∷ [] else []))
    by_test false = refl
    by_test true =
        let found = some_of (board_of es) (board_is_there p es apply) in
        let first : IsTrue (applies p es (events.MessageExpired m.key)) = silent_applies p es found.0 (events.MessageExpired m.key) found.1 waits refl in
        rw first refl

-- the own events of a publish apply
pub publish_applies : (p : ℕ) (es : List Event) (b : Board) → board_of es ≡ Some b → Knows p es b → IsTrue (all_apply p [] es) → (moment : ℕ) (c : MessagePublish) → HasKeys p es (1 + length (starters c.name es)) → IsTrue (is_ascending c.variables)
    → IsTrue (all_apply p es (published p moment c es))
publish_applies p es b is knows apply moment c keys ordered =
    let one : HasKeys p es 1 = omega (arith, keys) in
    let m = message_under (next_key p es) moment c in
    let e = events.MessagePublished m in
    let own : IsTrue (holds_own p es e) = and_from (is_fresh p es (next_key p es)) (is_ascending c.variables) (fresh_from p es one) ordered in
    let first : IsTrue (applies p es e) = silent_applies p es b e is own refl in
    let over = es ++ e ∷ [] in
    let there : IsTrue (all_apply p [] over) = rw (all_apply_on p [] es (e ∷ []), apply, first) refl in
    let among : Contains (buffered over) m = subst (λ (l : List MessagePublished). Contains l m) (sym (buffered_published es m)) (Contains-append_right (buffered es) (m ∷ []) m (0, omega arith, refl)) in
    let fewer : HasKeys p over (length (starters c.name es)) = one_more p es e (length (starters c.name es)) (omega (arith, keys)) (let named = next_counted p es one in omega (arith, named)) in
    let drawn : counter_at p m.key ≤ greatest_counter p over = (let named = greatest_counter_more p es (e ∷ []) in omega (arith, named)) in
    let ks = map (λ (x : Subscription). x.key) (filter (wants_messages m.name m.correlation_key) (subscriptions over)) in
    let cs = correlated_all m over in
    let later = over ++ cs in
    let its = each_correlated p (length (starters c.name es)) m ks over there fewer among drawn in
    let stands : IsTrue (all_apply p [] later) = rw (all_apply_on p [] over cs, there) its.applied in
    let same : processes later ≡ processes es = its.same ∙ (processes_more es e ∙ append-nil (processes es)) in
    let left : HasKeys p later (length (starters c.name later)) = subst (λ (made : List ProcessDefinition). HasKeys p later (length (in_byte_order [] (map (λ d. d.model.process) (filter (λ d. starts_by c.name d.model) made))))) (sym same) its.keys in
    let starts = each_starts p m (starters c.name later) later stands left its.among in
    let ends = starts_of p m later in
    let last : IsTrue (all_apply p (later ++ ends) (expiry_of m.key c)) = expires_after p m c (later ++ ends) (rw (all_apply_on p [] later ends, stands) starts) (each_buffered p m (starters c.name later) later its.among) in
    rw (first, all_apply_on p over cs (ends ++ expiry_of m.key c), its.applied, all_apply_on p later ends (expiry_of m.key c), starts) last

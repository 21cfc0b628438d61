-- What is told of a value by what is told of those in it.
use Rattle.std.proofs.Common.{◌≡◌, ℕ, zero, suc, ◌+◌, ◌≤◌, ◌<◌, Bool, true, false, cond, eqb, ◌++◌, List, [], ◌∷◌, map, drop, length, get_or, Option, Some, None, refl, sym, ap, ap₂, ◌∙◌, subst, arith, rules, append_assoc}
use Rattle.std.specs.Prelude.{Vec, option_map, slice_get}
use Rattle.std.specs.Borrow.{Bor}
use Rattle.std.specs.BTreeMap.{BTreeMap}
use Rattle.std.specs.Map.{lookup}
use Rattle.std.specs.Option.{option_map_or}
use Rattle.std.specs.Ordering.{is_eq, nat_cmp}
use Rattle.std.specs.declared.alloc.Global.{Global}
use Rattle.std.proofs.lemmas.Bool.{eqb-true}
use Rattle.std.proofs.lemmas.List.{append-nil, at_drop_more, at_drop_all}
use Rattle.json.specs.Json.{Json, null, boolean, number as numeral, string, array, object, Items, no_items, item, Members, no_members, member}
use Rattle.json.specs.Value.{items_view, members_view, value_view}
use Rattle.json.specs.declared.value.Value.{Value}
use Rattle.yspec.specs.text.Text.{Text}
use Rattle.yspec.specs.schema.Schema.{Schema, child_written}
use Rattle.yspec.specs.document.Document.{Step}
use Rattle.yschema_model.specs.declared.node.SchemaId.{SchemaId}
use Rattle.yschema_model.proofs.ReferenceLemmas.{after_put}
use Rattle.ysay_lines.specs.Found.{Answer, Tells, TellsEach, TellsIf, TellsLast, TellsMore, answer, array_answer, entry_at, object_answer, value_at}
use Rattle.ysay_lines.specs.Lines.{Standing, entry_in, first, found, from_entry, last_in, leads_to, past}
use Rattle.ysay_lines.specs.declared.located.Located.{Located, Single, Array, Object, the_lemmas}
use Rattle.ysay_lines.specs.declared.place.Place.{Place}
use Rattle.ysay_lines.proofs.PassingLemmas.{is_single}

-- ---- level by level

pub answer-Single : (here : Place) → answer (Single here) ≡ (λ position steps. here)
answer-Single here = search (rules, the_lemmas)

pub answer-Array : (here : Place) (v : Vec Located Global) → answer (Array here v) ≡ array_answer here (map answer v.items)
answer-Array here v = search (rules, the_lemmas)

pub answer-Object : (here : Place) (m : BTreeMap SchemaId Located) → answer (Object here m) ≡ object_answer here (map (λ e. (e.0, answer e.1)) m.entries)
answer-Object here m = search (rules, the_lemmas)

pub entry_told : (position : ℕ) (ls : List Located) → entry_at position (map answer ls) ≡ option_map answer (entry_at position ls)
entry_told zero ls = refl
entry_told (suc n) [] = refl
entry_told (suc zero) (l ∷ ls) = refl
entry_told (suc (suc n)) (l ∷ ls) = entry_told (suc n) ls

pub value_told : (number : ℕ) (es : List (SchemaId × Located)) → value_at number (map (λ e. (e.0, answer e.1)) es) ≡ option_map answer (value_at number es)
value_told number [] = refl
value_told number (e ∷ es) = ap (λ o. cond (eqb e.0.0 number) (Some (answer e.1)) o) (value_told number es) ∙ by (eqb e.0.0 number)
  where
    by : (b : Bool) → cond b (Some (answer e.1)) (option_map answer (value_at number es)) ≡ option_map answer (cond b (Some e.1) (value_at number es))
    by true = refl
    by false = refl

-- ---- by steps

pub from_single : (here : Place) (position : Option ℕ) (steps : List Step) → here ≡ answer (Single here) position steps
from_single here position steps = sym (ap (λ (f : Answer). f position steps) (answer-Single here))

pub array_itself : (here : Place) (v : Vec Located Global) (steps : List Step) → here ≡ answer (Array here v) None steps
array_itself here v steps = sym (ap (λ (f : Answer). f None steps) (answer-Array here v))

pub object_itself : (here : Place) (m : BTreeMap SchemaId Located) → here ≡ answer (Object here m) None []
object_itself here m = sym (ap (λ (f : Answer). f None []) (answer-Object here m))

pub object_entry : (here : Place) (m : BTreeMap SchemaId Located) (position : ℕ) (steps : List Step) → here ≡ answer (Object here m) (Some position) steps
object_entry here m position steps = sym (ap (λ (f : Answer). f (Some position) steps) (answer-Object here m))

pub from_array : (here : Place) (v : Vec Located Global) (position : ℕ) (steps : List Step) (o : Option Located) → o ≡ entry_at position v.items
    → option_map_or (λ l. answer l None steps) o here ≡ answer (Array here v) (Some position) steps
from_array here v position steps o is = by o ∙ (ap (λ p. option_map_or (λ (f : Answer). f None steps) (option_map answer p) here) is
    ∙ (sym (ap (λ p. option_map_or (λ (f : Answer). f None steps) p here) (entry_told position v.items)) ∙ sym (ap (λ (f : Answer). f (Some position) steps) (answer-Array here v))))
  where
    by : (o : Option Located) → option_map_or (λ l. answer l None steps) o here ≡ option_map_or (λ (f : Answer). f None steps) (option_map answer o) here
    by None = refl
    by (Some l) = refl

pub from_object : (here : Place) (m : BTreeMap SchemaId Located) (step : Step) (steps : List Step) (o : Option Located) → o ≡ value_at step.schema_number m.entries
    → option_map_or (λ l. answer l step.position steps) o here ≡ answer (Object here m) None (step ∷ steps)
from_object here m step steps o is = by o ∙ (ap (λ p. option_map_or (λ (f : Answer). f step.position steps) (option_map answer p) here) is
    ∙ (sym (ap (λ p. option_map_or (λ (f : Answer). f step.position steps) p here) (value_told step.schema_number m.entries)) ∙ sym (ap (λ (f : Answer). f None (step ∷ steps)) (answer-Object here m))))
  where
    by : (o : Option Located) → option_map_or (λ l. answer l step.position steps) o here ≡ option_map_or (λ (f : Answer). f step.position steps) (option_map answer o) here
    by None = refl
    by (Some l) = refl

-- ---- it tells where the definition says that values stand

module _ (s : Schema) (parent : Option ℕ) where
  pub single_tells : (here : Place) (j : Json) (places : List Place) → is_single j ≡ true → here ≡ first places → Tells s parent (Single here) j places
  single_tells here j places alone is position steps = sym (from_single here position steps) ∙ (is ∙ sym (by j position steps alone))
    where
      by : (j : Json) (position : Option ℕ) (steps : List Step) → is_single j ≡ true → from_entry position (found s parent steps) j places ≡ first places
      by null None [] h = refl
      by null None (x ∷ xs) h = refl
      by null (Some k) steps h = refl
      by (boolean b) None [] h = refl
      by (boolean b) None (x ∷ xs) h = refl
      by (boolean b) (Some k) steps h = refl
      by (numeral n) None [] h = refl
      by (numeral n) None (x ∷ xs) h = refl
      by (numeral n) (Some k) steps h = refl
      by (string t) None [] h = refl
      by (string t) None (x ∷ xs) h = refl
      by (string t) (Some k) steps h = refl
      by (array js) position steps h = cc
      by (object ms) position steps h = cc

  told_if : (o : Option Located) (t : Option Standing) (here there : Place) (position : Option ℕ) (steps : List Step) → here ≡ there → TellsIf s parent o t
      → option_map_or (λ (f : Answer). f position steps) (option_map answer o) here ≡ option_map_or (λ (x : Standing). from_entry position (found s parent steps) x.0 x.1) t there
  told_if None None here there position steps same h = same
  told_if None (Some x) here there position steps same h = absurd h
  told_if (Some l) None here there position steps same h = absurd h
  told_if (Some l) (Some x) here there position steps same h = h position steps

  each_at : (ls : List Located) (js : Items) (places : List Place) → TellsEach s parent ls js places → (position : ℕ) → TellsIf s parent (entry_at position ls) (entry_in position js places)
  each_at [] no_items places h zero = tt
  each_at [] no_items places h (suc n) = tt
  each_at [] (item j js) places h position = absurd h
  each_at (l ∷ ls) no_items places h position = absurd h
  each_at (l ∷ ls) (item j js) places h zero = tt
  each_at (l ∷ ls) (item j js) places h (suc zero) = h.0
  each_at (l ∷ ls) (item j js) places h (suc (suc n)) = each_at ls js (past j places) h.1 (suc n)

  pub array_tells : (here : Place) (v : Vec Located Global) (js : Items) (places : List Place) → here ≡ first places → TellsEach s parent v.items js (drop 1 places)
      → Tells s parent (Array here v) (array js) places
  array_tells here v js places is each position steps = ap (λ (f : Answer). f position steps) (answer-Array here v) ∙ by position steps
    where
      by : (position : Option ℕ) (steps : List Step) → array_answer here (map answer v.items) position steps ≡ from_entry position (found s parent steps) (array js) places
      by None [] = is
      by None (x ∷ xs) = is
      by (Some k) steps =
          ap (λ o. option_map_or (λ (f : Answer). f None steps) o here) (entry_told k v.items)
          ∙ told_if (entry_at k v.items) (entry_in k js (drop 1 places)) here (first places) None steps is (each_at v.items js (drop 1 places) each k)

pub object_tells : (s : Schema) (parent : Option ℕ) (here : Place) (m : BTreeMap SchemaId Located) (ms : Members) (places : List Place) → here ≡ first places → TellsLast s parent m ms (drop 1 places)
    → Tells s parent (Object here m) (object ms) places
object_tells s parent here m ms places is last position steps = ap (λ (f : Answer). f position steps) (answer-Object here m) ∙ by position steps
  where
    by : (position : Option ℕ) (steps : List Step) → object_answer here (map (λ e. (e.0, answer e.1)) m.entries) position steps ≡ from_entry position (found s parent steps) (object ms) places
    by (Some k) steps = is
    by None [] = is
    by None (step ∷ steps) =
        ap (λ o. option_map_or (λ (f : Answer). f step.position steps) o here) (value_told step.schema_number m.entries)
        ∙ told_if s (Some step.schema_number) (value_at step.schema_number m.entries) (last_in s parent step.schema_number None ms (drop 1 places)) here (first places) step.position steps is
        (last step.schema_number)

-- what is told of a value is told of its equal, from equal places on
pub tells_same : (s : Schema) (parent : Option ℕ) (l : Located) (j k : Json) (places : List Place) → j ≡ k → Tells s parent l j places → Tells s parent l k places
tells_same s parent l j k places same h = subst (λ (i : Json). Tells s parent l i places) same h

-- ---- entries, one after another

abbrev pub AddsEntries : Schema → Option ℕ → List Located → Items → List Place → Items → List Place → Type 0
AddsEntries s parent done rest left all places = (more : List Located) → TellsEach s parent more rest left → TellsEach s parent (done ++ more) all places

module _ (s : Schema) (parent : Option ℕ) (all : Items) (places : List Place) where
  pub entry_more : (vs : List (Value Global)) (i : ℕ) (v : Value Global) (l : Located) (done new : List Located) (left rest : List Place) → i < length vs → v ≡ get_or vs i v
      → Tells s parent l (value_view v) left → rest ≡ past (value_view v) left → new ≡ done ++ l ∷ []
      → AddsEntries s parent done (items_view (drop i vs)) left all places → AddsEntries s parent new (items_view (drop (i + 1) vs)) rest all places
  entry_more vs i v l done new left rest within is told passed added so more h =
      let others = items_view (drop (i + 1) vs) in
      let later : TellsEach s parent more others (past (value_view v) left) = subst (TellsEach s parent more others) passed h in
      let next : item (value_view v) others ≡ items_view (drop i vs) =
      ap (λ (w : Value Global). items_view (w ∷ drop (i + 1) vs)) is ∙ sym (at_drop_more items_view vs i v within) in
      let both : TellsEach s parent (l ∷ more) (items_view (drop i vs)) left = subst (λ js. TellsEach s parent (l ∷ more) js left) next (told, later) in
      subst (λ ls. TellsEach s parent ls all places) (sym (ap (λ ls. ls ++ more) added ∙ append_assoc done (l ∷ []) more)) (so (l ∷ more) both)

  pub entries_all : (vs : List (Value Global)) (i : ℕ) (done : List Located) (left : List Place) → length vs ≤ i → AddsEntries s parent done (items_view (drop i vs)) left all places
      → TellsEach s parent done all places
  entries_all vs i done left end so =
      let none : TellsEach s parent [] (items_view (drop i vs)) left = subst (λ js. TellsEach s parent [] js left) (sym (at_drop_all items_view vs i end)) tt in
      subst (λ ls. TellsEach s parent ls all places) (append-nil done) (so [] none)

-- ---- members, one after another

abbrev pub HoldsLast : Schema → Option ℕ → BTreeMap SchemaId Located → Members → List Place → Members → List Place → Type 0
HoldsLast s parent m rest left all places = (number : ℕ) → (before : Option Standing) × TellsIf s (Some number) (value_at number m.entries) before
    × (last_in s parent number before rest left ≡ last_in s parent number None all places)

module _ (s : Schema) (parent : Option ℕ) where
  pub none_held : (m : BTreeMap SchemaId Located) (all : Members) (places : List Place) → m.entries ≡ [] → HoldsLast s parent m all places all places
  none_held m all places empty number = (None, subst (λ es. TellsIf s (Some number) (value_at number es) None) (sym empty) tt, refl)

  pub member_held : (all : Members) (places : List Place) (ms : List (Bor Text × Value Global)) (i : ℕ) (w : Bor Text × Value Global) (old new : BTreeMap SchemaId Located) (left inside rest : List Place)
      → i < length ms → w ≡ get_or ms i w → inside ≡ drop 1 left → rest ≡ past (value_view w.1) inside → TellsMore s parent old new w.0.now (value_view w.1, inside)
      → HoldsLast s parent old (members_view (drop i ms)) left all places → HoldsLast s parent new (members_view (drop (i + 1) ms)) rest all places
  member_held all places ms i w old new left inside rest within is behind passed more held number =
      let others = members_view (drop (i + 1) ms) in
      let before = (held number).0 in
      let now = λ (ps : List Place). cond (leads_to s parent number w.0.now) (Some (value_view w.1, ps)) before in
      let next : member w.0.now (value_view w.1) others ≡ members_view (drop i ms) =
      ap (λ (x : Bor Text × Value Global). members_view (x ∷ drop (i + 1) ms)) is ∙ sym (at_drop_more members_view ms i w within) in (
        now inside,
        more number before (held number).1,
        ap (λ ps. last_in s parent number (now inside) others ps) passed
            ∙ (ap (λ ps. last_in s parent number (now ps) others (past (value_view w.1) ps)) behind
            ∙ (ap (λ js. last_in s parent number before js left) next ∙ (held number).2)),
      )

  pub all_held : (ms : List (Bor Text × Value Global)) (i : ℕ) (m : BTreeMap SchemaId Located) (all : Members) (left places : List Place) → length ms ≤ i
      → HoldsLast s parent m (members_view (drop i ms)) left all places → TellsLast s parent m all places
  all_held ms i m all left places end held number =
      subst (TellsIf s (Some number) (value_at number m.entries))
      (sym (at_drop_all (λ ws. last_in s parent number (held number).0 (members_view ws) left) ms i end) ∙ (held number).2) (held number).1

  -- ---- one member

  pub none_more : (m : BTreeMap SchemaId Located) (name : Text) (standing : Standing) → child_written s parent name ≡ None → TellsMore s parent m m name standing
  none_more m name standing none number before h =
      subst (TellsIf s (Some number) (value_at number m.entries)) (sym (ap (λ o. cond (option_map_or (λ n. eqb n number) o false) (Some standing) before) none)) h

  pub one_more : (old new : BTreeMap SchemaId Located) (id : SchemaId) (l : Located) (name : Text) (standing : Standing) → child_written s parent name ≡ Some id.0
      → Tells s (Some id.0) l standing.0 standing.1
      → ((q : SchemaId) → lookup (λ (k : SchemaId). is_eq (nat_cmp q.0 k.0)) new.entries ≡ cond (is_eq (nat_cmp id.0 q.0)) (Some l) (lookup (λ (k : SchemaId). is_eq (nat_cmp q.0 k.0)) old.entries))
      → TellsMore s parent old new name standing
  one_more old new id l name standing is told put number before h =
      subst (λ o. TellsIf s (Some number) o (cond (leads_to s parent number name) (Some standing) before)) (sym (after_put old.entries new.entries id l put number))
      (subst (λ b. TellsIf s (Some number) (cond (eqb id.0 number) (Some l) (value_at number old.entries)) (cond b (Some standing) before))
      (sym (ap (λ o. option_map_or (λ n. eqb n number) o false) is)) (by (eqb id.0 number) refl))
    where
      by : (b : Bool) → eqb id.0 number ≡ b → TellsIf s (Some number) (cond b (Some l) (value_at number old.entries)) (cond b (Some standing) before)
      by true e = subst (λ n. Tells s (Some n) l standing.0 standing.1) (eqb-true id.0 number e) told
      by false e = h

-- What is given twice, member by member; and which names a set holds.
use Rattle.std.proofs.Common.{◌≡◌, ◌≢◌, ℕ, ◌+◌, ◌<◌, Bool, true, false, not, cond, Bor, ◌||◌, ◌++◌, List, [], ◌∷◌, length, drop, get_or, Option, Some, None, Result, Err, IfOk, refl, sym, ap, ◌∙◌, subst}
use Rattle.std.specs.Prelude.{Vec, option_and_then}
use Rattle.std.specs.Ordering.{is_eq, nat_cmp}
use Rattle.std.specs.Cmp.Lexicographic.{slice_cmp}
use Rattle.std.specs.List.{last_or, list_any}
use Rattle.std.specs.Option.{option_map_or}
use Rattle.std.specs.Str.{is_utf8, IsUtf8}
use Rattle.std.specs.BTreeSet.{BTreeSet, Updates, contains_by}
use Rattle.std.specs.BTreeMap.{is_at}
use Rattle.std.specs.declared.alloc.Global.{Global}
use Rattle.std.proofs.lemmas.Bool.Decides.{same_from_decides, Decides-like}
use Rattle.std.proofs.lemmas.List.{at_drop_more, map-append}
use Rattle.std.proofs.lemmas.Map.Text.{is_eq-slice_cmp}
use Rattle.std.proofs.lemmas.Slice.Eq.{bytes_eq-Decides}
use Rattle.std.proofs.lemmas.Str.{is_utf8-from_IsUtf8}
use Rattle.json.specs.Json.{Json, object, Members, document}
use Rattle.json.specs.Value.{members_view, value_view}
use Rattle.json.specs.declared.error.Error.{Error}
use Rattle.json.specs.declared.error.Error.TheVariants.{Invalid, OutOfMemory, TooLong, DuplicateKey}
use Rattle.json.specs.declared.value.Value.{Value}
use Rattle.yspec.specs.Forest.{first_of}
use Rattle.yspec.specs.text.Text.{Text, is_text}
use Rattle.yspec.specs.types.Names.{is_among}
use Rattle.yspec.specs.schema.Schema.{Schema, SchemaNode, node_at}
use Rattle.yspec.specs.document.Document.{Step}
use Rattle.yspec.proofs.DocumentProofs.JsonLemmas.{none_read}
use Rattle.yinst_tree.specs.View.{place_view, step_view}
use Rattle.yinst_tree.specs.declared.tree.Step as code
use Rattle.ysay_repeated.specs.Found.{steps_of}
use Rattle.ysay_repeated.specs.Said.{name_at}
use Rattle.ysay_repeated.specs.Repeated.{at_name, json_in, repeated_at_top, repeated_entry, repeated_in, repeated_members, repeated_value}

-- ---- sets of names

abbrev pub holds_name : BTreeSet (Bor Text) → Text → Bool
holds_name set name = contains_by (λ k. slice_cmp nat_cmp name k.now) set

-- a set holds some names, and no others
abbrev pub HoldsNames : BTreeSet (Bor Text) → List Text → Type 0
HoldsNames set names = (t : Text) → holds_name set t ≡ is_among names t

pub holds_none : (set : BTreeSet (Bor Text)) → set.keys ≡ [] → HoldsNames set []
holds_none set empty t = ap (list_any (is_at (λ (k : Bor Text). slice_cmp nat_cmp t k.now))) empty

or_cond : (b c : Bool) → cond b true c ≡ (b || c)
or_cond true c = refl
or_cond false c = refl

same_turned : (s t : Text) → is_text s t ≡ is_text t s
same_turned s t = same_from_decides (is_text s t) (is_text t s) (bytes_eq-Decides s t) (Decides-like (is_text t s) sym sym (bytes_eq-Decides t s))

pub holds_more : (before after : BTreeSet (Bor Text)) (w : Bor Text) (names : List Text) → Updates (λ x y. slice_cmp nat_cmp x.now y.now) before after w true
    → HoldsNames before names → HoldsNames after (w.now ∷ names)
holds_more before after w names updates held t =
    updates.0 (record { ref_ptr = (0, 0); now = t }) ∙ or_cond (is_eq (slice_cmp nat_cmp w.now t)) (holds_name before t)
    ∙ (ap (λ b. b || holds_name before t) (is_eq-slice_cmp w.now t ∙ same_turned w.now t) ∙ ap (λ b. is_text t w.now || b) (held t))

-- ---- what is told

pub told_same : {E : Type 0} (r : Result (Option (Vec code.Step Global)) E) (there here : Option (List Step)) → there ≡ here
    → IfOk r (λ found. steps_of found ≡ there) → IfOk r (λ found. steps_of found ≡ here)
told_same r there here same told = subst (λ (o : Option (List Step)). IfOk r (λ found. steps_of found ≡ o)) same told

pub none_found : {X : Type 0} (o : Option X) → ((x : X) → o ≡ Some x → ⊥) → o ≡ None
none_found None h = refl
none_found (Some x) h = absurd (h x refl)

not_not : (b : Bool) → not (not b) ≡ b
not_not true = refl
not_not false = refl

-- ---- members

module _ (s : Schema) (place : List Step) where
  pub next_member : (parent : Option ℕ) (names : List Text) (ms : List (Bor Text × Value Global)) (i : ℕ) (m : Bor Text × Value Global) → i < length ms → m ≡ get_or ms i m
      → repeated_members s parent place names (members_view (drop i ms))
      ≡ first_of (at_name s parent place (is_among names m.0.now) m.0.now (λ n. repeated_value s n place (value_view m.1)))
      (repeated_members s parent place (m.0.now ∷ names) (members_view (drop (i + 1) ms)))
  next_member parent names ms i m within is =
      at_drop_more (λ vs. repeated_members s parent place names (members_view vs)) ms i m within
      ∙ ap (λ (x : Bor Text × Value Global). repeated_members s parent place names (members_view (x ∷ drop (i + 1) ms))) (sym is)

  -- what is told of the next member, and of the others where nothing is, is told of all
  pub member_first : (parent : Option ℕ) (names : List Text) (ms : List (Bor Text × Value Global)) (i : ℕ) (m : Bor Text × Value Global) (here : List Step) (set : BTreeSet (Bor Text))
      (is_new : Bool) (found all : Option (List Step)) → i < length ms → m ≡ get_or ms i m → here ≡ place → HoldsNames set names → is_new ≡ not (holds_name set m.0.now)
      → found ≡ at_name s parent here (not is_new) m.0.now (λ n. repeated_value s n here (value_view m.1)) → repeated_members s parent place names (members_view (drop i ms)) ≡ all
      → first_of found (repeated_members s parent place (m.0.now ∷ names) (members_view (drop (i + 1) ms))) ≡ all
  member_first parent names ms i m here set is_new found all within is same held new told so =
      let others = repeated_members s parent place (m.0.now ∷ names) (members_view (drop (i + 1) ms)) in
      let at = λ (p : List Step) (b : Bool). at_name s parent p b m.0.now (λ n. repeated_value s n p (value_view m.1)) in
      let comes_again : not is_new ≡ is_among names m.0.now = ap not new ∙ (not_not (holds_name set m.0.now) ∙ held m.0.now) in
      ap (λ o. first_of o others) (told ∙ (ap (λ p. at p (not is_new)) same ∙ ap (at place) comes_again)) ∙ (sym (next_member parent names ms i m within is) ∙ so)

  -- ---- values that are objects

  pub entry_told : (node : ℕ) (there : List Step) (j : Json) (ms : Members) → j ≡ object ms → there ≡ place
      → repeated_members s (Some node) there [] ms ≡ repeated_entry s node place j
  entry_told node there j ms is same =
      ap (λ (p : List Step). repeated_members s (Some node) p [] ms) same ∙ sym (ap (repeated_entry s node place) is)

pub top_told : (s : Schema) (there : List Step) (j : Json) (ms : Members) → j ≡ object ms → there ≡ []
    → repeated_members s None there [] ms ≡ repeated_at_top s j
top_told s there j ms is same = ap (λ (p : List Step). repeated_members s None p [] ms) same ∙ sym (ap (repeated_at_top s) is)

-- ---- bytes

pub read_so : (bytes : List ℕ) (j : Json) → IsUtf8 bytes → document bytes ≡ Some j → json_in bytes ≡ Some j
read_so bytes j utf8 is = ap (λ (b : Bool). cond b (document bytes) None) (is_utf8-from_IsUtf8 bytes utf8) ∙ is

pub no_json : (bytes : List ℕ) → (IsUtf8 bytes → document bytes ≡ None) → json_in bytes ≡ None
no_json bytes h = none_read bytes (document bytes) (is_utf8 bytes) refl h

pub told_of_json : (s : Schema) (bytes : List ℕ) (j : Json) → json_in bytes ≡ Some j → repeated_at_top s j ≡ repeated_in s bytes
unfolding repeated_in
told_of_json s bytes j is = sym (ap (λ (o : Option Json). option_and_then (repeated_at_top s) o) is)

pub told_of_none : (s : Schema) (bytes : List ℕ) → json_in bytes ≡ None → None ≡ repeated_in s bytes
unfolding repeated_in
told_of_none s bytes is = sym (ap (λ (o : Option Json). option_and_then (repeated_at_top s) o) is)

-- the text of a fault that isn't want of memory has no value
pub refused_so : (e : Error) (bytes : List ℕ) {X : Type 0} → (e ≡ OutOfMemory → ⊥) → ◌≢◌ {A = Result X Error} (Err e) (Err TooLong) → ◌≢◌ {A = Result X Error} (Err e) (Err DuplicateKey)
    → (◌≡◌ {A = Result X Error} (Err e) (Err Invalid) → IsUtf8 bytes → document bytes ≡ None) → json_in bytes ≡ None
refused_so Invalid bytes memory long twice h = no_json bytes (h refl)
refused_so OutOfMemory bytes memory long twice h = absurd (memory refl)
refused_so TooLong bytes memory long twice h = absurd (long refl)
refused_so DuplicateKey bytes memory long twice h = absurd (twice refl)

-- ---- the last of some steps

last_behind : (first : Option Step) (above : List Step) (step : Step) → last_or first (above ++ step ∷ []) ≡ Some step
last_behind first [] step = refl
last_behind first (x ∷ xs) step = last_behind (Some x) xs step

pub last_seen : (steps above : List code.Step) (step : code.Step) → steps ≡ above ++ step ∷ [] → last_or None (place_view steps) ≡ Some (step_view step)
last_seen steps above step is =
    ap (λ (ss : List code.Step). last_or None (place_view ss)) is
    ∙ (ap (last_or None) (map-append step_view above (step ∷ [])) ∙ last_behind None (place_view above) (step_view step))

-- the name of the node to which the last of some steps leads
pub name_of_last : (s : Schema) (steps : List Step) (step : Step) (node : Option SchemaNode) → last_or None steps ≡ Some step → node ≡ node_at s step.schema_number
    → option_map_or (λ n. n.name) node [] ≡ name_at s steps
name_of_last s steps step node last at =
    ap (λ (o : Option SchemaNode). option_map_or (λ n. n.name) o []) at
    ∙ sym (ap (λ (o : Option Step). option_map_or (λ n. n.name) (option_and_then (λ x. node_at s x.schema_number) o) []) last)

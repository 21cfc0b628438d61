-- Schema nodes made from planned ones, and how they lie in rows.
use Rattle.std.proofs.Common.{◌≡◌, ◌≢◌, ℕ, suc, Bool, ◌+◌, ◌<◌, ◌≤◌, List, [], ◌∷◌, ◌++◌, length, drop, get_or, map, Option, Some, None, refl, sym, ap, ap₂, ◌∙◌, subst, length-append, arith, append_assoc}
use Rattle.std.specs.Prelude.{option_map, option_and_then, slice_get, string_bytes, if◌then◌else◌}
use Rattle.std.specs.List.{filter_map}
use Rattle.std.proofs.lemmas.Option.{slice_get-get_or}
use Rattle.std.proofs.lemmas.List.{map-append, at_drop_more, at_drop_all, append-nil}
use Rattle.yspec.specs.Forest.{Forest, node, end, size, relabelled}
use Rattle.yspec.specs.text.Text.{Text}
use Rattle.yspec.specs.types.Types.{YangType, Val}
use Rattle.yspec.specs.schema.Schema.{SchemaNode, LeafType, MemberTarget, Status, Kind, leaf, leaf_list, case, Absence, key, mandatory, JsonForm}
use Rattle.yspec.specs.linking.Keyword as word
use Rattle.yspec.specs.linking.Source.{Stated}
use Rattle.yspec.specs.linking.Planned as spec
use Rattle.yspec.specs.linking.SchemaNodes.{amount_of, kind_by, absent_by, first_value, value_stated}
use Rattle.yspec.proofs.LinkingProofs.LinkedLemmas.{relabelled-size}
use Rattle.yspec_wide.specs.Language.{Language}
use Rattle.yspec_wide.specs.Types.{absence_in, default_values_in, leaf_type_in, schema_node_in, schema_nodes_in}
use Rattle.ybase_words.specs.KeywordView.{keyword_view}
use Rattle.ybase_words.specs.declared.keyword.Keyword.{Keyword}
use Rattle.ybase_words.specs.declared.keyword.Keyword.TheVariants as words
use Rattle.ybase_preorder.specs.Layout as preorder
use Rattle.ybase_preorder.specs.Layout.{seen, numbered_by, labels_by}
use Rattle.ybase_preorder.specs.View.{slots_in, forest_in}
use Rattle.ybase_preorder.specs.declared.slot.Slot as plan_slots
use Rattle.ybase_preorder.proofs.LayoutLemmas.{seen-append}
use Rattle.ybase_preorder.proofs.LayoutLemmas as lying
use Rattle.ybase_preorder.proofs.LabelLemmas.{size-by, label_at}
use Rattle.yschema_plan.specs.Finding.{name_of}
use Rattle.yschema_plan.specs.PlannedView.{planned_view}
use Rattle.yschema_plan.specs.PlanView.{view}
use Rattle.yschema_plan.specs.declared.plan.Plan.{Plan}
use Rattle.yschema_plan.specs.declared.planned.Planned as code
use Rattle.yschema_plan.proofs.PlanLemmas.{nodes_are}
use Rattle.yschema_model.specs.declared.children.Slot.{Slot}
use Rattle.yschema_model.specs.Layout.{Place, place_of, places, laid}
use Rattle.yschema_model.specs.Lookup.{names_in}
use Rattle.yschema.specs.Made.{place_made, planned_place}
use Rattle.yschema_model.proofs.LayoutLemmas.{laid_push}

-- ---- defaults

-- what a type that may not be there makes of texts
abbrev pub made_by : spec.Plan → Option YangType → List Stated → List Val
made_by plan type texts = filter_map (λ text. option_and_then (λ t. value_stated plan t text) type) texts

pub nothing_made : (plan : spec.Plan) (texts : List Stated) → [] ≡ made_by plan None texts
nothing_made plan [] = refl
nothing_made plan (t ∷ ts) = nothing_made plan ts

-- what it means that a leaf isn't stored, by whether it is a key, whether it is mandatory, and its defaults
abbrev pub absent_as : Bool → Bool → List Val → Absence
absent_as is_its_key must values = if is_its_key then key else (if must then mandatory else absent_by (first_value values))

abbrev pub leaf_type_by : JsonForm → Text → YangType → Option ℕ → List (Option MemberTarget) → LeafType
leaf_type_by form name type target targets = record { name = name; type = type; target = target; targets = targets; form = form }

-- ---- kinds

-- what only its kind of node has, by a keyword
abbrev pub kind_for : Language → spec.Plan → spec.Planned → word.Keyword → Kind
kind_for language plan p k = if word.same_keyword word.leaf_word k then leaf (leaf_type_in language plan p) (absence_in language plan p)
    else (if word.same_keyword word.leaf_list_word k
    then leaf_list (leaf_type_in language plan p) (default_values_in language plan p) (amount_of p)
    else kind_by plan p k)

-- any other keyword is that of a case
pub other_kind : (language : Language) (plan : spec.Plan) (p : spec.Planned) (k : Keyword) → k ≢ words.Container → k ≢ words.Leaf → k ≢ words.LeafList → k ≢ words.List → k ≢ words.Choice
    → case ≡ kind_for language plan p (keyword_view k)
other_kind language plan p words.Module a b c d e = refl
other_kind language plan p words.YangVersion a b c d e = refl
other_kind language plan p words.Namespace a b c d e = refl
other_kind language plan p words.Prefix a b c d e = refl
other_kind language plan p words.Import a b c d e = refl
other_kind language plan p words.RevisionDate a b c d e = refl
other_kind language plan p words.Organization a b c d e = refl
other_kind language plan p words.Contact a b c d e = refl
other_kind language plan p words.Description a b c d e = refl
other_kind language plan p words.Reference a b c d e = refl
other_kind language plan p words.Revision a b c d e = refl
other_kind language plan p words.Extension a b c d e = refl
other_kind language plan p words.Typedef a b c d e = refl
other_kind language plan p words.Grouping a b c d e = refl
other_kind language plan p words.Augment a b c d e = refl
other_kind language plan p words.Container a b c d e = absurd (a refl)
other_kind language plan p words.Leaf a b c d e = absurd (b refl)
other_kind language plan p words.LeafList a b c d e = absurd (c refl)
other_kind language plan p words.List a b c d e = absurd (d refl)
other_kind language plan p words.Choice a b c d e = absurd (e refl)
other_kind language plan p words.Case a b c d e = refl
other_kind language plan p words.Uses a b c d e = refl
other_kind language plan p words.Refine a b c d e = refl
other_kind language plan p words.Type a b c d e = refl
other_kind language plan p words.FractionDigits a b c d e = refl
other_kind language plan p words.Range a b c d e = refl
other_kind language plan p words.Length a b c d e = refl
other_kind language plan p words.Enum a b c d e = refl
other_kind language plan p words.Bit a b c d e = refl
other_kind language plan p words.Path a b c d e = refl
other_kind language plan p words.RequireInstance a b c d e = refl
other_kind language plan p words.ErrorMessage a b c d e = refl
other_kind language plan p words.ErrorAppTag a b c d e = refl
other_kind language plan p words.Value a b c d e = refl
other_kind language plan p words.Position a b c d e = refl
other_kind language plan p words.Units a b c d e = refl
other_kind language plan p words.Default a b c d e = refl
other_kind language plan p words.Config a b c d e = refl
other_kind language plan p words.Mandatory a b c d e = refl
other_kind language plan p words.Presence a b c d e = refl
other_kind language plan p words.MinElements a b c d e = refl
other_kind language plan p words.MaxElements a b c d e = refl
other_kind language plan p words.OrderedBy a b c d e = refl
other_kind language plan p words.Status a b c d e = refl
other_kind language plan p words.Key a b c d e = refl
other_kind language plan p words.Unique a b c d e = refl
other_kind language plan p words.Identity a b c d e = refl
other_kind language plan p words.Base a b c d e = refl

-- a schema node, from what is known of it
abbrev pub node_by : ℕ → ℕ → Bool → Bool → Text → Status → Kind → SchemaNode
node_by number module_number config distinct name status kind = record {
  number = number;
  module_number = module_number;
  name = name;
  config = config;
  distinct_items = distinct;
  status = status;
  kind = kind;
}

-- ---- rows

-- the places of the schema nodes for the rows of a plan, the first of which has a number
abbrev pub ahead : (spec.Planned → SchemaNode) → ℕ → List (plan_slots.Slot code.Planned) → List Place
ahead make number rows = map (place_made make) (seen planned_view number (preorder.laid rows))

-- a row more of those that are made
pub count_more : (made more : List Slot) (m : Slot) (i : ℕ) → more ≡ made ++ m ∷ [] → length made ≡ i → length more ≡ i + 1
count_more made more m i pushed count = ap length pushed ∙ (length-append made (m ∷ []) ∙ omega (arith, count))

pub row_more : (make : spec.Planned → SchemaNode) (shown rows : List (plan_slots.Slot code.Planned)) → shown ≡ rows → (i : ℕ) (r : plan_slots.Slot code.Planned)
    (made more : List Slot) (m : Slot) (whole : List Place)
    → i < length shown → r ≡ get_or shown i r → length made ≡ i → place_of i m ≡ place_made make (planned_place i r)
    → more ≡ made ++ m ∷ []
    → laid 0 made ++ ahead make i (drop i rows) ≡ whole
    → laid 0 more ++ ahead make (i + 1) (drop (i + 1) rows) ≡ whole
row_more make shown rows are i r made more m whole inside at count placed pushed so =
    let within : i < length rows = subst (λ xs. i < length xs) are inside in
    let is : r ≡ get_or rows i r = at ∙ ap (λ xs. get_or xs i r) are in
    let rest = ahead make (i + 1) (drop (i + 1) rows) in
    let first : ahead make i (drop i rows) ≡ place_made make (planned_place i r) ∷ rest =
    at_drop_more (ahead make i) rows i r within ∙ ap (λ x. ahead make i (x ∷ drop (i + 1) rows)) (sym is) in
    let laid_so : laid 0 more ≡ laid 0 made ++ place_made make (planned_place i r) ∷ [] =
    ap (laid 0) pushed ∙ (laid_push made m ∙ (ap (λ n. laid 0 made ++ place_of n m ∷ []) count ∙ ap (λ x. laid 0 made ++ x ∷ []) placed)) in
    ap (λ x. x ++ rest) laid_so
    ∙ (append_assoc (laid 0 made) (place_made make (planned_place i r) ∷ []) rest
    ∙ (ap (λ x. laid 0 made ++ x) (sym first) ∙ so))

-- the rows of a forest of planned nodes give those of the forest of schema nodes
module _ (language : Language) (plan : spec.Plan) where
  rows_made : (p : Option ℕ) (k : ℕ) (f : Forest code.Planned)
      → map (place_made (schema_node_in language plan)) (seen planned_view k (preorder.places p k f)) ≡ places p (relabelled (schema_node_in language plan) (numbered_by planned_view k f))
  rows_made p k end = refl
  rows_made p k (node l below after) =
      let make = schema_node_in language plan in
      let see = planned_view in
      let inner = preorder.places (Some k) (k + 1) below in
      let behind = preorder.places p (k + suc (size below)) after in
      let past : k + 1 + length inner ≡ k + suc (size below) = omega (arith, lying.length-places (Some k) (k + 1) below) in
      let sized : size below ≡ size (relabelled make (numbered_by see (k + 1) below)) =
      sym (relabelled-size make (numbered_by see (k + 1) below) ∙ size-by see (k + 1) below) in
      ap₂ (λ b rest. record { parent = p; label = make (see k l); below = b } ∷ rest) sized
      (ap (map (place_made make)) (seen-append see (k + 1) inner behind ∙ ap (λ m. seen see (k + 1) inner ++ seen see m behind) past)
      ∙ (map-append (place_made make) (seen see (k + 1) inner) (seen see (k + suc (size below)) behind)
      ∙ ap₂ (λ a b. a ++ b) (rows_made (Some k) (k + 1) below) (rows_made p (k + suc (size below)) after)))

-- the node of a row of a plan stands at its number
pub row_stands : (plan : Plan) (rows : List (plan_slots.Slot code.Planned)) (i : ℕ) (r : plan_slots.Slot code.Planned)
    → rows ≡ slots_in plan.table → i < length rows → r ≡ get_or rows i r
    → slice_get (spec.nodes_of (view plan)) i ≡ Some (planned_view i r.label)
row_stands plan rows i r are within is =
    let from_start : 0 + i ≡ i = omega arith in
    let there : slice_get rows i ≡ Some r = slice_get-get_or rows i r within ∙ ap Some (sym is) in
    ap (λ nodes. slice_get nodes i) (nodes_are plan ∙ ap (labels_by planned_view 0) (sym are))
    ∙ (label_at planned_view 0 rows i
    ∙ (ap (option_map (λ x. planned_view (0 + i) x.label)) there ∙ ap (λ n. Some (planned_view n r.label)) from_start))

-- what is laid in the end
all_laid : (language : Language) (plan : Plan) (shown : List (plan_slots.Slot code.Planned)) (i : ℕ) (made : List Slot) → shown ≡ slots_in plan.table → length shown ≤ i
    → laid 0 made ++ ahead (schema_node_in language (view plan)) i (drop i (slots_in plan.table)) ≡ ahead (schema_node_in language (view plan)) 0 (slots_in plan.table)
    → laid 0 made ≡ ahead (schema_node_in language (view plan)) 0 (slots_in plan.table)
all_laid language plan shown i made are past so =
    let rows = slots_in plan.table in
    let ended : length rows ≤ i = subst (λ xs. length xs ≤ i) are past in
    sym (append-nil (laid 0 made)) ∙ (ap (λ ps. laid 0 made ++ ps) (sym (at_drop_all (ahead (schema_node_in language (view plan)) i) rows i ended)) ∙ so)

pub all_made : (language : Language) (plan : Plan) (shown : List (plan_slots.Slot code.Planned)) (i : ℕ) (made : List Slot) → shown ≡ slots_in plan.table → length shown ≤ i
    → laid 0 made ++ ahead (schema_node_in language (view plan)) i (drop i (slots_in plan.table)) ≡ ahead (schema_node_in language (view plan)) 0 (slots_in plan.table)
    → laid 0 made ≡ places None (schema_nodes_in language (view plan))
all_made language plan shown i made are past so =
    let make = schema_node_in language (view plan) in
    let whole : ahead make 0 (slots_in plan.table) ≡ places None (schema_nodes_in language (view plan)) =
    ap (λ ps. map (place_made make) (seen planned_view 0 ps)) plan.laid_out ∙ rows_made language (view plan) None 0 (forest_in plan.table) in
    all_laid language plan shown i made are past so ∙ whole

-- ---- names

abbrev place_name : Place → Text
place_name p = p.label.name

names_laid : (k : ℕ) (rows : List Slot) → map place_name (laid k rows) ≡ names_in rows
names_laid k [] = refl
names_laid k (r ∷ rows) = ap (λ names. string_bytes r.node.name ∷ names) (names_laid (k + 1) rows)

names_ahead : (language : Language) (plan : spec.Plan) (k : ℕ) (rows : List (plan_slots.Slot code.Planned)) → map place_name (ahead (schema_node_in language plan) k rows) ≡ map name_of (labels_by planned_view k rows)
names_ahead language plan k [] = refl
names_ahead language plan k (r ∷ rows) = ap (λ names. name_of (planned_view k r.label) ∷ names) (names_ahead language plan (k + 1) rows)

pub all_named : (language : Language) (plan : Plan) (shown : List (plan_slots.Slot code.Planned)) (i : ℕ) (made : List Slot) → shown ≡ slots_in plan.table → length shown ≤ i
    → laid 0 made ++ ahead (schema_node_in language (view plan)) i (drop i (slots_in plan.table)) ≡ ahead (schema_node_in language (view plan)) 0 (slots_in plan.table)
    → names_in made ≡ map name_of (spec.nodes_of (view plan))
all_named language plan shown i made are past so =
    sym (names_laid 0 made)
    ∙ (ap (map place_name) (all_laid language plan shown i made are past so)
    ∙ (names_ahead language (view plan) 0 (slots_in plan.table) ∙ ap (map name_of) (sym (nodes_are plan))))

-- The names of linked schemas: no two siblings are written with one name.
use Rattle.std.proofs.Common.{◌≡◌, ◌≢◌, ◌⊎◌, inl, inr, ℕ, zero, suc, ◌+◌, ◌<◌, Bool, true, false, cond, not, ◌||◌, List, [], ◌∷◌, ◌++◌, length, map, Option, Some, Ok, refl, sym, ap, ap₂, ◌∙◌, subst, arith}
use Rattle.std.specs.Prelude.{slice_get, unwrap_or}
use Rattle.std.specs.List.{list_any}
use Rattle.std.specs.Option.{option_map_or}
use Rattle.yspec.specs.Forest.{Forest, end, node, size, row, join, preorder, relabelled}
use Rattle.yspec.specs.text.Text.{Text, is_text}
use Rattle.yspec.specs.text.Statement.{Statement}
use Rattle.yspec.specs.schema.Breaks.{module_breaks}
use Rattle.yspec.specs.schema.Schema.{Schema, SchemaNode, SchemaModule, argument_text, is_data, data_row}
use Rattle.yspec.specs.document.Writing.{IsPlain, IsNamed, NodesAreNamed, HasItsName, RowIsNamed, AllAreNamed, AreNamed, ModulesDiffer, NamesDiffer}
use Rattle.yspec.specs.linking.Keyword.{Keyword, same_keyword, choice_word, case_word}
use Rattle.yspec.specs.linking.Source.{Source, sources_from, sources_of, argument_in}
use Rattle.yspec.specs.linking.StatementBreaks.{top_breaks, breaks_from}
use Rattle.yspec.specs.linking.Parts.{Part, defines_node}
use Rattle.yspec.specs.linking.Planned.{Planned, Plan, Around, at_top, planned_node, data_parent_below, around_below, planned}
use Rattle.yspec.specs.linking.SchemaNodes.{kind_by, schema_node}
use Rattle.yspec.specs.linking.Compiling.{schema_modules, schema_of, compiled}
use Rattle.yspec.proofs.LinkingProofs.BreakLemmas.{none_first, none_second, unbroken}
use Rattle.yspec.proofs.LinkingProofs.KeywordLemmas.{by_definition}
use Rattle.yspec.proofs.LinkingProofs.LegalLemmas.{AreModules, is_module, sources_first, are_modules}
use Rattle.yspec.proofs.LinkingProofs.RightPartLemmas.{AllCases, IsRightAt, AreRight}
use Rattle.yspec.proofs.LinkingProofs.ApartLemmas.{NoneLike, Apart, apart_of, Within, within_none, within_first, within_second, within_joined, apart_within, names_apart}
use Rattle.yspec.proofs.LinkingProofs.LinkedLemmas.{plan_in, parts_in, BreaksNothing, compiles, right_plan}
use Rattle.yspec.proofs.DocumentProofs.WrittenNameLemmas.{names_differ}
use Rattle.yspec.proofs.BasicLemmas.{or_parts, texts_differ}
use Rattle.yspec.proofs.IdentifierLemmas.{identifier_plain}

-- ---- the data nodes of a row, choices and cases passed through

abbrev planned_data : Plan → Forest Planned → List Planned
planned_data plan end = []
planned_data plan (node p below after) =
    cond (is_data (schema_node plan p).kind) (p ∷ planned_data plan after) (planned_data plan below ++ planned_data plan after)

row_join : (f g : Forest SchemaNode) → row (join f g) ≡ row f ++ row g
row_join end g = refl
row_join (node n below after) g = ap (λ ns. n ∷ ns) (row_join after g)

map_joined : (label : Planned → SchemaNode) (ps qs : List Planned) → map label (ps ++ qs) ≡ map label ps ++ map label qs
map_joined label [] qs = refl
map_joined label (p ∷ ps) qs = ap (λ ns. label p ∷ ns) (map_joined label ps qs)

data_row-is : (plan : Plan) (f : Forest Planned) → row (data_row (relabelled (schema_node plan) f)) ≡ map (schema_node plan) (planned_data plan f)
data_row-is plan end = refl
data_row-is plan (node p below after) = by (is_data (schema_node plan p).kind) (data_row-is plan below) (data_row-is plan after)
  where
    inner : Forest SchemaNode
    inner = relabelled (schema_node plan) below

    others : Forest SchemaNode
    others = relabelled (schema_node plan) after

    by : (b : Bool) → row (data_row inner) ≡ map (schema_node plan) (planned_data plan below) → row (data_row others) ≡ map (schema_node plan) (planned_data plan after)
        → row (cond b (node (schema_node plan p) inner (data_row others)) (join (data_row inner) (data_row others)))
        ≡ map (schema_node plan) (cond b (p ∷ planned_data plan after) (planned_data plan below ++ planned_data plan after))
    by true first second = ap (λ ns. schema_node plan p ∷ ns) second
    by false first second = row_join (data_row inner) (data_row others)
        ∙ (ap₂ (λ ms ns. ms ++ ns) first second ∙ sym (map_joined (schema_node plan) (planned_data plan below) (planned_data plan after)))

data_within : (plan : Plan) (f : Forest Planned) → Within (planned_data plan f) (preorder f)
data_within plan end = refl
data_within plan (node p below after) = by (is_data (schema_node plan p).kind) (data_within plan below) (data_within plan after)
  where
    by : (b : Bool) → Within (planned_data plan below) (preorder below) → Within (planned_data plan after) (preorder after)
        → Within (cond b (p ∷ planned_data plan after) (planned_data plan below ++ planned_data plan after)) (p ∷ (preorder below ++ preorder after))
    by true first second = inr (planned_data plan after, refl, within_joined [] (preorder below) (planned_data plan after) (preorder after) (within_none (preorder below)) second)
    by false first second = inl (within_joined (planned_data plan below) (preorder below) (planned_data plan after) (preorder after) first second)

-- ---- rows of nodes that are named

abbrev NoneNamed : SchemaNode → List SchemaNode → Type 0
NoneNamed n [] = Unit {0}
NoneNamed n (m ∷ ms) = (n.module_number ≡ m.module_number → n.name ≢ m.name) × NoneNamed n ms

abbrev ListIsNamed : Schema → List SchemaNode → Type 0
ListIsNamed schema [] = Unit {0}
ListIsNamed schema (n ∷ ns) = IsNamed schema n × NoneNamed n ns × ListIsNamed schema ns

own_name : (n : SchemaNode) (f : Forest SchemaNode) → NoneNamed n (row f) → HasItsName n f
own_name n end none = tt
own_name n (node m below after) none = (none.0, own_name n after none.1)

row_of_list : (schema : Schema) (f : Forest SchemaNode) → ListIsNamed schema (row f) → RowIsNamed schema f
row_of_list schema end named = tt
row_of_list schema (node n below after) named = (named.0, own_name n after named.1, row_of_list schema after named.2)

-- nodes with names, whose names the children of one node share
abbrev AreSiblings : Schema → Plan → Option ℕ → List Planned → Type 0
AreSiblings schema plan scope [] = Unit {0}
AreSiblings schema plan scope (p ∷ ps) = (p.scope ≡ scope) × IsNamed schema (schema_node plan p) × AreSiblings schema plan scope ps

siblings_joined : (schema : Schema) (plan : Plan) (scope : Option ℕ) (ps qs : List Planned) → AreSiblings schema plan scope ps → AreSiblings schema plan scope qs
    → AreSiblings schema plan scope (ps ++ qs)
siblings_joined schema plan scope [] qs first second = second
siblings_joined schema plan scope (p ∷ ps) qs first second = (first.0, first.1, siblings_joined schema plan scope ps qs first.2 second)

none_named : (schema : Schema) (plan : Plan) (scope : Option ℕ) (p : Planned) (ps : List Planned) → p.scope ≡ scope → AreSiblings schema plan scope ps → NoneLike p ps
    → NoneNamed (schema_node plan p) (map (schema_node plan) ps)
none_named schema plan scope p [] here siblings none = tt
none_named schema plan scope p (q ∷ qs) here siblings none = (
  names_apart p q (here ∙ sym siblings.0) none.0,
  none_named schema plan scope p qs here siblings.2 none.1,
)

list_named : (schema : Schema) (plan : Plan) (scope : Option ℕ) (ps : List Planned) → AreSiblings schema plan scope ps → Apart ps
    → ListIsNamed schema (map (schema_node plan) ps)
list_named schema plan scope [] siblings apart = tt
list_named schema plan scope (p ∷ ps) siblings apart = (
  siblings.1,
  none_named schema plan scope p ps siblings.0 siblings.2 apart.0,
  list_named schema plan scope ps siblings.2 apart.1,
)

-- ---- scopes

abbrev is_passed : Keyword → Bool
is_passed k = same_keyword choice_word k || same_keyword case_word k

data_by_word : (plan : Plan) (p : Planned) (k : Keyword) → defines_node k ≡ true → is_data (kind_by plan p k) ≡ not (is_passed k)
data_by_word plan p k defines = by_definition k (λ k. is_data (kind_by plan p k) ≡ not (is_passed k)) refl refl refl refl refl refl defines

-- names are shared with the children of the data node above, or the nodes are all cases
abbrev IsScoped : Around → Forest Part → Type 0
IsScoped around f = (around.scope ≡ around.data_parent) ⊎ AllCases f

scoped_below : (count next : ℕ) (around : Around) (p : Part) (below : Forest Part) → IsRightAt count p below → IsScoped (around_below next around p) below
scoped_below count next around p below right = by (same_keyword choice_word p.source.keyword) refl
  where
    by : (b : Bool) → same_keyword choice_word p.source.keyword ≡ b
        → (cond b (Some next) (data_parent_below next around p) ≡ data_parent_below next around p) ⊎ AllCases below
    by true is = inr (right.cases is)
    by false is = inl refl

scoped_after : (around : Around) (p : Part) (below after : Forest Part) → IsScoped around (node p below after) → IsScoped around after
scoped_after around p below after (inl same) = inl same
scoped_after around p below after (inr cases) = inr cases.1

-- a node that isn't passed through shares its name with the children of the data node above
scope_of : (around : Around) (p : Part) (below after : Forest Part) → IsScoped around (node p below after) → is_passed p.source.keyword ≡ false
    → around.scope ≡ around.data_parent
scope_of around p below after (inl same) passed = same
scope_of around p below after (inr cases) passed =
    let is = (or_parts (same_keyword choice_word p.source.keyword) (same_keyword case_word p.source.keyword) passed).1 in
    absurd (let no : true ≡ false = sym cases.0 ∙ is in cc)

siblings_of : (schema : Schema) (plan : Plan) (next : ℕ) (around : Around) (f : Forest Part) → AreRight (length schema.modules) f → IsScoped around f
    → AreSiblings schema plan around.data_parent (planned_data plan (planned next around f))
unfolding planned
siblings_of schema plan next around end right scoped = tt
siblings_of schema plan next around (node p below after) right scoped =
    by (is_passed p.source.keyword) refl (data_by_word plan (planned_node next around p) p.source.keyword right.0.defines)
    (siblings_of schema plan (next + 1) (around_below next around p) below right.1 (scoped_below (length schema.modules) next around p below right.0))
    (siblings_of schema plan (next + suc (size below)) around after right.2 (scoped_after around p below after scoped))
  where
    inner : List Planned
    inner = planned_data plan (planned (next + 1) (around_below next around p) below)

    others : List Planned
    others = planned_data plan (planned (next + suc (size below)) around after)

    by : (b : Bool) → is_passed p.source.keyword ≡ b → is_data (kind_by plan (planned_node next around p) p.source.keyword) ≡ not b
        → AreSiblings schema plan (cond b around.data_parent (Some next)) inner → AreSiblings schema plan around.data_parent others
        → AreSiblings schema plan around.data_parent (cond (is_data (kind_by plan (planned_node next around p) p.source.keyword)) (planned_node next around p ∷ others) (inner ++ others))
    by true is kind first second =
        subst (λ (b : Bool). AreSiblings schema plan around.data_parent (cond b (planned_node next around p ∷ others) (inner ++ others))) (sym kind)
        (siblings_joined schema plan around.data_parent inner others first second)
    by false is kind first second =
        subst (λ (b : Bool). AreSiblings schema plan around.data_parent (cond b (planned_node next around p ∷ others) (inner ++ others))) (sym kind)
        (scope_of around p below after scoped is, (identifier_plain (argument_in p.source) right.0.name, right.0.owner), second)

-- ---- all rows

row_named : (schema : Schema) (plan : Plan) (next : ℕ) (around : Around) (f : Forest Part) → AreRight (length schema.modules) f → IsScoped around f
    → Apart (preorder (planned next around f)) → RowIsNamed schema (data_row (relabelled (schema_node plan) (planned next around f)))
row_named schema plan next around f right scoped apart =
    let nodes = planned next around f in
    row_of_list schema (data_row (relabelled (schema_node plan) nodes))
    (subst (ListIsNamed schema) (sym (data_row-is plan nodes))
    (list_named schema plan around.data_parent (planned_data plan nodes) (siblings_of schema plan next around f right scoped)
    (apart_within (planned_data plan nodes) (preorder nodes) (data_within plan nodes) apart)))

all_named : (schema : Schema) (plan : Plan) (next : ℕ) (around : Around) (f : Forest Part) → AreRight (length schema.modules) f
    → Apart (preorder (planned next around f)) → AllAreNamed schema (relabelled (schema_node plan) (planned next around f))
unfolding planned
all_named schema plan next around end right apart = tt
all_named schema plan next around (node p below after) right apart =
    let inner = preorder (planned (next + 1) (around_below next around p) below) in
    let others = preorder (planned (next + suc (size below)) around after) in
    let first = apart_within inner (inner ++ others) (within_first inner others) apart.1 in (
      row_named schema plan (next + 1) (around_below next around p) below right.1 (scoped_below (length schema.modules) next around p below right.0) first,
      all_named schema plan (next + 1) (around_below next around p) below right.1 first,
      all_named schema plan (next + suc (size below)) around after right.2 (apart_within others (inner ++ others) (within_second inner others) apart.1),
    )

are_named : (modules : Forest Statement) → BreaksNothing modules → AreNamed (schema_of modules)
are_named modules none =
    let plan = plan_in modules in
    let right = right_plan modules none in
    let apart = apart_of [] (preorder plan.nodes) none.names in (
      row_named (schema_of modules) plan 0 at_top (parts_in modules) right (inl refl) apart,
      all_named (schema_of modules) plan 0 at_top (parts_in modules) right apart,
    )

nodes_named : (schema : Schema) (plan : Plan) (next : ℕ) (around : Around) (f : Forest Part) → AreRight (length schema.modules) f
    → NodesAreNamed schema (relabelled (schema_node plan) (planned next around f))
unfolding planned
nodes_named schema plan next around end right = tt
nodes_named schema plan next around (node p below after) right = (
  (identifier_plain (argument_in p.source) right.0.name, right.0.owner),
  nodes_named schema plan (next + 1) (around_below next around p) below right.1,
  nodes_named schema plan (next + suc (size below)) around after right.2,
)

-- ---- names of modules

abbrev names_of : Forest Statement → List Text
names_of end = []
names_of (node s below after) = argument_text s ∷ names_of after

abbrev text_at : List Text → ℕ → Text
text_at names i = unwrap_or (slice_get names i) []

module_names : (plan : Plan) (home number : ℕ) (modules : Forest Statement) → breaks_from home modules ≡ [] → map (λ m. m.name) (schema_modules plan (sources_from home number modules)) ≡ names_of modules
unfolding sources_from breaks_from
module_names plan home number end e = refl
module_names plan home number (node s below after) e =
    let here = is_module home s below (none_first (top_breaks home s below) (breaks_from (home + 1) after) e) in
    ap (λ f. map (λ m. m.name) (schema_modules plan f)) (sources_first home number s below after here.keyword)
    ∙ ap (λ names. argument_text s ∷ names) (module_names plan (home + 1) _ after (none_second (top_breaks home s below) (breaks_from (home + 1) after) e))

name_at : (modules : List SchemaModule) (i : ℕ) → option_map_or (λ m. m.name) (slice_get modules i) [] ≡ text_at (map (λ m. m.name) modules) i
name_at [] i = refl
name_at (m ∷ ms) zero = refl
name_at (m ∷ ms) (suc i) = name_at ms i

length_named : (modules : List SchemaModule) → length modules ≡ length (map (λ m. m.name) modules)
length_named [] = refl
length_named (m ∷ ms) = ap suc (length_named ms)

-- a module's name is none of those before
fresh_at : (m i : ℕ) (before : List Text) (modules : Forest Statement) → i < length (names_of modules) → module_breaks m before modules ≡ []
    → list_any (is_text (text_at (names_of modules) i)) before ≡ false
fresh_at m i before end few e = absurd (omega (arith, few))
fresh_at m zero before (node s below after) few e =
    unbroken (list_any (is_text (argument_text s)) before) 7 m s.line (none_first _ (module_breaks (m + 1) (argument_text s ∷ before) after) e)
fresh_at m (suc i) before (node s below after) few e =
    let name = text_at (names_of after) i in
    (or_parts (is_text name (argument_text s)) (list_any (is_text name) before)
    (fresh_at (m + 1) i (argument_text s ∷ before) after (omega (arith, few)) (none_second _ (module_breaks (m + 1) (argument_text s ∷ before) after) e))).1

-- the first module's name is none of the later ones'
first_apart : (m i : ℕ) (before : List Text) (s : Statement) (after : Forest Statement) → i < length (names_of after)
    → module_breaks m (argument_text s ∷ before) after ≡ [] → text_at (names_of after) i ≢ argument_text s
first_apart m i before s after few e =
    let name = text_at (names_of after) i in
    texts_differ name (argument_text s) (or_parts (is_text name (argument_text s)) (list_any (is_text name) before) (fresh_at m i (argument_text s ∷ before) after few e)).0

names_once : (m i j : ℕ) (before : List Text) (modules : Forest Statement) → i < length (names_of modules) → j < length (names_of modules)
    → module_breaks m before modules ≡ [] → text_at (names_of modules) i ≡ text_at (names_of modules) j → i ≡ j
names_once m i j before end here there e same = absurd (omega (arith, here))
names_once m zero zero before (node s below after) here there e same = refl
names_once m zero (suc j) before (node s below after) here there e same =
    absurd (first_apart (m + 1) j before s after (omega (arith, there)) (none_second _ (module_breaks (m + 1) (argument_text s ∷ before) after) e) (sym same))
names_once m (suc i) zero before (node s below after) here there e same =
    absurd (first_apart (m + 1) i before s after (omega (arith, here)) (none_second _ (module_breaks (m + 1) (argument_text s ∷ before) after) e) same)
names_once m (suc i) (suc j) before (node s below after) here there e same =
    ap suc (names_once (m + 1) i j (argument_text s ∷ before) after (omega (arith, here)) (omega (arith, there))
    (none_second _ (module_breaks (m + 1) (argument_text s ∷ before) after) e) same)

plain_at : (plan : Plan) (home i : ℕ) (f : Forest Source) → AreModules home f → i < length (schema_modules plan f)
    → IsPlain (option_map_or (λ m. m.name) (slice_get (schema_modules plan f) i) [])
plain_at plan home i end legal few = absurd (omega (arith, few))
plain_at plan home zero (node s below after) legal few = identifier_plain (argument_in s) legal.0
plain_at plan home (suc i) (node s below after) legal few = plain_at plan (home + 1) i after legal.2 (omega (arith, few))

modules_differ : (modules : Forest Statement) → BreaksNothing modules → ModulesDiffer (schema_of modules)
modules_differ modules none i j here there =
    let sources = sources_of modules in
    let plan = plan_in modules in
    let names = module_names plan 0 0 modules none.statements in
    let count : length (schema_modules plan sources) ≡ length (names_of modules) = length_named (schema_modules plan sources) ∙ ap length names in
    let first = name_at (schema_modules plan sources) i ∙ ap (λ ns. text_at ns i) names in
    let second = name_at (schema_modules plan sources) j ∙ ap (λ ns. text_at ns j) names in (
      plain_at plan 0 i sources (are_modules 0 modules none.statements 0) here,
      λ same. names_once 0 i j [] modules (omega (arith, count, here)) (omega (arith, count, there)) none.module_names (sym first ∙ (same ∙ second)),
    )

-- ---- what compiled

pub linked_names : (modules : Forest Statement) (schema : Schema) → compiled modules ≡ Ok schema → NamesDiffer schema
linked_names modules schema e =
    let i = compiles modules schema e in
    subst NamesDiffer i.is (names_differ (schema_of modules) (modules_differ modules i.none) (are_named modules i.none))

pub linked_modules : (modules : Forest Statement) (schema : Schema) → compiled modules ≡ Ok schema → ModulesDiffer schema
linked_modules modules schema e =
    let i = compiles modules schema e in
    subst ModulesDiffer i.is (modules_differ modules i.none)

pub linked_nodes : (modules : Forest Statement) (schema : Schema) → compiled modules ≡ Ok schema → NodesAreNamed schema schema.nodes
linked_nodes modules schema e =
    let i = compiles modules schema e in
    subst (λ (s : Schema). NodesAreNamed s s.nodes) i.is
    (nodes_named (schema_of modules) (plan_in modules) 0 at_top (parts_in modules) (right_plan modules i.none))

-- No two data nodes of a row are written with one name, whatever module the parent is of.
use Rattle.std.proofs.Common.{◌≡◌, ◌==◌, ℕ, Bool, true, false, cond, [], ◌∷◌, ◌++◌, unwrap_or, Option, Some, None, refl, ap₂}
use Rattle.yspec.specs.Forest.{Forest, end, node, join, find_below, joined_below}
use Rattle.yspec.specs.text.Text.{Text}
use Rattle.yspec.specs.schema.Schema.{Schema, SchemaNode, is_data, is_module, module_name, data_row, written_name, children_of}
use Rattle.yspec.specs.document.Writing.{IsNamed, NodesAreNamed, HasItsName, RowIsNamed, ModulesDiffer, IsNew, RowDiffers, AllDiffer}
use Rattle.yspec.proofs.DocumentProofs.WrittenNameLemmas.{row_differs}
use Rattle.yspec_fit.proofs.FitLemmas.{modules_differ_of, nodes_named_of}
use Rattle.yschema_model.specs.View.{view}
use Rattle.yschema_model.specs.declared.schema.Schema as model
use Rattle.yschema_model.proofs.CallerLemmas.{names_differ}

-- ---- rows that are joined

pub new_parts : (s : Schema) (parent : Option ℕ) (name : Text) (f g : Forest SchemaNode) → IsNew s parent name (join f g) → IsNew s parent name f × IsNew s parent name g
new_parts s parent name end g new = (tt, new)
new_parts s parent name (node n below after) g new = let rest = new_parts s parent name after g new.1 in ((new.0, rest.0), rest.1)

-- no node of a row is written as one of another
abbrev pub AreNew : Schema → Option ℕ → Forest SchemaNode → Forest SchemaNode → Type 0
AreNew s parent end g = Unit {0}
AreNew s parent (node n below after) g = IsNew s parent (written_name s parent n) g × AreNew s parent after g

pub all_new_parts : (s : Schema) (parent : Option ℕ) (f f' g : Forest SchemaNode) → AreNew s parent (join f f') g → AreNew s parent f g × AreNew s parent f' g
all_new_parts s parent end f' g new = (tt, new)
all_new_parts s parent (node n below after) f' g new = let rest = all_new_parts s parent after f' g new.1 in ((new.0, rest.0), rest.1)

pub differ_parts : (s : Schema) (parent : Option ℕ) (f g : Forest SchemaNode) → RowDiffers s parent (join f g)
    → RowDiffers s parent f × RowDiffers s parent g × AreNew s parent f g
differ_parts s parent end g differ = (tt, differ, tt)
differ_parts s parent (node n below after) g differ =
    let first = new_parts s parent (written_name s parent n) after g differ.0 in
    let rest = differ_parts s parent after g differ.1 in
    ((first.0, rest.0), rest.1, (first.1, rest.2))

-- ---- whatever module the parent is of

abbrev EachNamed : Schema → Forest SchemaNode → Type 0
EachNamed s end = Unit {0}
EachNamed s (node n below after) = IsNamed s n × EachNamed s after

each_joined : (s : Schema) (f g : Forest SchemaNode) → EachNamed s f → EachNamed s g → EachNamed s (join f g)
each_joined s end g named others = others
each_joined s (node n below after) g named others = (named.0, each_joined s after g named.1 others)

each_named : (s : Schema) (f : Forest SchemaNode) → NodesAreNamed s f → EachNamed s (data_row f)
each_named s end named = tt
each_named s (node n below after) named = by (is_data n.kind) (each_named s below named.1) (each_named s after named.2)
  where
    by : (b : Bool) → EachNamed s (data_row below) → EachNamed s (data_row after)
        → EachNamed s (cond b (node n below (data_row after)) (join (data_row below) (data_row after)))
    by true inner rest = (named.0, rest)
    by false inner rest = each_joined s (data_row below) (data_row after) inner rest

own_name : (s : Schema) (parent : Option ℕ) (n : SchemaNode) (f : Forest SchemaNode) → IsNew s parent (written_name s parent n) f → HasItsName n f
own_name s parent n end new = tt
own_name s parent n (node m below after) new = (
  λ modules names. new.0 (ap₂ (λ (i : ℕ) (t : Text). cond (is_module i parent) t ((module_name s i ++ 58 ∷ []) ++ t)) modules names),
  own_name s parent n after new.1,
)

row_named : (s : Schema) (parent : Option ℕ) (f : Forest SchemaNode) → RowDiffers s parent f → EachNamed s f → RowIsNamed s f
row_named s parent end differ named = tt
row_named s parent (node n below after) differ named =
    (named.0, own_name s parent n after differ.0, row_named s parent after differ.1 named.1)

abbrev pub RowApart : Schema → Forest SchemaNode → Type 0
RowApart s f = (parent : Option ℕ) → RowDiffers s parent (data_row f)

-- so each row that stands below a node
abbrev pub AllApart : Schema → Forest SchemaNode → Type 0
AllApart s end = Unit {0}
AllApart s (node n below after) = RowApart s below × AllApart s below × AllApart s after

row_apart : (s : Schema) (parent : Option ℕ) (f : Forest SchemaNode) → ModulesDiffer s → NodesAreNamed s f → RowDiffers s parent (data_row f) → RowApart s f
row_apart s parent f modules named differ = λ other. row_differs s other (data_row f) modules (row_named s parent (data_row f) differ (each_named s f named))

all_apart : (s : Schema) (parent : Option ℕ) (f : Forest SchemaNode) → ModulesDiffer s → NodesAreNamed s f → RowDiffers s parent (data_row f) → AllDiffer s f → AllApart s f
all_apart s parent end modules named differ all = tt
all_apart s parent (node n below after) modules named differ all =
    by (is_data n.kind) refl differ (λ other. all_apart s other below modules named.1) (all_apart s parent after modules named.2)
  where
    by : (b : Bool) → is_data n.kind ≡ b → RowDiffers s parent (cond b (node n below (data_row after)) (join (data_row below) (data_row after)))
        → ((other : Option ℕ) → RowDiffers s other (data_row below) → AllDiffer s below → AllApart s below)
        → (RowDiffers s parent (data_row after) → AllDiffer s after → AllApart s after)
        → RowApart s below × AllApart s below × AllApart s after
    by true is differ inner rest =
        let own = all.0 is in (row_apart s (Some n.module_number) below modules named.1 own, inner (Some n.module_number) own all.1, rest differ.1 all.2)
    by false is differ inner rest =
        let parts = differ_parts s parent (data_row below) (data_row after) differ in
        (row_apart s parent below modules named.1 parts.0, inner parent parts.0 all.1, rest parts.1 all.2)

-- ---- of every schema

pub top_apart : (s : model.Schema) → RowApart (view s) (view s).nodes
top_apart s = row_apart (view s) None (view s).nodes (modules_differ_of (view s) s.fit) (nodes_named_of (view s) s.fit) (names_differ s).0

pub nodes_apart : (s : model.Schema) → AllApart (view s) (view s).nodes
nodes_apart s = all_apart (view s) None (view s).nodes (modules_differ_of (view s) s.fit) (nodes_named_of (view s) s.fit) (names_differ s).0 (names_differ s).1

-- ---- below the node of a number

abbrev HasApart : Schema → Option (Forest SchemaNode) → Type 0
HasApart s None = Unit {0}
HasApart s (Some f) = RowApart s f × AllApart s f

first_apart : (s : Schema) (a b : Option (Forest SchemaNode)) → HasApart s a → HasApart s b → HasApart s (joined_below a b)
first_apart s None b first second = second
first_apart s (Some f) b first second = first

found_apart : (s : Schema) (test : SchemaNode → Bool) (f : Forest SchemaNode) → AllApart s f → HasApart s (find_below test f)
found_apart s test end apart = tt
found_apart s test (node n below after) apart =
    by (test n) (first_apart s (find_below test below) (find_below test after) (found_apart s test below apart.1) (found_apart s test after apart.2))
  where
    by : (b : Bool) → HasApart s (joined_below (find_below test below) (find_below test after))
        → HasApart s (cond b (Some below) (joined_below (find_below test below) (find_below test after)))
    by true later = (apart.0, apart.1)
    by false later = later

pub below_apart : (s : Schema) (number : ℕ) → AllApart s s.nodes → RowApart s (children_of s number) × AllApart s (children_of s number)
below_apart s number apart = by (find_below (λ (n : SchemaNode). n.number == number) s.nodes) (found_apart s (λ (n : SchemaNode). n.number == number) s.nodes apart)
  where
    by : (o : Option (Forest SchemaNode)) → HasApart s o → RowApart s (unwrap_or o end) × AllApart s (unwrap_or o end)
    by None found = (λ parent. tt, tt)
    by (Some f) found = found

-- The names of linked schemas are UTF-8.
use Rattle.std.proofs.Common.{◌≡◌, ℕ, zero, suc, ◌+◌, ◌<◌, Bool, true, false, cond, ◌&&◌, nat_lt, ◌++◌, [], ◌∷◌, length, codes, Option, Ok, IsUtf8, arith, subst}
use Rattle.std.proofs.lemmas.Bool.{and_parts}
use Rattle.std.proofs.lemmas.Str.{IsUtf8-append, IsUtf8-nil}
use Rattle.std.specs.Prelude.{slice_get}
use Rattle.std.specs.List.{list_all}
use Rattle.std.specs.Option.{option_map_or}
use Rattle.yspec.specs.Forest.{Forest, end, node, size, relabelled}
use Rattle.yspec.specs.text.Text.{Text, continues_identifier, begins_identifier, is_identifier}
use Rattle.yspec.specs.text.Statement.{Statement}
use Rattle.yspec.specs.schema.Schema.{Schema, SchemaNode, is_module, module_name, written_name}
use Rattle.yspec.specs.linking.Source.{Source, sources_of, argument_in}
use Rattle.yspec.specs.linking.Parts.{Part}
use Rattle.yspec.specs.linking.Planned.{Plan, Around, at_top, around_below, planned}
use Rattle.yspec.specs.linking.SchemaNodes.{schema_node}
use Rattle.yspec.specs.linking.Compiling.{schema_modules, schema_of, compiled}
use Rattle.yspec.proofs.BasicLemmas.{ascii_text}
use Rattle.yspec.proofs.LinkingProofs.LegalLemmas.{AreModules, are_modules}
use Rattle.yspec.proofs.LinkingProofs.RightPartLemmas.{AreRight}
use Rattle.yspec.proofs.LinkingProofs.LinkedLemmas.{plan_in, parts_in, BreaksNothing, compiles, right_plan}

-- ---- identifiers

byte_small : (c : ℕ) → continues_identifier c ≡ true → c < 128
byte_small c e = grind arith

first_small : (c : ℕ) → begins_identifier c ≡ true → c < 128
first_small c e = grind arith

all_text : (cs : Text) → list_all continues_identifier cs ≡ true → IsUtf8 cs
all_text [] e = IsUtf8-nil
all_text (c ∷ cs) e =
    let parts = and_parts (continues_identifier c) (list_all continues_identifier cs) e in
    IsUtf8-append (c ∷ []) cs (ascii_text c (byte_small c parts.0)) (all_text cs parts.1)

identifier_text : (t : Text) → is_identifier t ≡ true → IsUtf8 t
identifier_text [] e = absurd cc
identifier_text (c ∷ cs) e =
    let parts = and_parts (begins_identifier c) (list_all continues_identifier cs && nat_lt (length cs) 64) e in
    let rest = and_parts (list_all continues_identifier cs) (nat_lt (length cs) 64) parts.1 in
    IsUtf8-append (c ∷ []) cs (ascii_text c (first_small c parts.0)) (all_text cs rest.0)

-- ---- schemas

-- the names of a row's nodes, and of those below
abbrev pub NodesAreTexts : Forest SchemaNode → Type 0
NodesAreTexts end = Unit {0}
NodesAreTexts (node n below after) = IsUtf8 n.name × NodesAreTexts below × NodesAreTexts after

abbrev pub NamesAreTexts : Schema → Type 0
NamesAreTexts schema = ((i : ℕ) → IsUtf8 (module_name schema i)) × NodesAreTexts schema.nodes

-- a node is written with such a name
pub name_text : (schema : Schema) (parent : Option ℕ) (n : SchemaNode) → ((i : ℕ) → IsUtf8 (module_name schema i)) → IsUtf8 n.name
    → IsUtf8 (written_name schema parent n)
name_text schema parent n modules name = by (is_module n.module_number parent)
  where
    by : (b : Bool) → IsUtf8 (cond b n.name (module_name schema n.module_number ++ codes ":" ++ n.name))
    by true = name
    by false =
        IsUtf8-append (module_name schema n.module_number ++ codes ":") n.name
        (IsUtf8-append (module_name schema n.module_number) (codes ":") (modules n.module_number) (ascii_text 58 (omega arith))) name

nodes_texts : (count : ℕ) (plan : Plan) (next : ℕ) (around : Around) (f : Forest Part) → AreRight count f
    → NodesAreTexts (relabelled (schema_node plan) (planned next around f))
unfolding planned
nodes_texts count plan next around end right = tt
nodes_texts count plan next around (node p below after) right = (
  identifier_text (argument_in p.source) right.0.name,
  nodes_texts count plan (next + 1) (around_below next around p) below right.1,
  nodes_texts count plan (next + suc (size below)) around after right.2,
)

module_text : (plan : Plan) (home i : ℕ) (f : Forest Source) → AreModules home f → IsUtf8 (option_map_or (λ m. m.name) (slice_get (schema_modules plan f) i) [])
module_text plan home i end legal = IsUtf8-nil
module_text plan home zero (node s below after) legal = identifier_text (argument_in s) legal.0
module_text plan home (suc i) (node s below after) legal = module_text plan (home + 1) i after legal.2

names_texts : (modules : Forest Statement) → BreaksNothing modules → NamesAreTexts (schema_of modules)
names_texts modules none = (
  λ i. module_text (plan_in modules) 0 i (sources_of modules) (are_modules 0 modules none.statements 0),
  nodes_texts (length (schema_of modules).modules) (plan_in modules) 0 at_top (parts_in modules) (right_plan modules none),
)

pub linked_texts : (modules : Forest Statement) (schema : Schema) → compiled modules ≡ Ok schema → NamesAreTexts schema
linked_texts modules schema e = let i = compiles modules schema e in subst NamesAreTexts i.is (names_texts modules i.none)

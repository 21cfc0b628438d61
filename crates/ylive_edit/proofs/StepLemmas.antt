-- A path that means something has no more steps than its schema has levels.
use Rattle.std.proofs.Common.{◌≡◌, ℕ, suc, ◌≤◌, Bool, true, false, cond, List, [], ◌∷◌, length, Option, None, Some, arith}
use Rattle.yspec.specs.Forest.{Forest, end, node, levels}
use Rattle.yspec.specs.text.Text.{Text, is_text}
use Rattle.yspec.specs.Results.{◌>>=◌}
use Rattle.std.specs.Prelude.{Result, Ok}
use Rattle.yspec.specs.schema.Schema.{Schema, SchemaNode, data_row, other_name, written_name}
use Rattle.yspec.specs.document.Reading.{Named, child, named_in, other_form, other_or, unknown}
use Rattle.yspec.specs.edit.EditText.{Path, Predicate}
use Rattle.yspec.specs.edit.Editing.{BoundStep, EditRefusal, are_in_place, bound, bound_named, bound_steps, is_spelled}
use Rattle.yspec.proofs.EditProofs.AnswerLemmas.{If, if_cond, if_then}
use Rattle.ylive_retell.proofs.BreadthLemmas.{data_levels}

-- what a name means in a row is less deep than that
abbrev IsLower : Forest SchemaNode → Named → Type 0
IsLower row (child n below) = suc (levels below) ≤ levels row
IsLower row other_form = Unit {0}
IsLower row unknown = Unit {0}

lower_first : (n : SchemaNode) (below after : Forest SchemaNode) (found : Named) → IsLower after found → IsLower (node n below after) found
lower_first n below after (child m inside) low = omega (arith, low)
lower_first n below after other_form low = tt
lower_first n below after unknown low = tt

lower_other : (row : Forest SchemaNode) (b : Bool) (found : Named) → IsLower row found → IsLower row (other_or b found)
lower_other row true (child n below) low = low
lower_other row true other_form low = tt
lower_other row true unknown low = tt
lower_other row false (child n below) low = low
lower_other row false other_form low = tt
lower_other row false unknown low = tt

lower_either : (row : Forest SchemaNode) (b : Bool) (first second : Named) → IsLower row first → IsLower row second → IsLower row (cond b first second)
lower_either row true first second a b = a
lower_either row false first second a b = b

lower_in : (schema : Schema) (parent : Option ℕ) (name : Text) (row : Forest SchemaNode) → IsLower row (named_in schema parent name row)
lower_in schema parent name end = tt
lower_in schema parent name (node n below after) =
    lower_either (node n below after) (is_text name (written_name schema parent n)) (child n below) _ (omega arith)
    (lower_first n below after _ (lower_other after (is_text name (other_name schema parent n)) (named_in schema parent name after) (lower_in schema parent name after)))

-- ---- paths

abbrev pub IsShort : Forest SchemaNode → List BoundStep → Type 0
IsShort children steps = length steps ≤ levels children

short_named : (children : Forest SchemaNode) (found : Named) (predicate : Predicate) (later : SchemaNode → Forest SchemaNode → Result (List BoundStep) EditRefusal)
    → IsLower (data_row children) found → ((n : SchemaNode) (below : Forest SchemaNode) → If (IsShort below) (later n below))
    → If (IsShort children) (bound_named found predicate later)
short_named children (child n below) predicate later low each =
    let row = data_levels children in
    if_then (IsShort below) (IsShort children) (later n below) _ (each n below) (λ steps few. omega (arith, few, low, row))
short_named children other_form predicate later low each = tt
short_named children unknown predicate later low each = tt

short_steps : (schema : Schema) (parent : Option ℕ) (children : Forest SchemaNode) (path : Path) → If (IsShort children) (bound_steps schema parent children path)
short_steps schema parent children [] = omega arith
short_steps schema parent children (s ∷ steps) =
    short_named children _ s.predicate _ (lower_in schema parent s.name (data_row children)) (λ n below. short_steps schema (Some n.module_number) below steps)

pub short_bound : (schema : Schema) (is_create : Bool) (path : Path) → If (IsShort schema.nodes) (bound schema is_create path)
short_bound schema is_create path =
    if_cond (IsShort schema.nodes) (is_spelled path) _ _
    (if_then (IsShort schema.nodes) (IsShort schema.nodes) (bound_steps schema None schema.nodes path) _ (short_steps schema None schema.nodes path)
    (λ steps few. if_cond (IsShort schema.nodes) (are_in_place schema is_create steps) _ _ few tt)) tt

-- The fellows of all instances of a schema node in a row, and the fellow that a fault tells of.
use Rattle.std.specs.Prelude.{◌≡◌, ℕ, ◌==◌, List, [], ◌∷◌, Option, Some, None, option_and_then, if◌then◌else◌}
use Rattle.std.specs.List.{All}
use Rattle.yspec.specs.Forest.{end, node}
use Rattle.yspec.specs.types.Order.{same_value}
use Rattle.yspec.specs.schema.Schema as schema_spec
use Rattle.yspec.specs.document.Document.{Stored, Tree, Step}
use Rattle.yspec.specs.document.Fault.{Fault, Info}
use Rattle.yspec.specs.document.FaultCode.{FaultCode, V8, V9, V10}
use Rattle.yspec.specs.document.Instances.{tuple, value_of, same_tuple}
use Rattle.yinst_tree.specs.View.{place_view}
use Rattle.ysay_fault.specs.Fellows.{fellow_entry, fellow_item}
use Rattle.ysay_fault.specs.Others.{others_from}
use Rattle.ysay_place.specs.Places.{last_step, row_at, steps_above}
use Rattle.ysay_fault.specs.Sentences.{unique_in}
use Rattle.ysay_fault.specs.declared.known.KnownRow.{KnownRow}
use Rattle.ysay_fault.specs.declared.known.KnownRows.{KnownRows}

-- what a function says of each instance of a schema node in a row
abbrev pub each_in : {A : Type 0} → ℕ → (Stored → Tree → A) → Tree → List A
each_in number said end = []
each_in number said (node s below after) =
    if s.schema_number == number then said s below ∷ each_in number said after else each_in number said after

-- by its tuple of a number, or by its value
abbrev pub fellow_by_that : schema_spec.Schema → Option ℕ → Tree → Step → Option ℕ
fellow_by_that schema (Some u) row step = fellow_entry schema u row step
fellow_by_that schema None row step = fellow_item schema row step

abbrev pub fellows_in : schema_spec.Schema → Option ℕ → ℕ → Tree → List (Option ℕ)
fellows_in schema (Some u) number row =
    let tuples = each_in number (λ s below. tuple schema s below u) row in others_from same_tuple tuples 1 tuples
fellows_in schema None number row =
    let values = each_in number (λ s below. value_of schema s) row in others_from same_value values 1 values

-- by what a fault tells of a fellow, if it does
abbrev pub fellow_asked : FaultCode → Info → Option (Option ℕ)
fellow_asked V8 info = Some (Some 0)
fellow_asked V9 info = Some (Some (unique_in info))
fellow_asked V10 info = Some None
fellow_asked _ info = None

abbrev pub fellow_at : schema_spec.Schema → Tree → List Step → Info → FaultCode → Option ℕ
fellow_at schema tree steps info code = option_and_then (λ by. option_and_then
    (fellow_by_that schema by (row_at tree (steps_above steps))) (last_step steps)) (fellow_asked code info)

abbrev pub fellow_of : schema_spec.Schema → Tree → Fault → Option ℕ
fellow_of schema tree f = fellow_at schema tree f.steps f.info f.code

-- what is known of rows is right
abbrev pub IsRight : schema_spec.Schema → Tree → KnownRow → Type 0
IsRight schema tree known =
    known.fellows.items ≡ fellows_in schema known.by known.id.0 (row_at tree (place_view known.above.items))

abbrev pub AreRight : schema_spec.Schema → Tree → KnownRows → Type 0
AreRight schema tree known = All (IsRight schema tree) known.rows.items

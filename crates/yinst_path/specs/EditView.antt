-- Edits as the specification's.
use Rattle.std.specs.Prelude.{ℕ, List, map, string_bytes}
use Rattle.std.specs.Borrow.{Bor}
use Rattle.yspec.specs.text.Text.{Text}
use Rattle.yspec.specs.edit.EditText as spec
use Rattle.yinst_path.specs.declared.edit.Key.{Key}
use Rattle.yinst_path.specs.declared.edit.Predicate.{Predicate}
use Rattle.yinst_path.specs.declared.edit.Predicate.TheVariants.{Unsaid, Position, Keys}
use Rattle.yinst_path.specs.declared.edit.NamedStep.{NamedStep}
use Rattle.yinst_path.specs.declared.edit.Path.{Path}
use Rattle.yinst_path.specs.declared.edit.Edit.{Edit}
use Rattle.yinst_path.specs.declared.edit.Edit.TheVariants.{Create, Replace, Remove, Move}

-- the two parts of a text that was cut
abbrev pub sides : Bor (List ℕ) × Bor (List ℕ) → Text × Text
sides (before, behind) = (before.now, behind.now)

abbrev pub key_view : Key → spec.Key
key_view k = record { name = string_bytes k.name; text = string_bytes k.text }

abbrev pub keys_view : List Key → List spec.Key
keys_view = map key_view

abbrev pub predicate_view : Predicate → spec.Predicate
predicate_view Unsaid = spec.unsaid
predicate_view (Position n) = spec.at_position n
predicate_view (Keys keys) = spec.with_keys (keys_view keys.items)

abbrev pub step_view : NamedStep → spec.NamedStep
step_view s = record { name = string_bytes s.name; predicate = predicate_view s.predicate }

abbrev pub steps_view : List NamedStep → spec.Path
steps_view = map step_view

abbrev pub path_view : Path → spec.Path
path_view p = steps_view p.steps.items

abbrev pub edit_view : Edit → spec.Edit
edit_view (Create path value) = spec.create (path_view path) (string_bytes value)
edit_view (Replace path value) = spec.replace (path_view path) (string_bytes value)
edit_view (Remove path) = spec.remove (path_view path)
edit_view (Move path position) = spec.move_to (path_view path) position

-- Refusals of edits as the specification's.
use Rattle.std.specs.Prelude.{ℕ, List, map, Option, Some, None, option_map}
use Rattle.yspec.specs.edit.Editing.{EditRefusal}
use Rattle.yschema_model.specs.declared.node.SchemaId.{SchemaId}
use Rattle.yinst_tree.specs.Told.{code_number}
use Rattle.yinst_tree.specs.declared.fault.DocCode.{DocCode}
use Rattle.yinst_path.specs.declared.edit.EditCode.{EditCode}
use Rattle.yinst_path.specs.declared.edit.EditCode.TheVariants.{E1, E2, E3, E4, E5, E6, E7, E8, E9, E10, E11}
use Rattle.yinst_path.specs.declared.edit.EditFault.{EditFault}
use Rattle.yinst_path.specs.declared.edit.EditFault.TheVariants.{Refused, Memory}

abbrev pub edit_number : EditCode → ℕ
edit_number E1 = 1
edit_number E2 = 2
edit_number E3 = 3
edit_number E4 = 4
edit_number E5 = 5
edit_number E6 = 6
edit_number E7 = 7
edit_number E8 = 8
edit_number E9 = 9
edit_number E10 = 10
edit_number E11 = 11

abbrev pub refusal_view : EditCode → Option DocCode → EditRefusal
refusal_view code doc = record { code = edit_number code; document_code = option_map code_number doc }

-- the refusal that a fault tells; none of want of memory
abbrev pub told_by : EditFault → Option EditRefusal
told_by (Refused code doc) = Some (refusal_view code doc)
told_by Memory = None

-- the numbers of schema nodes
abbrev pub numbers : List SchemaId → List ℕ
numbers = map (λ id. id.0)

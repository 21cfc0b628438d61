-- Keys of faults, as they are seen.
use Rattle.std.specs.Prelude.{List, map, string_bytes}
use Rattle.yspec.specs.document.Document as document
use Rattle.yspec.specs.document.Fault as faults
use Rattle.yspec.specs.document.Fault.{no_info, choice_name, unique_number}
use Rattle.yapp_difference.specs.Keys as spec
use Rattle.yapp_difference.specs.declared.key.KeyStep.{KeyStep}
use Rattle.yapp_difference.specs.declared.key.KeyInfo.{KeyInfo}
use Rattle.yapp_difference.specs.declared.key.KeyInfo.TheVariants as infos
use Rattle.yapp_difference.specs.declared.key.Key.{Key}

abbrev pub step_view : KeyStep → document.Step
step_view s = record { schema_number = s.id.0; position = s.position }

abbrev pub steps_view : List KeyStep → List document.Step
steps_view = map step_view

abbrev pub info_view : KeyInfo → faults.Info
info_view infos.None = no_info
info_view (infos.Choice name) = choice_name (string_bytes name)
info_view (infos.Unique number) = unique_number number

abbrev pub key_view : Key → spec.Key
key_view k = record { code = k.code; steps = steps_view k.steps.items; info = info_view k.info }

-- Faults as the specification's.
use Rattle.std.specs.Prelude.{List, map, codes, option_map, string_bytes}
use Rattle.yspec.specs.text.Text.{Text}
use Rattle.yspec.specs.document.FaultCode as spec
use Rattle.yspec.specs.document.Fault as faults
use Rattle.yspec.specs.document.Fault.{no_info, choice_name, unique_number}
use Rattle.yinst_tree.specs.View.{place_view}
use Rattle.ycheck.specs.declared.fault.FaultCode.{FaultCode}
use Rattle.ycheck.specs.declared.fault.FaultCode.TheVariants.{V1, V2, V3, V4, V5, V6, V7, V8, V9, V10, V11, V12}
use Rattle.ycheck.specs.declared.fault.ErrorTag.{ErrorTag}
use Rattle.ycheck.specs.declared.fault.ErrorTag.TheVariants.{InvalidValue, MissingElement, DataMissing, BadElement, OperationFailed, UnknownElement}
use Rattle.ycheck.specs.declared.fault.Info.{Info}
use Rattle.ycheck.specs.declared.fault.Info.TheVariants as infos
use Rattle.ycheck.specs.declared.fault.Fault.{Fault}
use Rattle.ycheck.specs.declared.fault.LentInfo.{LentInfo}
use Rattle.ycheck.specs.declared.fault.LentInfo.TheVariants as lent
use Rattle.ycheck.specs.declared.fault.FaultParts.{FaultParts}

abbrev pub code_view : FaultCode → spec.FaultCode
code_view V1 = spec.V1
code_view V2 = spec.V2
code_view V3 = spec.V3
code_view V4 = spec.V4
code_view V5 = spec.V5
code_view V6 = spec.V6
code_view V7 = spec.V7
code_view V8 = spec.V8
code_view V9 = spec.V9
code_view V10 = spec.V10
code_view V11 = spec.V11
code_view V12 = spec.V12

abbrev pub tag_name : ErrorTag → Text
tag_name InvalidValue = codes "invalid-value"
tag_name MissingElement = codes "missing-element"
tag_name DataMissing = codes "data-missing"
tag_name BadElement = codes "bad-element"
tag_name OperationFailed = codes "operation-failed"
tag_name UnknownElement = codes "unknown-element"

abbrev pub info_view : Info → faults.Info
info_view infos.None = no_info
info_view (infos.Choice name) = choice_name (string_bytes name)
info_view (infos.Unique number) = unique_number number

abbrev pub lent_info_view : LentInfo → faults.Info
lent_info_view lent.None = no_info
lent_info_view (lent.Choice name) = choice_name name.now
lent_info_view (lent.Unique number) = unique_number number

abbrev pub parts_view : FaultParts → faults.Fault
parts_view p = record {
  code = code_view p.code;
  tag = tag_name p.tag;
  app_tag = option_map (λ t. t.now) p.app_tag;
  steps = place_view p.steps.now;
  info = lent_info_view p.info;
}

abbrev pub view : Fault → faults.Fault
view f = record {
  code = code_view f.code;
  tag = tag_name f.tag;
  app_tag = option_map string_bytes f.app_tag;
  steps = place_view f.steps.items;
  info = info_view f.info;
}

abbrev pub views : List Fault → List faults.Fault
views = map view

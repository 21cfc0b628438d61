-- What comes of edits of a document under modules, as the specification's.
use Rattle.std.specs.Prelude.{◌≡◌, ℕ, List, Option, Some, None, Result}
use Rattle.yspec.specs.Forest.{Forest}
use Rattle.yspec.specs.text.Statement.{Statement}
use Rattle.yspec.specs.edit.Live as spec
use Rattle.yspec.specs.edit.EditText.{Edit}
use Rattle.yspec.specs.edit.Live.{CheckRefusal, of_modules, of_document, checked_under}
use Rattle.yspec_wide.specs.Compiling.{compiled_in}
use Rattle.yspec_wide.specs.Language.{Language}
use Rattle.ylink.specs.Told as schema
use Rattle.ylink.specs.declared.fault.CompileFault.TheVariants as compile_faults
use Rattle.yinst_tree.specs.Told as document
use Rattle.yinst_tree.specs.View.{place_view}
use Rattle.yinst_tree.specs.declared.fault.DocFault.TheVariants as doc_faults
use Rattle.ycheck.specs.View.{views}
use Rattle.ylive.specs.View.{outcomes_view}
use Rattle.ylive_whole.specs.declared.checking.Checked.{Checked}
use Rattle.ylive_whole.specs.declared.checking.CheckFault.{CheckFault}
use Rattle.ylive_whole.specs.declared.checking.CheckFault.TheVariants.{Modules, Document, Memory}

-- what comes of edits of the document that bytes denote under a set of modules in a language, or the first refusal
abbrev pub checked_in : Language → Forest Statement → List ℕ → List Edit → Result spec.Checked CheckRefusal
checked_in language modules document edits = checked_under (compiled_in language modules) document edits

abbrev pub checked_view : Checked → spec.Checked
checked_view checked = record { decisions = outcomes_view checked.outcomes.items; faults = views checked.faults.items }

-- the refusal that a fault tells: of the modules, or of the document
abbrev pub told_by : CheckFault → Option CheckRefusal
told_by (Modules (compile_faults.Refused code at line)) = Some (of_modules (record { code = schema.code_number code; module_number = at; line = line }))
told_by (Modules compile_faults.Memory) = None
told_by (Document (doc_faults.Refused code place)) = Some (of_document (record { code = document.code_number code; place = place_view place.items }))
told_by (Document doc_faults.Memory) = None
told_by Memory = None

-- want of memory is `Memory`, and no other fault
abbrev pub TellsOrMemory : CheckFault → Type 0
TellsOrMemory fault = told_by fault ≡ None → fault ≡ Memory

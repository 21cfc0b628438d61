-- Why files can't be read, as the definition's causes; and what is told of one that was.
use Rattle.std.specs.Prelude.{◌≡◌, ℕ, List, Option, Some, None, Result, Ok, Err}
use Rattle.yspec_run.specs.Output as spec
use Rattle.yapp_report.specs.declared.files.FileFault.{FileFault}
use Rattle.yapp_report.specs.declared.files.FileFault.TheVariants as faults
use Rattle.yapp_report.specs.declared.files.Unreadable.{Unreadable}
use Rattle.yapp_report.specs.declared.files.Unreadable.TheVariants.{NoFile, NoPermission, Directory, Other}

abbrev pub unreadable_view : Unreadable → spec.Unreadable
unreadable_view NoFile = spec.no_file
unreadable_view NoPermission = spec.no_permission
unreadable_view Directory = spec.a_directory
unreadable_view Other = spec.another_cause

-- these bytes are what is told, if anything is
abbrev pub IsTold : Option (List ℕ) → List ℕ → Type 0
IsTold None bytes = Unit {0}
IsTold (Some told) bytes = told ≡ bytes

abbrev pub failed_reads : {X : Type 0} → Result X FileFault → ℕ
failed_reads (Ok x) = 0
failed_reads (Err (faults.Unread cause)) = 1
failed_reads (Err faults.Memory) = 0

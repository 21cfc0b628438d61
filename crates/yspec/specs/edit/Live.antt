-- Live documents: what is seen of one. Its faults are not kept apart from its tree: they are those of the tree.
use Rattle.std.specs.Prelude.{ℕ, Bool, true, false, List, length, Result, Ok, Err}
use Rattle.yspec.specs.Forest.{Forest}
use Rattle.yspec.specs.text.Statement.{Statement}
use Rattle.yspec.specs.schema.Breaks.{Break}
use Rattle.yspec.specs.schema.Schema.{Schema}
use Rattle.yspec.specs.linking.Compiling.{compiled}
use Rattle.yspec.specs.document.Document.{Tree}
use Rattle.yspec.specs.document.Reading.{Refusal, document_of}
use Rattle.yspec.specs.document.Fault.{Fault}
use Rattle.yspec.specs.document.Faults.{faults_of}
use Rattle.yspec.specs.edit.EditText.{Edit}
use Rattle.yspec.specs.edit.Editing.{Decision, after, decisions}

-- a document under a schema; where it is stale, nobody knows its faults until they are looked for again
pub record Live : Type 0 where
  pub schema : Schema
  pub tree : Tree
  pub is_stale : Bool

-- its faults, in order
abbrev pub faults_in : Live → List Fault
faults_in live = faults_of live.schema live.tree

abbrev pub fault_count : Live → ℕ
fault_count live = length (faults_in live)

abbrev pub opened : Schema → Tree → Live
opened schema tree = record { schema = schema; tree = tree; is_stale = false }

abbrev pub with_tree : Tree → Live → Live
with_tree tree live = record live { tree = tree }

abbrev pub made_stale : Live → Live
made_stale live = record live { is_stale = true }

abbrev pub made_anew : Live → Live
made_anew live = record live { is_stale = false }

-- ---- from modules and a document to what comes of edits

-- what comes of each edit, and the faults of the document in the end
pub record Checked : Type 0 where
  pub decisions : List Decision
  pub faults : List Fault

-- the modules or the document are refused
pub data CheckRefusal : Type 0 where
  of_modules : Break → CheckRefusal
  of_document : Refusal → CheckRefusal

abbrev pub checked_from : Schema → List Edit → Result Tree Refusal → Result Checked CheckRefusal
checked_from schema edits (Err refusal) = Err (of_document refusal)
checked_from schema edits (Ok tree) = Ok (record {
  decisions = decisions schema tree edits;
  faults = faults_of schema (after schema tree edits);
})

abbrev pub checked_under : Result Schema Break → List ℕ → List Edit → Result Checked CheckRefusal
checked_under (Err broken) document edits = Err (of_modules broken)
checked_under (Ok schema) document edits = checked_from schema edits (document_of schema document)

-- what comes of edits of the document that bytes denote under a set of modules, or the first refusal
unfoldable pub checked : Forest Statement → List ℕ → List Edit → Result Checked CheckRefusal
checked modules document edits = checked_under (compiled modules) document edits

-- Documents that were read and edited, as the definitions' trees.
use Rattle.std.specs.Prelude.{◌≡◌, ◌≤◌, Bool, true, false, List, map, option_map, string_bytes, Result, Ok, Err}
use Rattle.yspec.specs.Forest.{size}
use Rattle.yspec.specs.text.Text.{Text}
use Rattle.yspec.specs.schema.Schema.{Schema}
use Rattle.yspec.specs.document.Document.{Tree, document_limit}
use Rattle.yspec.specs.document.Fitting.{Fits}
use Rattle.yspec.specs.document.Writing.{IsDocument}
use Rattle.yspec.specs.edit.EditText.{Edit}
use Rattle.yspec.specs.edit.Editing.{after, decisions}
use Rattle.yspec_run.specs.Output.{Outcome}
use Rattle.yspec_run.specs.Lines.{in_line_of, jumping}
use Rattle.yspec_run.specs.Part.{Part}
use Rattle.yapp_report.specs.Failing.{FailsWith, reported}
use Rattle.yapp_report.specs.declared.failure.Failure.{Failure}
use Rattle.yapp_report.specs.declared.report.Report.{Report}
use Rattle.yspec_run.specs.Script.{after_lines, refused_lines}
use Rattle.yschema_model.specs.View as schema_view
use Rattle.yinst_tree.specs.View.{tree_view}
use Rattle.yapp_script.specs.Asked.{Line, told_from}
use Rattle.yapp_report.specs.EditedView.{live_of, refused_in, scripted_parts}
use Rattle.yapp.specs.declared.document.Document.{Document}
use Rattle.yapp_report.specs.declared.edited.EditedDocument.{EditedDocument}

-- refused lines as told by the name of their script, where that is wanted
abbrev pub by_script : Bool → Text → List Part → List Part
by_script false script parts = parts
by_script true script parts = map (jumping (in_line_of script)) parts

-- what was returned is an outcome that was changed so, or a failure that it is unchanged
abbrev pub LeadsIn : (Outcome → Outcome) → Outcome → Result Report Failure → Type 0
LeadsIn change o (Ok report) = change o ≡ reported report
LeadsIn change o (Err failure) = FailsWith failure o

abbrev pub schema_of : Document → Schema
schema_of d = schema_view.view d.schema

abbrev pub tree_of : Document → Tree
tree_of d = tree_view d.tree

abbrev pub refused_of : Document → List Part
refused_of d = scripted_parts (option_map string_bytes d.script) d.refused.items

-- a document fits its schema, in its values too, and isn't too large
pub record IsSound (schema : Schema) (tree : Tree) : Type 0 where
  pub fits : Fits schema tree
  pub whole : IsDocument schema tree
  pub within : size tree ≤ document_limit

-- its values are those of a document that was read, and it isn't too large
pub record IsWhole (schema : Schema) (tree : Tree) : Type 0 where
  pub whole : IsDocument schema tree
  pub within : size tree ≤ document_limit

-- one that a tree became by a script of lines, of which these kinds are
pub record IsRun (schema : Schema) (tree : Tree) (kinds : List Line) (edits : List Edit) (e : EditedDocument) : Type 0 where
  pub schema_is : (live_of e).schema ≡ schema
  pub tree_is : (live_of e).tree ≡ after schema tree edits
  pub refused_is : refused_in e ≡ told_from schema (after schema tree edits) 1 kinds edits (decisions schema tree edits)

-- one that a tree became by the lines of a script
pub record IsEdited (is_strict : Bool) (schema : Schema) (tree : Tree) (lines : List Text) (e : EditedDocument) : Type 0 where
  pub schema_is : (live_of e).schema ≡ schema
  pub tree_is : (live_of e).tree ≡ after_lines is_strict schema tree lines
  pub refused_is : refused_in e ≡ refused_lines is_strict schema 1 tree lines
  pub whole : IsWhole (live_of e).schema (live_of e).tree

-- the document that a live one is
pub record IsOf (e : EditedDocument) (d : Document) : Type 0 where
  pub schema_is : schema_of d ≡ (live_of e).schema
  pub tree_is : tree_of d ≡ (live_of e).tree
  pub refused_is : refused_of d ≡ refused_in e
  pub sound : IsSound (schema_of d) (tree_of d)

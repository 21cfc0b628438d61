-- What a live document keeps: its schema, a store that holds what it stores, and whether that is stale.
use Rattle.std.specs.Prelude.{◌≡◌, ◌≤◌, Bool, false, length, Result, Ok, Err}
use Rattle.yspec.specs.Forest.{end, size}
use Rattle.yspec.specs.schema.Schema.{Schema}
use Rattle.yspec.specs.document.Document.{Tree}
use Rattle.yspec.specs.document.Faults.{faults_of}
use Rattle.yspec.specs.document.Fitting.{Fits}
use Rattle.yspec.specs.edit.EditText.{Edit}
use Rattle.yspec.specs.edit.Editing.{applied}
use Rattle.yschema_model.specs.declared.schema.Schema as rust
use Rattle.yinst_path.specs.declared.edit.EditFault.{EditFault}
use Rattle.ystore.specs.declared.nodes.Nodes.{Nodes}
use Rattle.ystore_rows.specs.declared.row.Row.TheVariants.{Top}
use Rattle.ystore.specs.Store.{node_count}
use Rattle.ystore_tree.specs.Hanging.{Branches, Hangs, Keeps, tree_of}
use Rattle.ylive_retell.specs.IsTold.{IsTold}
use Rattle.ylive_edit.specs.Places.{Amends, HoldsTold}
use Rattle.ylive.specs.declared.outcome.Applied.{Applied}

pub record Parts : Type 0 where
  pub schema : rust.Schema
  pub nodes : Nodes
  pub is_stale : Bool

-- The store holds a document that fits the schema; where it isn't stale there is nothing beside it, and it tells all that is
-- told of it.
pub record IsLive (schema : Schema) (nodes : Nodes) (is_stale : Bool) : Type 0 where
  pub branches : Branches
  pub hangs : Hangs nodes Top branches
  pub within : size branches ≤ node_count nodes
  pub fits : Fits schema (tree_of branches)
  pub told : is_stale ≡ false → Keeps nodes branches Top end × IsTold schema nodes branches

-- What came of an edit of a document in a store: where it is accepted, the numbers of faults before and after it are told.
abbrev pub AppliesIn : Schema → Tree → Edit → Nodes → Result Applied EditFault → Type 0
AppliesIn schema tree e after (Ok counts) = (changed : Tree) × (applied schema tree e ≡ Ok changed) × HoldsTold schema after changed
    × (counts.before ≡ length (faults_of schema tree)) × (counts.after ≡ length (faults_of schema changed))
AppliesIn schema tree e after (Err fault) = Amends {X = Applied} schema tree (applied schema tree e) after (Err fault)

-- A walk gives the faults of a document that fits: it has no more levels than its schema.
use Rattle.std.proofs.Common.{◌≡◌, ◌≤◌, List, None, sym, ap₂, ◌∙◌, arith}
use Rattle.yspec.specs.Forest.{levels}
use Rattle.yspec.specs.schema.Breaks.{level_limit}
use Rattle.yspec.specs.schema.Schema.{Schema}
use Rattle.yspec.specs.document.Fault.{Fault}
use Rattle.yspec.specs.document.Faults.{faults_of, row_times}
use Rattle.yspec.specs.document.Fitting.{Fits}
use Rattle.yspec.specs.document.Instances.{times_in}
use Rattle.yspec.proofs.DocumentProofs.WrittenShapeLemmas.{levels_fit}
use Rattle.yspec.proofs.LinkingProofs.LinkedLemmas.{relabelled-levels}
use Rattle.yschema_model.specs.View as schema_view
use Rattle.yschema_model.specs.declared.schema.Schema as rust
use Rattle.yschema_model.proofs.CallerLemmas.{not_deep, numbered}
use Rattle.yspec_play.specs.Merging.{listed, merged}
use Rattle.yspec_play.proofs.ListLemmas.{documents_listed}
use Rattle.yspec_fit.proofs.FitLemmas.{cases_of}
use Rattle.ystore.specs.declared.nodes.Nodes.{Nodes}
use Rattle.ystore_rows.specs.declared.row.Row.TheVariants.{Top}
use Rattle.ystore_tree.specs.Hanging.{Branches, Hangs, stored_of, tree_of}
use Rattle.ylive_list.specs.Listed.{row_told}
use Rattle.ylive_list.specs.Telling.{Tells}
use Rattle.ylive_list.proofs.TellingLemmas.{told_is}

limited : (schema : Schema) (nodes : Nodes) (f : Branches) → Hangs nodes Top f → levels f ≤ level_limit → Tells schema nodes f
    → row_told level_limit schema nodes None Top ≡ listed schema (tree_of f)
unfolding listed
limited schema nodes f hangs few tells =
    ap₂ (merged schema None) tells.play
    (told_is schema nodes (times_in schema (tree_of f)) level_limit Top (row_times schema (tree_of f)) f hangs few tells.below tells.totals)

pub walked_are_faults : (s : rust.Schema) (nodes : Nodes) (left : List Fault) → left ≡ row_told level_limit (schema_view.view s) nodes None Top
    → (f : Branches) → Hangs nodes Top f → Tells (schema_view.view s) nodes f → Fits (schema_view.view s) (tree_of f)
    → left ≡ faults_of (schema_view.view s) (tree_of f)
walked_are_faults s nodes left is f hangs tells fits =
    let deep = not_deep s in
    let fit = levels_fit (λ n value. Unit {0}) (schema_view.view s).nodes 0 (tree_of f) fits in
    let same = relabelled-levels stored_of f in
    is ∙ (limited (schema_view.view s) nodes f hangs (omega (arith, deep, fit, same)) tells
    ∙ sym (documents_listed (schema_view.view s) (tree_of f) (numbered s) (cases_of (schema_view.view s) s.fit) fits))

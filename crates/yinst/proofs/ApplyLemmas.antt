-- What an edit makes, from where it stands and its value.
use Rattle.std.proofs.Common.{◌≡◌, false, cond, List, Ok, sym, ap, ◌∙◌}
use Rattle.yspec.specs.Results.{◌>>=◌}
use Rattle.yspec.specs.text.Text.{Text}
use Rattle.yspec.specs.schema.Schema.{Schema}
use Rattle.yspec.specs.document.Document.{Tree, Step}
use Rattle.yspec.specs.edit.Edit.{edit_at}
use Rattle.yspec.specs.edit.Editing.{Target, Branch, refused, branch_of, with_branch, with_instead, within_limit, is_there, created, last_meant, replaced}

pub created_so : (s : Schema) (tree : Tree) (text : Text) (t : Target) (b : Branch) (above : List Step) → is_there t ≡ false
    → branch_of s t.last.schema_node.number text ≡ Ok b → above ≡ t.above
    → created s tree text t ≡ within_limit (edit_at above (with_branch b) tree)
created_so s tree text t b above there value above_is =
    ap (λ x. cond x (refused 8) (branch_of s t.last.schema_node.number text >>= (λ b. within_limit (edit_at t.above (with_branch b) tree)))) there
    ∙ (ap (λ r. r >>= (λ b. within_limit (edit_at t.above (with_branch b) tree))) value
    ∙ ap (λ xs. within_limit (edit_at xs (with_branch b) tree)) (sym above_is))

pub replaced_so : (s : Schema) (tree : Tree) (text : Text) (t : Target) (step : Step) (b : Branch) (above : List Step) → last_meant s t ≡ Ok step
    → branch_of s t.last.schema_node.number text ≡ Ok b → above ≡ t.above
    → replaced s tree text t ≡ within_limit (edit_at above (with_instead step b) tree)
replaced_so s tree text t step b above meant value above_is =
    ap (λ m. m >>= (λ step. branch_of s t.last.schema_node.number text >>= (λ b. within_limit (edit_at t.above (with_instead step b) tree)))) meant
    ∙ (ap (λ r. r >>= (λ b. within_limit (edit_at t.above (with_instead step b) tree))) value
    ∙ ap (λ xs. within_limit (edit_at xs (with_instead step b) tree)) (sym above_is))

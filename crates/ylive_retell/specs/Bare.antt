-- What is told of the top of a document.
use Rattle.std.specs.Prelude.{◌≡◌, [], Some, option_map}
use Rattle.ystore_rows.specs.declared.row.Row.TheVariants.{Top}
use Rattle.ystore.specs.declared.record.Judged.TheVariants.{Right}
use Rattle.ystore.specs.declared.nodes.Nodes.{Nodes}
use Rattle.ylive_marks.specs.Totals.{told_at}

-- it has no value and no flags, so nothing is told there but what isn't stored
pub record IsBare (nodes : Nodes) : Type 0 where
  pub judged : option_map (λ t. t.judged) (told_at nodes Top) ≡ Some Right
  pub same : option_map (λ t. t.same) (told_at nodes Top) ≡ Some []

use Rattle.std.proofs.Common.{◌≡◌, true, sym, subst}
use Rattle.ybase_preorder.specs.View.{row_by}
use Rattle.ylink_grammar.specs.SourceView.{source_view}
use Rattle.ylink_values.specs.KeptView.{kept_view}
use Rattle.ylink_values.specs.KindView.{are_kept, naming_word}
use Rattle.ylink_values.proofs.NamingLemmas.{nothing_left_out}
use Rattle.ylink_values.proofs.naming.are_all_kept.Goals as goal

pub returns-in-All : goal.returns-in-All
returns-in-All c = subst (λ k. true ≡ are_kept (kept_view k) (naming_word c.args.kind) (row_by source_view c.args.below)) (sym c.in-All.is)
    (nothing_left_out (naming_word c.args.kind) (row_by source_view c.args.below))

use Rattle.std.proofs.Common.{ap, ◌∙◌}
use Rattle.ybase_preorder.specs.View.{row_by, slots_in}
use Rattle.ylink_grammar.specs.SourceView.{source_view}
use Rattle.ylink.specs.StatementsView.{numbers_of}
use Rattle.ylink_names.proofs.BelowLemmas.{below_found}
use Rattle.ylink.proofs.linked.Linked.substatements.Goals as goal

pub returns : goal.returns
returns c =
    let sources = c.args.self.now.sources in
    c.new.ensures ∙ ap numbers_of (below_found (slots_in sources.table) c.args.id.0 (row_by source_view c.below.result) sources.laid_out
    c.below.ensures.row c.below.ensures.none)

use Rattle.std.proofs.Common.{map, ap, ◌∙◌, ◌++◌}
use Rattle.ybase_preorder.specs.View.{row_by, slots_in}
use Rattle.ylink_grammar.specs.SourceView.{source_view}
use Rattle.ylink_types.specs.IdentityView.{identity_view, listed_in}
use Rattle.ylink_values.specs.KeptView.{kept_view}
use Rattle.ylink_types.proofs.IdentityLemmas.{numbers_ascend}
use Rattle.ylink_types.proofs.identities.identities_of.Goals as goal

pub returns-clause-ascend : goal.returns-clause-ascend
returns-clause-ascend c =
    numbers_ascend (kept_view c.args.kept) (slots_in c.args.sources.now.table) c.add_identities.new.made.items
    (c.in_ok-add_identities.ensures
    ∙ (ap (λ l. map identity_view l ++ listed_in (kept_view c.args.kept) (row_by source_view c.modules.result)) c.new-made.ensures.items
    ∙ ap (listed_in (kept_view c.args.kept)) c.modules.ensures))

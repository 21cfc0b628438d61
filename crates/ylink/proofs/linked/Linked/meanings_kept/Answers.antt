use Rattle.std.proofs.Common.{ap, ◌∙◌}
use Rattle.std.specs.Prelude.{option_and_then}
use Rattle.std.specs.Global.{Box, Vec}
use Rattle.std.specs.Prelude.{Option}
use Rattle.yspec.specs.linking.TypeStatements.{meaning_of}
use Rattle.ybase_preorder.specs.View.{forest_in}
use Rattle.ylink_types.specs.declared.types.Verdict.{Verdict}
use Rattle.ylink_values.specs.KeptView.{kept_view}
use Rattle.ylink.specs.VerdictView.{table_view, verdict_held}
use Rattle.ylink.proofs.VerdictLemmas.{kept_held}
use Rattle.ylink.proofs.linked.Linked.meanings_kept.Goals as goal

pub returns : goal.returns
returns c = λ number.
    let linked = c.args.self.now in
    let table = table_view c.in_ok-verdicts.verdicts.items in
    ap (λ (v : Vec (Option (Box Verdict))). option_and_then meaning_of (verdict_held (table_view v.items) number)) c.new.ensures
    ∙ kept_held (kept_view c.args.kept) (forest_in linked.sources.table) table (c.in_ok-verdicts.ensures c.in_ok-typedefs.ensures.known) number

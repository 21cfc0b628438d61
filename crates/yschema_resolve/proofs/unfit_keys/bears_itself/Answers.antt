use Rattle.std.proofs.Common.{false, refl, ap, ap₂, ◌∙◌}
use Rattle.std.specs.Option.{option_map_or}
use Rattle.yspec.specs.linking.Scopes.{Placed, statement_at}
use Rattle.yspec_wide.specs.Sources.{bears_guard}
use Rattle.ybase_preorder.specs.View.{row_by, slots_in}
use Rattle.ylink_grammar.specs.LanguageView.{language_view}
use Rattle.ylink_grammar.specs.LinkView as link
use Rattle.ylink_grammar.specs.SourceView.{source_view}
use Rattle.ylink_names.proofs.BelowLemmas.{below_found}
use Rattle.yschema_resolve.proofs.UnfitKeyLemmas.{asked_below}
use Rattle.yschema_resolve.proofs.unfit_keys.bears_itself.Goals as goal

pub returns : goal.returns
returns c = λ number.
    let test = bears_guard (language_view c.args.language.now) in
    let sources = c.sources.result.now in
    let n = c.statement_number.result in
    c.bears_guard.ensures
    ∙ (ap test (below_found (slots_in sources.table) n (row_by source_view c.below.result) sources.laid_out c.below.ensures.row c.below.ensures.none)
    ∙ (asked_below test refl (statement_at (link.view sources) n)
    ∙ ap₂ (λ modules k. option_map_or (λ (s : Placed). test s.below) (statement_at modules k) false) c.sources.ensures c.statement_number.ensures))

use Rattle.std.proofs.Common.{false, refl, ap, ◌∙◌}
use Rattle.std.specs.Option.{option_map_or}
use Rattle.yspec.specs.linking.Scopes.{Placed, statement_at}
use Rattle.yspec_wide.specs.Sources.{bears_when}
use Rattle.ybase_preorder.specs.View.{row_by, slots_in}
use Rattle.ylink_grammar.specs.LanguageView.{language_view}
use Rattle.ylink_grammar.specs.LinkView as link
use Rattle.ylink_grammar.specs.SourceView.{source_view}
use Rattle.ylink_names.proofs.BelowLemmas.{below_found}
use Rattle.yschema_resolve.proofs.UnfitKeyLemmas.{asked_below}
use Rattle.yschema_resolve.proofs.additions.bears_when_at.Goals as goal

pub returns : goal.returns
returns c =
    let test = bears_when (language_view c.args.language.now) in
    let sources = c.sources.result.now in
    let n = c.args.number in
    c.bears_when.ensures
    ∙ (ap test (below_found (slots_in sources.table) n (row_by source_view c.below.result) sources.laid_out c.below.ensures.row c.below.ensures.none)
    ∙ (asked_below test refl (statement_at (link.view sources) n)
    ∙ ap (λ modules. option_map_or (λ (s : Placed). test s.below) (statement_at modules n) false) c.sources.ensures))

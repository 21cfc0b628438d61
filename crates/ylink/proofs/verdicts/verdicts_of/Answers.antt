use Rattle.std.proofs.Common.{[], ◌++◌, refl, ap, ◌∙◌, map}
use mathlib.Core.Path.{fun_ext}
use Rattle.yspec.specs.linking.DerivedTypes.{verdict_by}
use Rattle.yspec.specs.linking.Scopes.{placed, statements_of}
use Rattle.ylink_grammar.specs.LinkView.{view}
use Rattle.ylink_types.specs.TypedefView.{verdicts_in}
use Rattle.ylink_values.specs.KeptView.{kept_view}
use Rattle.ylink.specs.VerdictView.{judged_of, table_view}
use Rattle.ylink.proofs.verdicts.verdicts_of.Goals as goal

pub returns : goal.returns
returns c is =
    let kept = kept_view c.args.kept in
    let modules = view c.args.sources.now in
    let named = verdicts_in c.args.typedefs.now in
    ap table_view c.shrink_to_fit.ensures.items
    ∙ (c.in_ok-add_verdicts.ensures.table [] refl
    ∙ (ap (λ l. table_view l ++ map (judged_of kept modules named) (placed [] (Rattle.ybase_preorder.specs.View.row_by Rattle.ylink_grammar.specs.SourceView.source_view c.modules.result))) c.new-table.ensures.items
    ∙ (ap (λ f. map (judged_of kept modules named) (statements_of f)) c.modules.ensures
    ∙ ap (λ names. map (judged_of kept modules (verdict_by names)) (statements_of modules)) (fun_ext is))))

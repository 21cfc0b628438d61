use Rattle.std.proofs.Common.{◌≡◌, ℕ, List, sym, ap, ap₂, subst, ◌∙◌}
use mathlib.Core.Path.{fun_ext}
use Rattle.yspec.specs.linking.Identities.{bases_in}
use Rattle.yspec_wide.specs.Types.{identity_verdict_of}
use Rattle.ybase_preorder.specs.View.{row_by}
use Rattle.ylink_grammar.specs.SourceView.{source_view}
use Rattle.ylink_names.specs.MeaningView.{meaning_at}
use Rattle.ylink_types.specs.DerivedView.{bases_by}
use Rattle.ylink_types.specs.IdentityView as identity
use Rattle.ylink_types.proofs.types.identity_verdict.Goals as goal

pub returns : goal.returns
returns c kept modules rests =
    let below = row_by source_view c.args.statement.children in
    let bases : c.deref.result.now ≡ bases_in modules below =
    c.deref.ensures.value
    ∙ (c.in_ok-bases.ensures
    ∙ (ap₂ (λ ms b. bases_by (meaning_at ms) (row_by source_view b)) c.meanings.ensures c.children.ensures
    ∙ ap (λ named. bases_by named below) (fun_ext (λ n. sym (rests.named n))))) in
    c.own_or.ensures
    ∙ (c.in_ok-type_of.ensures kept modules (subst (λ i. identity.IsOf kept i modules) (sym c.identities.ensures) rests.identities)
    ∙ ap₂ (λ (home : ℕ) (bs : List ℕ). identity_verdict_of kept modules home bs) (ap (λ l. l.home) c.label.ensures) bases)

use Rattle.std.proofs.Common.{◌≡◌, Some, None, true, nat_lt, sym, ap, ap₂, subst, ◌∙◌}
use Rattle.yspec.specs.Results.{Fails}
use Rattle.yspec.specs.schema.Breaks.{least_from, limit_breaks, node_limit}
use Rattle.yspec_wide.specs.Compiling.{compiled_in}
use Rattle.yspec_wide.specs.NodeCounts.{node_count_in}
use Rattle.ytext.specs.View.{modules_view}
use Rattle.yschema_given.specs.Keeping.{are_kept_right}
use Rattle.yschema_given.proofs.SourceLemmas.{sources_keep}
use Rattle.yschema_expand.specs.NamedView.{modules_of}
use Rattle.ylink_grammar.specs.LanguageView.{language_view}
use Rattle.ylink.specs.LinkedView as statements
use Rattle.ylink.specs.Told.{seen, told_by, break_view}
use Rattle.yschema.specs.Phases.{target_breaks}
use Rattle.yschema.proofs.ToldLemmas.{linking_passed, in_expansion, many_told, targets_told}
use Rattle.yschema.proofs.building.compile_linked.Goals as goal

pub new-named-requires-clause-kept : goal.new-named-requires-clause-kept
new-named-requires-clause-kept c =
    let l = language_view c.args.language.now in
    let f = modules_view c.args.modules.now in
    let passed = linking_passed l f (statements.view c.args.linked.now) c.requires.links in
    subst (λ m. are_kept_right l m ≡ true) (sym (c.sources-sources.ensures ∙ passed.1)) (sources_keep l f)

pub returns-in-Some : goal.returns-in-Some
returns-in-Some c =
    let l = language_view c.args.language.now in
    let f = modules_view c.args.modules.now in
    let s = statements.view c.args.linked.now in
    let passed = linking_passed l f s c.requires.links in
    let same : modules_of c.new-named.result ≡ s = c.new-named.ensures.modules ∙ c.sources-sources.ensures in
    let told : Some (break_view c.in-Some.found) ≡ _ = sym (ap seen c.in-Some.is) ∙ (c.broken_count_rule.ensures ∙ ap₂ (λ k m. least_from None (limit_breaks (nat_lt node_limit (node_count_in k m)) f)) c.new-named.ensures.language same) in
    subst (λ fault. Fails (told_by fault) (compiled_in l f)) (sym c.from.ensures)
    (in_expansion l f s passed.1 passed.0 (break_view c.in-Some.found) (many_told l f s (break_view c.in-Some.found) told))

pub returns-in-Some-told : goal.returns-in-Some-told
returns-in-Some-told c =
    let l = language_view c.args.language.now in
    let f = modules_view c.args.modules.now in
    let s = statements.view c.args.linked.now in
    let passed = linking_passed l f s c.requires.links in
    let same : modules_of c.new-named.result ≡ s = c.new-named.ensures.modules ∙ c.sources-sources.ensures in
    let few : None ≡ _ = sym (ap seen c.in_default.is) ∙ (c.broken_count_rule.ensures ∙ ap₂ (λ k m. least_from None (limit_breaks (nat_lt node_limit (node_count_in k m)) f)) c.new-named.ensures.language same) in
    let told : Some (break_view c.in-Some-told.found) ≡ _ = sym (ap seen c.in-Some-told.is) ∙ (c.in_ok-made.ensures.told
    ∙ ap₂ (λ k m. least_from None (target_breaks k m)) c.new-named.ensures.language same) in
    subst (λ fault. Fails (told_by fault) (compiled_in l f)) (sym c.from-in-Some-told.ensures)
    (in_expansion l f s passed.1 passed.0 (break_view c.in-Some-told.found) (targets_told l f s (Some (break_view c.in-Some-told.found)) few told))

use Rattle.std.proofs.Common.{◌≡◌, ◌++◌, None, Ok, sym, ap, subst, ◌∙◌}
use Rattle.ytext.specs.View.{modules_view}
use Rattle.yspec.specs.Results.{Fails}
use Rattle.yspec.specs.schema.Breaks.{least_from}
use Rattle.yspec.specs.linking.DerivedTypes.{type_breaks}
use Rattle.yspec_wide.specs.Compiling.{linked_in}
use Rattle.yspec_wide.specs.Patterns.{pattern_breaks}
use Rattle.yspec_wide.specs.VersionBreaks.{version_type_breaks}
use Rattle.ylink_grammar.specs.LanguageView.{language_view}
use Rattle.ylink_grammar.specs.LinkView as statements
use Rattle.ylink.specs.VerdictView.{AreVerdicts}
use Rattle.ylink.specs.Told.{seen, told_by, break_view}
use Rattle.ylink.proofs.LinkingLemmas.{types_told, refused_in_types, links}
use Rattle.ylink.proofs.VerdictLemmas.{over_all}
use Rattle.ylink.proofs.linking.link_types.Goals as goal
use Rattle.ylink.proofs.linking.link_types.Goals.{In_ok-found}

-- what is told of types
told : (c : In_ok-found) → let s = statements.view c.args.sources in let language = language_view c.args.language.now in
    seen c.in_ok-found.field-0 ≡ least_from None (type_breaks s ++ (version_type_breaks language s ++ pattern_breaks language s))
told c =
    let s = statements.view c.args.sources in
    let language = language_view c.args.language.now in
    types_told language s (seen c.broken_type_rule-own.result) (seen c.in_ok-versioned.versioned) (seen c.in_ok-found.field-0)
    (c.broken_type_rule-own.ensures (subst (λ t. AreVerdicts t s) (sym c.deref.ensures.value) (over_all s c.args.typedefs c.in_ok-verdicts.verdicts.items c.requires.named c.in_ok-verdicts.ensures)))
    (c.in_ok-versioned.ensures language c.requires.versions (subst (λ t. AreVerdicts t s) (sym c.deref-2.ensures.value) (over_all s c.args.typedefs c.in_ok-verdicts.verdicts.items c.requires.named c.in_ok-verdicts.ensures)))
    c.in_ok-found.ensures

pub returns-in-Some-clause-told : goal.returns-in-Some-clause-told
returns-in-Some-clause-told c =
    let f = modules_view c.args.modules.now in
    let s = statements.view c.args.sources in
    let language = language_view c.args.language.now in
    subst (λ fault. Fails (told_by fault) (linked_in language f)) (sym c.from.ensures)
    (refused_in_types language f s c.requires.made c.requires.first c.requires.names c.requires.meanings (break_view c.in-Some.found)
    (sym (ap seen c.in-Some.is) ∙ told ((goal.at.returns-in-Some-clause-told c).In_ok-found)))

pub returns-clause-told : goal.returns-clause-told
returns-clause-told c =
    let f = modules_view c.args.modules.now in
    let s = statements.view c.args.sources in
    let language = language_view c.args.language.now in
    links language f s c.requires.made c.requires.first c.requires.names c.requires.meanings
    (sym (ap seen c.in_default.is) ∙ told ((goal.at.returns-clause-told c).In_ok-found))
    ∙ ap Ok (sym c.new.ensures.of)

pub new-requires-clause-judged : goal.new-requires-clause-judged
new-requires-clause-judged c =
    over_all (statements.view c.args.sources) c.args.typedefs c.in_ok-verdicts.verdicts.items c.requires.named c.in_ok-verdicts.ensures

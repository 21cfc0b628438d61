use Rattle.std.proofs.Common.{ℕ, sym, ap, subst, ◌∙◌}
use Rattle.ytext.specs.View.{modules_view}
use Rattle.yspec.specs.Results.{Fails}
use Rattle.yspec_wide.specs.Compiling.{linked_in}
use Rattle.ylink_grammar.specs.LanguageView.{language_view}
use Rattle.yspec.specs.linking.DerivedTypes.{Known}
use Rattle.yspec_wide.proofs.CoreTypeLemmas.{known_named_alike}
use Rattle.ylink_grammar.specs.LinkView as statements
use Rattle.ylink.specs.Told.{seen, told_by, break_view}
use Rattle.ylink.proofs.LinkingLemmas.{in_names, in_meanings, no_circles}
use Rattle.ylink.proofs.linking.link_sources.Goals as goal

pub returns-in-Some-clause-told : goal.returns-in-Some-clause-told
returns-in-Some-clause-told c =
    let f = modules_view c.args.modules.now in
    let s = statements.view c.args.sources in
    let language = language_view c.args.language.now in
    subst (λ fault. Fails (told_by fault) (linked_in language f)) (sym c.from.ensures)
    (in_names language f s c.requires.made c.requires.first (break_view c.in-Some.found) (sym (ap seen c.in-Some.is) ∙ c.in_ok-found.ensures))

pub broken_later_rule-requires-clause-meant : goal.broken_later_rule-requires-clause-meant
broken_later_rule-requires-clause-meant c = c.in_ok-meant.ensures (c.deref.ensures.value ∙ c.in_ok-holders.ensures)
    (c.deref-2.ensures.value ∙ c.in_ok-meanings.ensures c.in_ok-prefixes.ensures)

pub returns-in-Some-2-clause-told : goal.returns-in-Some-2-clause-told
returns-in-Some-2-clause-told c =
    let f = modules_view c.args.modules.now in
    let s = statements.view c.args.sources in
    let language = language_view c.args.language.now in
    subst (λ fault. Fails (told_by fault) (linked_in language f)) (sym c.from-in-Some-2.ensures)
    (in_meanings language f s c.requires.made c.requires.first (sym (ap seen c.in_default.is) ∙ c.in_ok-found.ensures)
    (break_view c.in-Some-2.found) (sym (ap seen c.in-Some-2.is) ∙ c.in_ok-found-2.ensures))

pub order_of-requires-clause-straight : goal.order_of-requires-clause-straight
order_of-requires-clause-straight c =
    no_circles (language_view c.args.language.now) (statements.view c.args.sources) (sym (ap seen c.in_default-2.is) ∙ c.in_ok-found-2.ensures)

pub of-requires-3-clause-straight : goal.of-requires-3-clause-straight
of-requires-3-clause-straight c =
    no_circles (language_view c.args.language.now) (statements.view c.args.sources) (sym (ap seen c.in_default-2.is) ∙ c.in_ok-found-2.ensures)

pub link_types-requires-clause-straight : goal.link_types-requires-clause-straight
link_types-requires-clause-straight c =
    no_circles (language_view c.args.language.now) (statements.view c.args.sources) (sym (ap seen c.in_default-2.is) ∙ c.in_ok-found-2.ensures)

-- all names are kept
pub link_types-requires-clause-named : goal.link_types-requires-clause-named
link_types-requires-clause-named c number =
    c.in_ok-typedefs.ensures.known number ∙ ap (λ (known : ℕ → Known). known number) (known_named_alike (statements.view c.args.sources))

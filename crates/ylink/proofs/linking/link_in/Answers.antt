use Rattle.std.proofs.Common.{sym, ap, subst, ◌∙◌}
use Rattle.ytext.specs.View.{modules_view}
use Rattle.yspec.specs.Results.{Fails}
use Rattle.yspec_wide.specs.Compiling.{linked_in}
use Rattle.ylink_grammar.specs.LanguageView.{language_view}
use Rattle.ylink.specs.Told.{seen, told_by, break_view}
use Rattle.ylink.proofs.LinkingLemmas.{in_statements}
use Rattle.ylink.proofs.linking.link_in.Goals as goal

pub returns-in-Some-clause-told : goal.returns-in-Some-clause-told
returns-in-Some-clause-told c =
    let f = modules_view c.args.modules.now in
    let language = language_view c.args.language.now in
    subst (λ fault. Fails (told_by fault) (linked_in language f)) (sym c.from.ensures)
    (in_statements language f (break_view c.in-Some.found) (sym (ap seen c.in-Some.is) ∙ c.in_ok-found.ensures))

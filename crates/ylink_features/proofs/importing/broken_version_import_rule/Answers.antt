use Rattle.std.proofs.Common.{[], sym, ap, ◌∙◌}
use Rattle.std.specs.List.{flat_map}
use Rattle.yspec.specs.linking.Scopes.{placed}
use Rattle.yspec.specs.schema.Breaks.{least_from}
use Rattle.yspec_wide.specs.VersionBreaks.{version_import_break}
use Rattle.ylink_grammar.specs.BreakView.{seen}
use Rattle.ylink_grammar.specs.LinkView.{view}
use Rattle.ylink_features.specs.VersionView.{version_in}
use Rattle.ylink_features.proofs.ImportingLemmas.{no_later_imports}
use Rattle.ylink_features.proofs.importing.broken_version_import_rule.Goals as goal

pub returns-in-Core : goal.returns-in-Core
returns-in-Core c language are =
    let modules = view c.args.sources.now in
    sym (ap (least_from (seen c.args.so_far))
    (no_later_imports language modules (λ home. sym (ap (λ v. version_in v home) c.in-Core.is) ∙ are home)))

pub returns-in_ok-by_name-in-Stated : goal.returns-in_ok-by_name-in-Stated
returns-in_ok-by_name-in-Stated c language are =
    let modules = view c.args.sources.now in
    let breaks = version_import_break language modules in
    c.judge_imports.ensures language modules [] are (c.in_ok-by_name-in-Stated.ensures language are)
    ∙ ap (λ f. least_from (seen c.args.so_far) (flat_map breaks (placed [] f))) c.modules.ensures

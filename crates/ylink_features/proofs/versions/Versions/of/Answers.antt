use Rattle.std.proofs.Common.{ap, sym, ◌∙◌}
use Rattle.yspec_wide.specs.Language.{version_of}
use Rattle.ylink_grammar.specs.LanguageView.{language_view}
use Rattle.ylink_grammar.specs.LinkView.{view}
use Rattle.ylink_features.proofs.VersionLemmas.{versions_stated}
use Rattle.ylink_features.proofs.versions.Versions.of.Goals as goal

pub returns-in_ok-stated_versions-in-Rfc : goal.returns-in_ok-stated_versions-in-Rfc
returns-in_ok-stated_versions-in-Rfc c home =
    let modules = view c.args.sources.now in
    versions_stated modules c.in_ok-stated_versions-in-Rfc.field-0.items c.in_ok-stated_versions-in-Rfc.ensures home
    ∙ ap (λ l. version_of (language_view l) modules home) (sym c.in-Rfc.is)

use Rattle.std.proofs.Common.{subst, ◌∙◌}
use Rattle.yspec.specs.Forest.{Forest}
use Rattle.yspec.specs.linking.Source.{Source}
use Rattle.ylink_features.specs.VersionView.{AreVersionsOf}
use Rattle.ylink_grammar.specs.LanguageView.{language_view}
use Rattle.yschema_types.specs.ModulesView.{AreNamesOf}
use Rattle.yschema_resolve.proofs.GuardLemmas.{all_guarded}
use Rattle.yschema_resolve.proofs.resolved.Resolved.of.Goals as goal

pub returns : goal.returns
returns c =
    let language = language_view c.args.language.now in
    record {
      meant = c.in_ok-types.ensures.meant;
      typed = c.in_ok-types.ensures.typed;
      keys = c.in_ok-keys.ensures;
      guarded = c.in_ok-guarded.ensures ∙ all_guarded language c.args.plan.now c.args.unguarded.now c.requires.told;
      modules = subst (λ (m : Forest Source). AreNamesOf c.in_ok-modules.modules m) c.requires.named c.in_ok-modules.ensures;
      named = c.requires.named;
      versions = subst (λ (m : Forest Source). AreVersionsOf c.in_ok-versions.versions language m) (c.sources.ensures ∙ c.requires.named) c.in_ok-versions.ensures;
    }

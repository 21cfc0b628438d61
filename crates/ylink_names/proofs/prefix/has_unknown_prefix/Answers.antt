use Rattle.std.proofs.Common.{ap, sym, ◌∙◌, option_map, map}
use Rattle.std.specs.List.{list_any}
use Rattle.yspec.specs.linking.Arguments.{unique_of}
use Rattle.yspec.specs.linking.Prefixes.{is_unknown_prefix}
use Rattle.ylink_arguments.specs.NameView.{names_view}
use Rattle.ylink_names.proofs.PrefixLemmas.{of_unique}
use Rattle.ylink_names.proofs.prefix.has_unknown_prefix.Goals as goal

pub returns-in-Some : goal.returns-in-Some
returns-in-Some c modules prefixes =
    let home = c.args.source.now.home in
    c.has_unknown_step.ensures modules prefixes
    ∙ ap (λ ps. list_any (list_any (is_unknown_prefix modules home)) (map (λ p. names_view p.items) ps)) c.deref.ensures.value
    ∙ of_unique (is_unknown_prefix modules home) c.args.source.now.keyword _ _ c.in-Unique.is
    (ap (option_map (λ u. map (λ p. names_view p.items) u.items)) (sym c.in-Some.is)
    ∙ (c.in_ok-paths-in-Unique.ensures ∙ ap unique_of c.argument-in-Unique.ensures))

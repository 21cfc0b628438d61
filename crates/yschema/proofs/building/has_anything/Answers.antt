use Rattle.std.proofs.Common.{ap, ◌∙◌}
use Rattle.std.specs.List.{list_any}
use Rattle.yspec_wide.specs.Sources.{is_anything}
use Rattle.ylink_grammar.specs.LanguageView.{language_view}
use Rattle.yschema.proofs.LevelLemmas.{any_seen}
use Rattle.yschema.proofs.building.has_anything.Goals as goal

pub returns : goal.returns
returns c =
    let l = language_view c.args.language.now in
    c.any_anything.ensures ∙ (any_seen l 0 c.slots.result.now ∙ ap (list_any (λ p. is_anything l p.part.source)) c.slots.ensures.nodes)

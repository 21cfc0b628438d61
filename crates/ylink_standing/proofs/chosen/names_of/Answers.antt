use Rattle.std.proofs.Common.{string_bytes, arith}
use Rattle.ylink_names.specs.FirstNamedView.{named}
use Rattle.ylink_standing.proofs.ChosenLemmas.{name_more}
use Rattle.ylink_standing.proofs.chosen.names_of.Goals as goal

pub loop-feature-preserved : goal.loop-feature-preserved
loop-feature-preserved c name = name_more string_bytes c.args.features.now name tt c.loop-feature.feature-index c.feature-item.result c.as_str.result.now
    (named c.loop-feature.names name) (named c.add.new.self name) _ (omega arith) c.feature-item.is c.as_str.ensures.value
    (c.in_ok-add.ensures name) (c.loop-feature.invariant name)

use Rattle.std.proofs.Common.{◌∙◌, ap}
use Rattle.regex_hir.specs.Re.{Re, char_in}
use Rattle.yspec_patterns.specs.Reading as spec
use Rattle.ytype_patterns.specs.Engine.{engine}
use Rattle.ytype_patterns.specs.BuildingView.{level_view, times_given}
use Rattle.ytype_patterns.proofs.RangeLemmas.{canonical_is}
use Rattle.ytype_patterns.proofs.building.with_atom.Goals as goal

pub returns-clause-level : goal.returns-clause-level
returns-clause-level c =
    let piece = spec.with_piece engine (level_view c.args.groups.level) in
    let quantified = λ (re : Re). spec.quantified engine re (times_given c.args.times) in
    c.in_ok-with_piece.ensures
    ∙ ap piece (c.in_ok-tree.ensures
    ∙ ap quantified (c.characters.ensures ∙ ap char_in (canonical_is c.args.class.ranges.items c.args.class.canonical)))

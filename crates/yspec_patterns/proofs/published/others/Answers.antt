use Rattle.std.specs.Prelude.{refl}
use Rattle.yspec_patterns.proofs.PatternLiterals.{patterns_on_literals}
use Rattle.yspec_patterns.proofs.published.others.Goals as goal

pub returns : goal.returns
unfolding patterns_on_literals
returns c = record { object_identifier = refl; date = refl; physical = refl; mac = refl; uuid = refl; identifier = refl; not_xml = refl; name = refl; printable = refl; hash = refl; language = refl }

use Rattle.std.specs.Prelude.{[]}
use Rattle.yspec_patterns.specs.Reading.{no_level}
use Rattle.ytype_patterns.proofs.BuiltLemmas.{built_means}
use Rattle.ytype_patterns.proofs.laws.trees.Goals as goal

pub returns : goal.returns
returns c = record { meet = λ parts. built_means parts no_level no_level [] [] (tt, tt) tt }

use Rattle.std.specs.Prelude.{List, [], ◌∷◌, ◌++◌, Some}
use Rattle.std.proofs.Common.{◌∙◌, ap, arith}
use Rattle.std.proofs.lemmas.Bool.Decides.{nat_tests}
use Rattle.regex_class.specs.Ranges.{Range}
use Rattle.ytype_patterns.specs.ClassView.{collected, holding, open_view}
use Rattle.ytype_patterns.proofs.ClassLemmas.{held_range}
use Rattle.ytype_patterns.proofs.classes.with_range.Goals as goal

pub returns : goal.returns
returns c = ap (holding (open_view c.args.class))
    (ap (λ (rs : List Range). Some (collected rs)) (c.in_ok-push.ensures.items ∙ ap (λ (rs : List Range). rs ++ (c.args.low, c.args.high) ∷ []) c.ranges_held-ranges.ensures)
    ∙ held_range c.args.class.held c.args.low c.args.high (grind (arith, nat_tests, c.ranges.high)))

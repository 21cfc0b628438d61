use Rattle.std.specs.Prelude.{List, ◌++◌, Some, refl}
use Rattle.std.proofs.Common.{◌∙◌, ap, ap₂}
use Rattle.regex_class.specs.Ranges.{Range, in_ranges}
use Rattle.ytype_patterns.specs.ClassView.{collected, holding, open_view}
use Rattle.ytype_patterns.proofs.ClassLemmas.{held_more}
use Rattle.ytype_patterns.proofs.SetLemmas.{class_bounded}
use Rattle.ytype_patterns.proofs.classes.with_class.Goals as goal

pub returns : goal.returns
returns c =
    let set = c.args.set.now.ranges.items in
    ap (holding (open_view c.args.class))
    (ap (λ (rs : List Range). Some (collected rs)) (c.in_ok-extend_from_slice.ensures.items ∙ ap₂ (λ (rs ys : List Range). rs ++ ys) c.ranges_held-ranges.ensures c.deref.ensures.value)
    ∙ held_more c.args.class.held set (in_ranges set) (class_bounded set c.args.set.now.canonical) (λ n. refl))

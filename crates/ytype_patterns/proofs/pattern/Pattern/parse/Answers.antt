use Rattle.std.proofs.Common.{option_map, sym, ap, subst, ◌∙◌}
use Rattle.std.specs.Prelude.{chars, IfSome}
use Rattle.regex_hir.specs.Meaning.{meaning}
use Rattle.yspec_patterns.specs.Reading.{pattern_of}
use Rattle.ytype_patterns.specs.View.{IsWhole}
use Rattle.ytype_patterns.specs.ReadingView.{tree_spelled}
use Rattle.ytype_patterns.proofs.PatternLemmas.{text_meets, none_reads, some_reads}
use Rattle.ytype_patterns.proofs.pattern.Pattern.parse.Goals as goal

pub returns-in_default : goal.returns-in_default
returns-in_default c =
    let cs = chars c.args.text.now in
    none_reads (tree_spelled cs) (pattern_of cs) (text_meets cs) (sym c.in_ok-tree.ensures ∙ ap (option_map meaning) c.in_default.is)

pub returns-in-Some-2 : goal.returns-in-Some-2
returns-in-Some-2 c =
    let cs = chars c.args.text.now in
    some_reads (record { whole = c.in-Some-2.whole }) (meaning c.in-Some.tree) (tree_spelled cs) (pattern_of cs) (text_meets cs)
    (sym c.in_ok-tree.ensures ∙ ap (option_map meaning) c.in-Some.is)
    (subst (λ o. IfSome o (λ w. IsWhole w (meaning c.in-Some.tree))) c.in-Some-2.is c.in_ok-whole.ensures)

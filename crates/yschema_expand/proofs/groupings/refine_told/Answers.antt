use Rattle.std.proofs.Common.{◌≡◌, ◌∙◌, None, false, sym, ap}
use Rattle.yspec.specs.Forest.{end}
use Rattle.yspec.specs.schema.Breaks.{least_from}
use Rattle.yschema_expand.specs.Counting.{grouping_row, refine_by, top_breaks}
use Rattle.yschema_expand.specs.NamedView.{language_of, modules_of, row_or_none}
use Rattle.yschema_expand.proofs.EmptiedLemmas.{top_none}
use Rattle.yschema_expand.proofs.groupings.refine_told.Goals as goal

pub returns-in-None : goal.returns-in-None
returns-in-None c =
    let l = language_of c.args.named.now in
    let m = modules_of c.args.named.now in
    let told = refine_by c.args.refines.now m in
    let none : grouping_row m c.args.number ≡ end = sym c.grouping.ensures.stated ∙ ap row_or_none c.in-None.is in
    sym (ap (least_from None) (ap (top_breaks l told false) none ∙ top_none l told false))

pub returns-in-Some : goal.returns-in-Some
returns-in-Some c =
    let l = language_of c.args.named.now in
    let told = refine_by c.args.refines.now (modules_of c.args.named.now) in
    c.least_used.ensures
    ∙ ap (λ g. least_from None (top_breaks l told false g)) (sym (ap row_or_none c.in-Some.is) ∙ c.grouping.ensures.stated)

use Rattle.std.proofs.Common.{◌≡◌, ◌∙◌, min, arith, sym, ap}
use Rattle.yspec.specs.Forest.{end}
use Rattle.yspec.specs.linking.Keyword.{grouping_word}
use Rattle.yspec_wide.specs.NodeCounts.{counted_below}
use Rattle.yschema_expand.specs.Counting.{count_by, grouping_row, many}
use Rattle.yschema_expand.specs.NamedView.{language_of, modules_of, row_or_none}
use Rattle.yschema_expand.proofs.CountLemmas.{row_none}
use Rattle.yschema_expand.proofs.groupings.count_in.Goals as goal

pub returns-in-None : goal.returns-in-None
returns-in-None c =
    let l = language_of c.args.named.now in
    let m = modules_of c.args.named.now in
    let meant = count_by c.args.counts.now m in
    let none : grouping_row m c.args.number ≡ end = sym c.grouping.ensures.stated ∙ ap row_or_none c.in-None.is in
    let nothing : counted_below l meant grouping_word (grouping_row m c.args.number) ≡ 0 = ap (counted_below l meant grouping_word) none ∙ row_none l meant grouping_word in
    omega (arith, nothing)

pub returns-in-Some : goal.returns-in-Some
returns-in-Some c =
    let l = language_of c.args.named.now in
    let m = modules_of c.args.named.now in
    let meant = count_by c.args.counts.now m in
    c.count_nodes.ensures
    ∙ ap (λ g. min (counted_below l meant grouping_word g) many) (sym (ap row_or_none c.in-Some.is) ∙ c.grouping.ensures.stated)

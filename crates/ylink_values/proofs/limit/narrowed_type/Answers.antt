use Rattle.std.proofs.Common.{◌≡◌, true, false, sym, ◌∙◌, rules}
use Rattle.std.proofs.lemmas.Result.{IfOk-weaker}
use Rattle.ybase_preorder.specs.View.{row_by, label_by}
use Rattle.ylink_grammar.specs.SourceView.{source_view}
use Rattle.ylink_values.proofs.MatchLemmas.{left_alone, other_narrowed}
use Rattle.ylink_values.proofs.limit.narrowed_type.Goals as goal

pub returns-then-comes_behind : goal.returns-then-comes_behind
returns-then-comes_behind c =
    let s = c.args.statement in
    let holds : c.comes_behind.result ≡ true = first_of (search rules, cc) in
    left_alone (label_by source_view s) (row_by source_view s.children) c.args.outer (sym c.comes_behind.ensures ∙ holds)

pub returns : goal.returns
returns c =
    let s = c.args.statement in
    let fails : c.comes_behind.result ≡ false = first_of (search rules, cc) in
    IfOk-weaker c.narrowed_by.result _ _
    (λ made is. other_narrowed (label_by source_view s) (row_by source_view s.children) c.args.outer made (sym c.comes_behind.ensures ∙ fails) is)
    c.narrowed_by.ensures

use Rattle.std.proofs.Common.{◌≡◌, ◌==◌, true, false, length, List, Some, option_map, sym, ap, ◌∙◌, rules}
use Rattle.std.proofs.lemmas.Result.{IfOk-weaker}
use Rattle.yspec.specs.types.Names.{Naming}
use Rattle.yspec.specs.types.Types.{plain}
use Rattle.ybase_preorder.specs.View.{row_by}
use Rattle.ylink_grammar.specs.SourceView.{source_view}
use Rattle.ylink_values.specs.KeptView.{kept_view}
use Rattle.ylink_values.specs.KindView.{base_of, names_by}
use Rattle.ylink_values.proofs.NamingLemmas.{all_named, some_named}
use Rattle.ylink_values.proofs.naming.named_type.Goals as goal

pub returns-then-are_all_kept : goal.returns-then-are_all_kept
returns-then-are_all_kept c =
    let kept = kept_view c.args.kept in
    let kind = c.args.kind in
    let below = row_by source_view c.args.below in
    let all = c.in_ok-all.all.items in
    let some : false ≡ (length all == 0) = search rules in
    let holds : c.are_all_kept.result ≡ true = first_of (search rules, cc) in
    IfOk-weaker c.type_of_names.result _ _
    (λ t e. e ∙ (ap (λ (ns : List Naming). option_map (λ given. plain (base_of kind given)) (names_by kind ns)) c.deref.ensures.value
    ∙ all_named kept kind below all c.in_ok-all.ensures some (sym holds ∙ c.are_all_kept.ensures)))
    c.type_of_names.ensures

pub returns-in-Some : goal.returns-in-Some
returns-in-Some c =
    let kept = kept_view c.args.kept in
    let kind = c.args.kind in
    let below = row_by source_view c.args.below in
    let all = c.in_ok-all.all.items in
    let some : false ≡ (length all == 0) = search rules in
    let given : Some c.in-Some.names ≡ names_by kind all = sym c.in-Some.is ∙ (c.in_ok-names.ensures ∙ ap (names_by kind) c.deref-2.ensures.value) in
    IfOk-weaker c.type_of_names-in-Some.result _ _
    (λ t e. e ∙ some_named kept kind below all c.deref-in-Some.result.now c.in-Some.names c.in_ok-all.ensures some given
    (c.deref-in-Some.ensures.value ∙ c.in_ok-namings-in-Some.ensures))
    c.type_of_names-in-Some.ensures

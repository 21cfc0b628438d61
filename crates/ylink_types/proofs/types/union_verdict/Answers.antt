use Rattle.std.proofs.Common.{◌≡◌, map, ap, sym, ◌∙◌, rules}
use Rattle.std.specs.Prelude.{is_some}
use Rattle.std.proofs.lemmas.Result.{IfOk-weaker}
use Rattle.yspec.specs.linking.TypeStatements.{member_types}
use Rattle.ylink_types.specs.TypeView.{verdict_view}
use Rattle.ylink_types.proofs.TypeLemmas.{own_union_is, other_union_is}
use Rattle.ylink_types.proofs.types.union_verdict.Goals as goal

pub returns-then-are_own : goal.returns-then-are_own
returns-then-are_own c =
    let members = c.args.members.items in
    let own : c.are_own.result ≡ is_some (member_types (map verdict_view members)) =
    c.are_own.ensures ∙ ap (λ l. is_some (member_types (map verdict_view l))) c.deref.ensures.value in
    IfOk-weaker c.own_union.result _ _ (λ v e. e ∙ own_union_is members (search rules) (sym own ∙ c.if-are_own.true)) c.own_union.ensures

pub returns-else-are_own : goal.returns-else-are_own
returns-else-are_own c =
    let members = c.args.members.items in
    let own : c.are_own.result ≡ is_some (member_types (map verdict_view members)) =
    c.are_own.ensures ∙ ap (λ l. is_some (member_types (map verdict_view l))) c.deref.ensures.value in
    IfOk-weaker c.judged_members.result _ _ (λ v e. e ∙ other_union_is members (search rules) (sym own ∙ c.if-are_own.false)) c.judged_members.ensures

use Rattle.std.proofs.Common.{◌≡◌, cond, map, ap, sym, ◌∙◌}
use Rattle.std.specs.Prelude.{nat_lt, sum_by}
use Rattle.yspec.specs.linking.TypeStatements as spec
use Rattle.ylink_types.specs.TypeView.{member_view}
use Rattle.ylink_types.proofs.types.referring_union.Goals as goal

pub returns-then-are_too_many : goal.returns-then-are_too_many
returns-then-are_too_many c =
    let members = map member_view c.args.members.items in
    let counted : c.are_too_many.result ≡ nat_lt spec.member_limit (sum_by spec.width_of members) =
    c.are_too_many.ensures ∙ ap (λ l. nat_lt spec.member_limit (sum_by spec.width_of (map member_view l))) c.deref.ensures.value in
    sym (ap (λ b. cond b spec.too_large (spec.means (spec.of_union members))) (sym counted ∙ c.if-are_too_many.true))

pub returns : goal.returns
returns c =
    let members = map member_view c.args.members.items in
    let counted : c.are_too_many.result ≡ nat_lt spec.member_limit (sum_by spec.width_of members) =
    c.are_too_many.ensures ∙ ap (λ l. nat_lt spec.member_limit (sum_by spec.width_of (map member_view l))) c.deref.ensures.value in
    sym (ap (λ b. cond b spec.too_large (spec.means (spec.of_union members))) (sym counted ∙ c.if-are_too_many.false))

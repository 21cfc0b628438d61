-- The laws of the order of values.
use Rattle.std.specs.Prelude.{refl}
use Rattle.std.specs.Ordering.{as_partial_cmp}
use Rattle.std.specs.Cmp.{IsTotalOrder, IsEquivalence, IsPartialEquivalence, IsPartialOrder, partial_equiv_from_equiv, partial_order_from_agreeing_total}
use Rattle.std.proofs.lemmas.Cmp.{eq_by_cmp_equiv, on_total, then_total, nat_cmp_total, nat_list_cmp_total, int_cmp_total, lists_total}
use Rattle.yspec.specs.types.Order.{kind_number, text_part, number_part, bits_part, content_cmp, member_of, content_of, value_cmp, same_value}

pub content_total : IsTotalOrder content_cmp
content_total = then_total (on_total kind_number nat_cmp_total) (then_total (on_total text_part nat_list_cmp_total)
    (then_total (on_total number_part int_cmp_total) (on_total bits_part (lists_total int_cmp_total))))

pub value_total : IsTotalOrder value_cmp
value_total = then_total (on_total member_of nat_cmp_total) (on_total content_of content_total)

pub same_value_equiv : IsEquivalence same_value
same_value_equiv = eq_by_cmp_equiv value_total

pub same_value_laws : IsPartialEquivalence same_value
same_value_laws = partial_equiv_from_equiv same_value_equiv

pub value_order_laws : IsPartialOrder same_value (as_partial_cmp value_cmp)
value_order_laws = partial_order_from_agreeing_total value_cmp value_total (λ v w. refl) (λ v w. refl)

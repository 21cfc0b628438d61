use Rattle.std.proofs.Common.{ap, drop, length, unwrap_or, ◌∙◌}
use Rattle.yinst_tree.specs.View.{row_view}
use Rattle.yinst_tree.specs.Walk.{is_not_before}
use Rattle.yinst_tree.proofs.InstanceLemmas.{place_or_len, from_place, left_rows}
use Rattle.yinst_tree.proofs.instances.left_from.Goals as goal

pub returns : goal.returns
returns c =
    let row = c.args.row.now in
    let number = c.args.id.0 in
    let place = c.unwrap_or.ensures ∙ (ap (λ o. unwrap_or o (length row)) c.due_index.ensures.place ∙ place_or_len (is_not_before number) row) in
    ap row_view (c.split_at.ensures.back ∙ (ap (λ n. drop n row) place ∙ from_place (is_not_before number) row)) ∙ left_rows number row

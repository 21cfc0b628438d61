use Rattle.std.proofs.Common.{ap, take, drop, length, unwrap_or, ◌∙◌}
use Rattle.yinst.specs.Rows.{is_behind}
use Rattle.yinst_tree.proofs.InstanceLemmas.{place_or_len, before_place, from_place}
use Rattle.yinst.proofs.rows.split_behind.Goals as goal

pub returns-clause-before : goal.returns-clause-before
returns-clause-before c =
    let row = c.args.row.now in
    let place = c.unwrap_or.ensures ∙ (ap (λ o. unwrap_or o (length row)) c.index_behind.ensures.place ∙ place_or_len (is_behind c.args.id.0) row) in
    c.split_at.ensures.front ∙ (ap (λ n. take n row) place ∙ before_place (is_behind c.args.id.0) row)

pub returns-clause-from : goal.returns-clause-from
returns-clause-from c =
    let row = c.args.row.now in
    let place = c.unwrap_or.ensures ∙ (ap (λ o. unwrap_or o (length row)) c.index_behind.ensures.place ∙ place_or_len (is_behind c.args.id.0) row) in
    c.split_at.ensures.back ∙ (ap (λ n. drop n row) place ∙ from_place (is_behind c.args.id.0) row)

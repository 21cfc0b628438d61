use Rattle.std.proofs.Common.{ap, take, drop, length, unwrap_or, ◌∙◌}
use Rattle.yinst_tree.specs.Walk.{is_other}
use Rattle.yinst_tree.proofs.InstanceLemmas.{place_or_len, before_place, from_place}
use Rattle.yinst_tree.proofs.instances.instances_and_rest.Goals as goal

pub returns-clause-found : goal.returns-clause-found
returns-clause-found c =
    let row = c.args.row.now in
    let place = c.unwrap_or.ensures ∙ (ap (λ o. unwrap_or o (length row)) c.other_index.ensures.place ∙ place_or_len (is_other c.args.id.0) row) in
    c.split_at.ensures.front ∙ (ap (λ n. take n row) place ∙ before_place (is_other c.args.id.0) row)

pub returns-clause-behind : goal.returns-clause-behind
returns-clause-behind c =
    let row = c.args.row.now in
    let place = c.unwrap_or.ensures ∙ (ap (λ o. unwrap_or o (length row)) c.other_index.ensures.place ∙ place_or_len (is_other c.args.id.0) row) in
    c.split_at.ensures.back ∙ (ap (λ n. drop n row) place ∙ from_place (is_other c.args.id.0) row)

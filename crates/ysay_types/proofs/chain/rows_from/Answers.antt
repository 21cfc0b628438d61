use Rattle.std.proofs.Common.{◌∙◌, map, option_map, ap, arith}
use Rattle.std.proofs.lemmas.List.{map_push}
use Rattle.ytext.specs.View.{modules_view, row_view}
use Rattle.ysay_types.proofs.ChainLemmas.{rows_end, rows_next}
use Rattle.ysay_types.proofs.chain.rows_from.Goals as goal

pub returns-in-None : goal.returns-in-None
returns-in-None c =
    let l = c.loop-level in
    rows_end (modules_view c.args.modules.now) c.args.levels.now l._level-index (row_view l.below.now, row_view l.outside.now) (omega arith)
    (map (λ r. row_view r.now) l.rows.items) _ _ _ c.in_ok-found.ensures (ap (option_map (λ d. (row_view d.0.now, row_view d.1.now))) c.in-None.is)
    (ap (map (λ r. row_view r.now)) c.in_ok-push.ensures.items ∙ map_push (λ r. row_view r.now) l.rows.items l.below) l.invariant

pub loop-level-preserved : goal.loop-level-preserved
loop-level-preserved c =
    let l = c.loop-level in
    rows_next (modules_view c.args.modules.now) c.args.levels.now l._level-index (row_view l.below.now, row_view l.outside.now) (omega arith)
    (map (λ r. row_view r.now) l.rows.items) _ _ _ _ c.in_ok-found.ensures (ap (option_map (λ d. (row_view d.0.now, row_view d.1.now))) c.in-Some.is)
    (ap (map (λ r. row_view r.now)) c.in_ok-push.ensures.items ∙ map_push (λ r. row_view r.now) l.rows.items l.below) l.invariant

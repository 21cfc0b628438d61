use Rattle.std.proofs.Common.{◌≡◌, ap, rules, sym}
use Rattle.std.specs.List.{flat_map}
use Rattle.yspec.specs.document.Faults.{line_of}
use Rattle.yschema_model.specs.View as schema
use Rattle.ybase_output.proofs.WritingLemmas.{left_all, left_same, left_after, left_none, left_failed}
use Rattle.ylive_list.specs.Walked.{left}
use Rattle.yapp_report.proofs.report.write_seen_lines.Goals as goal

pub loop-seen-init : goal.loop-seen-init
loop-seen-init g c =
    let same : c.into_iter-seen-iterator.result ≡ c.args.walk = search rules in
    record {
      more = tt;
      ends = tt;
      so_far = left_same _ _ _ _ _ (ap (λ w. flat_map (line_of (schema.view c.args.schema.now)) (left w)) (sym same)) (left_all _ _);
    }

pub loop-seen-preserved : goal.loop-seen-preserved
loop-seen-preserved g c = record {
  more = tt;
  ends = tt;
  so_far = left_after _ _ _ _ _ _ (left_same _ _ _ _ _
      (ap (flat_map (line_of (schema.view c.args.schema.now))) c.in-Some.ensures.steps) c.loop-seen.invariant.so_far)
      c.in_ok-write_seen.ensures;
}

pub returns : goal.returns
returns g c = left_none _ _ _ (left_same _ _ _ _ _
    (ap (flat_map (line_of (schema.view c.args.schema.now))) c.in-None.ensures.steps.0) c.loop-seen.invariant.so_far)

pub returns-in_err-write_seen : goal.returns-in_err-write_seen
returns-in_err-write_seen g c = left_failed _ _ _ _ _ _ c.from_residual.result c.from_residual.ensures.0 (left_same _ _ _ _ _
    (ap (flat_map (line_of (schema.view c.args.schema.now))) c.in-Some.ensures.steps) c.loop-seen.invariant.so_far)
    c.in_err-write_seen.ensures

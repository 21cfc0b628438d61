use Rattle.std.proofs.Common.{refl}
use Rattle.yspec.specs.edit.Live.{fault_count}
use Rattle.yschema_model.specs.View as schema
use Rattle.ylive_list.specs.Walked.{left}
use Rattle.ybase_output.proofs.WritingLemmas.{left_all, left_after, left_failed, left_last, left_same}
use Rattle.yapp_report.specs.EditedView.{live_of}
use Rattle.yapp_report.proofs.ExplainedLemmas.{walked_lines}
use Rattle.yapp_report.proofs.edited.EditedDocument.write_faults.Goals as goal

pub returns-in_err-write_seen_lines : goal.returns-in_err-write_seen_lines
returns-in_err-write_seen_lines g c = left_failed _ _ _ _ _ _ c.from_residual.result c.from_residual.ensures.0
    (left_same _ _ _ _ _ (walked_lines c.args.with_reasons c.args.self.now (schema.view c.schema.result.now) (left c.walk.result)
    (fault_count (live_of c.args.self.now)) c.requires c.schema.ensures c.walk.ensures refl) (left_all _ _))
    c.in_err-write_seen_lines.ensures

pub returns : goal.returns
returns g c = left_last _ _ _ _ _ c.write_count.result
    (left_after _ _ _ _ _ _ (left_same _ _ _ _ _ (walked_lines c.args.with_reasons c.args.self.now (schema.view c.schema.result.now) (left c.walk.result)
    c.fault_count.result c.requires c.schema.ensures c.walk.ensures c.fault_count.ensures) (left_all _ _)) c.in_ok-write_seen_lines.ensures)
    c.write_count.ensures

use Rattle.yapp_report.proofs.ExplainedLemmas.{report_lines}
use Rattle.yapp_report.proofs.report.DocumentReport.write_document.Goals as goal

pub returns-in-None : goal.returns-in-None
returns-in-None g c = report_lines c.args.with_reasons c.args.self.now _ _ c.write_faults.result c.in-None.is c.requires c.write_faults.ensures

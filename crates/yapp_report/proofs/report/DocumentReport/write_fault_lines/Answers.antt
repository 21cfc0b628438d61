use Rattle.std.proofs.Common.{List, Option, None, Global, String, Vec, map, string_bytes, ap, ap₂, sym, ◌∙◌}
use Rattle.std.specs.Prelude.{option_map}
use Rattle.yschema_model.specs.View as schema
use Rattle.ycheck.specs.View.{views}
use Rattle.ycheck.specs.declared.fault.Fault.{Fault}
use Rattle.ybase_output.proofs.WritingLemmas.{writes_same}
use Rattle.yapp_report.specs.Explained.{explained_lines, fault_lines}
use Rattle.yapp_report.proofs.report.DocumentReport.write_fault_lines.Goals as goal

pub returns-in-Some : goal.returns-in-Some
returns-in-Some g c =
    let s = schema.view c.args.self.now.schema in
    let faults = views c.args.self.now.faults.items in
    writes_same _ _ _ _ c.write_explained_lines.result
    (ap₂ (λ (fs : List Fault) (ts : List (String Global)). explained_lines s (views fs) (map string_bytes ts)) c.deref.ensures.value c.deref-in-Some.ensures.value
    ∙ sym (ap (λ (o : Option (Vec (String Global) Global)). fault_lines s faults (option_map (λ ts. map string_bytes ts.items) o)) c.in-Some.is))
    c.write_explained_lines.ensures

pub returns-in-None : goal.returns-in-None
returns-in-None g c =
    let s = schema.view c.args.self.now.schema in
    let faults = views c.args.self.now.faults.items in
    writes_same _ _ _ _ c.write_lines.result
    (ap (λ (fs : List Fault). fault_lines s (views fs) None) c.deref-in-None.ensures.value
    ∙ sym (ap (λ (o : Option (Vec (String Global) Global)). fault_lines s faults (option_map (λ ts. map string_bytes ts.items) o)) c.in-None.is))
    c.write_lines.ensures

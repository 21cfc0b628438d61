use Rattle.std.proofs.Common.{ℕ, Bool, List, ◌++◌, decimal, length, ap, sym, ◌∙◌}
use Rattle.std.specs.Prelude.{is_some}
use Rattle.yspec_run.specs.Part.{count_part, spelled_part}
use Rattle.yapp_report.specs.Explained.{explanations_in}
use Rattle.std.proofs.lemmas.List.{length-map}
use Rattle.ycheck.specs.View.{view}
use Rattle.ybase_output.proofs.WritingLemmas.{left_all, left_after, left_failed, left_last, left_same}
use Rattle.yapp_report.proofs.report.DocumentReport.write_faults.Goals as goal

pub returns-in_err-write_fault_lines : goal.returns-in_err-write_fault_lines
returns-in_err-write_fault_lines g c =
    left_failed _ _ _ _ _ _ c.from_residual.result c.from_residual.ensures.0 (left_all _ _) c.in_err-write_fault_lines.ensures

pub returns : goal.returns
returns g c =
    let count = length c.as_slice-count.result.now in
    let said = explanations_in c.args.self.now in
    left_last _ _ _ _ _ c.write_count.result
    (left_same _ _ _ _ _ (ap (λ (n : ℕ). spelled_part (is_some said) (count_part n)) (length-map c.args.self.now.faults.items view ∙ sym (ap length c.as_slice-count.ensures.value))
    ∙ (ap (λ (b : Bool). spelled_part b (count_part count)) (sym c.has_explanations.ensures)
    ∙ ap (λ (t : List ℕ). decimal count ++ t) (sym c.counted_faults.ensures)))
    (left_after _ _ _ _ _ _ (left_all _ _) c.in_ok-write_fault_lines.ensures))
    c.write_count.ensures

use Rattle.std.proofs.Common.{Bool, Some, None, map, ap, sym, ◌∙◌}
use Rattle.std.specs.Prelude.{if◌then◌else◌}
use Rattle.ysay_fault.specs.Sentences.{explained_fault}
use Rattle.ycheck_config.specs.Inspecting.{inspection_view}
use Rattle.yapp.proofs.document.explanations_of.Goals as goal

pub returns-in_ok-all_explained : goal.returns-in_ok-all_explained
returns-in_ok-all_explained c =
    let i = inspection_view c.args.inspection.now in
    let said = map (explained_fault i.schema i.tree) i.faults in
    ap Some c.in_ok-all_explained.ensures ∙ sym (ap (λ (b : Bool). if b then Some said else None) c.if-are_wanted.true)

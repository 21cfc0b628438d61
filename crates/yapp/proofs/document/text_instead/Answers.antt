use Rattle.std.proofs.Common.{Bool, ◌++◌, Some, None, ap, ap₂, sym, ◌∙◌}
use Rattle.std.specs.Prelude.{if◌then◌else◌}
use Rattle.yspec.specs.document.Writing.{written_text}
use Rattle.ysay_json.specs.FaultData.{json_text}
use Rattle.ycheck_config.specs.Inspecting.{inspection_view}
use Rattle.yspec_run.specs.Part.{objects}
use Rattle.yapp_script.specs.Asked.{refused_parts}
use Rattle.yapp.proofs.document.text_instead.Goals as goal

pub returns-then-options : goal.returns-then-options
returns-then-options c = λ s t whole.
    let i = inspection_view c.args.inspection.now in
    let json = objects (refused_parts c.args.refused.now) ++ json_text i.schema i.tree i.faults in
    whole ∙ ap (λ (b : Bool). if b then Some (written_text s t) else None) c.if-options.true
    ∙ sym (ap (λ (b : Bool). if b then Some (written_text s t) else (if c.args.options.as_json then Some json else None)) c.if-options.true)

pub returns-then-options-2 : goal.returns-then-options-2
returns-then-options-2 c = λ s t whole.
    let i = inspection_view c.args.inspection.now in
    let json = objects (refused_parts c.args.refused.now) ++ json_text i.schema i.tree i.faults in
    ap Some c.in_ok-json_of.ensures
    ∙ sym (ap₂ (λ (a b : Bool). if a then Some (written_text s t) else (if b then Some json else None)) c.if-options.false c.if-options-2.true)

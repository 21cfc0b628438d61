use Rattle.std.proofs.Common.{◌∙◌, rules}
use Rattle.serde_json.specs.Errors.{IsMemory}
use Rattle.serde_json.specs.View.{view}
use Rattle.yinst_tree.proofs.ValueLemmas.{view-Null, text_value, no_value}
use Rattle.yinst_tree.proofs.values.whole_value.Goals as goal

pub returns-in-Ok : goal.returns-in-Ok
returns-in-Ok c = text_value c.args.text.now (view c.in-Ok.value) (view c.if_kept.result) c.utf8.text c.in-Ok.ensures.ok c.if_kept.ensures

pub returns-in-Err-2 : goal.returns-in-Err-2
returns-in-Err-2 c =
    let is_refused : IsMemory c.in-Err.error → ⊥ = search rules in
    view-Null ∙ no_value c.args.text.now (c.in-Err.ensures.err is_refused)

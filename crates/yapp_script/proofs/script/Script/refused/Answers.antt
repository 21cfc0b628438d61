use Rattle.std.proofs.Common.{List, ap, sym, ◌∙◌, map}
use Rattle.ylive.specs.View.{outcomes_view, view}
use Rattle.yapp_script.specs.Asked.{any_refused, edits_in, kinds_in, line_view, refused_parts}
use Rattle.yapp_script.specs.declared.script.Asked.{Asked}
use Rattle.yapp_script.proofs.ScriptLemmas.{none_told}
use Rattle.yapp_script.proofs.script.Script.refused.Goals as goal

pub returns-else-is_any_refused : goal.returns-else-is_any_refused
returns-else-is_any_refused c =
    let l = view c.args.live.now in
    ap refused_parts c.new.ensures.items
    ∙ none_told l.schema l.tree 1 (kinds_in c.args.self.now) (edits_in c.args.self.now) (outcomes_view c.args.outcomes.now)
    (ap (λ (lines : List Asked). any_refused (map line_view lines) (outcomes_view c.args.outcomes.now)) (sym c.deref.ensures.value)
    ∙ (sym c.is_any_refused.ensures ∙ c.if-is_any_refused.false))

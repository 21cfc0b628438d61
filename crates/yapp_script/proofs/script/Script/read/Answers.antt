use Rattle.std.proofs.Common.{◌≡◌, ◌++◌, [], ◌∷◌, ap, subst, sym, ◌∙◌}
use Rattle.std.proofs.lemmas.Result.{IfOk-weaker}
use Rattle.yspec_run.specs.Script.{without_returns}
use Rattle.yapp_script.specs.Asked.{IsScript, edits_in, kinds_in}
use Rattle.yapp_script.proofs.ScriptLemmas.{lines_with_last, parts_in}
use Rattle.yapp_script.proofs.script.Script.read.Goals as goal

pub returns-in-Some : goal.returns-in-Some
returns-in-Some c =
    let parts_are : c.in-Some.lines.now ++ c.in-Some.last.now ∷ [] ≡ c.in_ok-parts.parts.items = sym c.in-Some.ensures.cases.0 ∙ c.deref.ensures.value in
    let lines_are = sym (lines_with_last c.in-Some.lines.now c.in-Some.last.now) ∙ ap without_returns (ap parts_in parts_are ∙ c.in_ok-parts.ensures) in
    IfOk-weaker c.with_lines.result _ _ (λ script is. subst (IsScript c.args.is_strict (kinds_in script) (edits_in script)) lines_are is) c.with_lines.ensures

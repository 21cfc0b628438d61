use Rattle.std.proofs.Common.{length, refl, sym, ap, ◌∙◌}
use Rattle.std.proofs.lemmas.Option.{slice_get_past, slice_get_read}
use Rattle.std.proofs.lemmas.Result.{IfOk-weaker}
use Rattle.ytext.specs.View.{modules_view}
use Rattle.yspec_run.specs.Hint.{statement_said}
use Rattle.ylink_grammar.specs.BreakView.{code_number}
use Rattle.yapp_script.proofs.HintLemmas.{module_found, none_found, nothing_said}
use Rattle.yapp_script.proofs.hint.said_of_module.Goals as goal

pub returns-in-Some : goal.returns-in-Some
returns-in-Some c =
    let found = c.in-Some.ensures.lookup in
    let there = slice_get_read c.args.modules.now (length c.args.modules.now) c.args.rule.«module» c.in-Some.of.now refl found.3.0 found.1 in
    IfOk-weaker c.said_of_statements.result _ _ (λ said e. e ∙ ap (statement_said (code_number c.args.rule.code) c.args.rule.line (modules_view c.args.modules.now))
    (sym (module_found c.args.modules.now c.args.rule.«module» c.in-Some.of.now there))) c.said_of_statements.ensures

pub returns-in-None : goal.returns-in-None
returns-in-None c =
    let there = slice_get_past c.args.modules.now c.args.rule.«module» c.in-None.ensures.lookup.3 in
    c.new.ensures.bytes ∙ (sym (nothing_said (code_number c.args.rule.code) c.args.rule.line (modules_view c.args.modules.now))
    ∙ ap (statement_said (code_number c.args.rule.code) c.args.rule.line (modules_view c.args.modules.now)) (sym (none_found c.args.modules.now c.args.rule.«module» there)))

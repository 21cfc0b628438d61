use Rattle.std.proofs.Common.{arith}
use Rattle.ylink_grammar.specs.BreakView.{seen}
use Rattle.ylink_grammar.specs.LanguageView.{language_view}
use Rattle.ylink_grammar.proofs.JudgeLemmas.{judged_module}
use Rattle.ylink_grammar.proofs.grammar.broken_statement_rule_in.Goals as goal

pub loop-module-preserved : goal.loop-module-preserved
loop-module-preserved c =
    judged_module (language_view c.args.language.now) c.args.modules.now c.loop-module.module c.index-modules-module.result (seen c.loop-module.told) (seen c.judge_top.new.told) _
    (omega arith) c.index-modules-module.is c.in_ok-judge_top.ensures c.loop-module.invariant

use Rattle.std.proofs.Common.{drop}
use Rattle.yapp_script.specs.Asked.{edits_in, kinds_in}
use Rattle.yapp_script.proofs.ScriptLemmas.{ReadSoFar, lines_in}
use Rattle.yapp_script.proofs.script.Script.with_lines.Given as goal

abbrev pub invariant-loop-line : goal.invariant-loop-line
invariant-loop-line l = ReadSoFar l.is_strict (kinds_in l.script) (edits_in l.script) (lines_in l.lines) (lines_in (drop l.line-index l.lines))

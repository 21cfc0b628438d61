use Rattle.std.proofs.Common.{◌≡◌, ◌++◌, drop, string_bytes}
use Rattle.yspec_run.specs.Part.{objects}
use Rattle.yapp_script.specs.Asked.{refused_parts}
use Rattle.yapp_report.proofs.object.line_objects.Given as goal

-- the text so far, and the objects of the lines that are left
abbrev pub invariant-loop-line : goal.invariant-loop-line
invariant-loop-line l = string_bytes l.text ++ objects (refused_parts (drop l.line-index l.lines)) ≡ objects (refused_parts l.lines)

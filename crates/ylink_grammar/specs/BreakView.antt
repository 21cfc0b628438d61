-- Broken rules as the specification's.
use Rattle.std.specs.Prelude.{ℕ, Option, option_map}
use Rattle.yspec.specs.schema.Breaks as spec
use Rattle.ylink_grammar.specs.declared.fault.BrokenRule.{BrokenRule}
use Rattle.ylink_grammar.specs.declared.fault.CompileCode.{CompileCode}
use Rattle.ylink_grammar.specs.declared.fault.CompileCode.TheVariants.{C1, C2, C3, C4, C5, C6, C7, C8, C9, C10, C11, C12, C13, C14, C15, C16, C17, C18, C20, C22, C24}

abbrev pub code_number : CompileCode → ℕ
code_number C1 = 1
code_number C2 = 2
code_number C3 = 3
code_number C4 = 4
code_number C5 = 5
code_number C6 = 6
code_number C7 = 7
code_number C8 = 8
code_number C9 = 9
code_number C10 = 10
code_number C11 = 11
code_number C12 = 12
code_number C13 = 13
code_number C14 = 14
code_number C15 = 15
code_number C16 = 16
code_number C17 = 17
code_number C18 = 18
code_number C20 = 20
code_number C22 = 22
code_number C24 = 24

abbrev pub break_view : BrokenRule → spec.Break
break_view b = record { code = code_number b.code; module_number = b.«module»; line = b.line }

abbrev pub seen : Option BrokenRule → Option spec.Break
seen = option_map break_view

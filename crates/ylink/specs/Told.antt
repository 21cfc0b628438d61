-- Refusals of the compiler as the specification's.
use Rattle.std.specs.Prelude.{Option, Some, None}
use Rattle.yspec.specs.schema.Breaks as spec
pub use Rattle.ylink_grammar.specs.BreakView.{code_number, break_view, seen}
use Rattle.ylink.specs.declared.fault.CompileFault.{CompileFault}
use Rattle.ylink.specs.declared.fault.CompileFault.TheVariants.{Refused, Memory}

-- the refusal that a fault tells; none of want of memory
abbrev pub told_by : CompileFault → Option spec.Break
told_by (Refused code at line) = Some (record { code = code_number code; module_number = at; line = line })
told_by Memory = None

-- What writing a text that takes memory comes to.
use Rattle.std.specs.Prelude.{◌≡◌, ℕ, List, Result, Ok, Err}
use Rattle.ybase_output.specs.Writing.{Side, Wrote, Broke}
use Rattle.ysay_fault.specs.declared.fault.ExplanationFault.{ExplanationFault}
use Rattle.ysay_fault.specs.declared.fault.ExplanationFault.TheVariants.{Device, Memory}

-- where memory ran out, nothing was written
abbrev pub WritesOrRunsOut : {X : Type 0} → Side → Side → List ℕ → Result X ExplanationFault → Type 0
WritesOrRunsOut before after bytes (Ok x) = Wrote before after bytes
WritesOrRunsOut before after bytes (Err Device) = Broke before after bytes
WritesOrRunsOut before after bytes (Err Memory) = after ≡ before

-- What a step of the walk adds to the faults that are found.
use Rattle.std.specs.Prelude.{◌≡◌, ◌++◌, List, [], map, Option}
use Rattle.yspec.specs.text.Text.{Text}
use Rattle.yspec.specs.document.FaultCode.{FaultCode, tag_of}
use Rattle.yspec.specs.document.Fault.{Fault, Info}
use Rattle.yspec.specs.document.RowFaults.{prefixed}
use Rattle.yinst_tree.specs.View.{place_view}
use Rattle.ycheck.specs.View.{views}
use Rattle.ycheck.specs.declared.checking.Findings.{Findings}

-- a fault of the node at hand, whose error-app-tag is given
abbrev pub given_fault : FaultCode → Option Text → Info → Fault
given_fault code app_tag info =
    record { code = code; tag = tag_of code; app_tag = app_tag; steps = []; info = info }

-- the faults, whose steps lead from the node at hand, come behind those so far
pub record Adds (old new : Findings) (faults : List Fault) : Type 0 where
  pub found : views new.faults.items ≡ views old.faults.items ++ map (prefixed (place_view old.steps.items)) faults
  pub place : new.steps.items ≡ old.steps.items

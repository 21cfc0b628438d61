-- What a fault says (RFC 7950, 8.3.1 and 15).
use Rattle.std.specs.Prelude.{ℕ, List, Option}
use Rattle.yspec.specs.text.Text.{Text}
use Rattle.yspec.specs.document.Document.{Step}
use Rattle.yspec.specs.document.FaultCode.{FaultCode, tag_of, own_app_tag}

-- what a fault says besides its place: nothing, the name of a choice, or the number of a `unique`
pub data Info : Type 0 where
  no_info : Info
  choice_name : Text → Info
  unique_number : ℕ → Info

-- a fault: its code, the error-tag, perhaps an error-app-tag, the steps to its place, and its info
pub record Fault : Type 0 where
  pub code : FaultCode
  pub tag : Text
  pub app_tag : Option Text
  pub steps : List Step
  pub info : Info

-- a fault without info; its error-app-tag is given
abbrev pub fault : FaultCode → Option Text → List Step → Fault
fault code app_tag steps =
    record { code = code; tag = tag_of code; app_tag = app_tag; steps = steps; info = no_info }

-- a fault with the error-app-tag of its code
abbrev pub fault_with : Info → FaultCode → List Step → Fault
fault_with info code steps =
    record { code = code; tag = tag_of code; app_tag = own_app_tag code; steps = steps; info = info }

abbrev pub plain_fault : FaultCode → List Step → Fault
plain_fault code steps = fault_with no_info code steps

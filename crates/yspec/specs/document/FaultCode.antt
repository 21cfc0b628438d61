-- The codes of the faults of a document: the number that each prints, its error-tag, and the error-app-tag that it has
-- of itself (RFC 7950, 8.3.1 and 15).
use Rattle.std.specs.Prelude.{ℕ, codes, Option, Some, None}
use Rattle.yspec.specs.text.Text.{Text}

pub data FaultCode : Type 0 where
  V1 : FaultCode
  V2 : FaultCode
  V3 : FaultCode
  V4 : FaultCode
  V5 : FaultCode
  V6 : FaultCode
  V7 : FaultCode
  V8 : FaultCode
  V9 : FaultCode
  V10 : FaultCode
  V11 : FaultCode
  V12 : FaultCode

-- the number behind the `V`
abbrev pub fault_number : FaultCode → ℕ
fault_number V1 = 1
fault_number V2 = 2
fault_number V3 = 3
fault_number V4 = 4
fault_number V5 = 5
fault_number V6 = 6
fault_number V7 = 7
fault_number V8 = 8
fault_number V9 = 9
fault_number V10 = 10
fault_number V11 = 11
fault_number V12 = 12

-- the error-tag
abbrev pub tag_of : FaultCode → Text
tag_of V1 = codes "invalid-value"
tag_of V2 = codes "missing-element"
tag_of V3 = codes "data-missing"
tag_of V4 = codes "data-missing"
tag_of V5 = codes "bad-element"
tag_of V6 = codes "operation-failed"
tag_of V7 = codes "operation-failed"
tag_of V8 = codes "operation-failed"
tag_of V9 = codes "operation-failed"
tag_of V10 = codes "operation-failed"
tag_of V11 = codes "data-missing"
tag_of V12 = codes "unknown-element"

-- the error-app-tag; that of a restriction or of a statement is given with the fault
abbrev pub own_app_tag : FaultCode → Option Text
own_app_tag V1 = None
own_app_tag V2 = None
own_app_tag V3 = None
own_app_tag V4 = Some (codes "missing-choice")
own_app_tag V5 = None
own_app_tag V6 = Some (codes "too-few-elements")
own_app_tag V7 = Some (codes "too-many-elements")
own_app_tag V8 = None
own_app_tag V9 = Some (codes "data-not-unique")
own_app_tag V10 = None
own_app_tag V11 = Some (codes "instance-required")
own_app_tag V12 = None

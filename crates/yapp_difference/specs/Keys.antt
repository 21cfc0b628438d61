-- What faults have in common that are the same.
use Rattle.std.specs.Prelude.{ℕ, ◌==◌, ◌&&◌, Bool, List}
use Rattle.yspec.specs.document.Document.{Step}
use Rattle.yspec.specs.document.FaultCode.{fault_number}
use Rattle.yspec.specs.document.Fault.{Fault, Info}
use Rattle.yspec_session.specs.Carrying.{same_place, same_info}

pub record Key : Type 0 where
  pub code : ℕ
  pub steps : List Step
  pub info : Info

abbrev pub key_with : List Step → Fault → Key
key_with steps f = record { code = fault_number f.code; steps = steps; info = f.info }

abbrev pub key_of : Fault → Key
key_of f = key_with f.steps f

abbrev pub same_key : Key → Key → Bool
same_key a b = a.code == b.code && (same_place a.steps b.steps && same_info a.info b.info)

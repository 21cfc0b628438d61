-- The version that a text states.
use Rattle.std.specs.Prelude.{Bool, true, List, length, Result, Ok, Err}
use Rattle.yspec.specs.text.Token.{Token}
use Rattle.yspec_wide.specs.Language.{YangVersion}
use Rattle.yspec_wide.specs.Texts.{version_among}
use Rattle.ytext.specs.declared.fault.TextFault.{TextFault}
use Rattle.ytext.specs.declared.fault.TextFault.TheVariants as fault

-- whether a text is one of YANG 1 that is wrong before it states its version
abbrev pub unread : TextFault → Result Bool TextFault
unread fault.Memory = Err fault.Memory
unread (fault.Refused code line) = Ok true

-- from one of the statements below the top one on
abbrev pub version_row : List Token → YangVersion
version_row ts = version_among (length ts) ts

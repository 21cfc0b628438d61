-- What a scan gives, as a value of the definitions.
use Rattle.std.specs.Prelude.{Result, Ok, Err}
use Rattle.yspec.specs.text.Scanning as scanning
use Rattle.yspec.specs.text.Scanning.{Cause, Scanned}
use Rattle.yspec.specs.text.Statement.{Slip, slip}
use Rattle.ytext.specs.Told.{number_of}
use Rattle.ytext.specs.declared.fault.TextFault.{TextFault}
use Rattle.ytext.specs.declared.fault.TextFault.TheVariants as fault
use Rattle.ytext.specs.declared.cause.Cause as wrong
use Rattle.ytext.specs.declared.token.Token.{Token}
use Rattle.ytext.specs.declared.token.TokenKind.{TokenKind}
use Rattle.ytext.specs.declared.token.TokenKind.TheVariants.{Word, Single, Double, Semi, Open, Close}

abbrev pub cause_of : wrong.Cause → Cause
cause_of c = record { code = number_of c.code; place = c.place }

abbrev pub kind_shown : TokenKind → scanning.TokenKind
kind_shown Word = scanning.unquoted
kind_shown Single = scanning.single_quoted
kind_shown Double = scanning.double_quoted
kind_shown Semi = scanning.semicolon
kind_shown Open = scanning.opening
kind_shown Close = scanning.closing

abbrev pub scanned_of : Token → Scanned
scanned_of t = record { kind = kind_shown t.kind; start = t.start; end = t.end; text = t.text.now }

-- an item; want of memory, which never comes, would have the number 0, as no fault has
abbrev pub shown : Result Token TextFault → Result Scanned Slip
shown (Ok t) = Ok (scanned_of t)
shown (Err (fault.Refused code line)) = slip (number_of code) line
shown (Err fault.Memory) = slip 0 0

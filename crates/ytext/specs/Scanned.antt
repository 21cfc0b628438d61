-- What is left of a scan.
use Rattle.std.specs.Prelude.{List, [], Result, if◌then◌else◌}
use Rattle.yspec.specs.text.Scanning.{Scanned, given_of}
use Rattle.yspec.specs.text.Statement.{Slip}
use Rattle.ytext.specs.Left.{pieces_left}
use Rattle.ytext.specs.declared.scanner.Tokens.{Tokens}

-- what is still to come
abbrev pub tokens_left : Tokens → List (Result Scanned Slip)
tokens_left s = if s.ended then [] else given_of s.cursor.text.now s.forbidden (pieces_left s.cursor)

-- How a `Counted` ends, where a value of the store is lent.
use Rattle.std.specs.Prelude.{[]}
use Rattle.std.specs.Borrow.{Fml, MutBor}
use Rattle.std.specs.Io.BufRead.{Rests}
use mir.Syntax.{named}
use Rattle.ystore.specs.Views.{IsRead}
use Rattle.ystore.specs.contracts.nodes.counted.Counted.{the_row}
use Rattle.ystore.specs.declared.nodes.counted.Counted.{Counted}

-- once the value is no more lent, one reading call is counted, and all else stays
abbrev pub EndsRead : MutBor Counted → Fml
EndsRead c = Rests (the_row (record { mir = named 1; lft = [] })) c (λ after. IsRead c.now after)

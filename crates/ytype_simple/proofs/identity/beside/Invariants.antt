use Rattle.std.proofs.Common.{◌≡◌, drop}
use Rattle.ytype_simple.specs.Identities.{beside}
use Rattle.ytype_simple.proofs.identity.beside.Given as goal

abbrev pub invariant-entries : goal.invariant-entries
invariant-entries l = beside (drop l.entry-index l.entries) l.prefix ≡ beside l.entries l.prefix

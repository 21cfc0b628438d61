use Rattle.std.proofs.Common.{◌≡◌, ◌++◌, filter, map, string_bytes}
use Rattle.yspec.specs.types.Names.{Assigned}
use Rattle.yspec.specs.types.Types.{is_numbered}
use Rattle.ytype_numbers.specs.Tables.{assigned}
use Rattle.ytype.specs.Identities.{identities_view}
use Rattle.ysay_value.specs.IdentityWords.{names_taken, plain_name}
use Rattle.ysay_value.proofs.identities.names_taken.Given as goal

-- the names so far, and those taken of the ones that are left
abbrev pub invariant-loop-number : goal.invariant-loop-number
invariant-loop-number l = map (λ n. n.now) l.names.items ++ map (λ (a : Assigned). plain_name (string_bytes l.identities.home.value) a.name)
    (filter (λ (a : Assigned). is_numbered l.identities.taken.value.keys a.number) (assigned l.number-iterator))
    ≡ names_taken (identities_view l.identities)

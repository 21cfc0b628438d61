use Rattle.std.proofs.Common.{◌≡◌, true, List, IfOk, subst, string_bytes}
use Rattle.yspec.specs.types.Names.{Assigned}
use Rattle.yspec.specs.types.Values.{spaced_from}
use Rattle.ytype_numbers.proofs.PositionLemmas.{names_held}
use Rattle.ytype_numbers.proofs.named.bits_text.Goals as goal

pub returns : goal.returns
returns c =
    subst (λ (names : List Assigned). IfOk c.names_text.result (λ text. string_bytes text ≡ spaced_from true names))
    (names_held c.in_ok-set_of.field-0 c.args.positions.now c.args.names.now c.in_ok-set_of.ensures) c.names_text.ensures

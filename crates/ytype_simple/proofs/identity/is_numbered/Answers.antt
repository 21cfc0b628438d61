use Rattle.std.proofs.Common.{ap, ◌∙◌}
use Rattle.std.specs.Int.{w64}
use Rattle.std.specs.Ordering.{int_cmp}
use Rattle.std.specs.BTreeSet.{contains}
use Rattle.std.proofs.lemmas.Int.{to_z-of_z}
use Rattle.ytype_simple.proofs.IdentityLemmas.{held_numbered}
use Rattle.ytype_simple.proofs.identity.is_numbered.Goals as goal

pub returns : goal.returns
returns c =
    c.holds.ensures ∙ ap (contains int_cmp c.args.numbers.now) (to_z-of_z w64 c.args.number c.ranges.number)
    ∙ held_numbered c.args.number c.args.numbers.now.keys

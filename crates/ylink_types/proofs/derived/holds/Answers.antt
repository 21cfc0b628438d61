use Rattle.std.proofs.Common.{ap, ◌∙◌}
use Rattle.std.specs.BTreeSet.{contains}
use Rattle.std.specs.Int.{w64}
use Rattle.std.specs.Ordering.{int_cmp}
use Rattle.std.proofs.lemmas.Int.{to_z-of_z}
use Rattle.ylink_types.proofs.derived.holds.Goals as goal

pub returns : goal.returns
returns c =
    c.has_key.ensures
    ∙ (ap (contains int_cmp c.args.set.now) (to_z-of_z w64 c.from.result (record { sfits = c.from.type_inv }))
    ∙ ap (contains int_cmp c.args.set.now) c.from.ensures)

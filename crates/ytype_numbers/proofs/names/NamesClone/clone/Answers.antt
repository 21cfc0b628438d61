use Rattle.std.proofs.Common.{◌∙◌}
use Rattle.ytype_numbers.proofs.TableLemmas.{assigned_copied, table_copied}
use Rattle.ytype_numbers.proofs.names.NamesClone.clone.Goals as goal

pub returns : goal.returns
returns c = assigned_copied c.self.inside.by_number.entries c.in_ok-clone.field-0.entries c.in_ok-clone.ensures.cases ∙ c.self.view_is

pub invariant_of-result : goal.invariant_of-result
invariant_of-result c =
    table_copied c.self.inside.by_name c.in_ok-copy_of.field-0 c.self.inside.by_number.entries c.in_ok-clone.field-0.entries c.self.invariant c.in_ok-copy_of.ensures
    (assigned_copied c.self.inside.by_number.entries c.in_ok-clone.field-0.entries c.in_ok-clone.ensures.cases)

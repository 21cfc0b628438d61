use Rattle.yinst_tree.proofs.ValueLemmas.{several_items}
use Rattle.yinst_tree.proofs.values.is_empty_value.Goals as goal

pub returns-in_default-3 : goal.returns-in_default-3
returns-in_default-3 c = several_items c.args.items.now c.in_default.len_at_least

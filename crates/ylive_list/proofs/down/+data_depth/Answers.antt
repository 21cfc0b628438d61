use Rattle.std.proofs.Common.{arith}
use Rattle.yschema_model.specs.Layout.{number_of}
use Rattle.ylive_list.proofs.DownLemmas.{few_above}
use Rattle.ylive_list.proofs.down.+data_depth.Goals as goal

pub overflow_add-result : goal.overflow_add-result
overflow_add-result t c = omega (arith, few_above c.args.schema.now (number_of c.parent.result), c.data_depth-depth.ensures)

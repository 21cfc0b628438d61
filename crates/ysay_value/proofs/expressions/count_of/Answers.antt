use Rattle.std.proofs.Common.{sym}
use Rattle.std.proofs.lemmas.List.{length-map}
use Rattle.ytype.specs.Patterns.{matching_view}
use Rattle.ysay_value.proofs.expressions.count_of.Goals as goal

pub returns : goal.returns
returns c = sym (length-map c.args.expressions.now matching_view)

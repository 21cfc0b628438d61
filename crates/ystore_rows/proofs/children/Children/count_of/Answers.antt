use Rattle.std.proofs.Common.{arith, ap₂, ◌∙◌, ◌-◌}
use Rattle.ystore_rows.specs.Children.{nodes_of}
use Rattle.ystore_rows.proofs.RowLemmas.{count_is, first_before_end}
use Rattle.ystore_rows.proofs.children.Children.count_of.Goals as goal

pub overflow_sub-result : goal.overflow_sub-result
overflow_sub-result c =
    omega (arith, c.first_place.ensures.place, c.end_place.ensures.place, first_before_end c.args.schema (nodes_of c.args.self.now))

pub returns : goal.returns
returns c =
    ap₂ (λ a b. a - b) c.end_place.ensures.place c.first_place.ensures.place
    ∙ count_is c.args.schema (nodes_of c.args.self.now) c.args.self.now.ascending

use Rattle.std.proofs.Common.{arith, ◌∙◌, ◌-◌}
use Rattle.std.proofs.lemmas.Bool.{le-ltb}
use Rattle.ystore_rows.specs.Children.{nodes_of}
use Rattle.ystore_rows.proofs.NearLemmas.{in_part, past_part}
use Rattle.ystore_rows.proofs.children.Children.is_among.Goals as goal

pub overflow_add-first : goal.overflow_add-first
overflow_add-first c = omega (arith, c.requires.order, c.if-place-end.true, c.ranges.end.fits)

pub returns-then-place-end : goal.returns-then-place-end
returns-then-place-end c =
    c.is_at.ensures
    ∙ in_part c.args.first c.args.end (nodes_of c.args.self.now) c.requires.order c.requires.within c.args.node c.args.place c.if-place-end.true

pub returns-else-place-end : goal.returns-else-place-end
returns-else-place-end c =
    le-ltb c.args.place (c.args.end - c.args.first) c.if-place-end.false
    ∙ past_part c.args.first c.args.end (nodes_of c.args.self.now) c.requires.order c.requires.within c.args.node c.args.place c.if-place-end.false

use Rattle.ytype_simple.proofs.simple.SimpleType.narrow.Goals as goal

pub returns-in-Range : goal.returns-in-Range
returns-in-Range c = rw c.in-Range.is (rw (c.range_bounds.ensures.bounds, c.deref.ensures.value) at c.limited_where.ensures)

use Rattle.ydiagram.proofs.column.+write_path.Given as goal

abbrev pub decreases-write_path : goal.decreases-write_path
decreases-write_path g l = l.id.0

-- A statement and what bars it, as the specification's.
use Rattle.yspec.specs.text.Statement.{Statement}
use Rattle.ysay_text.specs.Labels.{label}
use Rattle.ysay_circles.specs.declared.places.Barred.{Barred}

abbrev pub barred_view : Barred → Statement × Statement
barred_view b = (label b.statement.now, label b.bar.now)

-- What was read of a pattern's text, as the specification's.
use Rattle.yspec_patterns.specs.Classes.{ClassState}
use Rattle.ytype_patterns.specs.SymbolView.{escape_view}
use Rattle.ytype_patterns.specs.ClassView.{state_view}
use Rattle.ytype_patterns.specs.PartView.{counting_view}
use Rattle.ysay_pattern.specs.Stop as spec
use Rattle.ysay_pattern.specs.declared.stop.Stop.{Stop}
use Rattle.ysay_pattern.specs.declared.stop.Stop.TheVariants as stops
use Rattle.ysay_pattern.specs.declared.stop.Grouped.{Grouped}
use Rattle.ysay_pattern.specs.declared.stop.Classed.{Classed}
use Rattle.ysay_pattern.specs.declared.stop.Reader.{Reader}

abbrev pub grouped_view : Grouped → spec.Grouped
grouped_view grouped = (counting_view grouped.counting, grouped.depth)

abbrev pub classed_view : Classed → ClassState × spec.Grouped
classed_view classed = (state_view classed.class, grouped_view classed.grouped)

abbrev pub reader_view : Reader → spec.Reading
reader_view reader = (escape_view reader.escape, classed_view reader.classed)

abbrev pub stop_view : Stop → spec.Stop
stop_view (stops.At number) = spec.at number
stop_view stops.TooSoon = spec.too_soon

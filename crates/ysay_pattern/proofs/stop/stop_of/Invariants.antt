use Rattle.std.proofs.Common.{◌≡◌, drop, option_map}
use Rattle.ysay_pattern.specs.Stop.{later, stop_from, stop_of}
use Rattle.ysay_pattern.specs.ReaderView.{reader_view}
use Rattle.ysay_pattern.proofs.stop.stop_of.Given as goal

-- the characters that are left stop so many later where all do
abbrev pub invariant-loop-place : goal.invariant-loop-place
invariant-loop-place l = option_map (later l.place) (stop_from (drop l.place l.characters) (reader_view l.reader)) ≡ stop_of l.characters

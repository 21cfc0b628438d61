use Rattle.std.proofs.Common.{length, ap, ◌∙◌, arith}
use Rattle.ytext.proofs.reader.Reader.new.Goals as goal

pub invariant_of-result : goal.invariant_of-result
invariant_of-result c = record {
  small = omega (arith, c.requires, ap length (c.next.ensures.text ∙ c.new.ensures.text));
  near = c.next.ensures.near;
  indented = c.next.ensures.indent;
}

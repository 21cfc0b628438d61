use Rattle.std.proofs.Common.{length, ap, ◌∙◌}
use Rattle.ybase_words.specs.Lengths.{is_four, is_five, is_six, is_another}
use Rattle.ybase_words.proofs.LengthLemmas.{type_found, at_another}
use Rattle.ybase_words.proofs.builtin.BuiltIn.named.Goals as goal

pub returns-then-length-eq5 : goal.returns-then-length-eq5
returns-then-length-eq5 c = c.of_five.ensures ∙ type_found is_five c.args.name.now (ap is_five c.if-length-eq5.true)

pub returns-then-length-eq6 : goal.returns-then-length-eq6
returns-then-length-eq6 c = c.of_six.ensures ∙ type_found is_six c.args.name.now (ap is_six c.if-length-eq6.true)

pub returns-then-length-eq4 : goal.returns-then-length-eq4
returns-then-length-eq4 c = c.of_four.ensures ∙ type_found is_four c.args.name.now (ap is_four c.if-length-eq4.true)

pub returns-else-length-eq4 : goal.returns-else-length-eq4
returns-else-length-eq4 c =
    c.of_another_length.ensures
    ∙ type_found is_another c.args.name.now (at_another (length c.args.name.now) c.if-length-eq4.false c.if-length-eq5.false c.if-length-eq6.false)

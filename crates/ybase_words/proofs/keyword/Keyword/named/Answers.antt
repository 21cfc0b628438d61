use Rattle.std.proofs.Common.{length, ◌∙◌}
use Rattle.ybase_words.specs.Lengths.{is_four, is_six, is_nine, is_short, is_middle, is_long}
use Rattle.ybase_words.proofs.KeywordLemmas.{found_among, at_four, at_six, at_nine, at_short, at_middle, at_long}
use Rattle.ybase_words.proofs.keyword.Keyword.named.Goals as goal

pub returns-then-length-eq4 : goal.returns-then-length-eq4
returns-then-length-eq4 c = let n = length c.args.text.now in c.of_four.ensures ∙ found_among is_four c.args.text.now (at_four n c.if-length-eq4.true)

pub returns-then-length-eq6 : goal.returns-then-length-eq6
returns-then-length-eq6 c = let n = length c.args.text.now in c.of_six.ensures ∙ found_among is_six c.args.text.now (at_six n c.if-length-eq6.true)

pub returns-then-length-eq9 : goal.returns-then-length-eq9
returns-then-length-eq9 c = let n = length c.args.text.now in c.of_nine.ensures ∙ found_among is_nine c.args.text.now (at_nine n c.if-length-eq9.true)

pub returns-then-length-lt6 : goal.returns-then-length-lt6
returns-then-length-lt6 c = let n = length c.args.text.now in c.of_short.ensures ∙ found_among is_short c.args.text.now (at_short n c.if-length-eq4.false c.if-length-lt6.true)

pub returns-then-length-lt9 : goal.returns-then-length-lt9
returns-then-length-lt9 c = let n = length c.args.text.now in c.of_middle.ensures ∙ found_among is_middle c.args.text.now (at_middle n c.if-length-eq6.false c.if-length-lt6.false c.if-length-lt9.true)

pub returns-else-length-lt9 : goal.returns-else-length-lt9
returns-else-length-lt9 c = let n = length c.args.text.now in c.of_long.ensures ∙ found_among is_long c.args.text.now (at_long n c.if-length-eq9.false c.if-length-lt9.false)

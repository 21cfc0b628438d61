use Rattle.std.proofs.Common.{refl}
use Rattle.yspec_wide.proofs.WideLiterals.{ywide_on_literals}
use Rattle.ysay_text.specs.Near.{is_near, nearest}
use Rattle.ysay_circles.specs.Conditions as conditions
use Rattle.ysay_circles.proofs.examples.conditions_of_lines.Goals as goal

pub returns : goal.returns
unfolding ywide_on_literals conditions.of_line is_near nearest
returns c = record {
  near = refl;
  far = refl;
  of_no_import = refl;
  back = refl;
  elsewhere = refl;
}

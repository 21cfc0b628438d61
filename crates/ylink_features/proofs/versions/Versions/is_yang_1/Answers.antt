use Rattle.std.proofs.Common.{ap, ◌∙◌}
use Rattle.yspec_wide.specs.Language.{is_yang_1}
use Rattle.ylink_features.proofs.versions.Versions.is_yang_1.Goals as goal

pub returns : goal.returns
returns c language modules are = c.is_first.ensures ∙ ap is_yang_1 (c.version_of.ensures language modules are)

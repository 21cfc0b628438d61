use Rattle.std.proofs.Common.{codes, ap, refl, ◌∙◌}
use Rattle.clap.specs.Words.{found_of}
use Rattle.yapp_profile.specs.Languages.{unfit_choosing}
use Rattle.yapp_profile.proofs.GivenLemmas.{given_all}
use Rattle.yapp_profile.proofs.language.unfit_choosing_in.Goals as goal

pub returns : goal.returns
returns c = c.first_unfit.ensures
    ∙ ap unfit_choosing (given_all (found_of c.args.found.now) (codes "features") c.get_strs.result _ c.unwrap_or.result c.get_strs.ensures c.unwrap_or.ensures refl)

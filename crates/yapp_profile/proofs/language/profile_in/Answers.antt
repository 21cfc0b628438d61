use Rattle.std.proofs.Common.{codes}
use Rattle.clap.specs.Words.{found_of}
use Rattle.yapp_profile.proofs.GivenLemmas.{given_or}
use Rattle.yapp_profile.proofs.language.profile_in.Goals as goal

pub returns : goal.returns
returns c = given_or (found_of c.args.found.now) (codes "profile") c.get_str.result _ c.unwrap_or.result c.get_str.ensures c.unwrap_or.ensures

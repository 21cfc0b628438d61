use Rattle.std.proofs.Common.{codes}
use Rattle.clap.specs.Words.{found_of}
use Rattle.yapp_profile.proofs.GivenLemmas.{given_first}
use Rattle.yapp_profile.proofs.language.unjudged_in.Goals as goal

pub returns : goal.returns
returns c = given_first (found_of c.args.found.now) (codes "unjudged") c.get_str.result c.get_str.ensures

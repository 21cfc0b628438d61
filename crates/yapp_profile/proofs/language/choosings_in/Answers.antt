use Rattle.std.proofs.Common.{Bor, codes, map, ap, refl, ◌∙◌}
use Rattle.std.proofs.lemmas.Result.{IfOk-weaker}
use Rattle.clap.specs.Words.{found_of, Text}
use Rattle.yapp_profile.proofs.GivenLemmas.{given_all}
use Rattle.yapp_profile.proofs.language.choosings_in.Goals as goal

pub returns : goal.returns
returns c =
    let words = given_all (found_of c.args.found.now) (codes "features") c.get_strs.result _ c.unwrap_or.result c.get_strs.ensures c.unwrap_or.ensures refl in
    IfOk-weaker c.from_slice.result _ _ (λ v made. ap (map (λ (word : Bor Text). word.now)) made ∙ words) c.from_slice.ensures.items

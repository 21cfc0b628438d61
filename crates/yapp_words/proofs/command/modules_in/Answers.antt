use Rattle.std.proofs.Common.{List, [], Option, Bor, codes, map, ap, ◌∙◌}
use Rattle.std.specs.Prelude.{unwrap_or}
use Rattle.std.proofs.lemmas.Result.{IfOk-weaker}
use Rattle.clap.specs.Words.{found_of, Text}
use Rattle.clap.proofs.WalkLemmas.{raw_values-rows}
use Rattle.yapp_profile.proofs.GivenLemmas.{names_or}
use Rattle.yapp_words.proofs.command.modules_in.Goals as goal

pub returns : goal.returns
returns c =
    let found = found_of c.args.found.now in
    let names = ap (λ (b : Bor (List (Bor Text))). map (λ (name : Bor Text). name.now) b.now) c.unwrap_or.ensures ∙ names_or c.get_strs.result _
    ∙ ap (λ (o : Option (List Text)). unwrap_or o []) (c.get_strs.ensures ∙ raw_values-rows found (codes "MODULE")) in
    IfOk-weaker c.from_slice.result _ _ (λ v made. ap (map (λ (name : Bor Text). name.now)) made ∙ names) c.from_slice.ensures.items

use Rattle.std.proofs.Common.{codes, refl, ◌∙◌}
use Rattle.std.proofs.lemmas.Result.{IfOk-weaker}
use Rattle.clap.specs.Words.{found_of}
use Rattle.yapp_words.proofs.CommandLemmas.{drawing_same, given}
use Rattle.yapp_words.proofs.command.drawing_in.Goals as goal

pub returns : goal.returns
returns c =
    let name = given (found_of c.args.found.now) (codes "NAME") _ _ c.unwrap_or-name.result c.get_str.ensures c.unwrap_or-name.ensures refl in
    IfOk-weaker c.drawing_by.result _ _ (λ r is. is ∙ drawing_same _ _ _ _ _ _ _ _ c.has_flag.ensures c.in_ok-language.ensures name c.in_ok-modules.ensures) c.drawing_by.ensures

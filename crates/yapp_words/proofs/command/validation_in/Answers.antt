use Rattle.std.proofs.Common.{codes, refl}
use Rattle.clap.specs.Words.{found_of}
use Rattle.yapp_words.proofs.CommandLemmas.{given, validate_same}
use Rattle.yapp_words.proofs.command.validation_in.Goals as goal

pub returns : goal.returns
returns c =
    let found = found_of c.args.found.now in
    validate_same _ _ _ _ _ _ _ _ c.in_ok-language.ensures c.options_in-options.ensures (given found (codes "DATA") c.get_str.result _ c.unwrap_or-document.result c.get_str.ensures c.unwrap_or-document.ensures refl) c.in_ok-modules.ensures

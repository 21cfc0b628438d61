use Rattle.std.proofs.Common.{codes, refl}
use Rattle.clap.specs.Words.{found_of}
use Rattle.yapp_words.proofs.CommandLemmas.{edit_same, given}
use Rattle.yapp_words.proofs.command.edition_in.Goals as goal

pub returns : goal.returns
returns c =
    let found = found_of c.args.found.now in
    let document = given found (codes "DATA") _ _ c.unwrap_or-document.result c.get_str.ensures c.unwrap_or-document.ensures refl in
    let script = given found (codes "SCRIPT") _ _ c.unwrap_or-script.result c.get_str-2.ensures c.unwrap_or-script.ensures refl in
    edit_same _ _ _ _ _ _ _ _ _ _ c.in_ok-language.ensures c.options_in-options.ensures document script c.in_ok-modules.ensures

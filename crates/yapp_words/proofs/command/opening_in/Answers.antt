use Rattle.std.proofs.Common.{codes, refl}
use Rattle.clap.specs.Words.{found_of}
use Rattle.yapp_words.proofs.CommandLemmas.{given, opening_same}
use Rattle.yapp_words.proofs.command.opening_in.Goals as goal

pub returns : goal.returns
returns c =
    let found = found_of c.args.found.now in
    opening_same _ _ _ _ _ _ _ _ _ _ _ _ _ _ c.in_ok-language.ensures c.has_flag-is_strict.ensures c.remembered_in-remembers.ensures
    c.has_flag-tells_changes.ensures c.has_flag-of_configuration.ensures
    (given found (codes "DATA") c.get_str.result _ c.unwrap_or-document.result c.get_str.ensures c.unwrap_or-document.ensures refl) c.in_ok-modules.ensures

use Rattle.std.proofs.Common.{codes, ap, refl, ◌∙◌}
use Rattle.std.specs.Str.{bytes_eq}
use Rattle.clap.specs.Words.{found_of}
use Rattle.yapp_words.proofs.CommandLemmas.{given}
use Rattle.yapp_words.proofs.command.has_flag.Goals as goal

pub returns : goal.returns
returns c =
    c.eq.ensures ∙ ap (λ t. bytes_eq t (codes "true"))
    (given (found_of c.args.found.now) c.args.name.now _ _ c.unwrap_or.result c.get_str.ensures c.unwrap_or.ensures refl)

use Rattle.std.proofs.Common.{sym}
use Rattle.ylink_grammar.specs.LanguageView.{language_view}
use Rattle.yapp.proofs.modules.parse_text.Goals as goal

pub returns : goal.returns
returns c = c.parse_in.ensures.answer (language_view c.args.language.now) (sym c.reads_versions.ensures)

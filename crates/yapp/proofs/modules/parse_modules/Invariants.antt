use Rattle.std.proofs.Common.{drop}
use Rattle.ytext.specs.View.{modules_view}
use Rattle.ylink_grammar.specs.LanguageView.{language_view}
use Rattle.yapp.proofs.ContentsLemmas.{ParsedSoFar, names_in, texts_in}
use Rattle.yapp.proofs.modules.parse_modules.Given as goal

abbrev pub invariant-loop-name : goal.invariant-loop-name
invariant-loop-name l =
    ParsedSoFar (language_view l.language) (names_in l.names) (texts_in l.contents) (names_in (drop l.name-index l.names)) (texts_in l.rest) (modules_view l.modules.items)

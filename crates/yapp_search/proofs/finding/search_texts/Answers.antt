use Rattle.std.proofs.Common.{ap, map, string_bytes, subst, sym, refl}
use Rattle.ylink_grammar.specs.LanguageView.{language_view}
use Rattle.yapp_search.specs.Reading.{store}
use Rattle.yapp_search.specs.Looking.{IsStart}
use Rattle.yapp_search.proofs.ReadingLemmas.{names_in, texts_in}
use Rattle.yapp_search.proofs.SearchingLemmas.{whole_as, texts_refused}
use Rattle.yapp_search.proofs.finding.search_texts.Goals as goal

pub returns-in-None : goal.returns-in-None
returns-in-None g c =
    let language = language_view c.args.language.now in
    let texts = texts_in c.args.texts.now in
    whole_as _ _ _ _ _ (sym (ap (map string_bytes) c.new.ensures.items))
    (texts_refused language (names_in c.args.folders.now) texts (store g.F.Files.contents g.F.Files.reads g.F.Files.failures c.args.files.now)
    (subst (IsStart language texts) c.in-None.is c.in_ok-sought.ensures))

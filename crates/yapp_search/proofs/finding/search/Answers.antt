use Rattle.std.proofs.Common.{Some, None, Option, List, ℕ, ap, map, string_bytes, subst, sym}
use Rattle.std.specs.Prelude.{option_map}
use Rattle.ylink_grammar.specs.LanguageView.{language_view}
use Rattle.yapp_search.specs.Reading.{store}
use Rattle.yapp_search.proofs.ReadingLemmas.{AreRead, names_in, texts_in}
use Rattle.yapp_search.proofs.SearchingLemmas.{search_read, searched_texts, unread_searched}
use Rattle.yapp_search.proofs.finding.search.Goals as goal

pub returns-in-Some : goal.returns-in-Some
returns-in-Some g c =
    let language = language_view c.args.language.now in
    let folders = names_in c.args.folders.now in
    let names = names_in c.args.names.now in
    let seen = store g.F.Files.contents g.F.Files.reads g.F.Files.failures in
    let before = seen c.args.files.now in
    let between = seen c.read_all.new.files in
    let after = seen c.search_texts.new.files in
    search_read _ language folders names before between after (texts_in c.in-Some.texts.items) c.search_texts.result
    (subst (λ o. AreRead before between names (option_map (λ texts. texts_in texts.items) o)) c.in-Some.is c.in_ok-texts.ensures)
    (searched_texts _ language folders (texts_in c.in-Some.texts.items) (texts_in c.deref.result.now) between after c.search_texts.result (ap texts_in c.deref.ensures.value) c.search_texts.ensures)

pub returns-in-None : goal.returns-in-None
returns-in-None g c =
    let language = language_view c.args.language.now in
    let folders = names_in c.args.folders.now in
    let names = names_in c.args.names.now in
    let seen = store g.F.Files.contents g.F.Files.reads g.F.Files.failures in
    let before = seen c.args.files.now in
    let between = seen c.read_all.new.files in
    unread_searched language folders names before between _ (ap (map string_bytes) c.new.ensures.items)
    (subst (λ o. AreRead before between names (option_map (λ texts. texts_in texts.items) o)) c.in-None.is c.in_ok-texts.ensures)

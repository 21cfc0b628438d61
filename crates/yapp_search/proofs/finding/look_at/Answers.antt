use Rattle.std.proofs.Common.{Some, None, ap, map, string_bytes}
use Rattle.ylink_grammar.specs.LanguageView.{language_view}
use Rattle.ylink_search.specs.WantedView.{wanted_view}
use Rattle.yapp_search.specs.Reading.{store}
use Rattle.yapp_search.proofs.LookingLemmas.{seen_by}
use Rattle.yapp_search.proofs.ReadingLemmas.{names_in}
use Rattle.yapp_search.proofs.SearchingLemmas.{goes_by, none_leads}
use Rattle.yapp_search.proofs.finding.look_at.Goals as goal

pub returns-in-Some : goal.returns-in-Some
returns-in-Some g c =
    let language = language_view c.args.language.now in
    let folders = names_in c.args.folders.now in
    let w = wanted_view c.args.wanted in
    let seen = store g.F.Files.contents g.F.Files.reads g.F.Files.failures in
    let before = seen c.args.files.now in
    let after = seen c.look_for.new.files in
    let known = ap (map string_bytes) c.deref.ensures.value in
    goes_by language folders w c.args.sought.now c.take_found.new.sought before after c.in-Some.found c.take_found.result
    (seen_by language folders w (map string_bytes c.args.sought.now.known.items) (map string_bytes c.deref.result.now) before after _ (Some c.in-Some.found) known c.in-Some.is c.in_ok-found.ensures)
    c.take_found.ensures

pub returns-in-None : goal.returns-in-None
returns-in-None g c =
    let language = language_view c.args.language.now in
    let folders = names_in c.args.folders.now in
    let w = wanted_view c.args.wanted in
    let seen = store g.F.Files.contents g.F.Files.reads g.F.Files.failures in
    let before = seen c.args.files.now in
    let after = seen c.look_for.new.files in
    let known = ap (map string_bytes) c.deref.ensures.value in
    none_leads language folders w c.args.sought.now before after
    (seen_by language folders w (map string_bytes c.args.sought.now.known.items) (map string_bytes c.deref.result.now) before after _ None known c.in-None.is c.in_ok-found.ensures)

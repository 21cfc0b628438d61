use Rattle.std.proofs.Common.{ap, refl, rules, arith}
use Rattle.yspec_search.specs.Search.{import_limit}
use Rattle.ylink_grammar.specs.LanguageView.{language_view}
use Rattle.ylink_search.specs.WantedView.{wanted_view, wanted_views}
use Rattle.yapp_search.specs.Looking.{left_of}
use Rattle.yapp_search.specs.Reading.{store}
use Rattle.yapp_search.specs.declared.starting.Sought.{Sought}
use Rattle.yapp_search.proofs.ReadingLemmas.{names_in}
use Rattle.yapp_search.proofs.SearchingLemmas.{finds_stopped, none_at_all, search_begun, search_ends, search_goes_on, search_limited, searching_stopped}
use Rattle.yapp_search.proofs.finding.search_on.Goals as goal

pub loop-count-init : goal.loop-count-init
loop-count-init g c = search_begun (language_view c.args.language.now) (names_in c.args.folders.now) c.args.sought
    (store g.F.Files.contents g.F.Files.reads g.F.Files.failures c.args.files.now) c.requires

pub loop-count-preserved : goal.loop-count-preserved
loop-count-preserved g c =
    let language = language_view c.args.language.now in
    let folders = names_in c.args.folders.now in
    let whole = left_of language folders import_limit c.args.sought in
    let seen = store g.F.Files.contents g.F.Files.reads g.F.Files.failures in
    let start = seen c.args.files.now in
    let now = seen c.loop-count.files in
    let popped : Sought = record { wanted = c.pop_front.new.self; known = c.loop-count.sought.known; found = c.loop-count.sought.found } in
    search_goes_on language folders whole c.loop-count.count (wanted_view c.in-Some.wanted) c.loop-count.sought popped c.look_at.new.sought start now
    (seen c.look_at.new.files) (search rules) (ap wanted_views c.in-Some.ensures.items) refl refl c.loop-count.invariant c.in_ok-look_at-in-Some.ensures

pub returns-in_err-look_at-in-Some : goal.returns-in_err-look_at-in-Some
returns-in_err-look_at-in-Some g c =
    let language = language_view c.args.language.now in
    let folders = names_in c.args.folders.now in
    let whole = left_of language folders import_limit c.args.sought in
    let seen = store g.F.Files.contents g.F.Files.reads g.F.Files.failures in
    let start = seen c.args.files.now in
    let now = seen c.loop-count.files in
    finds_stopped _ _ _ _ c.from_residual.result c.from_residual.ensures.0
    (searching_stopped language folders whole c.loop-count.count c.loop-count.sought start now (seen c.look_at.new.files) c.loop-count.invariant c.in_err-look_at-in-Some.ensures)

pub returns-in-None : goal.returns-in-None
returns-in-None g c =
    let language = language_view c.args.language.now in
    let folders = names_in c.args.folders.now in
    let whole = left_of language folders import_limit c.args.sought in
    let seen = store g.F.Files.contents g.F.Files.reads g.F.Files.failures in
    let start = seen c.args.files.now in
    let now = seen c.loop-count.files in
    search_ends language folders whole c.loop-count.count c.loop-count.sought start now
    (none_at_all c.loop-count.sought.wanted.items (omega (arith, c.in-None.ensures.cases.0, c.loop-count.sought.wanted.ok.0))) c.loop-count.invariant

pub returns : goal.returns
returns g c =
    let language = language_view c.args.language.now in
    let folders = names_in c.args.folders.now in
    let whole = left_of language folders import_limit c.args.sought in
    let seen = store g.F.Files.contents g.F.Files.reads g.F.Files.failures in
    let start = seen c.args.files.now in
    let now = seen c.loop-count.files in
    search_limited language folders whole c.loop-count.count c.loop-count.sought start now (search rules) c.loop-count.invariant

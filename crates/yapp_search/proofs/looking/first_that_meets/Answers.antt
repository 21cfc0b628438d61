use Rattle.std.proofs.Common.{Some, None, ap, map, string_bytes, subst}
use Rattle.ylink_grammar.specs.LanguageView.{language_view}
use Rattle.ylink_search.specs.WantedView.{wanted_view}
use Rattle.yapp_search.specs.Reading.{store}
use Rattle.yapp_search.proofs.LookingLemmas.{SeenSoFar, first_found, looking_stopped, looks_stopped, one_passed, seen_as}
use Rattle.yapp_search.proofs.looking.first_that_meets.Goals as goal

pub returns-in_err-found : goal.returns-in_err-found
returns-in_err-found g c =
    let seen = store g.F.Files.contents g.F.Files.reads g.F.Files.failures in
    looks_stopped _ _ _ _ c.from_residual.result c.from_residual.ensures.0
    (looking_stopped (language_view c.args.language.now) (wanted_view c.args.wanted.now) (map string_bytes c.args.names.now) (map string_bytes c.loop-file.rest.now)
    (seen c.args.files.now) (seen c.loop-file.files) (seen c.look_in.new.files) c.loop-file.invariant c.in_err-found.ensures)

pub returns-in-Some-2 : goal.returns-in-Some-2
returns-in-Some-2 g c =
    let language = language_view c.args.language.now in
    let w = wanted_view c.args.wanted.now in
    let names = map string_bytes c.args.names.now in
    let seen = store g.F.Files.contents g.F.Files.reads g.F.Files.failures in
    let start = seen c.args.files.now in
    let now = seen c.loop-file.files in
    let after = seen c.look_in.new.files in
    let so_far = subst (λ left. SeenSoFar language w names left start now) (ap (map string_bytes) c.in-Some.ensures.cases.0) c.loop-file.invariant in
    first_found language w names (map string_bytes c.in-Some.others.now) (string_bytes c.in-Some.file.now) c.in-Some-2.found start now after so_far
    (seen_as language w (string_bytes c.in-Some.file.now) c.as_str.result.now now after _ (Some c.in-Some-2.found) c.as_str.ensures.value c.in-Some-2.is c.in_ok-found.ensures)

pub loop-file-preserved : goal.loop-file-preserved
loop-file-preserved g c =
    let language = language_view c.args.language.now in
    let w = wanted_view c.args.wanted.now in
    let names = map string_bytes c.args.names.now in
    let seen = store g.F.Files.contents g.F.Files.reads g.F.Files.failures in
    let start = seen c.args.files.now in
    let now = seen c.loop-file.files in
    let after = seen c.look_in.new.files in
    let so_far = subst (λ left. SeenSoFar language w names left start now) (ap (map string_bytes) c.in-Some.ensures.cases.0) c.loop-file.invariant in
    one_passed language w names (map string_bytes c.in-Some.others.now) (string_bytes c.in-Some.file.now) start now after so_far
    (seen_as language w (string_bytes c.in-Some.file.now) c.as_str.result.now now after _ None c.as_str.ensures.value c.in-None.is c.in_ok-found.ensures)

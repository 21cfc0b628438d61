use Rattle.std.proofs.Common.{◌≡◌, Some, None, length, slice_get, option_and_then, refl, sym, ap, ◌∙◌}
use Rattle.std.proofs.lemmas.Bool.{ltb-false, ltb-true}
use Rattle.std.proofs.lemmas.Option.{slice_get_past, slice_get_read}
use Rattle.ylink_names.specs.RevisionView.{date_view}
use Rattle.ylink_names.proofs.RevisionLemmas.{revision_by_place}
use Rattle.ylink_names.proofs.imports.revision_at.Goals as goal

pub returns-in-Some : goal.returns-in-Some
returns-in-Some c modules revisions =
    let is : Some c.in-Some.found.now ≡ slice_get c.args.newest.now c.args.place = sym
    (slice_get_read c.args.newest.now (length c.args.newest.now) c.args.place c.in-Some.found.now refl
    (ltb-true c.args.place (length c.args.newest.now) (sym c.in-Some.ensures.lookup.0)) c.in-Some.ensures.lookup.1) in
    ap (option_and_then date_view) is ∙ revision_by_place c.args.newest.now modules c.args.place revisions

pub returns-in-None : goal.returns-in-None
returns-in-None c modules revisions =
    let is : None ≡ slice_get c.args.newest.now c.args.place = sym
    (slice_get_past c.args.newest.now c.args.place (ltb-false c.args.place (length c.args.newest.now) (sym c.in-None.ensures.lookup.0))) in
    ap (option_and_then date_view) is ∙ revision_by_place c.args.newest.now modules c.args.place revisions

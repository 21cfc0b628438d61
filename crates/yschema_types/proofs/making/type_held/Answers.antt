use Rattle.std.proofs.Common.{◌≡◌, Some, length, refl, sym, ap, ◌∙◌}
use Rattle.std.specs.Prelude.{slice_get}
use Rattle.std.proofs.lemmas.Option.{slice_get_read, slice_get_past}
use Rattle.yschema_types.specs.MadeTypes.{type_made}
use Rattle.yschema_types.proofs.MakingLemmas.{held_one, held_none}
use Rattle.yschema_types.proofs.making.type_held.Goals as goal

pub returns-in-Some : goal.returns-in-Some
returns-in-Some c =
    let rows = c.args.made.now in
    let n = c.args.number in
    let found = c.in-Some.ensures.lookup in
    let there : slice_get rows n ≡ Some c.in-Some.one.now = slice_get_read rows (length rows) n c.in-Some.one.now refl found.3.0 found.1 in
    c.value_type.ensures ∙ ap type_made (sym (held_one rows n c.in-Some.one.now there))

pub returns-in-None : goal.returns-in-None
returns-in-None c = sym (ap type_made (held_none c.args.made.now c.args.number (slice_get_past c.args.made.now c.args.number c.in-None.ensures.lookup.3)))

use Rattle.std.proofs.Common.{[], Some, None, false, sym, ap, ◌∙◌, arith}
use Rattle.std.specs.Option.{option_map_or}
use Rattle.std.proofs.lemmas.Str.Pattern.{split_parts}
use Rattle.yspec.specs.schema.Schema.{is_called}
use Rattle.yschema_model.specs.Layout.{schema_view}
use Rattle.yschema_model.proofs.MeantLemmas.{plain_meant, plain_by_places, other_meant, own_meant, none_meant, place_named, no_place}
use Rattle.yschema_model.proofs.written.meant_name.Goals as goal

pub returns-in_err-own : goal.returns-in_err-own
returns-in_err-own c differ n named =
    let s = schema_view c.args.modules.now [] in
    let t = c.args.name.now in
    plain_meant s c.args.own t n (plain_by_places t (split_parts 58 t None c.in_default.ensures.cases (omega arith)))
    ∙ ap (λ o. option_map_or (λ m. is_called m t n) o false) c.in_err-own.was
    ∙ sym (ap (λ o. option_map_or (λ m. is_called m.«module» m.name.now n) o false) c.from_residual.ensures)

pub returns-in_default : goal.returns-in_default
returns-in_default c differ n named =
    let s = schema_view c.args.modules.now [] in
    let t = c.args.name.now in
    plain_meant s c.args.own t n (plain_by_places t (split_parts 58 t None c.in_default.ensures.cases (omega arith)))
    ∙ ap (λ o. option_map_or (λ m. is_called m t n) o false) c.in_ok-own.was

pub returns-in_err-module : goal.returns-in_err-module
returns-in_err-module c differ n named =
    let s = schema_view c.args.modules.now [] in
    let t = c.args.name.now in
    let a = c.in-Some.«module».now in
    let b = c.in-Some.behind.now in
    let cut = split_parts 58 t (Some (c.in-Some.«module», c.in-Some.behind)) c.in-Some.ensures.cases (omega arith) in
    none_meant s t a b n cut.0 (plain_by_places a cut.1) differ named c.args.own
    (no_place c.args.modules.now a n.module_number (sym c.module_named.ensures ∙ c.in_err-module.was) named.1)
    ∙ sym (ap (λ o. option_map_or (λ m. is_called m.«module» m.name.now n) o false) c.from_residual-in_err-module.ensures)

pub returns-then-eq : goal.returns-then-eq
returns-then-eq c differ n named =
    let s = schema_view c.args.modules.now [] in
    let t = c.args.name.now in
    let a = c.in-Some.«module».now in
    let b = c.in-Some.behind.now in
    let cut = split_parts 58 t (Some (c.in-Some.«module», c.in-Some.behind)) c.in-Some.ensures.cases (omega arith) in
    let place = place_named c.args.modules.now a c.in_ok-module.«module» (sym c.module_named.ensures ∙ c.in_ok-module.was) in
    own_meant s t a b n cut.0 (plain_by_places a cut.1) differ named c.args.own c.in_ok-module.«module» place.0 place.1 (sym c.eq.ensures ∙ c.if-eq.true)

pub returns : goal.returns
returns c differ n named =
    let s = schema_view c.args.modules.now [] in
    let t = c.args.name.now in
    let a = c.in-Some.«module».now in
    let b = c.in-Some.behind.now in
    let cut = split_parts 58 t (Some (c.in-Some.«module», c.in-Some.behind)) c.in-Some.ensures.cases (omega arith) in
    let place = place_named c.args.modules.now a c.in_ok-module.«module» (sym c.module_named.ensures ∙ c.in_ok-module.was) in
    other_meant s t a b n cut.0 (plain_by_places a cut.1) differ named c.args.own c.in_ok-module.«module» place.0 place.1 (sym c.eq.ensures ∙ c.if-eq.false)

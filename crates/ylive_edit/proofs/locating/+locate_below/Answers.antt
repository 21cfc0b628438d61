use Rattle.std.proofs.Common.{rules, ◌≡◌, ◌≤◌, [], ◌∷◌, ◌++◌, length, ap, arith, ◌∙◌}
use Rattle.std.proofs.lemmas.List.{length-map}
use Rattle.yschema_model.specs.View as schema_view
use Rattle.yinst_path.specs.Binding.{step_view, steps_view}
use Rattle.ystore.specs.Views.{store_of}
use Rattle.ylive_edit.proofs.LocatingLemmas.{none_left, at_read, at_further, last_located, further_located, refused_located}
use Rattle.ylive_edit.proofs.locating.+locate_below.Goals as goal

pub returns-in-Some-default-empty-clause-place : goal.returns-in-Some-default-empty-clause-place
returns-in-Some-default-empty-clause-place t c = λ tree so_far f at.
    let s = schema_view.view c.args.schema.now in
    let rest = c.in-Some-default-empty.field-0-1.now in
    let all : c.args.steps.now ≡ c.in-Some-default-empty.step.now ∷ rest = search rules in
    let e = all ∙ ap (λ xs. c.in-Some-default-empty.step.now ∷ xs) (none_left rest c.in-Some-default-empty.len_below) in
    last_located s (store_of c.args.counted.now) tree so_far c.args.above f (step_view s c.in-Some-default-empty.step.now) (steps_view s c.args.steps.now) (ap (steps_view s) e) at

pub returns-in-Ok-clause-place : goal.returns-in-Ok-clause-place
returns-in-Ok-clause-place t c = λ tree so_far f at.
    let s = schema_view.view c.args.schema.now in
    let b = c.in-Some.step.now in
    let meant = c.in-Ok.ensures.meets tree so_far f at in
    let step = meant.0 in
    let same = meant.2 in
    let found = meant.3 in
    let mid = store_of c.instance_meant.new.counted in
    let on = at_further s mid tree so_far c.args.above f step b.id c.in-Ok.node (at_read s (store_of c.args.counted.now) mid tree so_far c.args.above f at c.in-Ok.ensures.kept) found same in
    let e : c.args.steps.now ≡ c.in-Some.step.now ∷ c.in-Some.more.now = search rules in
    let long = length-map c.in-Some.more.now (step_view s) in
    let least = c.in-Some.len_at_least in
    let some : 1 ≤ length (steps_view s c.in-Some.more.now) = omega (arith, long, least) in
    further_located s (store_of c.locate_below.new.counted) tree so_far f (step_view s b) (steps_view s c.args.steps.now) (steps_view s c.in-Some.more.now) step b.id c.in-Ok.node
    c.locate_below.result (ap (steps_view s) e) some meant.1 found same (c.locate_below.ensures.place tree (so_far ++ step ∷ []) found.below on)

pub returns-in-Err-clause-place : goal.returns-in-Err-clause-place
returns-in-Err-clause-place t c = λ tree so_far f at.
    let s = schema_view.view c.args.schema.now in
    let e : c.args.steps.now ≡ c.in-Some.step.now ∷ c.in-Some.more.now = search rules in
    let long = length-map c.in-Some.more.now (step_view s) in
    let least = c.in-Some.len_at_least in
    let some : 1 ≤ length (steps_view s c.in-Some.more.now) = omega (arith, long, least) in
    refused_located s (store_of c.instance_meant.new.counted) tree so_far f (step_view s c.in-Some.step.now) (steps_view s c.args.steps.now) (steps_view s c.in-Some.more.now) c.in-Err.fault
    (ap (steps_view s) e) some (c.in-Err.ensures.meets tree so_far f at)

pub returns-in-Ok-clause-reads : goal.returns-in-Ok-clause-reads
returns-in-Ok-clause-reads t c =
    let two = c.in-Ok.ensures.reads in
    let rest = c.locate_below.ensures.reads in
    let e : c.args.steps.now ≡ c.in-Some.step.now ∷ c.in-Some.more.now = search rules in
    let long = ap length e in
    let least = c.in-Some.len_at_least in
    omega (arith, two, rest, long, least)

pub returns-in-Err-clause-reads : goal.returns-in-Err-clause-reads
returns-in-Err-clause-reads t c =
    let two = c.in-Err.ensures.reads in
    let e : c.args.steps.now ≡ c.in-Some.step.now ∷ c.in-Some.more.now = search rules in
    let long = ap length e in
    let least = c.in-Some.len_at_least in
    omega (arith, two, long, least)

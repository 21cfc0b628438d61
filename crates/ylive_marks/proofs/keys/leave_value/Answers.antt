use Rattle.std.proofs.Common.{◌≡◌, ◌∙◌, arith, refl, true, false}
use Rattle.std.proofs.lemmas.Bool.{eq-eqb, ne_eqb}
use Rattle.ystore.specs.Entries.{without_node}
use Rattle.ystore.specs.Held.{with_judged}
use Rattle.ystore.specs.Views.{store_of}
use Rattle.ystore_rows.specs.declared.row.Row.TheVariants.{Below}
use Rattle.ystore.specs.declared.record.Judged.TheVariants.{Right}
use Rattle.ylive_marks.specs.Keys.{found_at}
use Rattle.ylive_marks.proofs.KeyLemmas.{found_still}
use Rattle.ylive_marks.proofs.FellowLemmas.{told_where}
use Rattle.ylive_marks.proofs.JoinLemmas.{enters, enters_read, entered_instances, no_faults, left_value}
use Rattle.ylive_marks.proofs.keys.leave_value.Goals as goal

pub returns-then-found_count-gt0-clause-follows : goal.returns-then-found_count-gt0-clause-follows
returns-then-found_count-gt0-clause-follows c is_value keys f tree agrees all has =
    let first = store_of c.args.counted.now in
    let changed = store_of c.take_holder.new.self in
    let second = store_of c.found_count.new.counted in
    let made = enters c.args.key.now (without_node c.args.id) first changed c.take_holder.ensures.store in
    let entered = enters_read c.args.key.now (without_node c.args.id) first changed second made c.found_count.ensures.kept in
    let counts : c.found_count.result ≡ found_at first c.args.key.now =
    c.found_count.ensures.found ∙ found_still first changed c.args.key.now
    (entered_instances c.keys_alike.ensures c.args.key.now (without_node c.args.id) first changed made (λ e. refl)) in
    left_value c.keys_alike.ensures c.args.key.now c.args.id keys f first second second (no_faults second) tree agrees all entered has false is_value
    (ne_eqb (found_at first c.args.key.now) 0 (λ none. absurd (let more = c.if-found_count-gt0.true in let e = counts in omega (arith, none, more, e))))
    (λ row. refl) (λ t a s is. a)
    (let a = c.take_holder.ensures.store.reads in let b = c.found_count.ensures.reads in omega (arith, a, b)) (λ t s. (omega arith, λ y none. refl))

pub returns-clause-follows : goal.returns-clause-follows
returns-clause-follows c is_value keys f tree agrees all has =
    let first = store_of c.args.counted.now in
    let changed = store_of c.take_holder.new.self in
    let second = store_of c.found_count.new.counted in
    let made = enters c.args.key.now (without_node c.args.id) first changed c.take_holder.ensures.store in
    let entered = enters_read c.args.key.now (without_node c.args.id) first changed second made c.found_count.ensures.kept in
    let counts : c.found_count.result ≡ found_at first c.args.key.now =
    c.found_count.ensures.found ∙ found_still first changed c.args.key.now
    (entered_instances c.keys_alike.ensures c.args.key.now (without_node c.args.id) first changed made (λ e. refl)) in
    left_value c.keys_alike.ensures c.args.key.now c.args.id keys f first second (store_of c.tell_judged.new.counted) c.tell_judged.ensures.told.kept tree agrees all entered has true is_value
    (eq-eqb (found_at first c.args.key.now) 0 (let more = c.if-found_count-gt0.false in let e = counts in omega (arith, more, e)))
    (told_where (Below c.args.id) (with_judged Right) second (store_of c.tell_judged.new.counted) c.tell_judged.ensures.told) (λ t a s is. c.tell_judged.ensures.totals f t a s is)
    (let a = c.take_holder.ensures.store.reads in let b = c.found_count.ensures.reads in omega (arith, a, b)) (λ t s. (c.tell_judged.ensures.reads f t s, λ y none. c.tell_judged.ensures.beside f y t s none))

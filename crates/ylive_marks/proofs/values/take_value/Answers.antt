use Rattle.std.proofs.Common.{subst, ◌≡◌, ◌∙◌, ◌-◌, ap, sym, refl, arith, true, false, cond, eqb}
use Rattle.std.proofs.lemmas.Bool.{eq-eqb, ne_eqb}
use Rattle.ystore.specs.Entries.{without_instance}
use Rattle.ystore.specs.Store.{holders_at, instances_at}
use Rattle.ystore.specs.Views.{store_of}
use Rattle.ystore.specs.declared.record.Judged.TheVariants.{Right, Missing}
use Rattle.ylive_marks.specs.Keys.{Follows, judged_by, judging}
use Rattle.ylive_marks.proofs.TellLemmas.{one_read}
use Rattle.ylive_marks.proofs.JoinLemmas.{enters, enters_read, no_faults}
use Rattle.ylive_marks.proofs.ValueLemmas.{valued, holder_is, last_one, one_is, one_less}
use Rattle.ylive_marks.proofs.values.take_value.Goals as goal

pub returns-then-instance_count-gt0-clause-follows : goal.returns-then-instance_count-gt0-clause-follows
returns-then-instance_count-gt0-clause-follows c keys f tree agrees all is_value not_texts some_left =
    let key = c.args.key.now in
    let first = store_of c.args.counted.now in
    let taken = store_of c.take_instance.new.self in
    let second = store_of c.instance_count.new.self in
    let made = enters key without_instance first taken c.take_instance.ensures.store in
    let entered = enters_read key without_instance first taken second made (one_read taken second c.instance_count.ensures.counted.store) in
    let counts : c.instance_count.result ≡ instances_at first key - 1 = c.instance_count.ensures.count ∙ one_less first taken key made in
    let test : eqb (instances_at first key - 1) 0 ≡ false =
    ne_eqb (instances_at first key - 1) 0 (λ none. absurd (let more = c.if-instance_count-gt0.true in let e = counts in omega (arith, none, more, e))) in
    subst (λ b. Follows (judging b (holders_at first key) f) keys f first second) (sym test ∙ one_is (instances_at first key) some_left) (
    valued c.keys_alike.ensures key without_instance (λ n. n - 1) keys f first second second (no_faults second) entered tree agrees all (λ e. refl) (λ e. refl) is_value not_texts false Missing
    (sym (ap (λ b. cond b Missing (judged_by (instances_at first key))) test) ∙ last_one (instances_at first key) some_left) refl
    (λ row. refl) (λ t a. a)
    (let a = c.take_instance.ensures.store.reads in let b = c.instance_count.ensures.counted.store.counted in omega (arith, a, b)) (λ t h. (omega arith, λ y none. refl)))

pub returns-clause-follows : goal.returns-clause-follows
returns-clause-follows c keys f tree agrees all is_value not_texts some_left =
    let key = c.args.key.now in
    let first = store_of c.args.counted.now in
    let taken = store_of c.take_instance.new.self in
    let second = store_of c.instance_count.new.self in
    let made = enters key without_instance first taken c.take_instance.ensures.store in
    let entered = enters_read key without_instance first taken second made (one_read taken second c.instance_count.ensures.counted.store) in
    let counts : c.instance_count.result ≡ instances_at first key - 1 = c.instance_count.ensures.count ∙ one_less first taken key made in
    let test : eqb (instances_at first key - 1) 0 ≡ true =
    eq-eqb (instances_at first key - 1) 0 (let more = c.if-instance_count-gt0.false in let e = counts in omega (arith, more, e)) in
    subst (λ b. Follows (judging b (holders_at first key) f) keys f first (store_of c.judge_holders.new.counted)) (sym test ∙ one_is (instances_at first key) some_left) (
    valued c.keys_alike.ensures key without_instance (λ n. n - 1) keys f first second (store_of c.judge_holders.new.counted) c.judge_holders.ensures.kept entered tree agrees all (λ e. refl) (λ e. refl) is_value not_texts true Missing
    (sym (ap (λ b. cond b Missing (judged_by (instances_at first key))) test) ∙ last_one (instances_at first key) some_left) refl
    c.judge_holders.ensures.told (λ t a. c.judge_holders.ensures.totals f t a (λ x some. holder_is c.keys_alike.ensures key without_instance (λ n. n - 1) keys f first second (store_of c.judge_holders.new.counted) c.judge_holders.ensures.kept entered tree agrees all (λ e. refl) (λ e. refl) is_value not_texts x Right (ap (λ c. cond c Missing Right) (ne_eqb (instances_at first key) 0 (λ none. absurd (omega (arith, none, some_left))))) some))
    (let a = c.take_instance.ensures.store.reads in let b = c.instance_count.ensures.counted.store.counted in omega (arith, a, b))
    (λ t h. (let more = c.judge_holders.ensures.reads f t h in omega (arith, more), c.judge_holders.ensures.beside f t h)))

use Rattle.std.proofs.Common.{subst, ◌≡◌, ◌∙◌, ◌+◌, ◌-◌, ◌^◌, min, ap, sym, refl, arith, true, false, cond, eqb}
use Rattle.std.proofs.lemmas.Bool.{eq-eqb, ne_eqb}
use Rattle.ystore.specs.Entries.{with_instance}
use Rattle.ystore.specs.Store.{holders_at, instances_at}
use Rattle.ystore.specs.Views.{store_of}
use Rattle.ystore.specs.declared.record.Judged.TheVariants.{Right, Missing}
use Rattle.ylive_marks.specs.Keys.{Follows, judged_by, judging}
use Rattle.ylive_marks.proofs.TellLemmas.{one_read}
use Rattle.ylive_marks.proofs.JoinLemmas.{enters, read_enters, no_faults}
use Rattle.ylive_marks.proofs.ValueLemmas.{valued, holder_is, first_one}
use Rattle.ylive_marks.proofs.values.add_value.Goals as goal

pub returns-then-instances-gt0-clause-follows : goal.returns-then-instances-gt0-clause-follows
returns-then-instances-gt0-clause-follows c keys f tree agrees all is_value not_texts =
    let key = c.args.key.now in
    let first = store_of c.args.counted.now in
    let read = store_of c.instance_count-instances.new.self in
    let second = store_of c.add_instance.new.self in
    let entered = read_enters key with_instance first read second (one_read first read c.instance_count-instances.ensures.counted.store) (enters key with_instance read second c.add_instance.ensures.store) in
    let test : eqb (instances_at first key) 0 ≡ false =
    ne_eqb (instances_at first key) 0 (λ none. absurd (let more = c.if-instances-gt0.true in let e = c.instance_count-instances.ensures.count in omega (arith, none, more, e))) in
    subst (λ b. Follows (judging b (holders_at first key) f) keys f first second) (sym test) (
    valued c.keys_alike.ensures key with_instance (λ n. min (n + 1) (2 ^ 64 - 1)) keys f first second second (no_faults second) entered tree agrees all (λ e. refl) (λ e. refl) is_value not_texts false Right
    (sym (ap (λ b. cond b Right (judged_by (instances_at first key))) test) ∙ first_one (instances_at first key)) refl
    (λ row. refl) (λ t a. a)
    (let a = c.instance_count-instances.ensures.counted.store.counted in let b = c.add_instance.ensures.store.reads in omega (arith, a, b)) (λ t h. (omega arith, λ y none. refl)))

pub returns-clause-follows : goal.returns-clause-follows
returns-clause-follows c keys f tree agrees all is_value not_texts =
    let key = c.args.key.now in
    let first = store_of c.args.counted.now in
    let read = store_of c.instance_count-instances.new.self in
    let second = store_of c.add_instance.new.self in
    let entered = read_enters key with_instance first read second (one_read first read c.instance_count-instances.ensures.counted.store) (enters key with_instance read second c.add_instance.ensures.store) in
    let test : eqb (instances_at first key) 0 ≡ true =
    eq-eqb (instances_at first key) 0 (let more = c.if-instances-gt0.false in let e = c.instance_count-instances.ensures.count in omega (arith, more, e)) in
    subst (λ b. Follows (judging b (holders_at first key) f) keys f first (store_of c.judge_holders.new.counted)) (sym test) (
    valued c.keys_alike.ensures key with_instance (λ n. min (n + 1) (2 ^ 64 - 1)) keys f first second (store_of c.judge_holders.new.counted) c.judge_holders.ensures.kept entered tree agrees all (λ e. refl) (λ e. refl) is_value not_texts true Right
    (sym (ap (λ b. cond b Right (judged_by (instances_at first key))) test) ∙ first_one (instances_at first key)) refl
    c.judge_holders.ensures.told (λ t a. c.judge_holders.ensures.totals f t a (λ x some. holder_is c.keys_alike.ensures key with_instance (λ n. min (n + 1) (2 ^ 64 - 1)) keys f first second (store_of c.judge_holders.new.counted) c.judge_holders.ensures.kept entered tree agrees all (λ e. refl) (λ e. refl) is_value not_texts x Missing (ap (λ c. cond c Missing Right) test) some))
    (let a = c.instance_count-instances.ensures.counted.store.counted in let b = c.add_instance.ensures.store.reads in omega (arith, a, b))
    (λ t h. (let more = c.judge_holders.ensures.reads f t h in omega (arith, more), c.judge_holders.ensures.beside f t h)))

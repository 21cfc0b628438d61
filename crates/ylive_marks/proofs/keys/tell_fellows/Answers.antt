use Rattle.std.proofs.Common.{arith}
use Rattle.ystore.specs.Views.{store_of}
use Rattle.ylive_marks.proofs.FellowLemmas.{both_reads, both_told, both_totals, both_beside}
use Rattle.ylive_marks.proofs.keys.tell_fellows.Goals as goal

pub returns-clause-told : goal.returns-clause-told
returns-clause-told c =
    both_told c.args.id c.in-Some.other c.args.number c.args.is_same (store_of c.args.counted.now) (store_of c.tell_same.new.counted) (store_of c.tell_same-2.new.counted)
    c.tell_same.ensures.told c.tell_same-2.ensures.told c.args.fellow c.args.fellows c.in-Some.is
    (let a = c.if-fellows-eq0.false in let b = c.if-fellows-gt1.false in omega (arith, a, b))

pub returns-clause-totals : goal.returns-clause-totals
returns-clause-totals c f tree all touches differ =
    both_totals c.args.id c.in-Some.other c.args.number c.args.is_same (store_of c.args.counted.now) (store_of c.tell_same.new.counted) (store_of c.tell_same-2.new.counted)
    c.tell_same.ensures.told c.tell_same-2.ensures.told c.args.fellow c.args.fellows c.in-Some.is
    (let a = c.if-fellows-eq0.false in let b = c.if-fellows-gt1.false in omega (arith, a, b)) f tree all
    (λ stands flag. c.tell_same.ensures.totals f tree all stands flag)
    (λ tree all stands flag. c.tell_same-2.ensures.totals f tree all stands flag) touches differ

pub returns-clause-reads : goal.returns-clause-reads
returns-clause-reads c f tree touches =
    both_reads c.args.id c.in-Some.other c.args.number c.args.is_same (store_of c.args.counted.now) (store_of c.tell_same.new.counted) (store_of c.tell_same-2.new.counted)
    c.args.fellow c.args.fellows c.in-Some.is
    (let a = c.if-fellows-eq0.false in let b = c.if-fellows-gt1.false in omega (arith, a, b)) c.tell_same.ensures.told.kept f tree touches
    (λ t s. c.tell_same.ensures.reads f t s) (λ t s. c.tell_same-2.ensures.reads f t s)

pub returns-clause-beside : goal.returns-clause-beside
returns-clause-beside c f tree touches x none =
    both_beside c.args.id c.in-Some.other (store_of c.args.counted.now) (store_of c.tell_same.new.counted) (store_of c.tell_same-2.new.counted)
    c.args.fellow c.args.fellows c.in-Some.is
    (let a = c.if-fellows-eq0.false in let b = c.if-fellows-gt1.false in omega (arith, a, b)) c.tell_same.ensures.told.kept f tree touches x
    (λ t s. c.tell_same.ensures.beside f x t s none) (λ t s. c.tell_same-2.ensures.beside f x t s none)

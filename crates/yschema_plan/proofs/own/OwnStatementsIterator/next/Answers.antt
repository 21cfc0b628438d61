use Rattle.std.proofs.Common.{◌≡◌, true, false, ◌∷◌, length, sym, ap, ◌∙◌, rules, arith}
use Rattle.yspec.specs.linking.Source.{is_source_of, all_with}
use Rattle.ybase_preorder.specs.View.{row_by, label_by}
use Rattle.ybase_words.specs.KeywordView.{keyword_view}
use Rattle.ylink_grammar.specs.SourceView.{source_view}
use Rattle.yschema_plan.specs.OwnView.{left}
use Rattle.yschema_plan.proofs.OwnLemmas.{one_found, one_passed}
use Rattle.yschema_plan.proofs.own.OwnStatementsIterator.next.Goals as goal

pub returns-then-is-clause-steps : goal.returns-then-is-clause-steps
returns-then-is-clause-steps c =
    let k = keyword_view c.loop-statement.self.keyword in
    let n = c.in-Some.statement in
    let found : is_source_of k (label_by source_view n) ≡ true = first_of (search rules, cc) in
    sym c.loop-statement.invariant ∙ one_found k c.loop-statement.rest c.next.new.self n c.in-Some.ensures.steps found

pub returns-then-is-clause-goes : goal.returns-then-is-clause-goes
returns-then-is-clause-goes c =
    let k = keyword_view c.loop-statement.self.keyword in
    let n = c.in-Some.statement in
    let found : is_source_of k (label_by source_view n) ≡ true = first_of (search rules, cc) in
    let one : left c.args.self.now ≡ label_by source_view n ∷ all_with k (row_by source_view c.next.new.self) =
    sym c.loop-statement.invariant ∙ one_found k c.loop-statement.rest c.next.new.self n c.in-Some.ensures.steps found in
    record { on = λ _. (tt, tt, omega (arith, ap length one)); keeps = tt; rests = λ _. tt }

pub loop-statement-preserved : goal.loop-statement-preserved
loop-statement-preserved c =
    let k = keyword_view c.loop-statement.self.keyword in
    let n = c.in-Some.statement in
    let other : is_source_of k (label_by source_view n) ≡ false = first_of (search rules, cc) in
    sym (one_passed k c.loop-statement.rest c.next.new.self n c.in-Some.ensures.steps other) ∙ c.loop-statement.invariant

-- A document of which a row is changed is told of again: the steps, one after another.
use Rattle.std.proofs.Common.{◌≡◌, ℕ, suc, ◌+◌, ◌^◌, ◌≤◌, List, [], ◌∷◌, length, Option, None, option_map, refl, ap, arith, cond, ◌*◌}
use Rattle.yspec.specs.Forest.{end, size, levels}
use Rattle.yspec.specs.schema.Schema.{Schema, row_at}
use Rattle.yspec.specs.types.Types.{Val}
use Rattle.yspec.specs.document.Document.{instances_in}
use Rattle.ycheck.specs.declared.fault.FaultCode.{FaultCode}
use Rattle.yschema_model.specs.declared.node.SchemaId.{SchemaId}
use Rattle.ystore.specs.Held.{with_play}
use Rattle.ystore.specs.Store.{entry_at, instances_at, same_key, same_row, reads}
use Rattle.ystore_rows.specs.declared.row.NodeId.{NodeId}
use Rattle.ystore_rows.specs.declared.row.Row.{Row}
use Rattle.ystore_rows.specs.declared.row.Row.TheVariants.{Top}
use Rattle.ystore.specs.declared.key.Key as rust
use Rattle.ystore.specs.declared.nodes.Nodes.{Nodes}
use Rattle.ystore_tree.specs.Hanging.{Branches, Keeps, tree_of}
use Rattle.ystore_tree.specs.Ways.{around, end_of}
use Rattle.ystore_tree.specs.declared.swapping.Swap.{Swap}
use Rattle.yspec_play.proofs.AbsenceLemmas.{few_absences}
use Rattle.ylive_facts.specs.InPlay.{absence_views}
use Rattle.ylive_marks.specs.Keys.{Agrees, Keys, slot_of, two_climbs}
use Rattle.ylive_marks.specs.Totals.{IsTree, OnlyFaults, StandsIn, TellsNothing, Totals, told_at}
use Rattle.ylive_marks.proofs.LawLemmas.{faults_shapes, tree_kept}
use Rattle.ylive_retell.specs.Assigned.{CanJoin, CanLeave, joined, left}
use Rattle.ylive_retell.specs.Growing.{AreThere, times_valued}
use Rattle.ylive_retell.specs.IsTold.{IsFresh, IsTold}
use Rattle.ylive_retell.specs.Joins.{CanHoldAll, Follows, KeepsInstances, Tidies, WithdrawsValues}
use Rattle.ylive_retell.specs.Plans.{IsReady, Plans, row_schema}
use Rattle.ylive_retell.specs.Reads.{change_reads, withdraw_reads}
use Rattle.ylive_retell.specs.Standing.{Every, standing}
use Rattle.ylive_retell.specs.Telling.{AreNew, told_by}
use Rattle.ylive_retell.specs.declared.planning.Plan.{Plan}
use Rattle.ylive_retell.proofs.AgainLemmas.{told_again, joined_reads}
use Rattle.ylive_retell.proofs.JoiningLemmas.{tree_on}
use Rattle.ylive_retell.proofs.RetellLemmas.{can_leave_all, withdraws}
use Rattle.ylive_retell.proofs.RetoldLemmas.{are_new_then, no_faults}
use Rattle.ylive_retell.proofs.SwappedLemmas.{few_come}

pub length_views : (ps : List (FaultCode × SchemaId)) → length (absence_views ps) ≡ length ps
length_views [] = refl
length_views (p ∷ ps) = ap suc (length_views ps)

-- what keys that are left do, where values come and go too
abbrev pub Withdraws : Nodes → Nodes → List (SchemaId × Val) → List (SchemaId × Val) → List (rust.Key × NodeId) → Type 0
Withdraws start mid comes goes leaves = WithdrawsValues start comes goes → (held : Keys) (h : Branches) → IsTree start h → Agrees start held h → Totals start h
    → CanLeave slot_of same_key held leaves → Follows (left slot_of leaves held) h start mid

-- and keys that are joined
abbrev pub JoinsKeys : Nodes → Nodes → List (rust.Key × NodeId) → Type 0
JoinsKeys told met joins = (held : Keys) (h : Branches) → IsTree told h → Agrees told held h → Totals told h → CanJoin slot_of held joins → CanHoldAll told h joins
    → Follows (joined slot_of joins held) h told met

-- what is read meanwhile
abbrev pub ReadsWithdrawn : Nodes → Nodes → List (SchemaId × Val) → List (SchemaId × Val) → List (rust.Key × NodeId) → Type 0
ReadsWithdrawn start mid comes goes leaves = WithdrawsValues start comes goes → (held : Keys) (h : Branches) → IsTree start h → Agrees start held h → Totals start h
    → CanLeave slot_of same_key held leaves → reads mid ≤ reads start + withdraw_reads (instances_at start) (left slot_of leaves held) leaves comes goes h

abbrev pub ReadsJoined : Nodes → Nodes → List (rust.Key × NodeId) → Type 0
ReadsJoined told met joins = (held : Keys) (h : Branches) → IsTree told h → Agrees told held h → Totals told h → CanJoin slot_of held joins → CanHoldAll told h joins
    → reads met ≤ reads told + length joins * two_climbs h

module _ (schema : Schema) (swap : Swap) (plan : Plan) (start mid changed told met last : Nodes) (r : IsReady swap start) (is : IsTold schema start (around r.way r.f))
    (fresh : Every (IsFresh schema start) (standing (end_of Top r.way) r.loose)) (plans : Plans schema r.way r.f r.loose r.g r.left plan)
    (there : AreThere start plan.comes.items) (size_new : size (around r.way r.g) ≤ 2 ^ 28) (few_rows : (o : Option ℕ) → size (row_at schema o) ≤ 2 ^ 32)
    (withdrawn : Withdraws start mid plan.comes.items plan.goes.items plan.leaves.items)
    (instances : WithdrawsValues start plan.comes.items plan.goes.items → (key : rust.Key)
    → instances_at mid key + times_valued key plan.goes.items ≡ instances_at start key + times_valued key plan.comes.items)
    (keeps_then : Keeps changed (around r.way r.g) swap.above end)
    (change_totals : Totals mid (around r.way r.f) → TellsNothing mid r.loose → size (around r.way r.g) ≤ 2 ^ 28 → length plan.absences.items ≤ 2 ^ 32
    → Totals changed (around r.way r.g))
    (tells : (row : Row) → StandsIn row (around r.way r.g)
    → told_at changed row ≡ cond (same_row swap.above row) (option_map (with_play plan.absences.items) (told_at mid row)) (told_at mid row))
    (entries : (key : rust.Key) → entry_at changed key ≡ entry_at mid key)
    (news : (row : Row) → told_at told row ≡ told_by plan.news.items row (told_at changed row))
    (news_totals : (h : Branches) → IsTree changed h → Totals changed h → AreNew changed h plan.news.items → Totals told h) (only : OnlyFaults changed told)
    (joins : JoinsKeys told met plan.joins.items)
    (join_instances : KeepsInstances told met) (tidies : Tidies met last) where
  ready : WithdrawsValues start plan.comes.items plan.goes.items
  ready =
      withdraws schema r.way r.f r.loose r.g r.left swap.schema swap.change r.swaps plan plans start r.keeps.once is is.totals.small.few
      (let new = few_come r.way swap.schema swap.change r.f r.loose r.g r.left r.swaps in omega (arith, new, size_new)) there

  follows : Follows (left slot_of plan.leaves.items is.held) (around r.way r.f) start mid
  follows =
      withdrawn ready is.held (around r.way r.f) (tree_kept start (around r.way r.f) swap.above r.loose r.keeps) is.agrees is.totals
      (can_leave_all schema r.way r.f r.loose r.g r.left swap.schema swap.change r.swaps plan plans start r.keeps.once is)

  few_absent : length plan.absences.items ≤ 2 ^ 32
  few_absent =
      let views = ap length plans.absences in
      let same : length (absence_views plan.absences.items) ≡ length plan.absences.items = length_views plan.absences.items in
      let most = few_absences (row_at schema (row_schema None r.way)) (instances_in (tree_of r.g)) [] in
      let rows = few_rows (row_schema None r.way) in
      omega (arith, views, same, most, rows)

  totals_changed : Totals changed (around r.way r.g)
  totals_changed =
      change_totals follows.totals
      (no_faults schema r.way r.f r.loose r.g r.left swap.schema swap.change r.swaps plan plans start r.keeps.once is swap.above r.at mid changed told follows tells entries news only fresh) size_new few_absent

  tree_changed : IsTree changed (around r.way r.g)
  tree_changed = tree_kept changed (around r.way r.g) swap.above end keeps_then

  pub told_whole : IsTold schema last (around r.way r.g)
  told_whole =
      told_again schema r.way r.f r.loose r.g r.left swap.schema swap.change r.swaps plan plans start r.keeps.once is swap.above r.at mid changed told follows tells entries news only fresh met last
      (tree_on changed told (around r.way r.g) (faults_shapes changed told only) tree_changed)
      (news_totals (around r.way r.g) tree_changed totals_changed
      (are_new_then schema r.way r.f r.loose r.g r.left swap.schema swap.change r.swaps plan plans start r.keeps.once is swap.above r.at mid changed told follows tells entries news only fresh few_rows))
      joins join_instances tidies (instances ready)

  pub reads_whole : ReadsWithdrawn start mid plan.comes.items plan.goes.items plan.leaves.items
      → reads changed ≤ reads mid + (2 + (length r.way + levels (around r.way r.g)))
      → ((h : Branches) → IsTree changed h → AreNew changed h plan.news.items → reads told ≤ reads changed + length plan.news.items * (1 + 2 * levels h))
      → ReadsJoined told met plan.joins.items → reads last ≡ reads met
      → reads last ≤ reads start + change_reads (instances_at start) (left slot_of plan.leaves.items is.held) plan r.way r.f r.g
  reads_whole withdrawing changing telling joining tidying =
      let one = withdrawing ready is.held (around r.way r.f) (tree_kept start (around r.way r.f) swap.above r.loose r.keeps) is.agrees is.totals
      (can_leave_all schema r.way r.f r.loose r.g r.left swap.schema swap.change r.swaps plan plans start r.keeps.once is) in
      let are_new = are_new_then schema r.way r.f r.loose r.g r.left swap.schema swap.change r.swaps plan plans start r.keeps.once is swap.above r.at mid changed told follows tells entries news only fresh few_rows in
      let three = telling (around r.way r.g) tree_changed are_new in
      let four = joined_reads schema r.way r.f r.loose r.g r.left swap.schema swap.change r.swaps plan plans start r.keeps.once is swap.above r.at mid changed told follows tells entries news only fresh met last
      (tree_on changed told (around r.way r.g) (faults_shapes changed told only) tree_changed) (news_totals (around r.way r.g) tree_changed totals_changed are_new)
      joins join_instances tidies (instances ready) joining in
      omega (arith, one, changing, three, four, tidying)

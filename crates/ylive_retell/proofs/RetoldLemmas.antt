-- What is told of a document once a row of it is changed and all is told of the nodes that come.
use Rattle.std.proofs.Common.{◌≡◌, ℕ, zero, suc, ◌+◌, ◌^◌, ◌<◌, ◌≤◌, Bool, true, false, List, [], ◌∷◌, Option, Some, None, option_map, refl, sym, ap, ◌∙◌, arith, subst, cond}
use Rattle.std.specs.Prelude.{replicate, sum_by}
use Rattle.std.specs.Option.{option_map_or}
use Rattle.std.proofs.lemmas.Bool.{eq-eqb, false≢true}
use Rattle.std.proofs.lemmas.List.Sums.{sum_by-cons}
use Rattle.yspec.specs.Forest.{size}
use Rattle.yspec.specs.schema.Schema.{Schema, row_at}
use Rattle.ycheck.specs.declared.fault.FaultCode.{FaultCode}
use Rattle.yschema_model.specs.declared.node.SchemaId.{SchemaId}
use Rattle.ystore.specs.Held.{Told, with_play}
use Rattle.ystore.specs.Store.{entry_at, held_at, same_at, same_row, total_at}
use Rattle.ystore.specs.declared.record.Judged.TheVariants.{Right}
use Rattle.ystore_rows.specs.declared.row.NodeId.{NodeId}
use Rattle.ystore_rows.specs.declared.row.Row.{Row}
use Rattle.ystore_rows.specs.declared.row.Row.TheVariants.{Top, Below}
use Rattle.ystore.specs.declared.key.Key as rust
use Rattle.ystore.specs.declared.nodes.Nodes.{Nodes}
use Rattle.ystore_tree.specs.Growing.{flag_count, nothing_told}
use Rattle.ystore_tree.specs.Hanging.{Branches, is_number, times}
use Rattle.ystore_tree.specs.Swaps.{Swaps}
use Rattle.ystore_tree.specs.Ways.{Way, around, end_of}
use Rattle.ystore_tree.specs.declared.swapping.Change.{Change}
use Rattle.ystore_tree.proofs.FrameLemmas.{same_rows}
use Rattle.ystore_tree.proofs.HangingLemmas.{weigh_around}
use Rattle.ylive_marks.specs.Keys.{Agrees, IsJudged, Keys, Own, is_missing, own_of}
use Rattle.ylive_marks.specs.Totals.{OnlyFaults, StandsIn, TellsNothing, judged_at, number_of, told_at, told_count}
use Rattle.ylive_marks.proofs.AgreeLemmas.{agrees_forest, agrees_kept, entries_keys, same_judged, silent_keys}
use Rattle.ylive_marks.proofs.TellLemmas.{flags_seen}
use Rattle.ylive_retell.specs.Each.{Each}
use Rattle.ylive_retell.specs.IsTold.{IsFresh, IsTold, TellsOwn}
use Rattle.ylive_retell.specs.Joins.{Follows}
use Rattle.ylive_retell.specs.Plans.{Plans}
use Rattle.ylive_retell.specs.Standing.{Standing, Every, standing}
use Rattle.ylive_retell.specs.Telling.{AreNew, told_by}
use Rattle.ylive_retell.specs.Unlike.{Unlike}
use Rattle.ylive_retell.specs.declared.planning.Plan.{Plan}
use Rattle.ylive_retell.proofs.ChangeLemmas.{end_stands}
use Rattle.ylive_retell.proofs.FreshLemmas.{are_new, told_elsewhere, own_new, told_right, told_flags}
use Rattle.ylive_retell.proofs.OwnKeptLemmas.{own_kept}
use Rattle.ylive_retell.proofs.RetellLemmas.{number_in, once_new, outside_then, same, without}
use Rattle.ylive_retell.proofs.SwappedLemmas.{times_gone}
use Rattle.ylive_retell.proofs.TransferLemmas.{no_view}
use Rattle.ylive_retell.proofs.UnlikeLemmas.{all_in, every_map, not_standing, unlike_standing}

-- ---- nothing is told

none_set : (flags : ℕ) → sum_by (λ b. cond b 1 0) (replicate flags false) ≡ 0
none_set zero = refl
none_set (suc flags) = let whole = sum_by-cons (λ b. cond b 1 0) false (replicate flags false) in let rest = none_set flags in omega (arith, whole, rest)

nothing_counted : (flags : ℕ) → number_of (nothing_told flags) ≡ 0
nothing_counted flags = let none = none_set flags in omega (arith, none)

-- ---- parts of what is told

flags_by : (o : Option Told) → option_map_or (λ (t : Told). t.same) o [] ≡ option_map_or (λ bs. bs) (option_map (λ (t : Told). t.same) o) []
flags_by (Some t) = refl
flags_by None = refl

same_flags : (before after : Nodes) (id : NodeId) → option_map (λ (t : Told). t.same) (told_at after (Below id)) ≡ option_map (λ (t : Told). t.same) (told_at before (Below id))
    → same_at after id ≡ same_at before id
same_flags before after id e =
    flags_seen (held_at after (Below id))
    ∙ (flags_by (told_at after (Below id))
    ∙ (ap (λ o. option_map_or (λ bs. bs) o []) e ∙ (sym (flags_by (told_at before (Below id))) ∙ sym (flags_seen (held_at before (Below id))))))

played : {X : Type 0} (see : Told → X) (play : List (FaultCode × SchemaId)) → ((t : Told) → see (with_play play t) ≡ see t) → (b : Bool) (o : Option Told)
    → option_map see (cond b (option_map (with_play play) o) o) ≡ option_map see o
played see play leaves true (Some t) = ap Some (leaves t)
played see play leaves true None = refl
played see play leaves false o = refl

row_itself : (r : Row) → same_row r r ≡ true
row_itself Top = refl
row_itself (Below id) = eq-eqb id.0 id.0 refl

module _ (schema : Schema) (way : Way) (f loose g left_over : Branches) (of : SchemaId) (change : Change) (swaps : Swaps of change f loose g left_over)
    (plan : Plan) (plans : Plans schema way f loose g left_over plan) (start : Nodes)
    (once : (k : ℕ) → times k (around way f) + times k loose ≤ 1) (is : IsTold schema start (around way f))
    (above : Row) (at : end_of Top way ≡ above) (mid changed told : Nodes)
    (follows : Follows (without schema way f loose g left_over of change swaps plan plans start once is) (around way f) start mid)
    (tells : (row : Row) → StandsIn row (around way g)
    → told_at changed row ≡ cond (same_row above row) (option_map (with_play plan.absences.items) (told_at mid row)) (told_at mid row))
    (entries : (key : rust.Key) → entry_at changed key ≡ entry_at mid key)
    (news : (row : Row) → told_at told row ≡ told_by plan.news.items row (told_at changed row)) (only : OnlyFaults changed told)
    (fresh : Every (IsFresh schema start) (standing (end_of Top way) loose)) where
  abbrev keys : Keys
  keys = without schema way f loose g left_over of change swaps plan plans start once is

  abbrev come : List Standing
  come = standing (end_of Top way) loose

  sums : (k : ℕ) → times k (around way g) + times k left_over ≡ times k (around way f) + times k loose
  sums k =
      let rows = same schema way f loose g left_over of change swaps plan plans start once is k in
      let was = weigh_around (is_number k) way f in
      let now = weigh_around (is_number k) way g in
      omega (arith, rows, was, now)

  most_new : (k : ℕ) → times k (around way g) + times k left_over ≤ 1
  most_new k = once_new schema way f loose g left_over of change swaps plan plans start once is k

  -- ---- new nodes

  apart : (id : NodeId) → 1 ≤ times id.0 loose → times id.0 (around way f) ≡ 0
  apart id here = let most = once id.0 in omega (arith, most, here)

  pub new_stands : (id : NodeId) → 1 ≤ times id.0 loose → 1 ≤ times id.0 (around way g)
  new_stands id here = let all = sums id.0 in let gone = times_gone id.0 of change f loose g left_over swaps in
      let none = apart id here in let was = weigh_around (is_number id.0) way f in omega (arith, all, gone, none, here, was)

  -- the row that is changed isn't below one
  off_above : (id : NodeId) → times id.0 (around way f) ≡ 0 → same_row above (Below id) ≡ false
  off_above id none = by (same_row above (Below id)) refl
    where
      by : (b : Bool) → same_row above (Below id) ≡ b → same_row above (Below id) ≡ false
      by false e = e
      by true e =
          let stands : 0 < times id.0 (around way f) = subst (λ (r : Row). StandsIn r (around way f)) (at ∙ same_rows above (Below id) e) (end_stands way f) in
          absurd (omega (arith, stands, none))

  told_new : (s : Standing) → 1 ≤ times s.label.id.0 loose → IsFresh schema start s → told_at changed (Below s.label.id) ≡ Some (nothing_told (flag_count schema s.label.schema.0))
  told_new s here new =
      tells (Below s.label.id) (new_stands s.label.id here)
      ∙ (ap (λ b. cond b (option_map (with_play plan.absences.items) (told_at mid (Below s.label.id))) (told_at mid (Below s.label.id))) (off_above s.label.id (apart s.label.id here))
      ∙ (follows.beside s.label.id (apart s.label.id here) ∙ new.told))

  fresh_then : (ss : List Standing) → Every (λ s. 1 ≤ times s.label.id.0 loose) ss → Every (IsFresh schema start) ss
      → Every (λ s. told_at changed (Below s.label.id) ≡ Some (nothing_told (flag_count schema s.label.schema.0))) ss
  fresh_then [] here new = tt
  fresh_then (s ∷ ss) here new = (told_new s here.0 new.0, fresh_then ss here.1 new.1)

  record Silent (k : ℕ) : Type 0 where
    count : told_count mid (Below (record { 0 = k })) ≡ 0
    total : total_at mid (Below (record { 0 = k })) ≡ 0

  silent_all : (ss : List Standing) → Every (λ s. 1 ≤ times s.label.id.0 loose) ss → Every (IsFresh schema start) ss → Every (λ s. Silent s.label.id.0) ss
  silent_all [] here new = tt
  silent_all (s ∷ ss) here new = (
    record {
      count =
          ap (λ o. option_map_or number_of o 0) (follows.beside s.label.id (apart s.label.id here.0) ∙ new.0.told)
          ∙ nothing_counted (flag_count schema s.label.schema.0);
      total = follows.totals_beside s.label.id (apart s.label.id here.0) ∙ new.0.total;
    },
    silent_all ss here.1 new.1,
  )

  pub no_faults : TellsNothing mid loose
  no_faults id here =
      let silent = number_in Silent id.0 (end_of Top way) loose here (silent_all come (all_in (end_of Top way) loose) fresh) in (silent.count, silent.total)

  -- ---- agreement

  agrees_mid : Agrees mid keys (around way g)
  agrees_mid =
      agrees_forest mid keys (around way f) (around way g) follows.agrees
      (λ k slot none. no_view (keys k slot) (outside_then schema way f loose g left_over of change swaps plan plans start once is k slot none))
      (λ id here none. silent_keys mid loose no_faults id (let all = sums id.0 in omega (arith, all, here, none)))

  agrees_changed : Agrees changed keys (around way g)
  agrees_changed =
      let kept = entries_keys mid changed entries in
      agrees_kept mid changed keys (around way g) kept agrees_mid
      (λ id here. same_flags mid changed id
      (ap (option_map (λ (t : Told). t.same)) (tells (Below id) here) ∙ played (λ t. t.same) plan.absences.items (λ t. refl) (same_row above (Below id)) (told_at mid (Below id))))
      (λ id here was. same_judged mid changed keys (around way g) kept agrees_mid id
      (ap (option_map (λ (t : Told). t.judged)) (tells (Below id) here) ∙ played (λ t. t.judged) plan.absences.items (λ t. refl) (same_row above (Below id)) (told_at mid (Below id)))
      was)

  told_off : (id : NodeId) → times id.0 loose ≡ 0 → told_at told (Below id) ≡ told_at changed (Below id)
  told_off id none =
      news (Below id) ∙ told_elsewhere schema come plan.news.items id (told_at changed (Below id)) plans.news (not_standing id.0 (end_of Top way) loose none)

  pub agrees_told : Agrees told keys (around way g)
  agrees_told =
      let kept = entries_keys changed told only.entries in
      agrees_kept changed told keys (around way g) kept agrees_changed
      (λ id here. same_flags changed told id (ap (option_map (λ (t : Told). t.same)) (news (Below id)) ∙ told_flags plan.news.items (Below id) (told_at changed (Below id))))
      (λ id here was. by id was (times id.0 loose) refl)
    where
      by : (id : NodeId) → IsJudged changed (keys id.0 0) (judged_at changed id) → (n : ℕ) → times id.0 loose ≡ n → IsJudged told (keys id.0 0) (judged_at told id)
      by id was zero e =
          same_judged changed told keys (around way g) (entries_keys changed told only.entries) agrees_changed id (ap (option_map (λ (t : Told). t.judged)) (told_off id e)) was
      by id was (suc n) e =
          let none : keys id.0 0 ≡ None = follows.agrees.index.outside id.0 0 (apart id (omega (arith, e))) in
          let right = subst (λ o. IsJudged changed o (judged_at changed id)) none was in
          subst (λ o. IsJudged told o (judged_at told id)) (sym none)
          (ap (λ o. option_map_or is_missing (option_map (λ (t : Told). t.judged) o) false) (news (Below id))
          ∙ told_right schema come plan.news.items (Below id) (told_at changed (Below id)) plans.news right)

  -- ---- new nodes can be told

  unlike_new : Unlike come
  unlike_new = unlike_standing (end_of Top way) loose (λ k. let most = once k in omega (arith, most))

  pub are_new_then : ((o : Option ℕ) → size (row_at schema o) ≤ 2 ^ 32) → AreNew changed (around way g) plan.news.items
  are_new_then few =
      are_new schema changed (around way g) come plan.news.items plans.news unlike_new few (ready come (all_in (end_of Top way) loose) (fresh_then come (all_in (end_of Top way) loose) fresh))
    where
      ready : (ss : List Standing) → Every (λ s. 1 ≤ times s.label.id.0 loose) ss
          → Every (λ s. told_at changed (Below s.label.id) ≡ Some (nothing_told (flag_count schema s.label.schema.0))) ss
          → Every (λ s. StandsIn (Below s.label.id) (around way g) × (judged_at changed s.label.id ≡ Some Right)) ss
      ready [] here is = tt
      ready (s ∷ ss) here is = ((new_stands s.label.id here.0, ap (option_map (λ (t : Told). t.judged)) is.0), ready ss here.1 is.1)

  -- ---- what no key tells

  own_played : (b : Bool) (o : Option Told) (play : List (FaultCode × SchemaId)) → b ≡ true
      → option_map own_of (cond b (option_map (with_play play) o) o) ≡ option_map (λ (w : Own). record w { play = play }) (option_map own_of o)
  own_played true (Some t) play e = refl
  own_played true None play e = refl
  own_played false o play e = absurd (false≢true e)

  pub own_come : Every (λ s. TellsOwn schema told s.row s.label s.below) come
  own_come =
      own_new schema changed told come plan.news.items plans.news unlike_new (fresh_then come (all_in (end_of Top way) loose) fresh)
      (every_map (λ s. 1 ≤ times s.label.id.0 loose) _ (λ s here. ap (option_map own_of) (news (Below s.label.id))) come (all_in (end_of Top way) loose))

  pub own_told : Each (TellsOwn schema told) Top (around way g)
  own_told =
      own_kept schema start told way f loose g left_over of change swaps once (λ k. same schema way f loose g left_over of change swaps plan plans start once is k) plan.absences.items
      (λ id here none other.
      ap (option_map own_of)
      (told_off id none
      ∙ (tells (Below id) here
      ∙ ap (λ b. cond b (option_map (with_play plan.absences.items) (told_at mid (Below id))) (told_at mid (Below id)))
      (ap (λ (r : Row). same_row r (Below id)) (sym at) ∙ other)))
      ∙ follows.own (Below id))
      (λ id ends.
      let was : 0 < times id.0 (around way f) = subst (λ (r : Row). StandsIn r (around way f)) ends (end_stands way f) in
      let now : 0 < times id.0 (around way g) = subst (λ (r : Row). StandsIn r (around way g)) ends (end_stands way g) in
      let most = once id.0 in
      ap (option_map own_of) (told_off id (omega (arith, was, most)) ∙ tells (Below id) now)
      ∙ (own_played (same_row above (Below id)) (told_at mid (Below id)) plan.absences.items
      (ap (λ (r : Row). same_row r (Below id)) (sym at ∙ ends) ∙ row_itself (Below id))
      ∙ ap (option_map (λ (w : Own). record w { play = plan.absences.items })) (follows.own (Below id))))
      own_come plans.absences is.each

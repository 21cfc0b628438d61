-- A document of which a row is changed is told of again, when all steps are done.
use Rattle.std.proofs.Common.{◌≡◌, ℕ, ◌+◌, ◌<◌, ◌≤◌, true, false, List, [], ◌∷◌, Option, Some, None, is_some, length, option_map, refl, sym, ap, ◌∙◌, arith, cond, ◌*◌}
use Rattle.std.specs.Prelude.{IfSome, count_by}
use Rattle.std.specs.Option.{option_map_or}
use Rattle.std.proofs.lemmas.Bool.{false≢true}
use Rattle.std.proofs.lemmas.Option.{none-some, same_Some}
use Rattle.yspec.specs.schema.Schema.{Schema}
use Rattle.yspec.specs.types.Types.{Val}
use Rattle.yspec.specs.document.Instances.{times_in}
use Rattle.ycheck.specs.declared.fault.FaultCode.{FaultCode}
use Rattle.yschema_model.specs.declared.node.SchemaId.{SchemaId}
use Rattle.ystore.specs.Held.{Held, Told, with_play}
use Rattle.ystore.specs.Store.{entry_at, held_at, instances_at, play_at, same_row, has_room, reads}
use Rattle.ystore.specs.declared.record.Judged.TheVariants.{Right}
use Rattle.ystore_rows.specs.declared.row.NodeId.{NodeId}
use Rattle.ystore_rows.specs.declared.row.Row.{Row}
use Rattle.ystore_rows.specs.declared.row.Row.TheVariants.{Top, Below}
use Rattle.ystore.specs.declared.key.Key as rust
use Rattle.ystore.specs.declared.nodes.Nodes.{Nodes}
use Rattle.ystore_tree.specs.Hanging.{Numbered, Branches, tree_of, times}
use Rattle.ystore_tree.specs.Swaps.{Swaps}
use Rattle.ystore_tree.specs.Ways.{Way, around, end_of}
use Rattle.ystore_tree.specs.declared.swapping.Change.{Change}
use Rattle.ystore_tree.specs.declared.swapping.Swap.{Swap}
use Rattle.ystore_tree.proofs.FrameLemmas.{keeps_same}
use Rattle.yspec_play.specs.Absences.{Default, is_default}
use Rattle.ylive_facts.specs.Given.{is_referred}
use Rattle.ylive_facts.specs.InPlay.{absence_views}
use Rattle.ylive_facts.specs.Keys.{value_key, key_view}
use Rattle.ylive_marks.specs.Keys.{Agrees, Keys, slot_of, two_climbs}
use Rattle.ylive_marks.specs.Totals.{IsTree, OnlyFaults, StandsIn, Totals, told_at}
use Rattle.ylive_marks.proofs.AgreeLemmas.{entries_keys}
use Rattle.ylive_retell.specs.Assigned.{CanJoin, joined}
use Rattle.ylive_retell.specs.Bare.{IsBare}
use Rattle.ylive_retell.specs.Each.{Each}
use Rattle.ylive_retell.specs.Growing.{times_valued}
use Rattle.ylive_retell.specs.IsTold.{IsFresh, IsTold, TellsOwn, is_counted}
use Rattle.ylive_retell.specs.Joins.{CanHoldAll, Follows, KeepsInstances, KeepsRows, Tidies}
use Rattle.ylive_retell.specs.Plans.{IsReady, Plans, joining, row_schema}
use Rattle.ylive_retell.specs.Standing.{Standing, Every, standing, on_the_way, absences_in_row}
use Rattle.ylive_retell.specs.Telling.{told_by}
use Rattle.ylive_retell.specs.declared.planning.Plan.{Plan}
use Rattle.ylive_retell.proofs.BareLemmas.{bare_still, bare_with_play, top_untold}
use Rattle.ylive_retell.proofs.EachLemmas.{every_join, each_around, each_other, each_standing, each_way}
use Rattle.ylive_retell.proofs.HoldLemmas.{can_hold_all}
use Rattle.ylive_retell.proofs.InstanceLemmas.{valued_is, valued_none}
use Rattle.ylive_retell.proofs.JoiningLemmas.{shapes_of}
use Rattle.ylive_retell.proofs.OwnKeptLemmas.{absences_same, labels_same}
use Rattle.ylive_retell.proofs.RetellLemmas.{all_comes, all_goes, can_join_all, joins_part, keyed_then, then, without}
use Rattle.ylive_retell.proofs.RetoldLemmas.{agrees_told, new_stands, own_come, own_told}
use Rattle.ylive_retell.proofs.TidyLemmas.{tidied_follows}
use Rattle.ylive_retell.proofs.UnlikeLemmas.{all_in}
use Rattle.ylive_retell.proofs.ValueLemmas.{values_changed}

-- ---- a change that is ready stays so

pub room_same : (before after : Nodes) → KeepsRows before after → (row : Row) → has_room before row → has_room after row
room_same before after keeps row =
    by (held_at before row) (held_at after row) (keeps.shapes row) (keeps.rooms row)
  where
    by : (o p : Option Held) → option_map (λ (h : Held). h.shape) p ≡ option_map (λ (h : Held). h.shape) o → option_map (λ (h : Held). h.room) p ≡ option_map (λ (h : Held). h.room) o
        → IfSome o (λ h. length h.shape.children < h.room) → IfSome p (λ h. length h.shape.children < h.room)
    by None None shapes rooms has = has
    by None (Some q) shapes rooms has = absurd (none-some q.shape (sym shapes))
    by (Some h) None shapes rooms has = tt
    by (Some h) (Some q) shapes rooms has =
        let shape = ap (λ s. length s.children) (same_Some q.shape h.shape shapes) in
        let room = same_Some q.room h.room rooms in
        omega (arith, shape, room, has)

abbrev pub ready_on : (swap : Swap) (before after : Nodes) → KeepsRows before after → IsReady swap before → IsReady swap after
ready_on swap before after keeps r =
    record {
      way = r.way;
      f = r.f;
      loose = r.loose;
      g = r.g;
      left = r.left;
      at = r.at;
      swaps = r.swaps;
      sorted = r.sorted;
      keeps = keeps_same before after (shapes_of before after keeps) (around r.way r.f) swap.above r.loose r.keeps;
      room = room_same before after keeps swap.above r.room;
    }

-- ---- the top

pub play_by : (o : Option Held) → option_map_or (λ (h : Held). h.told.play) o [] ≡ option_map_or (λ (t : Told). t.play) (option_map (λ (h : Held). h.told) o) []
play_by (Some h) = refl
play_by None = refl

pub play_same : (before after : Nodes) → told_at after Top ≡ told_at before Top → play_at after Top ≡ play_at before Top
play_same before after e = play_by (held_at after Top) ∙ (ap (λ o. option_map_or (λ (t : Told). t.play) o []) e ∙ sym (play_by (held_at before Top)))

end_below : (id : NodeId) (way : Way) → same_row (end_of (Below id) way) Top ≡ false
end_below id [] = refl
end_below id (frame ∷ way) = end_below frame.label.id way

top_told : (schema : Schema) (way : Way) (f g : Branches) (start changed : Nodes) (play : List (FaultCode × SchemaId)) → is_some (told_at start Top) ≡ true
    → told_at changed Top ≡ cond (same_row (end_of Top way) Top) (option_map (with_play play) (told_at start Top)) (told_at start Top)
    → absence_views (play_at start Top) ≡ absences_in_row schema None (tree_of (around way f))
    → absence_views play ≡ absences_in_row schema (row_schema None way) (tree_of g)
    → absence_views (play_at changed Top) ≡ absences_in_row schema None (tree_of (around way g))
top_told schema [] f g start changed play there told was now =
    ap absence_views (play_by (held_at changed Top) ∙ (ap (λ o. option_map_or (λ (t : Told). t.play) o []) told ∙ by (told_at start Top) there)) ∙ now
  where
    by : (o : Option Told) → is_some o ≡ true → option_map_or (λ (t : Told). t.play) (option_map (with_play play) o) [] ≡ play
    by (Some t) e = refl
    by None e = absurd (false≢true e)
top_told schema (frame ∷ way) f g start changed play there told was now =
    ap absence_views
    (play_same start changed
    (told ∙ ap (λ b. cond b (option_map (with_play play) (told_at start Top)) (told_at start Top)) (end_below frame.label.id way)))
    ∙ (was ∙ absences_same schema None (tree_of (around (frame ∷ way) f)) (tree_of (around (frame ∷ way) g)) (labels_same frame way f g))

module _ (schema : Schema) (way : Way) (f loose g left_over : Branches) (of : SchemaId) (change : Change) (swaps : Swaps of change f loose g left_over)
    (plan : Plan) (plans : Plans schema way f loose g left_over plan) (start : Nodes)
    (once : (k : ℕ) → times k (around way f) + times k loose ≤ 1) (is : IsTold schema start (around way f))
    (above : Row) (at : end_of Top way ≡ above) (mid changed told : Nodes)
    (follows : Follows (without schema way f loose g left_over of change swaps plan plans start once is) (around way f) start mid)
    (tells : (row : Row) → StandsIn row (around way g)
    → told_at changed row ≡ cond (same_row above row) (option_map (with_play plan.absences.items) (told_at mid row)) (told_at mid row))
    (entries : (key : rust.Key) → entry_at changed key ≡ entry_at mid key)
    (news : (row : Row) → told_at told row ≡ told_by plan.news.items row (told_at changed row)) (only : OnlyFaults changed told)
    (fresh : Every (IsFresh schema start) (standing (end_of Top way) loose))
    (met last : Nodes) (tree : IsTree told (around way g)) (totals : Totals told (around way g))
    (joins : (held : Keys) (h : Branches) → IsTree told h → Agrees told held h → Totals told h → CanJoin slot_of held plan.joins.items → CanHoldAll told h plan.joins.items
    → Follows (joined slot_of plan.joins.items held) h told met)
    (join_instances : KeepsInstances told met) (tidies : Tidies met last)
    (mid_instances : (key : rust.Key) → instances_at mid key + times_valued key plan.goes.items ≡ instances_at start key + times_valued key plan.comes.items) where
  abbrev now : Keys
  now = then schema way f loose g left_over of change swaps plan plans start once is

  abbrev IsIn : Row → Numbered → Branches → Type 0
  IsIn r n below = 1 ≤ times n.id.0 (around way g)

  stands_all : Every (λ s. 1 ≤ times s.label.id.0 (around way g)) (on_the_way Top way g)
  stands_all = each_way IsIn Top way g (each_around IsIn Top way g (each_standing IsIn Top (around way g) (all_in Top (around way g))))

  both : (ss : List Standing) → Every (λ s. 1 ≤ times s.label.id.0 (around way g)) ss → Every (λ s. TellsOwn schema told s.row s.label s.below) ss
      → Every (λ s. StandsIn (Below s.label.id) (around way g) × TellsOwn schema told s.row s.label s.below) ss
  both [] here own = tt
  both (s ∷ ss) here own = ((here.0, own.0), both ss here.1 own.1)

  come_stands : (ss : List Standing) → Every (λ s. 1 ≤ times s.label.id.0 loose) ss → Every (λ s. 1 ≤ times s.label.id.0 (around way g)) ss
  come_stands [] here = tt
  come_stands (s ∷ ss) here = (new_stands schema way f loose g left_over of change swaps plan plans start once is above at mid changed told follows tells entries news only fresh s.label.id here.0, come_stands ss here.1)

  holds : CanHoldAll told (around way g) plan.joins.items
  holds =
      can_hold_all schema told (around way g) (joining way g loose) plan.joins.items (joins_part schema way f loose g left_over of change swaps plan plans start once is)
      (every_join _ (standing (end_of Top way) loose) (on_the_way Top way g)
      (both (standing (end_of Top way) loose) (come_stands (standing (end_of Top way) loose) (all_in (end_of Top way) loose)) (own_come schema way f loose g left_over of change swaps plan plans start once is above at mid changed told follows tells entries news only fresh))
      (both (on_the_way Top way g) stands_all
      (each_way (TellsOwn schema told) Top way g (each_around (TellsOwn schema told) Top way g (own_told schema way f loose g left_over of change swaps plan plans start once is above at mid changed told follows tells entries news only fresh)))))

  after : Follows now (around way g) told last
  after =
      tidied_follows now (around way g) told met last
      (joins (without schema way f loose g left_over of change swaps plan plans start once is) (around way g) tree (agrees_told schema way f loose g left_over of change swaps plan plans start once is above at mid changed told follows tells entries news only fresh) totals (can_join_all schema way f loose g left_over of change swaps plan plans start once is) holds) tidies

  -- what is read where keys are joined
  pub joined_reads : ((held : Keys) (h : Branches) → IsTree told h → Agrees told held h → Totals told h → CanJoin slot_of held plan.joins.items → CanHoldAll told h plan.joins.items
      → reads met ≤ reads told + length plan.joins.items * two_climbs h) → reads met ≤ reads told + length plan.joins.items * two_climbs (around way g)
  joined_reads more =
      more (without schema way f loose g left_over of change swaps plan plans start once is) (around way g) tree (agrees_told schema way f loose g left_over of change swaps plan plans start once is above at mid changed told follows tells entries news only fresh) totals (can_join_all schema way f loose g left_over of change swaps plan plans start once is) holds

  instances : (key : rust.Key) → instances_at last key ≡ instances_at mid key
  instances key =
      tidies.keys.instances key
      ∙ (join_instances key ∙ ((entries_keys changed told only.entries).instances key ∙ (entries_keys mid changed entries).instances key))

  counted : (key : rust.Key) (number : ℕ) (v : Val) → key_view key ≡ value_key number v → is_referred schema number ≡ true
      → instances_at last key ≡ times_in schema (tree_of (around way g)) number v
  counted key number v sees refers =
      let same = instances key in
      let moved = mid_instances key in
      let was = is.values key number v sees refers in
      let goes = valued_is key number v sees plan.goes.items ∙ ap (λ (ds : List Default). count_by (is_default number v) ds) plans.goes in
      let comes = valued_is key number v sees plan.comes.items ∙ ap (λ (ds : List Default). count_by (is_default number v) ds) plans.comes in
      let sums = values_changed schema number v refers of change way f loose g left_over swaps plans.used plans.used_then plans.uses in
      omega (arith, same, moved, was, goes, comes, sums)

  uncounted : (key : rust.Key) → is_counted schema (key_view key) ≡ false → instances_at last key ≡ 0
  uncounted key off =
      let same = instances key in
      let moved = mid_instances key in
      let was = is.others key off in
      let goes = valued_none schema key off plan.goes.items (all_goes schema way f loose g left_over of change swaps plan plans start once is) in
      let comes = valued_none schema key off plan.comes.items (all_comes schema way f loose g left_over of change swaps plan plans start once is) in
      omega (arith, same, moved, was, goes, comes)

  bare_then : IsBare last
  bare_then =
      bare_still told last after.top
      (bare_still changed told (news Top ∙ top_untold plan.news.items (told_at changed Top))
      (bare_with_play mid changed (same_row above Top) plan.absences.items (tells Top tt) (bare_still start mid follows.top is.bare)))

  top_there : is_some (told_at start Top) ≡ true
  top_there = by (told_at start Top) is.bare.judged
    where
      by : (o : Option Told) → option_map (λ (t : Told). t.judged) o ≡ Some Right → is_some o ≡ true
      by (Some t) e = refl
      by None e = absurd (none-some Right e)

  top_then : absence_views (play_at last Top) ≡ absences_in_row schema None (tree_of (around way g))
  top_then =
      ap absence_views (play_same told last after.top ∙ play_same changed told (news Top ∙ top_untold plan.news.items (told_at changed Top)))
      ∙ top_told schema way f g start changed plan.absences.items top_there
      (tells Top tt
      ∙ (ap (λ (r : Row). cond (same_row r Top) (option_map (with_play plan.absences.items) (told_at mid Top)) (told_at mid Top)) (sym at)
      ∙ ap (λ o. cond (same_row (end_of Top way) Top) (option_map (with_play plan.absences.items) o) o) follows.top))
      is.top plans.absences

  own_last : Each (TellsOwn schema last) Top (around way g)
  own_last =
      each_other (TellsOwn schema told) (TellsOwn schema last) Top (around way g)
      (λ r n below more t.
      record {
        own = t.own;
        held = after.own (Below n.id) ∙ t.held;
        is_wrong = t.is_wrong;
        is_play = t.is_play;
        are_flags = t.are_flags;
      })
      (own_told schema way f loose g left_over of change swaps plan plans start once is above at mid changed told follows tells entries news only fresh)

  pub told_again : IsTold schema last (around way g)
  told_again =
      record {
        held = now;
        keyed = keyed_then schema way f loose g left_over of change swaps plan plans start once is;
        agrees = after.agrees;
        values = counted;
        bare = bare_then;
        top = top_then;
        others = uncounted;
        few = is.few;
        each = own_last;
        totals = after.totals;
      }

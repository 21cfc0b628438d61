-- What is told at a row changes, and the totals on the way to it.
use Rattle.std.proofs.Common.{◌≡◌, ℕ, zero, suc, ◌+◌, ◌^◌, ◌≤◌, Bool, true, false, List, [], ◌∷◌, length, Option, Some, None, is_some, option_map, slice_get, refl, sym, ap, ◌∙◌, arith, subst, cond}
use Rattle.std.specs.Prelude.{slice_set, IfSome}
use Rattle.std.specs.Option.{option_map_or}
use Rattle.std.specs.List.{sum_by}
use Rattle.std.proofs.lemmas.Bool.{false≢true}
use Rattle.std.proofs.lemmas.Option.{same_Some, none-some}
use Rattle.std.proofs.lemmas.List.Sums.{sum_by-cons}
use Rattle.yspec.specs.Forest.{levels}
use Rattle.ycheck.specs.declared.fault.FaultCode.{FaultCode}
use Rattle.yschema_model.specs.declared.node.SchemaId.{SchemaId}
use Rattle.ystore.specs.Held.{Held, Told, with_told, with_judged, with_same, with_play}
use Rattle.ystore.specs.Store.{held_at, reads, same_at, play_at, ChangesRow, total_at}
use Rattle.ystore_rows.specs.declared.row.NodeId.{NodeId}
use Rattle.ystore_rows.specs.declared.row.Row.{Row}
use Rattle.ystore_rows.specs.declared.row.Row.TheVariants.{Top, Below}
use Rattle.ystore.specs.declared.record.Judged.{Judged}
use Rattle.ystore.specs.declared.nodes.Nodes.{Nodes}
use Rattle.ystore_tree.specs.Hanging.{Branches, Hangs, times}
use Rattle.ystore_tree.specs.Ways.{Way, around, end_of}
use Rattle.ystore_tree.specs.Changes.{SameShapes}
use Rattle.ystore_tree.specs.Parts.{OnlyReads}
use Rattle.ystore_tree.proofs.FrameLemmas as frame
pub use Rattle.ystore_tree.proofs.PartLemmas.{one_read}
use Rattle.ylive_marks.specs.Totals.{told_at, judged_at, is_told, IsFew, IsTree, Totals, StandsIn, Climbs, OnlyFaults, SameTold, SameFaults, ChangesTold, moved, is_below}
use Rattle.ylive_marks.proofs.WayLemmas.{way_levels, way_to, end_held, below_inside, parted, not_both}
use Rattle.ylive_marks.proofs.ClimbLemmas.{left_alone, only_on, read_only, read_told, read_total, same_total}
use Rattle.ylive_marks.proofs.TotalLemmas.{told_changed, told_row, tree_same, mark}

pub told_only : (row : Row) (change : Told → Told) (before after : Nodes) → ChangesRow row (option_map (with_told change)) before after → OnlyFaults before after
told_only row change before after changes =
    let same = frame.told_same row before after change changes in
    record {
      shapes = same.shapes;
      rooms = left_alone (λ h. h.room) (with_told change) (λ h. refl) row before after changes;
      entries = changes.entries;
      node_count = same.all;
    }

-- a write, and a climb
pub told_so : (row : Row) (change : Told → Told) (old mid new : Nodes) → ChangesRow row (option_map (with_told change)) old mid
    → SameTold mid new → OnlyFaults mid new → ChangesTold row change old new
told_so row change old mid new changes told only =
    record {
      changed = told row ∙ told_changed row change old mid changes;
      others = λ other apart. told other ∙ ap (option_map (λ held. held.told)) (changes.others other apart);
      kept = only_on old mid new (told_only row change old mid changes) only;
    }

pub flags_seen : (o : Option Held) → option_map_or (λ held. held.told.same) o [] ≡ option_map_or (λ t. t.same) (option_map (λ held. held.told) o) []
flags_seen (Some held) = refl
flags_seen None = refl

pub play_seen : (o : Option Held) → option_map_or (λ held. held.told.play) o [] ≡ option_map_or (λ t. t.play) (option_map (λ held. held.told) o) []
play_seen (Some held) = refl
play_seen None = refl

-- a flag that is set
pub flag_set : (bs : List Bool) (number : ℕ) (was b : Bool) → slice_get bs number ≡ Some was
    → sum_by (λ b. cond b 1 0) (slice_set bs number b) + mark was ≡ sum_by (λ b. cond b 1 0) bs + mark b
flag_set [] number was b e = absurd (none-some was e)
flag_set (x ∷ bs) zero was b e =
    let new : sum_by (λ b. cond b 1 0) (slice_set (x ∷ bs) 0 b) ≡ mark b + sum_by (λ b. cond b 1 0) bs = sum_by-cons (λ b. cond b 1 0) b bs in
    let old = sum_by-cons (λ b. cond b 1 0) x bs in
    let same = ap mark (same_Some x was e) in
    omega (arith, new, old, same)
flag_set (x ∷ bs) (suc number) was b e =
    let new : sum_by (λ b. cond b 1 0) (slice_set (x ∷ bs) (suc number) b) ≡ mark x + sum_by (λ b. cond b 1 0) (slice_set bs number b) =
    sum_by-cons (λ b. cond b 1 0) x (slice_set bs number b) in
    let old = sum_by-cons (λ b. cond b 1 0) x bs in
    let rest = flag_set bs number was b e in
    omega (arith, new, old, rest)

pub set_long : (bs : List Bool) (number : ℕ) (b : Bool) → length (slice_set bs number b) ≡ length bs
set_long [] number b = refl
set_long (x ∷ bs) zero b = refl
set_long (x ∷ bs) (suc number) b = ap suc (set_long bs number b)

exchanged : (a b r more less : ℕ) → more ≡ a → less ≡ b → (a + r) + less ≡ (b + r) + more
exchanged a b r more less x y = omega (arith, x, y)

exchanged_within : (j s t p a b more less : ℕ) → s + b ≡ t + a → more ≡ a → less ≡ b → (j + (s + p)) + less ≡ (j + (t + p)) + more
exchanged_within j s t p a b more less e x y = omega (arith, e, x, y)

exchanged_last : (j s p q more less : ℕ) → more ≡ p → less ≡ q → (j + (s + p)) + less ≡ (j + (s + q)) + more
exchanged_last j s p q more less x y = omega (arith, x, y)

one_few : (b : Bool) → mark b ≤ 2 ^ 62
one_few true = omega arith
one_few false = omega arith

few_marks : (b : Bool) (more : ℕ) → more ≡ mark b → more ≤ 2 ^ 62
few_marks b more is = let one = one_few b in omega (arith, one, is)

module _ (old mid new : Nodes) (f : Branches) (tree : IsTree old f) (all : Totals old f) where
  few_there : (row : Row) (t : Told) → told_at old row ≡ Some t → IsFew t
  few_there row t e = subst (λ o. IfSome o IsFew) e (all.small.each row)

  pub judged_totals : (id : NodeId) (judged : Judged) (was : Bool) (more less : ℕ) → StandsIn (Below id) f
      → ChangesRow (Below id) (option_map (with_told (with_judged judged))) old mid
      → option_map is_told (judged_at old id) ≡ Some was → more ≡ mark (is_told judged) → less ≡ mark was
      → ((way : Way) (g : Branches) → IsTree mid (around way g) → end_of Top way ≡ Below id → Climbs way more less mid new) → Totals new f
  judged_totals id judged was more less stands changes was_is is_more is_less climb = by (told_at old (Below id)) refl was_is
    where
      by : (o : Option Told) → told_at old (Below id) ≡ o → option_map is_told (option_map (λ t. t.judged) o) ≡ Some was → Totals new f
      by None e is = absurd (none-some was is)
      by (Some t) e is =
          let same : is_told t.judged ≡ was = same_Some (is_told t.judged) was is in
          told_row (Below id) (with_judged judged) more less old mid new t changes e
          (exchanged (mark (is_told judged)) (mark (is_told t.judged)) (sum_by (λ b. cond b 1 0) t.same + length t.play) more less is_more (is_less ∙ ap mark (sym same)))
          (few_marks (is_told judged) more is_more)
          (few_there (Below id) t e) f tree all stands climb

  pub same_totals : (id : NodeId) (number : ℕ) (is_same was : Bool) (more less : ℕ) → StandsIn (Below id) f
      → ChangesRow (Below id) (option_map (with_told (with_same number is_same))) old mid
      → slice_get (same_at old id) number ≡ Some was → more ≡ mark is_same → less ≡ mark was
      → ((way : Way) (g : Branches) → IsTree mid (around way g) → end_of Top way ≡ Below id → Climbs way more less mid new) → Totals new f
  same_totals id number is_same was more less stands changes was_is is_more is_less climb = by (told_at old (Below id)) refl (sym (ap (λ bs. slice_get bs number) (flags_seen (held_at old (Below id)))) ∙ was_is)
    where
      by : (o : Option Told) → told_at old (Below id) ≡ o → slice_get (option_map_or (λ t. t.same) o []) number ≡ Some was → Totals new f
      by None e is = absurd (none-some was is)
      by (Some t) e is =
          let few = few_there (Below id) t e in
          told_row (Below id) (with_same number is_same) more less old mid new t changes e
          (exchanged_within (mark (is_told t.judged)) (sum_by (λ b. cond b 1 0) (slice_set t.same number is_same)) (sum_by (λ b. cond b 1 0) t.same) (length t.play)
          (mark is_same) (mark was) more less (flag_set t.same number was is_same is) is_more is_less)
          (few_marks is_same more is_more)
          (let long = set_long t.same number is_same in let most = few.0 in omega (arith, long, most), few.1) f tree all stands climb

-- a row of the tree is stored
pub row_told : (nodes : Nodes) (f : Branches) → IsTree nodes f → (row : Row) → StandsIn row f → is_some (told_at nodes row) ≡ true
row_told nodes f tree Top stands = refl
row_told nodes f tree (Below id) stands =
    let to = way_to id f stands in
    let way : Way = to.first ∷ to.rest in
    told_there (held_at nodes (Below id))
    (subst (λ r. is_some (held_at nodes r) ≡ true) to.ends (end_held nodes to.below way (subst (λ g. Hangs nodes Top g) to.is_forest tree.hangs)))
  where
    told_there : (o : Option Held) → is_some o ≡ true → is_some (option_map (λ held. held.told) o) ≡ true
    told_there (Some held) e = refl
    told_there None e = e

pub read_faults : (before after : Nodes) → OnlyReads before after → SameFaults before after
read_faults before after reads = record { told = read_told before after reads; totals = read_total before after reads }

pub read_shapes : (before after : Nodes) → OnlyReads before after → SameShapes before after
read_shapes before after reads =
    record { shapes = λ above. ap (option_map (λ held. held.shape)) (reads.held above); all = reads.node_count }

pub play_totals : (old mid new : Nodes) (f : Branches) → IsTree old f → Totals old f
    → (row : Row) (play : List (FaultCode × SchemaId)) (more less : ℕ) → StandsIn row f
    → ChangesRow row (option_map (with_told (with_play play))) old mid
    → more ≡ length play → less ≡ length (play_at old row) → length play ≤ 2 ^ 32
    → ((way : Way) (g : Branches) → IsTree mid (around way g) → end_of Top way ≡ row → Climbs way more less mid new) → Totals new f
play_totals old mid new f tree all row play more less stands changes is_more is_less most climb =
    by (told_at old row) refl (row_told old f tree row stands) (ap length (play_seen (held_at old row)))
  where
    by : (o : Option Told) → told_at old row ≡ o → is_some o ≡ true → length (play_at old row) ≡ length (option_map_or (λ t. t.play) o []) → Totals new f
    by None e there long = absurd (false≢true there)
    by (Some t) e there long =
        let few : IsFew t = subst (λ o. IfSome o IsFew) e (all.small.each row) in
        told_row row (with_play play) more less old mid new t changes e
        (exchanged_last (mark (is_told t.judged)) (sum_by (λ b. cond b 1 0) t.same) (length play) (length t.play) more less is_more (is_less ∙ long))
        (omega (arith, is_more, most))
        (few.0, most) f tree all stands climb

pub told_after_read : (row : Row) (change : Told → Told) (old read new : Nodes) → OnlyReads old read → ChangesTold row change read new → ChangesTold row change old new
told_after_read row change old read new reads told =
    record {
      changed = told.changed ∙ ap (option_map change) (read_told old read reads row);
      others = λ other apart. told.others other apart ∙ read_told old read reads other;
      kept = only_on old read new (read_only old read reads) told.kept;
    }

pub play_read : (old read : Nodes) (row : Row) → OnlyReads old read → play_at read row ≡ play_at old row
play_read old read row reads = ap (λ o. option_map_or (λ held. held.told.play) o []) (reads.held row)

-- ---- reads

-- a climb reads no more than the forest is deep
pub climb_reads : (old mid new : Nodes) (f : Branches) (row : Row) → IsTree old f → StandsIn row f → SameShapes old mid
    → ((way : Way) (g : Branches) → IsTree mid (around way g) → end_of Top way ≡ row → reads new ≤ reads mid + length way)
    → reads new ≤ reads mid + levels f
climb_reads old mid new f Top tree stands same climb =
    let few = climb [] f (tree_same old mid same f tree) refl in omega (arith, few)
climb_reads old mid new f (Below id) tree stands same climb =
    let to = way_to id f stands in
    let way : Way = to.first ∷ to.rest in
    let few = climb way to.below (tree_same old mid same (around way to.below) (subst (λ g. IsTree old g) to.is_forest tree)) to.ends in
    let deep = way_levels way to.below in
    let same_levels = ap levels to.is_forest in
    omega (arith, few, deep, same_levels)

pub told_reads : (row : Row) (change : Told → Told) (old mid new : Nodes) → ChangesRow row (option_map (with_told change)) old mid
    → (f : Branches) → IsTree old f → StandsIn row f
    → ((way : Way) (g : Branches) → IsTree mid (around way g) → end_of Top way ≡ row → reads new ≤ reads mid + length way)
    → reads new ≤ reads old + levels f
told_reads row change old mid new changes f tree stands climb =
    let few = climb_reads old mid new f row tree stands (frame.told_same row old mid change changes) climb in
    let same = changes.reads in omega (arith, few, same)

-- ---- totals beside the forest

climb_beside : (old mid new : Nodes) (f : Branches) (row : Row) (more less : ℕ) → IsTree old f → StandsIn row f → SameShapes old mid
    → ((way : Way) (g : Branches) → IsTree mid (around way g) → end_of Top way ≡ row → Climbs way more less mid new)
    → (x : NodeId) → times x.0 f ≡ 0 → total_at new (Below x) ≡ total_at mid (Below x)
climb_beside old mid new f Top more less tree stands same climb x none = (climb [] f (tree_same old mid same f tree) refl).totals (Below x)
climb_beside old mid new f (Below id) more less tree stands same climb x none =
    let to = way_to id f stands in
    let way : Way = to.first ∷ to.rest in
    let climbs = climb way to.below (tree_same old mid same (around way to.below) (subst (λ g. IsTree old g) to.is_forest tree)) to.ends in
    climbs.totals (Below x)
    ∙ ap (λ b. cond b (moved more less (total_at mid (Below x))) (total_at mid (Below x)))
    (not_both (is_below way (Below x)) (λ t.
    let inside = below_inside to.first to.rest to.below x t in
    let parts = parted x.0 to.first to.rest to.below in
    let whole = ap (times x.0) to.is_forest in
    omega (arith, inside, parts, whole, none)))

pub told_beside : (row : Row) (change : Told → Told) (old mid new : Nodes) (more less : ℕ) → ChangesRow row (option_map (with_told change)) old mid
    → (f : Branches) → IsTree old f → StandsIn row f
    → ((way : Way) (g : Branches) → IsTree mid (around way g) → end_of Top way ≡ row → Climbs way more less mid new)
    → (x : NodeId) → times x.0 f ≡ 0 → total_at new (Below x) ≡ total_at old (Below x)
told_beside row change old mid new more less changes f tree stands climb x none =
    climb_beside old mid new f row more less tree stands (frame.told_same row old mid change changes) climb x none
    ∙ same_total old mid (Below x) (left_alone (λ h. h.total) (with_told change) (λ h. refl) row old mid changes (Below x))

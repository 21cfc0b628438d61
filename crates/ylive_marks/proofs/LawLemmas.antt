-- Totals where a branch comes into a row or is taken out of it.
use Rattle.std.specs.Option.{option_map_or}
use Rattle.ylive_marks.proofs.WayLemmas.{not_both}
use Rattle.std.proofs.Common.{◌+◌, ◌<◌, ◌≡◌, ℕ, zero, suc, ◌-◌, ◌^◌, ◌≤◌, List, option_map, refl, sym, ap, ◌∙◌, arith, subst, cond, Bool, true, false, min, length}
use Rattle.yspec.specs.Forest.{end, node, join, size, weigh}
use Rattle.ystore_rows.specs.Rows.{Child, end_place, first_place, of_schema}
use Rattle.ystore.specs.Held.{with_children, with_room}
use Rattle.ystore.specs.Store.{held_at, total_at, ChangesRow}
use Rattle.ystore_rows.specs.declared.row.NodeId.{NodeId}
use Rattle.ystore_rows.specs.declared.row.Row.{Row}
use Rattle.ystore_rows.specs.declared.row.Row.TheVariants.{Top, Below}
use Rattle.ystore.specs.declared.nodes.Nodes.{Nodes}
use Rattle.ystore_tree.specs.Hanging.{Numbered, Branches, Keeps, children_of, times, is_number}
use Rattle.ystore_tree.specs.Ways.{Way, around}
use Rattle.ystore_tree.specs.Changes.{SameShapes, put_at, with_node, with_node_at}
use Rattle.ystore_tree.proofs.HangingLemmas.{is_itself, size_weigh, weigh_around, weigh_join, weigh_put}
use Rattle.ylive_marks.specs.Totals.{all_told, AreTotals, Climbs, IsTree, OnlyFaults, SameFaults, TellsNothing, Totals, on_way, moved, IsSmall, number_of, is_below, told_count, told_at}
use Rattle.ylive_marks.proofs.ClimbLemmas.{left_alone, same_total}
use Rattle.ylive_marks.proofs.TotalLemmas.{moved_exact, replaced, are_second, are_end, below_outside, changed, are_join, are_first, totals_same}

-- ---- what leaves faults

pub children_faults : (above : Row) (before after : Nodes) (change : List Child → List Child)
    → ChangesRow above (option_map (with_children change)) before after → SameFaults before after
children_faults above before after change changes =
    record {
      told = left_alone (λ h. h.told) (with_children change) (λ h. refl) above before after changes;
      totals = λ row. same_total before after row (left_alone (λ h. h.total) (with_children change) (λ h. refl) above before after changes row);
    }

pub room_faults : (above : Row) (before after : Nodes) (room : ℕ)
    → ChangesRow above (option_map (with_room room)) before after → SameFaults before after
room_faults above before after room changes =
    record {
      told = left_alone (λ h. h.told) (with_room room) (λ h. refl) above before after changes;
      totals = λ row. same_total before after row (left_alone (λ h. h.total) (with_room room) (λ h. refl) above before after changes row);
    }

pub held_faults : (before after : Nodes) → ((row : Row) → held_at after row ≡ held_at before row) → SameFaults before after
held_faults before after held =
    record {
      told = λ row. ap (option_map (λ h. h.told)) (held row);
      totals = λ row. same_total before after row (ap (option_map (λ h. h.total)) (held row));
    }

pub faults_on : (first second third : Nodes) → SameFaults first second → SameFaults second third → SameFaults first third
faults_on first second third a b = record { told = λ row. b.told row ∙ a.told row; totals = λ row. b.totals row ∙ a.totals row }

pub climbs_beside : (first before after last : Nodes) (way : Way) (more less : ℕ) → SameFaults first before
    → Climbs way more less before after → SameFaults after last → Climbs way more less first last
climbs_beside first before after last way more less a climbs b =
    record {
      totals = λ row. b.totals row ∙ (climbs.totals row ∙ ap (λ t. cond (on_way Top way row) (moved more less t) t) (a.totals row));
      told = λ row. b.told row ∙ (climbs.told row ∙ a.told row);
    }

pub tree_kept : (nodes : Nodes) (f : Branches) (above : Row) (loose : Branches) → Keeps nodes f above loose → IsTree nodes f
tree_kept nodes f above loose keeps =
    record {
      hangs = keeps.hangs;
      once = λ number. let once = keeps.once number in omega (arith, once);
      within = let all = keeps.all in omega (arith, all);
    }

pub faults_shapes : (before after : Nodes) → OnlyFaults before after → SameShapes before after
faults_shapes before after only = record { shapes = only.shapes; all = only.node_count }

-- ---- branches

-- a row with a branch put in, in two parts
record Parts (place : ℕ) (n : Numbered) (below f : Branches) : Type 0 where
  first : Branches
  rest : Branches
  was : f ≡ join first rest
  is : put_at place n below f ≡ join first (node n below rest)

put_parts : (place : ℕ) (n : Numbered) (below f : Branches) → Parts place n below f
put_parts zero n below f = record { first = end; rest = f; was = refl; is = refl }
put_parts (suc place) n below end = record { first = end; rest = end; was = refl; is = refl }
put_parts (suc place) n below (node m under after) =
    let later = put_parts place n below after in
    record {
      first = node m under later.first;
      rest = later.rest;
      was = ap (λ g. node m under g) later.was;
      is = ap (λ g. node m under g) later.is;
    }

branch_total : (nodes : Nodes) (n : Numbered) (below : Branches) (total : ℕ) → AreTotals nodes (node n below end) → total_at nodes (Below n.id) ≡ total
    → all_told nodes (node n below end) ≡ total
branch_total nodes n below total are is = let at = are.0 in omega (arith, at, is)

module _ (before after : Nodes) (way : Way) where
  stood : (first rest : Branches) (m : Numbered) (under : Branches) → Totals before (around way (join first (node m under rest)))
      → AreTotals before (node m under end)
  stood first rest m under all =
      let parts = are_second before first (node m under rest) (are_end before way (join first (node m under rest)) all.below) in
      (parts.0, parts.1, tt)

  pub put : (first rest : Branches) (m : Numbered) (under : Branches) (n : Numbered) (below : Branches) (more less : ℕ)
      → Totals before (around way (join first (node m under rest))) → IsTree before (around way (join first (node m under rest)))
      → AreTotals after (node n below end) → total_at after (Below n.id) ≡ more → total_at before (Below m.id) ≡ less
      → size (around way (join first (node n below rest))) ≤ 2 ^ 28
      → Climbs way more less before after → Totals after (around way (join first (node n below rest)))
  put first rest m under n below more less all tree are is_more is_less few climbs =
      replaced before after way first (node n below end) (node m under end) rest (moved more less) more less (2 ^ 64 - 1) (moved_exact more less)
      all tree.once climbs.told climbs.totals are (branch_total after n below more are is_more)
      (branch_total before m under less (stood first rest m under all) is_less) (omega arith) few

  pub taken : (first rest : Branches) (m : Numbered) (under : Branches) (less : ℕ)
      → Totals before (around way (join first (node m under rest))) → IsTree before (around way (join first (node m under rest)))
      → total_at before (Below m.id) ≡ less
      → Climbs way 0 less before after → Totals after (around way (join first rest))
  taken first rest m under less all tree is_less climbs =
      replaced before after way first end (node m under end) rest (moved 0 less) 0 less (2 ^ 64 - 1) (moved_exact 0 less)
      all tree.once climbs.told climbs.totals tt refl
      (branch_total before m under less (stood first rest m under all) is_less) (omega arith)
      (let was = all.small.few in
      let a = size_weigh (around way (join first (node m under rest))) in let b = size_weigh (around way (join first rest)) in
      let c = weigh_around (λ _. 1) way (join first (node m under rest)) in let d = weigh_around (λ _. 1) way (join first rest) in
      let e = weigh_join (λ _. 1) first (node m under rest) in let g = weigh_join (λ _. 1) first rest in
      omega (arith, was, a, b, c, d, e, g))

  pub added : (f : Branches) (n : Numbered) (below : Branches) (more : ℕ)
      → Totals before (around way f) → IsTree before (around way f) → AreTotals after (node n below end)
      → total_at after (Below n.id) ≡ more → size (around way (with_node n below f)) ≤ 2 ^ 28
      → Climbs way more 0 before after → Totals after (around way (with_node n below f))
  added f n below more all tree are is_more few climbs =
      let parts = put_parts (end_place n.schema (children_of f)) n below f in
      subst (λ g. Totals after (around way g)) (sym parts.is)
      (replaced before after way parts.first (node n below end) end parts.rest (moved more 0) more 0 (2 ^ 64 - 1) (moved_exact more 0)
      (subst (λ g. Totals before (around way g)) parts.was all)
      (subst (λ g. (number : ℕ) → times number (around way g) ≤ 1) parts.was tree.once)
      climbs.told climbs.totals are (branch_total after n below more are is_more) refl (omega arith)
      (subst (λ g. size (around way g) ≤ 2 ^ 28) parts.is few))

  pub added_silent : (f : Branches) (n : Numbered) (below : Branches)
      → Totals before (around way f) → IsTree before (around way f) → AreTotals after (node n below end)
      → total_at after (Below n.id) ≡ 0 → size (around way (with_node n below f)) ≤ 2 ^ 28
      → SameFaults before after → Totals after (around way (with_node n below f))
  added_silent f n below all tree are none few same =
      let parts = put_parts (end_place n.schema (children_of f)) n below f in
      subst (λ g. Totals after (around way g)) (sym parts.is)
      (replaced before after way parts.first (node n below end) end parts.rest (λ t. t) 0 0 (2 ^ 64 - 1) (λ t within enough. refl)
      (subst (λ g. Totals before (around way g)) parts.was all)
      (subst (λ g. (number : ℕ) → times number (around way g) ≤ 1) parts.was tree.once)
      same.told (λ row. same.totals row ∙ both (on_way Top way row) (total_at before row)) are (branch_total after n below 0 are none) refl (omega arith)
      (subst (λ g. size (around way g) ≤ 2 ^ 28) parts.is few))
    where
      both : (b : Bool) (t : ℕ) → t ≡ cond b t t
      both true t = refl
      both false t = refl

-- ---- silent branches

pub silent : (nodes : Nodes) (f : Branches) → TellsNothing nodes f → (all_told nodes f ≡ 0) × AreTotals nodes f
silent nodes end nothing = (refl, tt)
silent nodes (node n below after) nothing =
    let here = nothing n.id (let one = is_itself n in omega (arith, one)) in
    let under = silent nodes below (λ id more. nothing id (omega (arith, more))) in
    let later = silent nodes after (λ id more. nothing id (omega (arith, more))) in (
      let a = here.0 in let b = under.0 in let c = later.0 in omega (arith, a, b, c),
      (let a = here.0 in let t = here.1 in let b = under.0 in omega (arith, a, t, b), under.1, later.1),
    )

pub root_silent : (nodes : Nodes) (n : Numbered) (below : Branches) → TellsNothing nodes (node n below end) → total_at nodes (Below n.id) ≡ 0
root_silent nodes n below nothing = (nothing n.id (let one = is_itself n in omega (arith, one))).1

pub silent_document : (nodes : Nodes) (f : Branches) → TellsNothing nodes f → told_count nodes Top ≡ 0 → total_at nodes Top ≡ 0 → IsSmall nodes f → Totals nodes f
silent_document nodes f nothing told total small =
    let all = silent nodes f nothing in
    record { top = let none = all.0 in omega (arith, told, total, none); below = all.1; small = small }

pub silent_kept : (before after : Nodes) (f : Branches)
    → ((id : NodeId) → 0 < times id.0 f → (told_at after (Below id) ≡ told_at before (Below id)) × (total_at after (Below id) ≡ total_at before (Below id)))
    → TellsNothing before f → TellsNothing after f
silent_kept before after f same nothing id there = (
  ap (λ o. option_map_or number_of o 0) (same id there).0 ∙ (nothing id there).0,
  (same id there).1 ∙ (nothing id there).1,
)

pub climbs_inside : (before after : Nodes) (way : Way) (f : Branches) (more less : ℕ) (id : NodeId) → Climbs way more less before after
    → times id.0 (around way f) ≡ 0 → total_at after (Below id) ≡ total_at before (Below id)
climbs_inside before after way f more less id climbs none =
    climbs.totals (Below id)
    ∙ ap (λ b. cond b (moved more less (total_at before (Below id))) (total_at before (Below id)))
    (not_both (is_below way (Below id)) (λ t.
    let out = below_outside way id t in let whole = weigh_around (is_number id.0) way f in omega (arith, out, whole, none)))

-- ---- a node that moves in its row

are_put : (nodes : Nodes) (place : ℕ) (n : Numbered) (below f : Branches) → AreTotals nodes (node n below end) → AreTotals nodes f → AreTotals nodes (put_at place n below f)
are_put nodes zero n below f new are = (new.0, new.1, are)
are_put nodes (suc place) n below end new are = new
are_put nodes (suc place) n below (node m under after) new are = (are.0, are.1, are_put nodes place n below after new are.2)

module _ (before after : Nodes) (way : Way) (first rest : Branches) (m : Numbered) (under : Branches) (place : ℕ)
    (all : Totals before (around way (join first (node m under rest)))) (tree : IsTree before (around way (join first (node m under rest))))
    (same : SameFaults before after) where
  abbrev at : ℕ
  at = first_place m.schema (children_of (join first rest)) + min place (length (of_schema m.schema (children_of (join first rest))))

  was_all : Totals after (around way (join first (node m under rest)))
  was_all = totals_same before after same (around way (join first (node m under rest))) all

  same_weight : (w : Numbered → ℕ) → weigh w (put_at at m under (join first rest)) ≡ weigh w (join first (node m under rest))
  same_weight w =
      let a = weigh_put w at m under (join first rest) in let b = weigh_join w first rest in let c = weigh_join w first (node m under rest) in
      omega (arith, a, b, c)

  pub moved_totals : Totals after (around way (with_node_at place m under (join first rest)))
  moved_totals =
      changed (λ t. t) 0 0 (2 ^ 64 - 1) (λ t within enough. refl) after after way (join first (node m under rest)) (put_at at m under (join first rest)) was_all tree.once
      (λ row apart. refl) (λ row. both (on_way Top way row) (total_at after row)) are
      (let e = same_weight (λ n. told_count after (Below n.id)) in omega (arith, e)) (omega arith)
      (record { few = few; each = was_all.small.each })
    where
      both : (b : Bool) (t : ℕ) → t ≡ cond b t t
      both true t = refl
      both false t = refl

      parts : AreTotals after (node m under rest)
      parts = are_second after first (node m under rest) (are_end after way (join first (node m under rest)) was_all.below)

      are : AreTotals after (put_at at m under (join first rest))
      are =
          are_put after at m under (join first rest) (parts.0, parts.1, tt)
          (are_join after first rest (are_first after first (node m under rest) (are_end after way (join first (node m under rest)) was_all.below)) parts.2)

      few : size (around way (put_at at m under (join first rest))) ≤ 2 ^ 28
      few =
          let was = was_all.small.few in
          let a = size_weigh (around way (join first (node m under rest))) in let b = size_weigh (around way (put_at at m under (join first rest))) in
          let c = weigh_around (λ _. 1) way (join first (node m under rest)) in let d = weigh_around (λ _. 1) way (put_at at m under (join first rest)) in
          let e = same_weight (λ _. 1) in
          omega (arith, was, a, b, c, d, e)

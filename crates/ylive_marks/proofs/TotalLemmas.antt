-- Totals of a forest in which what stands in one row, or what is told there, changes.
use Rattle.std.proofs.Common.{◌≡◌, ℕ, ◌+◌, ◌-◌, ◌*◌, ◌^◌, ◌<◌, ◌≤◌, Bool, true, false, ◌||◌, List, [], ◌∷◌, length, Option, Some, None, option_map, refl, sym, ap, ◌∙◌, arith, subst, cond}
use Rattle.std.specs.Prelude.{IfSome}
use Rattle.std.specs.Option.{option_map_or}
use Rattle.std.specs.List.{sum_by}
use Rattle.std.proofs.lemmas.Bool.{false≢true}
use Rattle.std.proofs.lemmas.List.Sums.{sum_by-cons}
use Rattle.yspec.specs.Forest.{end, node, join, size, weigh}
use Rattle.ystore.specs.Held.{Held, Told, with_told}
use Rattle.ystore.specs.Store.{held_at, total_at, same_row, ChangesRow}
use Rattle.ystore_rows.specs.declared.row.NodeId.{NodeId}
use Rattle.ystore_rows.specs.declared.row.Row.{Row}
use Rattle.ystore_rows.specs.declared.row.Row.TheVariants.{Top, Below}
use Rattle.ystore.specs.declared.nodes.Nodes.{Nodes}
use Rattle.ystore_tree.specs.Hanging.{Numbered, Branches, is_number, times}
use Rattle.ystore_tree.specs.Ways.{Way, around, end_of}
use Rattle.ystore_tree.specs.Changes.{SameShapes}
use Rattle.ystore_tree.proofs.FrameLemmas as frame
use Rattle.ystore_tree.proofs.FrameLemmas.{same_rows}
use Rattle.ystore_tree.proofs.HangingLemmas.{weigh_join, weigh_around, size_weigh, outside, apart, is_itself}
use Rattle.ylive_marks.specs.Totals.{told_at, told_count, all_told, number_of, is_told, IsTotal, AreTotals, IsFew, IsSmall, Totals, IsTree, StandsIn, SameFaults, Climbs, is_below, on_way, moved}
use Rattle.ylive_marks.proofs.WayLemmas.{itself, parted, below_inside, end_inside, end_not_top, not_both, way_to}
use Rattle.ylive_marks.proofs.ClimbLemmas.{left_alone, same_total}

-- ---- the tree

pub tree_same : (before after : Nodes) → SameShapes before after → (f : Branches) → IsTree before f → IsTree after f
tree_same before after same f tree =
    record {
      hangs = frame.hangs_same before after same Top f tree.hangs;
      once = tree.once;
      within = let all = same.all in let within = tree.within in omega (arith, all, within);
    }

-- ---- rows of totals

pub are_join : (nodes : Nodes) (f g : Branches) → AreTotals nodes f → AreTotals nodes g → AreTotals nodes (join f g)
are_join nodes end g a b = b
are_join nodes (node n below after) g a b = (a.0, a.1, are_join nodes after g a.2 b)

pub are_first : (nodes : Nodes) (f g : Branches) → AreTotals nodes (join f g) → AreTotals nodes f
are_first nodes end g a = tt
are_first nodes (node n below after) g a = (a.0, a.1, are_first nodes after g a.2)

pub are_second : (nodes : Nodes) (f g : Branches) → AreTotals nodes (join f g) → AreTotals nodes g
are_second nodes end g a = a
are_second nodes (node n below after) g a = are_second nodes after g a.2

module _ (before after : Nodes) where
  pub told_same : (f : Branches) → ((id : NodeId) → 0 < times id.0 f → told_count after (Below id) ≡ told_count before (Below id))
      → all_told after f ≡ all_told before f
  told_same end same = refl
  told_same (node n below rest) same =
      let here = same n.id (let one = is_itself n in omega (arith, one)) in
      let under = told_same below (λ id more. same id (omega (arith, more))) in
      let later = told_same rest (λ id more. same id (omega (arith, more))) in
      omega (arith, here, under, later)

  pub are_same : (f : Branches) → ((id : NodeId) → 0 < times id.0 f → told_count after (Below id) ≡ told_count before (Below id))
      → ((id : NodeId) → 0 < times id.0 f → total_at after (Below id) ≡ total_at before (Below id))
      → AreTotals before f → AreTotals after f
  are_same end same totals are = tt
  are_same (node n below rest) same totals are = (
    let here = same n.id (let one = is_itself n in omega (arith, one)) in
        let total = totals n.id (let one = is_itself n in omega (arith, one)) in
        let under = told_same below (λ id more. same id (omega (arith, more))) in
        let was = are.0 in
        omega (arith, here, total, under, was),
    are_same below (λ id more. same id (omega (arith, more))) (λ id more. totals id (omega (arith, more))) are.1,
    are_same rest (λ id more. same id (omega (arith, more))) (λ id more. totals id (omega (arith, more))) are.2,
  )

-- what is told and all totals stay
pub totals_same : (before after : Nodes) → SameFaults before after → (f : Branches) → Totals before f → Totals after f
totals_same before after same f all =
    record {
      top =
          let told = count Top in let total = same.totals Top in let top = all.top in
          let rest = told_same before after f (λ id some. count (Below id)) in
          omega (arith, told, total, top, rest);
      below = are_same before after f (λ id some. count (Below id)) (λ id some. same.totals (Below id)) all.below;
      small = record { few = all.small.few; each = λ row. subst (λ o. IfSome o IsFew) (sym (same.told row)) (all.small.each row) };
    }
  where
    count : (row : Row) → told_count after row ≡ told_count before row
    count row = ap (λ o. option_map_or number_of o 0) (same.told row)

-- ---- a climb

module _ (c : ℕ → ℕ) (more less most : ℕ) (exact : (t : ℕ) → t + more ≤ most → less ≤ t + more → c t + less ≡ t + more)
    (before after : Nodes) (g h : Branches) (are : AreTotals after h) where
  -- what is told of a row and below it changes by what its totals change by
  pub climbed : (above : Row) (way : Way)
      → ((row : Row) → same_row (end_of above way) row ≡ false → told_count after row ≡ told_count before row)
      → total_at after above ≡ c (total_at before above)
      → ((id : NodeId) → 0 < times id.0 (around way g)
      → total_at after (Below id) ≡ cond (is_below way (Below id)) (c (total_at before (Below id))) (total_at before (Below id)))
      → ((id : NodeId) → 0 < times id.0 (around way g) → same_row above (Below id) ≡ false)
      → ((number : ℕ) → times number (around way g) ≤ 1)
      → (told_count after (end_of above way) + all_told after h) + less ≡ (told_count before (end_of above way) + all_told before g) + more
      → total_at before above + more ≤ most
      → IsTotal before above (around way g) → AreTotals before (around way g)
      → IsTotal after above (around way h) × AreTotals after (around way h) × (less ≤ total_at before above + more)
  climbed above [] told here totals apart once ends within is inside =
      let enough : less ≤ total_at before above + more = omega (arith, ends, is) in
      let made = exact (total_at before above) within enough in
      (omega (arith, made, here, ends, is), are, enough)
  climbed above (frame ∷ way) told here totals apart once ends within is inside =
      let inner = climbed (Below frame.label.id) way told inner_here inner_totals inner_apart
      (λ number. let all = counts number in omega (arith, all)) ends (omega (arith, within, larger)) rest.0 rest.1 in (
        is_total inner,
        are_join after frame.before (node frame.label (around way h) frame.after)
            (are_same before after frame.before first_told first_totals (are_first before frame.before (node frame.label (around way g) frame.after) inside))
            (inner.0, inner.1, are_same before after frame.after last_told last_totals rest.2),
        omega (arith, inner.2, larger),
      )
    where
      inner_row : Row
      inner_row = Below frame.label.id

      rest : AreTotals before (node frame.label (around way g) frame.after)
      rest = are_second before frame.before (node frame.label (around way g) frame.after) inside

      counts : (number : ℕ) → is_number number frame.label + times number (around way g) + (times number frame.before + times number frame.after) ≤ 1
      counts number = let parts = parted number frame way g in let one = once number in omega (arith, parts, one)

      whole : all_told before (around (frame ∷ way) g)
          ≡ all_told before frame.before + (told_count before inner_row + (all_told before (around way g) + all_told before frame.after))
      whole = weigh_join (λ n. told_count before (Below n.id)) frame.before (node frame.label (around way g) frame.after)

      whole_after : all_told after (around (frame ∷ way) h)
          ≡ all_told after frame.before + (told_count after inner_row + (all_told after (around way h) + all_told after frame.after))
      whole_after = weigh_join (λ n. told_count after (Below n.id)) frame.before (node frame.label (around way h) frame.after)

      larger : total_at before inner_row ≤ total_at before above
      larger = let at = rest.0 in omega (arith, is, whole, at)

      beside_told : (id : NodeId) → 0 < times id.0 frame.before + times id.0 frame.after → told_count after (Below id) ≡ told_count before (Below id)
      beside_told id some =
          told (Below id) (not_both (same_row (end_of above (frame ∷ way)) (Below id)) (λ same.
          let inside = end_inside frame.label way g id same in let all = counts id.0 in omega (arith, inside, all, some)))

      beside_totals : (id : NodeId) → 0 < times id.0 frame.before + times id.0 frame.after → total_at after (Below id) ≡ total_at before (Below id)
      beside_totals id some =
          totals id (let parts = parted id.0 frame way g in omega (arith, parts, some))
          ∙ ap (λ b. cond b (c (total_at before (Below id))) (total_at before (Below id)))
          (not_both (is_below (frame ∷ way) (Below id)) (λ below.
          let inside = below_inside frame way g id below in let all = counts id.0 in omega (arith, inside, all, some)))

      first_told : (id : NodeId) → 0 < times id.0 frame.before → told_count after (Below id) ≡ told_count before (Below id)
      first_told id some = beside_told id (omega (arith, some))

      first_totals : (id : NodeId) → 0 < times id.0 frame.before → total_at after (Below id) ≡ total_at before (Below id)
      first_totals id some = beside_totals id (omega (arith, some))

      last_told : (id : NodeId) → 0 < times id.0 frame.after → told_count after (Below id) ≡ told_count before (Below id)
      last_told id some = beside_told id (omega (arith, some))

      last_totals : (id : NodeId) → 0 < times id.0 frame.after → total_at after (Below id) ≡ total_at before (Below id)
      last_totals id some = beside_totals id (omega (arith, some))

      label_counts : 0 < times frame.label.id.0 (around (frame ∷ way) g)
      label_counts = let parts = parted frame.label.id.0 frame way g in let one = is_itself frame.label in omega (arith, parts, one)

      inner_here : total_at after inner_row ≡ c (total_at before inner_row)
      inner_here =
          totals frame.label.id label_counts
          ∙ by (same_row inner_row inner_row) (itself inner_row)
        where
          by : (b : Bool) → b ≡ true → cond (b || is_below way inner_row) (c (total_at before inner_row)) (total_at before inner_row) ≡ c (total_at before inner_row)
          by b e = rw e refl

      inner_apart : (id : NodeId) → 0 < times id.0 (around way g) → same_row inner_row (Below id) ≡ false
      inner_apart id some =
          not_both (same_row inner_row (Below id)) (λ same.
          let one : is_number id.0 frame.label ≡ 1 = ap (λ b. cond b 1 0) same in
          let all = counts id.0 in omega (arith, one, all, some))

      inner_totals : (id : NodeId) → 0 < times id.0 (around way g)
          → total_at after (Below id) ≡ cond (is_below way (Below id)) (c (total_at before (Below id))) (total_at before (Below id))
      inner_totals id some =
          totals id (let parts = parted id.0 frame way g in omega (arith, parts, some))
          ∙ by (same_row inner_row (Below id)) (inner_apart id some)
        where
          by : (b : Bool) → b ≡ false → cond (b || is_below way (Below id)) (c (total_at before (Below id))) (total_at before (Below id))
              ≡ cond (is_below way (Below id)) (c (total_at before (Below id))) (total_at before (Below id))
          by b e = rw e refl

      above_told : told_count after above ≡ told_count before above
      above_told = told above (not_both (same_row (end_of above (frame ∷ way)) above) (no_end above refl))
        where
          no_end : (row : Row) → above ≡ row → same_row (end_of inner_row way) above ≡ true → ⊥
          no_end Top e same = false≢true (sym (end_not_top frame.label way) ∙ subst (λ r. same_row (end_of inner_row way) r ≡ true) e same)
          no_end (Below id) e same =
              let inside = end_inside frame.label way g id (subst (λ r. same_row (end_of inner_row way) r ≡ true) e same) in
              let parts = parted id.0 frame way g in
              let differs = apart id (omega (arith, inside, parts)) in
              false≢true (sym (subst (λ r. same_row r (Below id) ≡ false) e differs) ∙ itself (Below id))

      is_total : IsTotal after inner_row (around way h) × AreTotals after (around way h) × (less ≤ total_at before inner_row + more)
          → IsTotal after above (around (frame ∷ way) h)
      is_total inner =
          let enough : less ≤ total_at before above + more = let at = inner.2 in omega (arith, at, larger) in
          let made = exact (total_at before above) within enough in
          let inner_made = exact (total_at before inner_row) (omega (arith, within, larger)) inner.2 in
          let under = inner.0 in
          let at = rest.0 in
          let first = told_same before after frame.before first_told in
          let last = told_same before after frame.after last_told in
          omega (arith, made, here, inner_made, inner_here, under, at, first, last, whole, whole_after, above_told, is)

-- ---- small numbers

abbrev pub mark : Bool → ℕ
mark b = cond b 1 0

few_flags : (bs : List Bool) → sum_by (λ b. cond b 1 0) bs ≤ length bs
few_flags [] = omega arith
few_flags (b ∷ bs) = by b (sum_by-cons (λ b. cond b 1 0) b bs) (few_flags bs)
  where
    by : (b : Bool) → sum_by (λ b. cond b 1 0) (b ∷ bs) ≡ cond b 1 0 + sum_by (λ b. cond b 1 0) bs → sum_by (λ b. cond b 1 0) bs ≤ length bs
        → sum_by (λ b. cond b 1 0) (b ∷ bs) ≤ length (b ∷ bs)
    by true e rest = omega (arith, e, rest)
    by false e rest = omega (arith, e, rest)

few_told : (o : Option Told) → IfSome o IsFew → option_map_or number_of o 0 ≤ 2 ^ 33 + 1
few_told None few = omega arith
few_told (Some t) few = by (is_told t.judged) (few_flags t.same) few.0 few.1
  where
    by : (b : Bool) → sum_by (λ b. cond b 1 0) t.same ≤ length t.same → length t.same ≤ 2 ^ 32 → length t.play ≤ 2 ^ 32
        → cond b 1 0 + (sum_by (λ b. cond b 1 0) t.same + length t.play) ≤ 2 ^ 33 + 1
    by true flags same play = omega (arith, flags, same, play)
    by false flags same play = omega (arith, flags, same, play)

module _ (nodes : Nodes) (few : (row : Row) → IfSome (told_at nodes row) IsFew) where
  pub few_at : (row : Row) → told_count nodes row ≤ 2 ^ 33 + 1
  few_at row = few_told (told_at nodes row) (few row)

  pub few_in : (g : Branches) → all_told nodes g ≤ (2 ^ 33 + 1) * size g
  few_in end = omega arith
  few_in (node n below after) =
      let here = few_at (Below n.id) in
      let under = few_in below in
      let later = few_in after in
      omega (arith, here, under, later)

  pub few_all : (f : Branches) → size f ≤ 2 ^ 28 → told_count nodes Top + all_told nodes f ≤ 2 ^ 62
  few_all f few =
      let here = few_at Top in
      let all = few_in f in
      omega (arith, here, all, few)

-- ---- a row at the end of a way

pub moved_exact : (more less t : ℕ) → t + more ≤ 2 ^ 64 - 1 → less ≤ t + more → moved more less t + less ≡ t + more
moved_exact more less t within enough = omega (arith, within, enough)

pub changed : (c : ℕ → ℕ) (more less most : ℕ) → ((t : ℕ) → t + more ≤ most → less ≤ t + more → c t + less ≡ t + more)
    → (before after : Nodes) (way : Way) (g h : Branches) → Totals before (around way g) → ((number : ℕ) → times number (around way g) ≤ 1)
    → ((row : Row) → same_row (end_of Top way) row ≡ false → told_count after row ≡ told_count before row)
    → ((row : Row) → total_at after row ≡ cond (on_way Top way row) (c (total_at before row)) (total_at before row))
    → AreTotals after h
    → (told_count after (end_of Top way) + all_told after h) + less ≡ (told_count before (end_of Top way) + all_told before g) + more
    → 2 ^ 62 + more ≤ most → IsSmall after (around way h) → Totals after (around way h)
changed c more less most exact before after way g h all once told totals are ends within small =
    let few = few_all before all.small.each (around way g) all.small.few in
    let top = all.top in
    let made = climbed c more less most exact before after g h are Top way told (totals Top) (λ id some. totals (Below id)) (λ id some. refl) once ends
    (omega (arith, few, top, within)) all.top all.below in
    record { top = made.0; below = made.1; small = small }

pub are_end : (nodes : Nodes) (way : Way) (g : Branches) → AreTotals nodes (around way g) → AreTotals nodes g
are_end nodes [] g a = a
are_end nodes (frame ∷ way) g a = are_end nodes way g (are_second nodes frame.before (node frame.label (around way g) frame.after) a).1

pub below_outside : (way : Way) (x : NodeId) → is_below way (Below x) ≡ true → 1 ≤ outside (is_number x.0) way
below_outside [] x below = absurd (false≢true below)
below_outside (frame ∷ way) x below = by (λ more. below_outside way x more) (same_row (Below frame.label.id) (Below x)) refl below
  where
    by : (is_below way (Below x) ≡ true → 1 ≤ outside (is_number x.0) way)
        → (b : Bool) → same_row (Below frame.label.id) (Below x) ≡ b → (b || is_below way (Below x)) ≡ true → 1 ≤ outside (is_number x.0) (frame ∷ way)
    by rest true same below = let one : is_number x.0 frame.label ≡ 1 = ap (λ b. cond b 1 0) same in omega (arith, one)
    by rest false same below = let more = rest below in omega (arith, more)

-- ---- what stands in a row is put in the place of what stood there

module _ (before after : Nodes) (way : Way) (first x y rest : Branches) where
  abbrev pub old : Branches
  old = join first (join y rest)

  abbrev pub new : Branches
  new = join first (join x rest)

  in_old : (w : Numbered → ℕ) → weigh w old ≡ weigh w first + (weigh w y + weigh w rest)
  in_old w = let a = weigh_join w first (join y rest) in let b = weigh_join w y rest in omega (arith, a, b)

  in_new : (w : Numbered → ℕ) → weigh w new ≡ weigh w first + (weigh w x + weigh w rest)
  in_new w = let a = weigh_join w first (join x rest) in let b = weigh_join w x rest in omega (arith, a, b)

  module _ (c : ℕ → ℕ) (more less most : ℕ) (exact : (t : ℕ) → t + more ≤ most → less ≤ t + more → c t + less ≡ t + more) where
    pub replaced : Totals before (around way old) → ((number : ℕ) → times number (around way old) ≤ 1)
        → ((row : Row) → told_at after row ≡ told_at before row)
        → ((row : Row) → total_at after row ≡ cond (on_way Top way row) (c (total_at before row)) (total_at before row))
        → AreTotals after x → all_told after x ≡ more → all_told before y ≡ less
        → 2 ^ 63 ≤ most → size (around way new) ≤ 2 ^ 28 → Totals after (around way new)
    replaced all once told totals are is_more is_less within few =
        changed c more less most exact before after way old new all once (λ row apart. same_count row) totals news ends
        (let some = few_in after few_each x in let part = x_within in omega (arith, some, part, few, is_more, within))
        (record { few = few; each = few_each })
      where
        same_count : (row : Row) → told_count after row ≡ told_count before row
        same_count row = ap (λ o. option_map_or number_of o 0) (told row)

        few_each : (row : Row) → IfSome (told_at after row) IsFew
        few_each row = subst (λ o. IfSome o IsFew) (sym (told row)) (all.small.each row)

        x_within : size x ≤ size (around way new)
        x_within =
            let a = size_weigh x in let b = size_weigh (around way new) in
            let d = weigh_around (λ _. 1) way new in let e = in_new (λ _. 1) in
            omega (arith, a, b, d, e)

        still : (id : NodeId) → 0 < times id.0 old → total_at after (Below id) ≡ total_at before (Below id)
        still id some =
            totals (Below id) ∙ ap (λ b. cond b (c (total_at before (Below id))) (total_at before (Below id)))
            (not_both (is_below way (Below id)) (λ below.
            let out = below_outside way id below in let whole = weigh_around (is_number id.0) way old in let one = once id.0 in
            omega (arith, out, whole, one, some)))

        olds : AreTotals before old
        olds = are_end before way old all.below

        news : AreTotals after new
        news =
            are_join after first (join x rest)
            (are_same before after first (λ id some. same_count (Below id)) (λ id some. still id (let parts = in_old (is_number id.0) in omega (arith, parts, some)))
            (are_first before first (join y rest) olds))
            (are_join after x rest are
            (are_same before after rest (λ id some. same_count (Below id)) (λ id some. still id (let parts = in_old (is_number id.0) in omega (arith, parts, some)))
            (are_second before y rest (are_second before first (join y rest) olds))))

        ends : (told_count after (end_of Top way) + all_told after new) + less ≡ (told_count before (end_of Top way) + all_told before old) + more
        ends =
            let here = same_count (end_of Top way) in
            let a = in_old (λ n. told_count before (Below n.id)) in
            let b = in_new (λ n. told_count after (Below n.id)) in
            let d = told_same before after first (λ id some. same_count (Below id)) in
            let e = told_same before after rest (λ id some. same_count (Below id)) in
            omega (arith, here, a, b, d, e, is_more, is_less)

-- ---- what is told at one row

change_told : (change : Told → Told) (o w : Option Held) → w ≡ option_map (with_told change) o
    → option_map (λ held. held.told) w ≡ option_map change (option_map (λ held. held.told) o)
change_told change (Some h) w e = ap (option_map (λ held. held.told)) e
change_told change None w e = ap (option_map (λ held. held.told)) e

pub told_changed : (row : Row) (change : Told → Told) (before after : Nodes) → ChangesRow row (option_map (with_told change)) before after
    → told_at after row ≡ option_map change (told_at before row)
told_changed row change before after changes = change_told change (held_at before row) (held_at after row) changes.changed

module _ (row : Row) (change : Told → Told) (more less : ℕ) (old mid new : Nodes) (told : Told)
    (changes : ChangesRow row (option_map (with_told change)) old mid) (is : told_at old row ≡ Some told)
    (numbers : number_of (change told) + less ≡ number_of told + more) (few_more : more ≤ 2 ^ 62) (few : IsFew (change told)) where
  pub told_there : told_at mid row ≡ Some (change told)
  told_there = told_changed row change old mid changes ∙ ap (option_map change) is

  others_there : (other : Row) → same_row row other ≡ false → told_at mid other ≡ told_at old other
  others_there other apart = ap (option_map (λ held. held.told)) (changes.others other apart)

  module _ (way : Way) (g : Branches) (tree : IsTree old (around way g)) (all : Totals old (around way g)) (ends : end_of Top way ≡ row)
      (climbs : Climbs way more less mid new) where
    outer : (number : ℕ) → outside (is_number number) way + times number g ≤ 1
    outer number = let whole = weigh_around (is_number number) way g in let most = tree.once number in omega (arith, whole, most)

    apart_row : (id : NodeId) → 0 < times id.0 g → same_row row (Below id) ≡ false
    apart_row id some = subst (λ r. same_row r (Below id) ≡ false) ends (apart Top way g outer id some)

    still : (other : Row) → total_at mid other ≡ total_at old other
    still other = same_total old mid other (left_alone (λ h. h.total) (with_told change) (λ h. refl) row old mid changes other)

    total_is : (other : Row) → total_at new other ≡ cond (on_way Top way other) (moved more less (total_at old other)) (total_at old other)
    total_is other = climbs.totals other ∙ ap (λ t. cond (on_way Top way other) (moved more less t) t) (still other)

    count_same : (other : Row) → same_row row other ≡ false → told_count new other ≡ told_count old other
    count_same other apart = ap (λ o. option_map_or number_of o 0) (climbs.told other ∙ others_there other apart)

    are : AreTotals new g
    are =
        are_same old new g (λ id some. count_same (Below id) (apart_row id some))
        (λ id some. total_is (Below id) ∙ ap (λ b. cond b (moved more less (total_at old (Below id))) (total_at old (Below id)))
        (not_both (is_below way (Below id)) (λ below. let out = below_outside way id below in let one = outer id.0 in omega (arith, out, one, some))))
        (are_end old way g all.below)

    new_there : told_at new row ≡ Some (change told)
    new_there = climbs.told row ∙ told_there

    new_count : told_count new (end_of Top way) ≡ number_of (change told)
    new_count = ap (told_count new) ends ∙ ap (λ o. option_map_or number_of o 0) new_there

    old_count : told_count old (end_of Top way) ≡ number_of told
    old_count = ap (told_count old) ends ∙ ap (λ o. option_map_or number_of o 0) is

    each : (other : Row) → IfSome (told_at new other) IsFew
    each other = by (same_row row other) refl
      where
        by : (b : Bool) → same_row row other ≡ b → IfSome (told_at new other) IsFew
        by true e = subst (λ r. IfSome (told_at new r) IsFew) (same_rows row other e) (subst (λ o. IfSome o IsFew) (sym new_there) few)
        by false e = subst (λ o. IfSome o IsFew) (sym (climbs.told other ∙ others_there other e)) (all.small.each other)

    pub along : Totals new (around way g)
    along =
        changed (moved more less) more less (2 ^ 64 - 1) (moved_exact more less) old new way g g all tree.once
        (λ other apart. count_same other (subst (λ r. same_row r other ≡ false) ends apart))
        total_is are
        (let same = told_same old new g (λ id some. count_same (Below id) (apart_row id some)) in
        let now = new_count in let was = old_count in omega (arith, same, now, was, numbers))
        (omega (arith, few_more))
        (record { few = all.small.few; each = each })

  pub told_row : (f : Branches) → IsTree old f → Totals old f → StandsIn row f
      → ((way : Way) (g : Branches) → IsTree mid (around way g) → end_of Top way ≡ row → Climbs way more less mid new) → Totals new f
  told_row f tree all stands climb = by row refl stands
    where
      tree_mid : (g : Branches) → IsTree old g → IsTree mid g
      tree_mid g tree = tree_same old mid (frame.told_same row old mid change changes) g tree

      by : (r : Row) → row ≡ r → StandsIn r f → Totals new f
      by Top e stands = along [] f tree all (sym e) (climb [] f (tree_mid f tree) (sym e))
      by (Below id) e stands =
          let to = way_to id f stands in
          let way : Way = to.first ∷ to.rest in
          let tree_to : IsTree old (around way to.below) = subst (λ g. IsTree old g) to.is_forest tree in
          let ends : end_of Top way ≡ row = to.ends ∙ sym e in
          subst (λ g. Totals new g) (sym to.is_forest)
          (along way to.below tree_to (subst (λ g. Totals old g) to.is_forest all) ends (climb way to.below (tree_mid (around way to.below) tree_to) ends))

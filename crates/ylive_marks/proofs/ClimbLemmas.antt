-- A climb, row by row.
use Rattle.std.proofs.Common.{◌≡◌, ℕ, ◌+◌, ◌≤◌, Bool, true, false, [], ◌∷◌, ◌++◌, length, Option, Some, None, is_some, option_map, refl, sym, ap, ◌∙◌, arith, subst, cond, length-append, append-nil}
use Rattle.std.specs.Option.{option_map_or}
use Rattle.std.proofs.lemmas.Bool.{false≢true}
use Rattle.std.proofs.lemmas.Option.{same_Some, none-some}
use Rattle.ystore.specs.Held.{Held, with_total}
use Rattle.ystore.specs.Store.{held_at, total_at, node_count, same_row, ChangesRow}
use Rattle.ystore_rows.specs.declared.row.Row.{Row}
use Rattle.ystore_rows.specs.declared.row.Row.TheVariants.{Top, Below}
use Rattle.ystore.specs.declared.nodes.Nodes.{Nodes}
use Rattle.ystore_tree.specs.Hanging.{Branches, Hangs, times}
use Rattle.ystore_tree.specs.Ways.{Frame, Way, around, end_of}
use Rattle.ystore_tree.specs.Parts.{OnlyReads}
use Rattle.ystore_tree.proofs.FrameLemmas.{same_rows, total_same}
use Rattle.ystore_tree.proofs.CopyLemmas.{label_shape}
use Rattle.ystore_tree.proofs.FoundLemmas.{end_more}
use Rattle.ylive_marks.specs.Totals.{IsTree, Climbs, OnlyFaults, SameTold, above_of, is_below, on_way, moved}
use Rattle.ylive_marks.proofs.WayLemmas.{by_last, around_append, append_one, end_held, step_up, fresh, way_within}

-- ---- one row

-- what a change leaves of one row stays at all
pub left_alone : {X : Type 0} (see : Held → X) (change : Held → Held) → ((h : Held) → see (change h) ≡ see h) → (row : Row) (before after : Nodes)
    → ChangesRow row (option_map change) before after → (other : Row) → option_map see (held_at after other) ≡ option_map see (held_at before other)
left_alone see change leaves row before after changes other = by (same_row row other) refl
  where
    still : (o : Option Held) → option_map see (option_map change o) ≡ option_map see o
    still (Some h) = ap Some (leaves h)
    still None = refl

    by : (b : Bool) → same_row row other ≡ b → option_map see (held_at after other) ≡ option_map see (held_at before other)
    by true e = subst (λ r. option_map see (held_at after r) ≡ option_map see (held_at before r)) (same_rows row other e) (ap (option_map see) changes.changed ∙ still (held_at before row))
    by false e = ap (option_map see) (changes.others other e)

pub total_seen : (o : Option Held) → option_map_or (λ held. held.total) o 0 ≡ option_map_or (λ t. t) (option_map (λ held. held.total) o) 0
total_seen (Some held) = refl
total_seen None = refl

pub same_total : (before after : Nodes) (row : Row) → option_map (λ held. held.total) (held_at after row) ≡ option_map (λ held. held.total) (held_at before row)
    → total_at after row ≡ total_at before row
same_total before after row e =
    total_seen (held_at after row) ∙ (ap (λ o. option_map_or (λ t. t) o 0) e ∙ sym (total_seen (held_at before row)))

module _ (row : Row) (before after : Nodes) (change : ℕ → ℕ) (changes : ChangesRow row (option_map (with_total change)) before after) where
  pub total_told : SameTold before after
  total_told = left_alone (λ h. h.told) (with_total change) (λ h. refl) row before after changes

  pub total_only : OnlyFaults before after
  total_only =
      let same = total_same row before after change changes in
      record {
        shapes = same.shapes;
        rooms = left_alone (λ h. h.room) (with_total change) (λ h. refl) row before after changes;
        entries = changes.entries;
        node_count = same.all;
      }

  pub total_changed : is_some (held_at before row) ≡ true → (other : Row)
      → total_at after other ≡ cond (same_row row other) (change (total_at before other)) (total_at before other)
  total_changed there other = by (same_row row other) refl
    where
      here : (o w : Option Held) → is_some o ≡ true → w ≡ option_map (with_total change) o
          → option_map_or (λ held. held.total) w 0 ≡ change (option_map_or (λ held. held.total) o 0)
      here (Some h) w some e = ap (λ o. option_map_or (λ held. held.total) o 0) e
      here None w none e = absurd (false≢true none)

      by : (b : Bool) → same_row row other ≡ b → total_at after other ≡ cond b (change (total_at before other)) (total_at before other)
      by true e =
          subst (λ r. total_at after r ≡ change (total_at before r)) (same_rows row other e)
          (here (held_at before row) (held_at after row) there changes.changed)
      by false e = ap (λ o. option_map_or (λ held. held.total) o 0) (changes.others other e)

pub only_on : (first second third : Nodes) → OnlyFaults first second → OnlyFaults second third → OnlyFaults first third
only_on first second third a b =
    record {
      shapes = λ row. b.shapes row ∙ a.shapes row;
      rooms = λ row. b.rooms row ∙ a.rooms row;
      entries = λ key. b.entries key ∙ a.entries key;
      node_count = b.node_count ∙ a.node_count;
    }

pub read_only : (before after : Nodes) → OnlyReads before after → OnlyFaults before after
read_only before after reads =
    record {
      shapes = λ row. ap (option_map (λ held. held.shape)) (reads.held row);
      rooms = λ row. ap (option_map (λ held. held.room)) (reads.held row);
      entries = reads.entries;
      node_count = reads.node_count;
    }

pub read_told : (before after : Nodes) → OnlyReads before after → SameTold before after
read_told before after reads row = ap (option_map (λ held. held.told)) (reads.held row)

pub read_total : (before after : Nodes) → OnlyReads before after → (row : Row) → total_at after row ≡ total_at before row
read_total before after reads row = ap (λ o. option_map_or (λ held. held.total) o 0) (reads.held row)

-- the rows above stay where the shapes do
pub same_above : (before after : Nodes) → OnlyFaults before after → (row : Row) → above_of after row ≡ above_of before row
same_above before after only Top = refl
same_above before after only (Below id) =
    ap (option_map (λ l. l.parent))
    (label_shape (held_at after (Below id)) ∙ (ap (λ o. option_map_or (λ s. s.label) o None) (only.shapes (Below id)) ∙ sym (label_shape (held_at before (Below id)))))

some_shape : (o p : Option Held) → option_map (λ held. held.shape) o ≡ option_map (λ held. held.shape) p → is_some o ≡ is_some p
some_shape (Some h) (Some i) e = refl
some_shape (Some h) None e = ap is_some e
some_shape None (Some i) e = ap is_some e
some_shape None None e = refl

-- ---- so far

-- the totals on a part of a way are changed, from its end up to a row; that part is so many steps long
pub record SoFar (way : Way) (here : Row) (rounds : ℕ) (change : ℕ → ℕ) (before now : Nodes) : Type 0 where
  pub up : Way
  pub down : Way
  pub is_way : up ++ down ≡ way
  pub ends : end_of Top up ≡ here
  pub long : length down ≡ rounds
  pub totals : (row : Row) → total_at now row ≡ cond (on_way here down row) (change (total_at before row)) (total_at before row)

pub begins : (way : Way) (f : Branches) (row : Row) (change : ℕ → ℕ) (before after : Nodes) → IsTree before (around way f) → end_of Top way ≡ row
    → ChangesRow row (option_map (with_total change)) before after → SoFar way row 0 change before after
begins way f row change before after tree ends changes =
    record {
      up = way;
      down = [];
      is_way = append-nil way;
      ends = ends;
      long = refl;
      totals = λ other.
          total_changed row before after change changes (subst (λ r. is_some (held_at before r) ≡ true) ends (end_held before f way tree.hangs)) other
          ∙ by other (same_row row other) refl;
    }
  where
    by : (other : Row) (b : Bool) → same_row row other ≡ b → cond (same_row row other) (change (total_at before other)) (total_at before other)
        ≡ cond (on_way row [] other) (change (total_at before other)) (total_at before other)
    by other true e = rw e refl
    by other false e = rw e refl

module _ (way : Way) (f : Branches) (here : Row) (rounds : ℕ) (change : ℕ → ℕ) (before now mid : Nodes)
    (tree : IsTree before (around way f)) (only : OnlyFaults before now) (reads : OnlyReads now mid) where
  pub goes_up : (above : Row) (after : Nodes) → Some above ≡ above_of now here → ChangesRow above (option_map (with_total change)) mid after
      → SoFar way here rounds change before now → SoFar way above (rounds + 1) change before after
  goes_up above after is changes so =
      by_last (λ up. up ++ so.down ≡ way → end_of Top up ≡ here → SoFar way above (rounds + 1) change before after) none more so.up so.is_way so.ends
    where
      none : [] ++ so.down ≡ way → Top ≡ here → SoFar way above (rounds + 1) change before after
      none whole ends = absurd (none-some above (sym (is ∙ ap (above_of now) (sym ends))))

      more : (up : Way) (frame : Frame) → (up ++ frame ∷ []) ++ so.down ≡ way → end_of Top (up ++ frame ∷ []) ≡ here → SoFar way above (rounds + 1) change before after
      more up frame whole ends =
          record {
            up = up;
            down = frame ∷ so.down;
            is_way = joined;
            ends = above_is;
            long = let long = so.long in omega (arith, long);
            totals = λ row. total_changed above mid after change changes held row ∙ by row (same_row above row) refl;
          }
        where
          joined : up ++ frame ∷ so.down ≡ way
          joined = sym (append_one up frame so.down) ∙ whole

          there : Hangs before Top (around ((up ++ frame ∷ []) ++ so.down) f)
          there = subst (λ w. Hangs before Top (around w f)) (sym whole) tree.hangs

          under : Hangs before Top (around (up ++ frame ∷ []) (around so.down f))
          under = subst (λ g. Hangs before Top g) (around_append (up ++ frame ∷ []) so.down f) there

          here_is : here ≡ Below frame.label.id
          here_is = sym ends ∙ end_more Top up frame

          above_is : end_of Top up ≡ above
          above_is =
              same_Some (end_of Top up) above
              (sym (step_up before (around so.down f) up frame under)
              ∙ (sym (same_above before now only (Below frame.label.id)) ∙ (ap (above_of now) (sym here_is) ∙ sym is)))

          upper : Hangs before Top (around up (around (frame ∷ so.down) f))
          upper = subst (λ g. Hangs before Top g) (around_append up (frame ∷ so.down) f) (subst (λ w. Hangs before Top (around w f)) (sym joined) tree.hangs)

          held : is_some (held_at mid above) ≡ true
          held =
              ap is_some (reads.held above)
              ∙ (some_shape (held_at now above) (held_at before above) (only.shapes above)
              ∙ subst (λ r. is_some (held_at before r) ≡ true) above_is (end_held before (around (frame ∷ so.down) f) up upper))

          apart : is_below (frame ∷ so.down) above ≡ false
          apart =
              subst (λ r. is_below (frame ∷ so.down) r ≡ false) above_is
              (fresh up frame so.down f (λ number. subst (λ w. times number (around w f) ≤ 1) (sym joined) (tree.once number)))

          now_is : (row : Row) → total_at mid row ≡ cond (is_below (frame ∷ so.down) row) (change (total_at before row)) (total_at before row)
          now_is row =
              read_total now mid reads row
              ∙ (so.totals row ∙ ap (λ r. cond (on_way r so.down row) (change (total_at before row)) (total_at before row)) here_is)

          by : (row : Row) (b : Bool) → same_row above row ≡ b → cond (same_row above row) (change (total_at mid row)) (total_at mid row)
              ≡ cond (on_way above (frame ∷ so.down) row) (change (total_at before row)) (total_at before row)
          by row true e =
              let is_apart : is_below (frame ∷ so.down) row ≡ false = subst (λ r. is_below (frame ∷ so.down) r ≡ false) (same_rows above row e) apart in
              let was : total_at mid row ≡ total_at before row = now_is row ∙ ap (λ b. cond b (change (total_at before row)) (total_at before row)) is_apart in
              rw e (ap change was)
          by row false e = rw e (now_is row)

-- at the top, or after as many rounds as there are nodes, all of the way is changed
pub at_top : (way : Way) (f : Branches) (here : Row) (rounds more less : ℕ) (before now after : Nodes) → IsTree before (around way f) → OnlyFaults before now → OnlyReads now after
    → SameTold before now → None ≡ above_of now here → SoFar way here rounds (moved more less) before now → Climbs way more less before after
at_top way f here rounds more less before now after tree only reads told none so =
    by_last (λ up. up ++ so.down ≡ way → end_of Top up ≡ here → Climbs way more less before after) top inside so.up so.is_way so.ends
  where
    top : so.down ≡ way → Top ≡ here → Climbs way more less before after
    top whole ends =
        record {
          totals = λ row. read_total now after reads row ∙ (so.totals row
              ∙ (ap (λ r. cond (on_way r so.down row) (moved more less (total_at before row)) (total_at before row)) (sym ends)
              ∙ ap (λ w. cond (on_way Top w row) (moved more less (total_at before row)) (total_at before row)) whole));
          told = λ row. read_told now after reads row ∙ told row;
        }

    inside : (up : Way) (frame : Frame) → (up ++ frame ∷ []) ++ so.down ≡ way → end_of Top (up ++ frame ∷ []) ≡ here → Climbs way more less before after
    inside up frame whole ends =
        let there : Hangs before Top (around ((up ++ frame ∷ []) ++ so.down) f) = subst (λ w. Hangs before Top (around w f)) (sym whole) tree.hangs in
        let under : Hangs before Top (around (up ++ frame ∷ []) (around so.down f)) = subst (λ g. Hangs before Top g) (around_append (up ++ frame ∷ []) so.down f) there in
        absurd (none-some (end_of Top up)
        (none ∙ (ap (above_of now) (sym ends ∙ end_more Top up frame)
        ∙ (same_above before now only (Below frame.label.id) ∙ step_up before (around so.down f) up frame under))))

pub all_done : (way : Way) (f : Branches) (here : Row) (rounds more less : ℕ) (before now : Nodes) → IsTree before (around way f) → node_count before ≤ rounds
    → SameTold before now → SoFar way here rounds (moved more less) before now → Climbs way more less before now
all_done way f here rounds more less before now tree enough told so = by so.up so.is_way so.ends
  where
    by : (up : Way) → up ++ so.down ≡ way → end_of Top up ≡ here → Climbs way more less before now
    by [] whole ends =
        record {
          totals = λ row. so.totals row
              ∙ (ap (λ r. cond (on_way r so.down row) (moved more less (total_at before row)) (total_at before row)) (sym ends)
              ∙ ap (λ w. cond (on_way Top w row) (moved more less (total_at before row)) (total_at before row)) whole);
          told = told;
        }
    by (frame ∷ up) whole ends =
        let long = ap length whole in
        let parts = length-append (frame ∷ up) so.down in
        let done = so.long in
        let within = way_within way f in
        let fits = tree.within in
        absurd (omega (arith, long, parts, done, within, fits, enough))

-- ---- how long it is

pub so_long : (way : Way) (here : Row) (rounds : ℕ) (change : ℕ → ℕ) (before now : Nodes) → SoFar way here rounds change before now → rounds ≤ length way
so_long way here rounds change before now so =
    let long = ap length so.is_way in let parts = length-append so.up so.down in let done = so.long in omega (arith, long, parts, done)

pub here_top : (way : Way) (f : Branches) (here : Row) (rounds : ℕ) (change : ℕ → ℕ) (before now : Nodes) → IsTree before (around way f) → OnlyFaults before now
    → None ≡ above_of now here → SoFar way here rounds change before now → here ≡ Top
here_top way f here rounds change before now tree only none so =
    by_last (λ up. up ++ so.down ≡ way → end_of Top up ≡ here → here ≡ Top) (λ whole ends. sym ends) inside so.up so.is_way so.ends
  where
    inside : (up : Way) (frame : Frame) → (up ++ frame ∷ []) ++ so.down ≡ way → end_of Top (up ++ frame ∷ []) ≡ here → here ≡ Top
    inside up frame whole ends =
        let there : Hangs before Top (around ((up ++ frame ∷ []) ++ so.down) f) = subst (λ w. Hangs before Top (around w f)) (sym whole) tree.hangs in
        let under : Hangs before Top (around (up ++ frame ∷ []) (around so.down f)) = subst (λ g. Hangs before Top g) (around_append (up ++ frame ∷ []) so.down f) there in
        absurd (none-some (end_of Top up)
        (none ∙ (ap (above_of now) (sym ends ∙ end_more Top up frame)
        ∙ (same_above before now only (Below frame.label.id) ∙ step_up before (around so.down f) up frame under))))

-- What no key tells of the nodes of a document whose row at the end of a way is changed.
use Rattle.std.proofs.Common.{◌≡◌, ℕ, ◌+◌, ◌<◌, ◌≤◌, false, List, [], ◌∷◌, Option, Some, None, option_map, refl, sym, ap, ◌∙◌, arith, subst, cond, eqb}
use Rattle.std.specs.Prelude.{count_by}
use Rattle.std.proofs.lemmas.Bool.{ne_eqb, eq-eqb}
use Rattle.yspec.specs.Forest.{node, row}
use Rattle.yspec.specs.schema.Schema.{Schema, row_at}
use Rattle.yspec.specs.document.Document.{Stored, Tree}
use Rattle.ycheck.specs.declared.fault.FaultCode.{FaultCode}
use Rattle.yschema_model.specs.declared.node.SchemaId.{SchemaId}
use Rattle.ystore.specs.Store.{same_row}
use Rattle.ystore_rows.specs.declared.row.NodeId.{NodeId}
use Rattle.ystore_rows.specs.declared.row.Row.{Row}
use Rattle.ystore_rows.specs.declared.row.Row.TheVariants.{Top, Below}
use Rattle.ystore.specs.declared.nodes.Nodes.{Nodes}
use Rattle.ystore_tree.specs.Hanging.{Numbered, Branches, stored_of, tree_of, is_number, times}
use Rattle.ystore_tree.specs.Swaps.{Swaps}
use Rattle.ystore_tree.specs.Ways.{Frame, Way, around, end_of}
use Rattle.ystore_tree.specs.declared.swapping.Change.{Change}
use Rattle.ystore_tree.proofs.HangingLemmas.{weigh_join, weigh_around, is_itself}
use Rattle.ystore_tree.proofs.GrowLemmas.{tree_join}
use Rattle.yspec_play.specs.Absences.{absences_in}
use Rattle.ylive_facts.specs.InPlay.{absence_views}
use Rattle.ylive_marks.specs.Keys.{Own, own_at}
use Rattle.ylive_retell.specs.Each.{Each, OnWay, Around, beside_way, on_way}
use Rattle.ylive_retell.specs.IsTold.{TellsOwn}
use Rattle.ylive_retell.specs.Plans.{row_schema}
use Rattle.ylive_retell.specs.Standing.{Every, standing, absences_in_row}
use Rattle.ylive_retell.proofs.EachLemmas.{each_there, each_around, each_again, each_standing, around_again}
use Rattle.ylive_retell.proofs.KeptLemmas.{each_swapped}
use Rattle.ylive_retell.proofs.SumLemmas.{same_labels}
use Rattle.ylive_retell.proofs.UnlikeLemmas.{parts_way}

-- ---- rows of which the labels stay

-- a row on the way has the same labels, whatever stands at its end
pub labels_same : (frame : Frame) (way : Way) (f g : Branches) → row (tree_of (around (frame ∷ way) f)) ≡ row (tree_of (around (frame ∷ way) g))
labels_same frame way f g =
    ap row (tree_join frame.before (node frame.label (around way f) frame.after))
    ∙ (same_labels (tree_of frame.before) (stored_of frame.label) (tree_of (around way f)) (tree_of (around way g)) (tree_of frame.after)
    ∙ ap row (sym (tree_join frame.before (node frame.label (around way g) frame.after))))

module _ (schema : Schema) (above : Option ℕ) (t u : Tree) (same : row t ≡ row u) where
  pub absences_same : absences_in_row schema above t ≡ absences_in_row schema above u
  absences_same = ap (λ (ss : List Stored). absences_in (λ number. count_by (λ (s : Stored). eqb s.schema_number number) ss) [] (row_at schema above)) same

-- ---- nodes

module _ (schema : Schema) (before after : Nodes) where
  -- the same is told of a node, with other labels nowhere below it
  kept_node : (r s : Row) (n : Numbered) (b c : Branches) → own_at after (Below n.id) ≡ own_at before (Below n.id)
      → absences_in_row schema (Some n.schema.0) (tree_of b) ≡ absences_in_row schema (Some n.schema.0) (tree_of c)
      → TellsOwn schema before r n b → TellsOwn schema after s n c
  kept_node r s n b c own same tells =
      record {
        own = tells.own;
        held = own ∙ tells.held;
        is_wrong = tells.is_wrong;
        is_play = tells.is_play ∙ same;
        are_flags = tells.are_flags;
      }

  -- or what isn't stored in the row below it is told anew
  played_node : (r s : Row) (n : Numbered) (b c : Branches) (play : List (FaultCode × SchemaId))
      → own_at after (Below n.id) ≡ option_map (λ (o : Own). record o { play = play }) (own_at before (Below n.id))
      → absence_views play ≡ absences_in_row schema (Some n.schema.0) (tree_of c)
      → TellsOwn schema before r n b → TellsOwn schema after s n c
  played_node r s n b c play own is tells =
      record {
        own = record tells.own { play = play };
        held = own ∙ ap (option_map (λ (o : Own). record o { play = play })) tells.held;
        is_wrong = tells.is_wrong;
        is_play = is;
        are_flags = tells.are_flags;
      }

  module _ (way : Way) (f loose g left : Branches) (of : SchemaId) (change : Change) (swaps : Swaps of change f loose g left)
      (once : (k : ℕ) → times k (around way f) + times k loose ≤ 1) (part : (k : ℕ) → times k g + times k left ≡ times k f + times k loose)
      (play : List (FaultCode × SchemaId))
      (same : (id : NodeId) → 0 < times id.0 (around way g) → times id.0 loose ≡ 0 → same_row (end_of Top way) (Below id) ≡ false
      → own_at after (Below id) ≡ own_at before (Below id))
      (there : (id : NodeId) → end_of Top way ≡ Below id → own_at after (Below id) ≡ option_map (λ (o : Own). record o { play = play }) (own_at before (Below id)))
      (new : Every (λ s. TellsOwn schema after s.row s.label s.below) (standing (end_of Top way) loose))
      (is_play : absence_views play ≡ absences_in_row schema (row_schema None way) (tree_of g)) where
    abbrev Q : Row → Numbered → Branches → Type 0
    Q = TellsOwn schema before

    abbrev R : Row → Numbered → Branches → Type 0
    R = TellsOwn schema after

    -- the row at the end of a way isn't that of a node beside it
    off_end : (r : Row) (w : Way) (id : NodeId) → same_row r (Below id) ≡ false → on_way id.0 w ≡ 0 → same_row (end_of r w) (Below id) ≡ false
    off_end r [] id other none = other
    off_end r (frame ∷ w) id other none = off_end (Below frame.label.id) w id (ne_eqb frame.label.id.0 id.0 differ) (omega (arith, none))
      where
        differ : frame.label.id.0 ≡ id.0 → ⊥
        differ e = let one : is_number id.0 frame.label ≡ 1 = ap (λ b. cond b 1 0) (eq-eqb frame.label.id.0 id.0 e) in omega (arith, none, one)

    whole : (k : ℕ) → times k (around way f) ≡ (beside_way k way + on_way k way) + times k f
    whole k = let all = weigh_around (is_number k) way f in let parts = parts_way k way in omega (arith, all, parts)

    whole_new : (k : ℕ) → times k (around way g) ≡ (beside_way k way + on_way k way) + times k g
    whole_new k = let all = weigh_around (is_number k) way g in let parts = parts_way k way in omega (arith, all, parts)

    -- nodes that stay and aren't on the way
    still : (r : Row) (n : Numbered) (below : Branches) → 1 ≤ times n.id.0 (around way g) → times n.id.0 loose ≡ 0 → on_way n.id.0 way ≡ 0 → Q r n below → R r n below
    still r n below stands old off tells =
        kept_node r r n below below (same n.id stands old (off_end Top way n.id refl off)) refl tells

    up_way : (r : Row) (w : Way) (s : Option ℕ) → end_of r w ≡ end_of Top way → row_schema s w ≡ row_schema None way
        → ((k : ℕ) → times k (around w g) ≤ times k (around way g)) → ((k : ℕ) → times k (around w f) ≤ times k (around way f))
        → Around Q r w f → OnWay R r w g
    up_way r [] s ends is_schema inside within tells = tt
    up_way r (frame ∷ []) s ends is_schema inside within tells = (
      played_node r r frame.label f g play (there frame.label.id (sym ends))
          (is_play ∙ ap (λ o. absences_in_row schema o (tree_of g)) (sym is_schema)) tells.1,
      tt,
    )
    up_way r (frame ∷ next ∷ w) s ends is_schema inside within tells = (
      kept_node r r frame.label (around (next ∷ w) f) (around (next ∷ w) g)
          (same frame.label.id (omega (arith, here, there_in)) (omega (arith, most, was, there_was))
          (subst (λ (e : Row). same_row e (Below frame.label.id) ≡ false) ends
          (off_end (Below next.label.id) w frame.label.id (ne_eqb next.label.id.0 frame.label.id.0 differ) (omega (arith, off)))))
          (absences_same schema (Some frame.label.schema.0) (tree_of (around (next ∷ w) f)) (tree_of (around (next ∷ w) g)) (labels_same next w f g))
          tells.1,
      up_way (Below frame.label.id) (next ∷ w) (Some frame.label.schema.0) ends is_schema
          (λ k. let less = inside k in let all = weigh_join (is_number k) frame.before (node frame.label (around (next ∷ w) g) frame.after) in omega (arith, less, all))
          (λ k. let less = within k in let all = weigh_join (is_number k) frame.before (node frame.label (around (next ∷ w) f) frame.after) in omega (arith, less, all))
          tells.3,
    )
      where
        number : ℕ
        number = frame.label.id.0

        one : is_number frame.label.id.0 frame.label ≡ 1
        one = is_itself frame.label

        here : times frame.label.id.0 (around (frame ∷ next ∷ w) g) ≤ times frame.label.id.0 (around way g)
        here = inside frame.label.id.0

        there_in : 1 ≤ times frame.label.id.0 (around (frame ∷ next ∷ w) g)
        there_in =
            let all = weigh_join (is_number frame.label.id.0) frame.before (node frame.label (around (next ∷ w) g) frame.after) in
            let self = is_itself frame.label in omega (arith, all, self)

        was : times frame.label.id.0 (around (frame ∷ next ∷ w) f) ≤ times frame.label.id.0 (around way f)
        was = within frame.label.id.0

        there_was : 1 ≤ times frame.label.id.0 (around (frame ∷ next ∷ w) f)
        there_was =
            let all = weigh_join (is_number frame.label.id.0) frame.before (node frame.label (around (next ∷ w) f) frame.after) in
            let self = is_itself frame.label in omega (arith, all, self)

        most : times frame.label.id.0 (around way f) + times frame.label.id.0 loose ≤ 1
        most = once frame.label.id.0

        -- it stands on the way only here
        off : is_number frame.label.id.0 next.label + on_way frame.label.id.0 w ≡ 0
        off =
            let all = weigh_join (is_number frame.label.id.0) frame.before (node frame.label (around (next ∷ w) f) frame.after) in
            let self = is_itself frame.label in
            let inner = weigh_around (is_number frame.label.id.0) (next ∷ w) f in
            let parts = parts_way frame.label.id.0 (next ∷ w) in
            omega (arith, all, self, inner, parts, was, most)

        differ : next.label.id.0 ≡ frame.label.id.0 → ⊥
        differ e =
            let hit : is_number frame.label.id.0 next.label ≡ 1 = ap (λ b. cond b 1 0) (eq-eqb next.label.id.0 frame.label.id.0 e) in
            omega (arith, off, hit)

    pub own_kept : Each Q Top (around way f) → Each R Top (around way g)
    own_kept tells =
        each_again R Top way g
        (around_again Q R Top way f g
        (λ r n below more. still r n below (let now = whole_new n.id.0 in omega (arith, now, more))
        (let most = once n.id.0 in let all = whole n.id.0 in omega (arith, most, all, more))
        (let most = once n.id.0 in let all = whole n.id.0 in omega (arith, most, all, more)))
        (each_around Q Top way f tells)
        (up_way Top way None refl refl (λ k. omega arith) (λ k. omega arith) (each_around Q Top way f tells)))
        (each_swapped Q R (end_of Top way) f loose g left
        (λ r n below more out. still r n below (let now = whole_new n.id.0 in let same_sum = part n.id.0 in omega (arith, now, more, out, same_sum))
        (let most = once n.id.0 in let all = whole n.id.0 in omega (arith, most, all, more))
        (let most = once n.id.0 in let all = whole n.id.0 in omega (arith, most, all, more)))
        (λ k. let most = once k in let all = whole k in omega (arith, most, all))
        (each_there Q Top way f tells) (each_standing R (end_of Top way) loose new) of change swaps)

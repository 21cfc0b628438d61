-- A change of a row by the parts of an edit, as it stands in a store and as the definition has it.
use Rattle.std.proofs.Common.{◌≡◌, ℕ, zero, suc, ◌+◌, ◌-◌, ◌*◌, Bool, true, false, cond, eqb, List, [], ◌∷◌, map, Option, Some, None, refl, sym, ap, ◌∙◌, arith}
use Rattle.std.specs.Prelude.{◌==◌, ◌||◌, not, nat_lt}
use Rattle.std.specs.List.{last_or}
use Rattle.std.proofs.lemmas.Bool.{eq-eqb}
use Rattle.yspec.specs.Forest.{end, node, join, weigh, weigh_nodes}
use Rattle.yspec.specs.schema.Schema.{Schema, row_at}
use Rattle.yspec.specs.document.Document.{Stored, Tree, Step, instances_in}
use Rattle.yspec.specs.document.Instances.{times_at, times_below}
use Rattle.yspec.specs.edit.Edit.{edit_at, instance_index}
use Rattle.yspec.specs.edit.Editing.{Branch, BoundStep, Target, with_branch, with_instead, with_moved, without}
use Rattle.ystore_rows.specs.declared.row.Row.{Row}
use Rattle.ystore_rows.specs.declared.row.NodeId.{NodeId}
use Rattle.ystore.specs.declared.nodes.Nodes.{Nodes}
use Rattle.yschema_model.specs.declared.node.SchemaId.{SchemaId}
use Rattle.yspec_reach.specs.Parts.{Exchange, comes, gives_way, goes, stays, instance_alone, meant_alone, outside}
use Rattle.yspec_reach.specs.Referring.{Reference}
use Rattle.yspec_reach.specs.Shared.{is_shared_value, value_pairs}
use Rattle.yspec_reach.specs.Sizes.{breadth, levels, part_size}
use Rattle.ystore_tree.specs.Hanging.{Numbered, Branches, stored_of, tree_of}
use Rattle.ystore_tree.specs.Ways.{Way, Goes, around}
use Rattle.ystore_tree.proofs.DocumentLemmas as document
use Rattle.ystore_tree.proofs.GrowLemmas.{tree_join}
use Rattle.ystore_tree.proofs.HangingLemmas.{weigh_around, weigh_join}
use Rattle.ylive_retell.specs.Plans.{row_schema}
use Rattle.ylive_retell.specs.Reads.{is_moved, moved_pairs, referrers, row_reads}
use Rattle.ylive_edit.specs.Reads.{exchange_reads}
use Rattle.ylive_edit.proofs.InstanceLemmas.{one_more}

-- the schema node above a row is that of the last step to it
above_is : (above : Option ℕ) (steps : List Step) (way : Way) → Goes steps way → row_schema above way ≡ last_or above (map (λ (step : Step). step.schema_number) steps)
above_is above [] [] led = refl
above_is above [] (frame ∷ way) led = absurd led
above_is above (step ∷ steps) [] led = absurd led
above_is above (step ∷ steps) (frame ∷ way) led =
    ap (λ (n : ℕ). row_schema (Some n) way) led.0 ∙ above_is (Some step.schema_number) steps way led.2

module _ (schema : Schema) (way : Way) (f loose g left : Branches) (x : Exchange) (tree : Tree)
    (is_tree : tree_of (around way f) ≡ tree) (is_row : tree_of f ≡ x.target.row) (is_after : tree_of g ≡ x.with_new x.target.row)
    (is_old : tree_of left ≡ x.old) (is_new : tree_of loose ≡ x.new)
    (is_above : row_schema None way ≡ last_or None (map (λ (step : Step). step.schema_number) x.target.above))
    (parted : (w : Stored → ℕ) → weigh w tree ≡ weigh w (outside x tree) + weigh w x.old) where
  abbrev moved_by : Tree → Tree → Option ℕ → Tree → Tree → Reference → Bool
  moved_by old new above row after r =
      nat_lt 0 (weigh_nodes (times_at schema r.0 r.1) old + weigh_nodes (times_at schema r.0 r.1) new)
      || not (times_below schema r.0 r.1 (row_at schema above) row == times_below schema r.0 r.1 (row_at schema above) after)

  abbrev shared_values : Reference → Bool
  shared_values r = is_shared_value schema x r.0 r.1

  same_moved : is_moved schema way f loose g left ≡ shared_values
  same_moved =
      ap (λ t. moved_by t (tree_of loose) (row_schema None way) (tree_of f) (tree_of g)) is_old
      ∙ (ap (λ t. moved_by x.old t (row_schema None way) (tree_of f) (tree_of g)) is_new
      ∙ (ap (λ o. moved_by x.old x.new o (tree_of f) (tree_of g)) is_above
      ∙ (ap (λ t. moved_by x.old x.new (last_or None (map (λ (step : Step). step.schema_number) x.target.above)) t (tree_of g)) is_row
      ∙ ap (λ t. moved_by x.old x.new (last_or None (map (λ (step : Step). step.schema_number) x.target.above)) x.target.row t) is_after)))

  same_referrers : (t u : Tree) → t ≡ u → referrers schema (is_moved schema way f loose g left) t ≡ referrers schema shared_values u
  same_referrers t u is = ap (λ p. referrers schema p t) same_moved ∙ ap (referrers schema shared_values) is

  same_pairs : moved_pairs schema way f loose g left ≡ value_pairs schema x tree
  same_pairs =
      let all = same_referrers (tree_of (around way f)) tree is_tree in
      let gone = same_referrers (tree_of left) x.old is_old in
      let whole : referrers schema shared_values tree ≡ value_pairs schema x tree + referrers schema shared_values x.old = parted _ in
      omega (arith, all, gone, whole)

  pub same_reads : row_reads schema loose left (moved_pairs schema way f loose g left) ≡ exchange_reads schema tree x
  same_reads =
      let sum : ℕ → ℕ → ℕ → ℕ = λ old new pairs. (levels schema + 2) * (8 * (old + (new + pairs)) + (16 * breadth schema + 3)) in
      ap (λ t. sum (part_size schema t) (part_size schema (tree_of loose)) (moved_pairs schema way f loose g left)) is_old
      ∙ (ap (λ t. sum (part_size schema x.old) (part_size schema t) (moved_pairs schema way f loose g left)) is_new
      ∙ ap (sum (part_size schema x.old) (part_size schema x.new)) same_pairs)

-- ---- what stands outside the parts

weighed : (w : Stored → ℕ) (f : Branches) → weigh w (tree_of f) ≡ weigh (λ (n : Numbered). w (stored_of n)) f
weighed w end = refl
weighed w (node n below after) = let inner = weighed w below in let rest = weighed w after in omega (arith, inner, rest)

-- nothing is taken away
stays_parted : (steps : List Step) (way : Way) (f : Branches) (tree : Tree) → tree_of (around way f) ≡ tree → Goes steps way → (w : Stored → ℕ)
    → weigh w tree ≡ weigh w (edit_at steps (λ row. row) tree) + 0
stays_parted steps way f tree is_tree led w =
    let same = ap (weigh w) (ap (edit_at steps (λ row. row)) (sym is_tree) ∙ (document.along steps way (λ row. row) f f led refl ∙ is_tree)) in
    omega (arith, same)

-- a node of the row is
goes_parted : (steps : List Step) (way : Way) (before after : Branches) (n : Numbered) (below f : Branches) (tree : Tree) (change : Tree → Tree) → tree_of (around way f) ≡ tree
    → Goes steps way → f ≡ join before (node n below after) → change (tree_of f) ≡ tree_of (join before after) → (w : Stored → ℕ)
    → weigh w tree ≡ weigh w (edit_at steps change tree) + weigh w (tree_of (node n below end))
goes_parted steps way before after n below f tree change is_tree led is_row changed w =
    let u : Numbered → ℕ = λ m. w (stored_of m) in
    let there = ap (weigh w) (sym is_tree) in
    let here = ap (weigh w) (ap (edit_at steps change) (sym is_tree) ∙ document.along steps way change f (join before after) led changed) in
    let first = weighed w (around way f) in
    let second = weighed w (around way (join before after)) in
    let third = weighed w (node n below end) in
    let one = weigh_around u way f in
    let two = weigh_around u way (join before after) in
    let row = ap (weigh u) is_row in
    let three = weigh_join u before (node n below after) in
    let four = weigh_join u before after in
    omega (arith, there, here, first, second, third, one, two, row, three, four)

-- ---- the node that a step means

alone_is : (number k : ℕ) (first : Tree) (s : Stored) (under rest : Tree) → s.schema_number ≡ number → instances_in first number ≡ k
    → instance_alone number k (join first (node s under rest)) ≡ node s under end
alone_is number k end s under rest same count =
    ap (λ j. instance_alone number j (node s under rest)) (sym count)
    ∙ ap (λ b. cond b (node s under end) (instance_alone number 0 rest)) (eq-eqb s.schema_number number same)
alone_is number k (node r below after) s under rest same count =
    by (eqb r.schema_number number) refl k count (λ j e. alone_is number j after s under rest same e)
  where
    others : Tree
    others = join after (node s under rest)

    by : (b : Bool) → eqb r.schema_number number ≡ b → (k : ℕ) → instances_in (node r below after) number ≡ k
        → ((j : ℕ) → instances_in after number ≡ j → instance_alone number j others ≡ node s under end)
        → instance_alone number k (node r below others) ≡ node s under end
    by true e zero count inner = absurd (omega (arith, count, counted))
      where
        counted : instances_in (node r below after) number ≡ 1 + instances_in after number
        counted = one_more number r below after true e
    by true e (suc k) count inner =
        ap (λ b. cond b (instance_alone number k others) (instance_alone number (suc k) others)) e ∙ inner k (omega (arith, count, counted))
      where
        counted : instances_in (node r below after) number ≡ 1 + instances_in after number
        counted = one_more number r below after true e
    by false e zero count inner =
        ap (λ b. cond b (node r below end) (instance_alone number zero others)) e ∙ inner zero (omega (arith, count, counted))
      where
        counted : instances_in (node r below after) number ≡ instances_in after number
        counted = let all = one_more number r below after false e in omega (arith, all)
    by false e (suc k) count inner =
        ap (λ b. cond b (instance_alone number k others) (instance_alone number (suc k) others)) e ∙ inner (suc k) (omega (arith, count, counted))
      where
        counted : instances_in (node r below after) number ≡ instances_in after number
        counted = let all = one_more number r below after false e in omega (arith, all)

pub meant_is : (step : Step) (before after : Branches) (n : Numbered) (below f : Branches) → f ≡ join before (node n below after) → n.schema.0 ≡ step.schema_number
    → instances_in (tree_of before) step.schema_number ≡ instance_index step → tree_of (node n below end) ≡ meant_alone step (tree_of f)
meant_is step before after n below f is_row same count =
    sym (ap (λ h. meant_alone step (tree_of h)) is_row
    ∙ (ap (meant_alone step) (tree_join before (node n below after))
    ∙ alone_is step.schema_number (instance_index step) (tree_of before) (stored_of n) (tree_of below) (tree_of after) same count))

-- ---- exchanges

module _ (schema : Schema) (steps : List Step) (way : Way) (f : Branches) (tree : Tree) (last : BoundStep) (is_tree : tree_of (around way f) ≡ tree) (led : Goes steps way) where
  abbrev at : Target
  at = record { above = steps; row = tree_of f; last = last }

  pub comes_reads : (loose g : Branches) (b : Branch) → tree_of loose ≡ node b.label b.below end → with_branch b (tree_of f) ≡ tree_of g
      → row_reads schema loose end (moved_pairs schema way f loose g end) ≡ exchange_reads schema tree (comes at b)
  comes_reads loose g b is_new is_after =
      same_reads schema way f loose g end (comes at b) tree is_tree refl (sym is_after) refl is_new (above_is None steps way led)
      (stays_parted steps way f tree is_tree led)

  pub stays_reads : (step : Step) (position : ℕ) (g : Branches) → with_moved step position (tree_of f) ≡ tree_of g
      → row_reads schema end end (moved_pairs schema way f end g end) ≡ exchange_reads schema tree (stays at step position)
  stays_reads step position g is_after =
      same_reads schema way f end g end (stays at step position) tree is_tree refl (sym is_after) refl refl (above_is None steps way led)
      (stays_parted steps way f tree is_tree led)

  module _ (step : Step) (before after : Branches) (n : Numbered) (below : Branches) (is_row : f ≡ join before (node n below after)) (same : n.schema.0 ≡ step.schema_number)
      (count : instances_in (tree_of before) step.schema_number ≡ instance_index step) where
    pub without_is : without step (tree_of f) ≡ tree_of (join before after)
    without_is = ap (λ h. without step (tree_of h)) is_row ∙ document.taken step before after n below same count

    pub goes_reads : row_reads schema end (node n below end) (moved_pairs schema way f end (join before after) (node n below end)) ≡ exchange_reads schema tree (goes at step)
    goes_reads =
        same_reads schema way f end (join before after) (node n below end) (goes at step) tree is_tree refl (sym without_is) (meant_is step before after n below f is_row same count) refl
        (above_is None steps way led) (λ w.
        let all = goes_parted steps way before after n below f tree (without step) is_tree led is_row without_is w in
        let part = ap (weigh w) (meant_is step before after n below f is_row same count) in
        omega (arith, all, part))

    pub gives_reads : (loose g : Branches) (b : Branch) → tree_of loose ≡ node b.label b.below end → with_instead step b (tree_of f) ≡ tree_of g
        → row_reads schema loose (node n below end) (moved_pairs schema way f loose g (node n below end)) ≡ exchange_reads schema tree (gives_way at step b)
    gives_reads loose g b is_new is_after =
        same_reads schema way f loose g (node n below end) (gives_way at step b) tree is_tree refl (sym is_after) (meant_is step before after n below f is_row same count) is_new
        (above_is None steps way led) (λ w.
        let all = goes_parted steps way before after n below f tree (without step) is_tree led is_row without_is w in
        let part = ap (weigh w) (meant_is step before after n below f is_row same count) in
        omega (arith, all, part))

-- What comes of statements, one after another, as it comes into a table.
use Rattle.std.proofs.Common.{◌≡◌, ℕ, zero, suc, ◌+◌, ◌-◌, Bool, true, false, cond, not, ◌&&◌, ◌||◌, List, [], ◌∷◌, ◌++◌, length, Option, Some, None, refl, sym, ap, ap₂, ◌∙◌, append_assoc, arith, length-append, subst}
use Rattle.std.proofs.lemmas.Bool.{and_parts}
use Rattle.std.proofs.lemmas.List.{append-nil}
use Rattle.yspec.specs.Forest.{Forest, node, end, size, join}
use Rattle.yspec.specs.linking.Keyword.{Keyword, same_keyword, augment_word, case_word, uses_word, refine_word}
use Rattle.yspec.specs.linking.Source.{Source, is_source_of}
use Rattle.yspec.specs.linking.Parts.{Part, defines_node, own_of, part_of, as_cases, case_for, within}
use Rattle.yspec.specs.linking.Expansion.{is_uses, laid, owned_by, replaced, unfit_in, groupings_of, row_used, is_refine, refine_steps, changed_at}
use Rattle.yspec.specs.linking.Augments.{Augment, augments_in}
use Rattle.yspec.specs.linking.Rewriting.{all_uses}
use Rattle.yspec.specs.schema.Breaks.{Break, broken, when, least_from}
use Rattle.yspec.proofs.SchemaProofs.LeastLemmas.{least_of_both}
use Rattle.yspec_wide.specs.Language.{Language, core, rfc}
use Rattle.yspec_wide.specs.Sources.{is_augment_in}
use Rattle.ybase_preorder.specs.Layout.{Place, places, opened, closed}
use Rattle.ybase_preorder.specs.Layout.{numbered_by, forest_of}
use Rattle.ybase_preorder.specs.Layout as layout
use Rattle.ybase_preorder.specs.declared.slot.Slot.{Slot}
use Rattle.ybase_preorder.proofs.LabelLemmas.{size-by}
use Rattle.ybase_preorder.proofs.RowLemmas.{size_forest}
use Rattle.ylink_grammar.specs.SourceView.{source_view}
use Rattle.ylink_grammar.specs.declared.source.Source as held
use Rattle.ybase_preorder.proofs.LayoutLemmas.{length-places, places-join, length-laid, length-seen, grown}
use Rattle.ylink_grammar.specs.BreakView.{seen}
use Rattle.yschema_expand.specs.declared.nodes.ExpandedNode.{ExpandedNode}
use Rattle.yschema_expand.specs.declared.expanding.Made.{Made}
use Rattle.yschema_expand.specs.NodeView.{numbered_part, part_view}
use Rattle.yschema_expand.specs.TableView.{slots_of, parts_in}
use Rattle.yspec.proofs.LinkingProofs.KeywordLemmas.{same_is}
use Rattle.yspec_wide.specs.Expansion.{conditioned, stands_for_in, unfit_for_in, is_fit_in, overridden_in, after_refine_in, refined_in, refine_breaks_in, extended_by, inner_augments, inner_breaks}
use Rattle.yschema_expand.specs.Walk.{all_inner, chosen, ends_within_in, is_laid, nodes_for, breaks_for, AllEnd, Adds, AddsParts, Changes}

-- what defines nodes is no statement of another kind
other_word : (k : Keyword) → defines_node k ≡ false → (s : Source) → defines_node s.keyword ≡ true → is_source_of k s ≡ false
other_word k none s stands = by (same_keyword k s.keyword) refl
  where
    by : (b : Bool) → same_keyword k s.keyword ≡ b → b ≡ false
    by false e = refl
    by true e = let same : k ≡ s.keyword = same_is k s.keyword e in let clash : false ≡ true = sym none ∙ (ap defines_node same ∙ stands) in absurd cc

no_refine : (s : Source) → defines_node s.keyword ≡ true → is_refine s ≡ false
no_refine s stands = other_word refine_word refl s stands

-- ---- rows in two

replaced_join : (meant : Part → Forest Part) (owner : ℕ) (f g : Forest Part) → replaced meant owner (join f g) ≡ join (replaced meant owner f) (replaced meant owner g)
unfolding replaced
replaced_join meant owner end g = refl
replaced_join meant owner (node p below after) g = by (is_uses p) (replaced_join meant owner after g)
  where
    join_join : (a b c : Forest Part) → join (join a b) c ≡ join a (join b c)
    join_join end b c = refl
    join_join (node q x y) b c = ap (node q x) (join_join y b c)

    by : (b : Bool) → replaced meant owner (join after g) ≡ join (replaced meant owner after) (replaced meant owner g)
        → cond b (join (meant p) (replaced meant owner (join after g))) (node (owned_by owner p) (replaced meant owner below) (replaced meant owner (join after g)))
        ≡ join (cond b (join (meant p) (replaced meant owner after)) (node (owned_by owner p) (replaced meant owner below) (replaced meant owner after))) (replaced meant owner g)
    by true rest = ap (join (meant p)) rest ∙ sym (join_join (meant p) (replaced meant owner after) (replaced meant owner g))
    by false rest = ap (node (owned_by owner p) (replaced meant owner below)) rest

unfit_join : (told : Part → List Break) (f g : Forest Part) → unfit_in told (join f g) ≡ unfit_in told f ++ unfit_in told g
unfolding unfit_in
unfit_join told end g = refl
unfit_join told (node p below after) g =
    let first = cond (is_uses p) (told p) (unfit_in told below) in
    ap (λ rest. first ++ rest) (unfit_join told after g) ∙ sym (append_assoc first (unfit_in told after) (unfit_in told g))

all_join : (test : Part → Bool) (f g : Forest Part) → all_uses test (join f g) ≡ true → (all_uses test f ≡ true) × (all_uses test g ≡ true)
unfolding all_uses
all_join test end g all = (refl, all)
all_join test (node p below after) g all =
    let first = cond (is_uses p) (test p) (all_uses test below) in
    let parts = and_parts first (all_uses test (join after g)) all in
    let rest = all_join test after g parts.1 in
    let own : first ≡ true = parts.0 in
    (ap (λ b. b && all_uses test after) own ∙ rest.0, rest.1)

as_cases-join : (f g : Forest Part) → as_cases (join f g) ≡ join (as_cases f) (as_cases g)
as_cases-join end g = refl
as_cases-join (node p below after) g = by (same_keyword case_word p.source.keyword) (as_cases-join after g)
  where
    by : (b : Bool) → as_cases (join after g) ≡ join (as_cases after) (as_cases g)
        → cond b (node p below (as_cases (join after g))) (node (case_for p) (node p below end) (as_cases (join after g)))
        ≡ join (cond b (node p below (as_cases after)) (node (case_for p) (node p below end) (as_cases after))) (as_cases g)
    by true h = ap (node p below) h
    by false h = ap (node (case_for p) (node p below end)) h

pub chosen-join : (c : Bool) (f g : Forest Part) → chosen c (join f g) ≡ join (chosen c f) (chosen c g)
chosen-join true f g = as_cases-join f g
chosen-join false f g = refl

laid-first : (s : Source) (below after : Forest Source) → laid (node s below after) ≡ join (laid (node s below end)) (laid after)
unfolding laid
laid-first s below after = by (defines_node s.keyword) (is_source_of uses_word s)
  where
    by : (d u : Bool) → cond d (node (part_of s below) (within s (laid below)) (laid after)) (cond u (node (part_of s below) end (laid after)) (laid after))
        ≡ join (cond d (node (part_of s below) (within s (laid below)) end) (cond u (node (part_of s below) end end) end)) (laid after)
    by true u = refl
    by false true = refl
    by false false = refl

pub chosen-first : (c : Bool) (s : Source) (below after : Forest Source)
    → chosen c (laid (node s below after)) ≡ join (chosen c (laid (node s below end))) (chosen c (laid after))
chosen-first c s below after = ap (chosen c) (laid-first s below after) ∙ chosen-join c (laid (node s below end)) (laid after)

-- ---- one statement

-- what it lays out, by whether it defines a node and whether it uses a grouping
abbrev laid_by : Bool → Bool → Source → Forest Source → Forest Part
laid_by d u s below = cond d (node (part_of s below) (within s (laid below)) end) (cond u (node (part_of s below) end end) end)

pub laid_so : (s : Source) (below : Forest Source) (d u : Bool) → defines_node s.keyword ≡ d → is_source_of uses_word s ≡ u → laid (node s below end) ≡ laid_by d u s below
unfolding laid
laid_so s below d u is used = ap₂ (λ x y. laid_by x y s below) is used

neither : (d u : Bool) → (d || u) ≡ false → (d ≡ false) × (u ≡ false)
neither true u e = absurd cc
neither false u e = (refl, e)

pub laid_none : (s : Source) (below : Forest Source) → is_laid s ≡ false → laid (node s below end) ≡ end
laid_none s below other =
    let both = neither (defines_node s.keyword) (is_source_of uses_word s) other in
    laid_so s below false false both.0 both.1

pub no_node : (k : Keyword) → same_keyword uses_word k ≡ true → defines_node k ≡ false
no_node k used = let same : uses_word ≡ k = same_is uses_word k used in sym (ap defines_node same)

pub laid_uses : (s : Source) (below : Forest Source) → is_source_of uses_word s ≡ true → laid (node s below end) ≡ node (part_of s below) end end
laid_uses s below used = laid_so s below false true (no_node s.keyword used) used

pub laid_node : (s : Source) (below : Forest Source) → is_laid s ≡ true → is_source_of uses_word s ≡ false
    → laid (node s below end) ≡ node (part_of s below) (within s (laid below)) end
laid_node s below is unused = laid_so s below true false (by (defines_node s.keyword) (sym (ap (λ u. defines_node s.keyword || u) unused) ∙ is)) unused
  where
    by : (d : Bool) → (d || false) ≡ true → d ≡ true
    by true e = refl
    by false e = absurd cc

pub laid_one : (s : Source) (below : Forest Source) → is_laid s ≡ true → (inside : Forest Part) × (laid (node s below end) ≡ node (part_of s below) inside end)
laid_one s below is = by (is_source_of uses_word s) refl
  where
    by : (u : Bool) → is_source_of uses_word s ≡ u → (inside : Forest Part) × (laid (node s below end) ≡ node (part_of s below) inside end)
    by true used = (end, laid_uses s below used)
    by false unused = (within s (laid below), laid_node s below is unused)

-- a single one of a choice
pub laid_single : (c : Bool) (s : Source) (below : Forest Source) → is_laid s ≡ true → (c && not (same_keyword case_word s.keyword)) ≡ true
    → chosen c (laid (node s below end)) ≡ node (case_for (part_of s below)) (laid (node s below end)) end
laid_single c s below is single =
    let parts = and_parts c (not (same_keyword case_word s.keyword)) single in
    ap (λ b. chosen b (laid (node s below end))) parts.0 ∙ by (defines_node s.keyword) refl (is_source_of uses_word s) refl (no_case (same_keyword case_word s.keyword) parts.1)
  where
    no_case : (b : Bool) → not b ≡ true → b ≡ false
    no_case true e = absurd cc
    no_case false e = refl

    one : (inside : Forest Part) → same_keyword case_word s.keyword ≡ false
        → as_cases (node (part_of s below) inside end) ≡ node (case_for (part_of s below)) (node (part_of s below) inside end) end
    one inside other = ap (λ b. cond b (node (part_of s below) inside end) (node (case_for (part_of s below)) (node (part_of s below) inside end) end)) other

    by : (d : Bool) → defines_node s.keyword ≡ d → (u : Bool) → is_source_of uses_word s ≡ u → same_keyword case_word s.keyword ≡ false
        → as_cases (laid (node s below end)) ≡ node (case_for (part_of s below)) (laid (node s below end)) end
    by true d u used other =
        let laid_is = laid_so s below true u d used in
        ap as_cases laid_is ∙ (one (within s (laid below)) other ∙ ap (λ f. node (case_for (part_of s below)) f end) (sym laid_is))
    by false d true used other =
        let laid_is = laid_so s below false true d used in
        ap as_cases laid_is ∙ (one end other ∙ ap (λ f. node (case_for (part_of s below)) f end) (sym laid_is))
    by false d false used other = absurd (let clash : false ≡ true = sym (ap₂ (λ x y. x || y) d used) ∙ is in cc)

-- any other
pub laid_own : (c : Bool) (s : Source) (below : Forest Source) → is_laid s ≡ true → (c && not (same_keyword case_word s.keyword)) ≡ false
    → chosen c (laid (node s below end)) ≡ laid (node s below end)
laid_own false s below is single = refl
laid_own true s below is single = by (defines_node s.keyword) refl (is_source_of uses_word s) refl (a_case (same_keyword case_word s.keyword) single)
  where
    a_case : (b : Bool) → (true && not b) ≡ false → b ≡ true
    a_case true e = refl
    a_case false e = absurd cc

    one : (inside : Forest Part) → same_keyword case_word s.keyword ≡ true → as_cases (node (part_of s below) inside end) ≡ node (part_of s below) inside end
    one inside other = ap (λ b. cond b (node (part_of s below) inside end) (node (case_for (part_of s below)) (node (part_of s below) inside end) end)) other

    by : (d : Bool) → defines_node s.keyword ≡ d → (u : Bool) → is_source_of uses_word s ≡ u → same_keyword case_word s.keyword ≡ true
        → as_cases (laid (node s below end)) ≡ laid (node s below end)
    by true d u used other = let laid_is = laid_so s below true u d used in ap as_cases laid_is ∙ (one (within s (laid below)) other ∙ sym laid_is)
    by false d true used other = let laid_is = laid_so s below false true d used in ap as_cases laid_is ∙ (one end other ∙ sym laid_is)
    by false d false used other = absurd (let clash : false ≡ true = sym (ap₂ (λ x y. x || y) d used) ∙ is in cc)

pub chosen_empty : (c : Bool) (f : Forest Part) → f ≡ end → chosen c f ≡ end
chosen_empty true f none = ap as_cases none
chosen_empty false f none = none

pub chosen_none : (c : Bool) (f : Forest Source) → f ≡ end → chosen c (laid f) ≡ end
unfolding laid
chosen_none true f none = ap (λ g. as_cases (laid g)) none
chosen_none false f none = ap laid none

-- ---- what is added, one thing after another

-- as many slots come as there are nodes
pub adds_length : (parent : Option ℕ) (f : Forest Part) (bs : List Break) (a b : Made) → Adds parent f bs a b
    → length (slots_of b.table) ≡ length (slots_of a.table) + size f
adds_length parent f bs a b added =
    let k = length (slots_of a.table) in
    sym (length-laid (slots_of b.table)) ∙ (sym (length-seen numbered_part 0 (layout.laid (slots_of b.table))) ∙ (ap length added.0
    ∙ (length-append (parts_in a.table) (places parent k f)
    ∙ ap₂ (λ m n. m + n) (length-seen numbered_part 0 (layout.laid (slots_of a.table)) ∙ length-laid (slots_of a.table)) (length-places parent k f))))

pub adds_join : (parent : Option ℕ) (f g : Forest Part) (bs cs : List Break) (a b c : Made) → Adds parent f bs a b → Adds parent g cs b c → Adds parent (join f g) (bs ++ cs) a c
adds_join parent f g bs cs a b c first second =
    let k = length (slots_of a.table) in
    let here = places parent k f in (
      second.0 ∙ (ap₂ (λ ps n. ps ++ places parent n g) first.0 (adds_length parent f bs a b first)
          ∙ (append_assoc (parts_in a.table) here (places parent (k + size f) g) ∙ ap (λ rest. parts_in a.table ++ rest) (sym (places-join parent k f g)))),
      second.1 ∙ (ap (λ o. least_from o cs) first.1 ∙ sym (least_of_both (seen a.told) bs cs)),
    )

pub adds_none : (parent : Option ℕ) (f : Forest Part) (bs : List Break) (m : Made) → f ≡ end → bs ≡ [] → Adds parent f bs m m
adds_none parent f bs m none untold = (
  sym (ap (λ g. parts_in m.table ++ places parent (length (slots_of m.table)) g) none ∙ append-nil (parts_in m.table)),
  sym (ap (least_from (seen m.told)) untold),
)

-- a node is opened, all below it is added, and it is closed
pub adds_around : (parent : Option ℕ) (q : Part) (inner : Forest Part) (bs : List Break) (l : ExpandedNode) (n : ℕ) (old mid full new : Made) → part_view l ≡ q
    → layout.laid (slots_of mid.table) ≡ layout.laid (slots_of old.table) ++ opened parent l ∷ [] → n ≡ length (slots_of old.table) → mid.told ≡ old.told
    → Adds (Some n) inner bs mid full → layout.laid (slots_of new.table) ≡ closed n (layout.laid (slots_of full.table)) → new.told ≡ full.told
    → Adds parent (node q inner end) bs old new
adds_around parent q inner bs l n old mid full new label mid_is n_is mid_told full_is new_is new_told =
    let k = length (slots_of old.table) in (
      grown numbered_part (slots_of old.table) (slots_of mid.table) (slots_of full.table) (slots_of new.table) parent l n inner mid_is n_is full_is.0 new_is
          ∙ ap (λ ps. parts_in old.table ++ ps)
          (ap₂ (λ (p : Part) m. record { parent = parent; label = p; below = size inner } ∷ places (Some m) (m + 1) inner) label n_is
          ∙ sym (append-nil (record { parent = parent; label = q; below = size inner } ∷ places (Some k) (k + 1) inner))),
      ap seen new_told ∙ (full_is.1 ∙ ap (λ o. least_from (seen o) bs) mid_told),
    )

-- ---- what comes of a row

module _ (language : Language) (modules : Forest Source) (owner depth : ℕ) where
  abbrev nodes : Forest Part → Forest Part
  nodes = nodes_for language modules owner depth

  abbrev breaks : Forest Part → List Break
  breaks = breaks_for language modules owner depth

  pub nodes_join : (f g : Forest Part) → nodes (join f g) ≡ join (nodes f) (nodes g)
  nodes_join = replaced_join (stands_for_in language modules (groupings_of modules) owner depth) owner

  pub breaks_join : (f g : Forest Part) → breaks (join f g) ≡ breaks f ++ breaks g
  breaks_join = unfit_join (unfit_for_in language modules (groupings_of modules) owner depth)

  pub nodes_none : nodes end ≡ end
  unfolding replaced
  nodes_none = refl

  pub breaks_none : breaks end ≡ []
  unfolding unfit_in
  breaks_none = refl

  pub nodes_node : (p : Part) (below : Forest Part) → is_uses p ≡ false → nodes (node p below end) ≡ node (owned_by owner p) (nodes below) end
  unfolding replaced
  nodes_node p below other = ap (λ b. cond b (join (stands_for_in language modules (groupings_of modules) owner depth p) end) (node (owned_by owner p) (nodes below) end)) other

  pub breaks_node : (p : Part) (below : Forest Part) → is_uses p ≡ false → breaks (node p below end) ≡ breaks below
  unfolding unfit_in
  breaks_node p below other = ap (λ b. cond b (unfit_for_in language modules (groupings_of modules) owner depth p) (breaks below) ++ []) other ∙ append-nil (breaks below)

  join_end : (f : Forest Part) → join f end ≡ f
  join_end end = refl
  join_end (node p x y) = ap (node p x) (join_end y)

  pub nodes_uses : (p : Part) → is_uses p ≡ true → nodes (node p end end) ≡ stands_for_in language modules (groupings_of modules) owner depth p
  unfolding replaced
  nodes_uses p is = ap (λ b. cond b (join (stands_for_in language modules (groupings_of modules) owner depth p) end) (node (owned_by owner p) end end)) is
      ∙ join_end (stands_for_in language modules (groupings_of modules) owner depth p)

  pub breaks_uses : (p : Part) → is_uses p ≡ true → breaks (node p end end) ≡ unfit_for_in language modules (groupings_of modules) owner depth p
  unfolding unfit_in
  breaks_uses p is = ap (λ b. cond b (unfit_for_in language modules (groupings_of modules) owner depth p) [] ++ []) is
      ∙ append-nil (unfit_for_in language modules (groupings_of modules) owner depth p)

  -- ---- as it is added

  pub adds_nothing : (parent : Option ℕ) (parts : Forest Part) (m : Made) → parts ≡ end → AddsParts language modules parent owner depth parts m m
  adds_nothing parent parts m none = adds_none parent (nodes parts) (breaks parts) m (ap nodes none ∙ nodes_none) (ap breaks none ∙ breaks_none)

  pub adds_both : (parent : Option ℕ) (f g : Forest Part) (a b c : Made) → AddsParts language modules parent owner depth f a b → AddsParts language modules parent owner depth g b c
      → AddsParts language modules parent owner depth (join f g) a c
  adds_both parent f g a b c first second =
      let both = adds_join parent (nodes f) (nodes g) (breaks f) (breaks g) a b c first second in (
        both.0 ∙ ap (λ h. parts_in a.table ++ places parent (length (slots_of a.table)) h) (sym (nodes_join f g)),
        both.1 ∙ ap (least_from (seen a.told)) (sym (breaks_join f g)),
      )

  -- a node is opened, all below it is added, and it is closed
  pub adds_node : (parent : Option ℕ) (p : Part) (below : Forest Part) (l : ExpandedNode) (n : ℕ) (old mid full new : Made) → is_uses p ≡ false
      → part_view l ≡ owned_by owner p
      → layout.laid (slots_of mid.table) ≡ layout.laid (slots_of old.table) ++ opened parent l ∷ [] → n ≡ length (slots_of old.table) → mid.told ≡ old.told
      → AddsParts language modules (Some n) owner depth below mid full
      → layout.laid (slots_of new.table) ≡ closed n (layout.laid (slots_of full.table)) → new.told ≡ full.told
      → AddsParts language modules parent owner depth (node p below end) old new
  adds_node parent p below l n old mid full new other label mid_is n_is mid_told full_is new_is new_told =
      let k = length (slots_of old.table) in
      let one = adds_around parent (owned_by owner p) (nodes below) (breaks below) l n old mid full new label mid_is n_is mid_told full_is new_is new_told in (
        one.0 ∙ ap (λ f. parts_in old.table ++ places parent k f) (sym (nodes_node p below other)),
        one.1 ∙ ap (least_from (seen old.told)) (sym (breaks_node p below other)),
      )

-- nodes that were added become others
pub adds_changed : (parent : Option ℕ) (first : ℕ) (f g : Forest Part) (bs cs : List Break) (old full new : Made) → first ≡ length (slots_of old.table)
    → Adds parent f bs old full → Changes first f g cs full new → Adds parent g (bs ++ cs) old new
adds_changed parent first f g bs cs old full new count added changes =
    let long : length (parts_in old.table) ≡ first =
    length-seen numbered_part 0 (layout.laid (slots_of old.table)) ∙ (length-laid (slots_of old.table) ∙ sym count) in
    let done = changes (parts_in old.table) parent long (added.0 ∙ ap (λ n. parts_in old.table ++ places parent n f) (sym count)) in (
      done.0 ∙ ap (λ n. parts_in old.table ++ places parent n g) count,
      done.1 ∙ (ap (λ o. least_from o cs) added.1 ∙ sym (least_of_both (seen old.told) bs cs)),
    )

-- and so once more
pub changes_both : (first : ℕ) (f g h : Forest Part) (bs cs : List Break) (a b c : Made) → Changes first f g bs a b → Changes first g h cs b c
    → Changes first f h (bs ++ cs) a c
changes_both first f g h bs cs a b c one two = λ earlier parent count at.
    let before = one earlier parent count at in
    let after = two earlier parent count before.0 in
    (after.0, after.1 ∙ (ap (λ o. least_from o cs) before.1 ∙ sym (least_of_both (seen a.told) bs cs)))

-- ---- and no `uses` leads over too many

module _ (language : Language) (modules : Forest Source) (depth : ℕ) where
  abbrev ends : Part → Bool
  ends = ends_within_in language modules (groupings_of modules) depth

  pub ends_join : (f g : Forest Part) → AllEnd language modules depth (join f g) → AllEnd language modules depth f × AllEnd language modules depth g
  ends_join = all_join ends

  pub ends_node : (p : Part) (below : Forest Part) → is_uses p ≡ false → AllEnd language modules depth (node p below end) → AllEnd language modules depth below
  unfolding all_uses
  ends_node p below other all =
      (and_parts (all_uses ends below) true (sym (ap (λ b. cond b (ends p) (all_uses ends below) && true) other) ∙ all)).0

  pub ends_uses : (p : Part) → is_uses p ≡ true → AllEnd language modules depth (node p end end) → ends_within_in language modules (groupings_of modules) depth p ≡ true
  unfolding all_uses
  ends_uses p is all = (and_parts (ends p) true (sym (ap (λ b. cond b (ends p) true && true) is) ∙ all)).0

-- ---- what a `uses` stands for

own_augments_in : (below : Forest Source) → augments_in (own_of below) ≡ augments_in below
own_augments_in end = refl
own_augments_in (node s given after) = by (defines_node s.keyword) refl (own_augments_in after)
  where
    with_it : Bool → List Augment → List Augment
    with_it b others = cond b (record { source = s; given = given } ∷ others) others

    by : (d : Bool) → defines_node s.keyword ≡ d → augments_in (own_of after) ≡ augments_in after
        → augments_in (cond d (own_of after) (node s given (own_of after))) ≡ with_it (is_source_of augment_word s) (augments_in after)
    by true is rest = rest ∙ sym (ap (λ b. with_it b (augments_in after)) (other_word augment_word refl s is))
    by false is rest = ap (with_it (is_source_of augment_word s)) rest

-- its own statements hold all its augments
pub own_augments : (language : Language) (below : Forest Source) → inner_augments language (own_of below) ≡ inner_augments language below
own_augments core below = refl
own_augments (rfc wide) below = own_augments_in below

-- the first of a row, and another one
pub first_inner : (language : Language) (s : Source) (below after : Forest Source) → is_augment_in language s ≡ true
    → inner_augments language (node s below after) ≡ record { source = s; given = below } ∷ inner_augments language after
first_inner core s below after is = absurd cc
first_inner (rfc wide) s below after is =
    let a : Augment = record { source = s; given = below } in ap (λ b. cond b (a ∷ augments_in after) (augments_in after)) is

pub other_inner : (language : Language) (s : Source) (below after : Forest Source) → is_augment_in language s ≡ false
    → inner_augments language (node s below after) ≡ inner_augments language after
other_inner core s below after is = refl
other_inner (rfc wide) s below after is =
    let a : Augment = record { source = s; given = below } in ap (λ b. cond b (a ∷ augments_in after) (augments_in after)) is

module _ (language : Language) (modules : Forest Source) (owner : ℕ) where
  own_refined : (below : Forest Source) (f : Forest Part) → refined_in language modules owner (own_of below) f ≡ refined_in language modules owner below f
  unfolding refined_in
  own_refined end f = refl
  own_refined (node s given after) f = by (defines_node s.keyword) refl (own_refined after f) (own_refined after (after_refine_in language modules owner s given f))
    where
      by : (d : Bool) → defines_node s.keyword ≡ d → refined_in language modules owner (own_of after) f ≡ refined_in language modules owner after f
          → refined_in language modules owner (own_of after) (after_refine_in language modules owner s given f) ≡ refined_in language modules owner after (after_refine_in language modules owner s given f)
          → refined_in language modules owner (cond d (own_of after) (node s given (own_of after))) f ≡ refined_in language modules owner after (after_refine_in language modules owner s given f)
      by true is plain changed = plain ∙ ap (refined_in language modules owner after) (sym (ap (λ b. cond (b && is_fit_in language modules owner s given f) (changed_at (refine_steps modules owner s) (overridden_in language given) f) f) (no_refine s is)))
      by false is plain changed = changed

  own_told : (below : Forest Source) (f : Forest Part) → refine_breaks_in language modules owner (own_of below) f ≡ refine_breaks_in language modules owner below f
  own_told end f = refl
  own_told (node s given after) f = by (defines_node s.keyword) refl (own_told after f) (own_told after (after_refine_in language modules owner s given f))
    where
      by : (d : Bool) → defines_node s.keyword ≡ d → refine_breaks_in language modules owner (own_of after) f ≡ refine_breaks_in language modules owner after f
          → refine_breaks_in language modules owner (own_of after) (after_refine_in language modules owner s given f) ≡ refine_breaks_in language modules owner after (after_refine_in language modules owner s given f)
          → refine_breaks_in language modules owner (cond d (own_of after) (node s given (own_of after))) f ≡ refine_breaks_in language modules owner (node s given after) f
      by true is plain changed = plain
          ∙ (ap (refine_breaks_in language modules owner after) (sym (ap (λ b. cond (b && is_fit_in language modules owner s given f) (changed_at (refine_steps modules owner s) (overridden_in language given) f) f) (no_refine s is)))
          ∙ sym (ap (λ b. when (b && not (is_fit_in language modules owner s given f)) (broken 14 s.home s.statement.line) ++ refine_breaks_in language modules owner after (after_refine_in language modules owner s given f)) (no_refine s is)))
      by false is plain changed = ap (λ rest. when (is_refine s && not (is_fit_in language modules owner s given f)) (broken 14 s.home s.statement.line) ++ rest) changed

  module _ (s : Source) (below : Forest Source) where
    abbrev u : Part
    u = part_of s below

    abbrev inner : ℕ → Forest Part
    inner depth = nodes_for language modules owner depth (row_used modules (groupings_of modules) u)

    abbrev meant : ℕ → Part → Forest Part
    meant depth = stands_for_in language modules (groupings_of modules) owner depth

    abbrev told : ℕ → Part → List Break
    told depth = unfit_for_in language modules (groupings_of modules) owner depth

    -- its nodes once they are refined
    abbrev refined : ℕ → Forest Part
    refined depth = refined_in language modules owner below (inner depth)

    abbrev extended : ℕ → Forest Part
    extended depth = extended_by language (meant depth) modules owner (inner_augments language below) (refined depth)

    abbrev told_inside : ℕ → List Break
    told_inside depth = inner_breaks language (told depth) (meant depth) modules owner (inner_augments language below) (refined depth)
        ++ refine_breaks_in language modules owner below (inner depth)

    abbrev row : Forest Part
    row = row_used modules (groupings_of modules) u

    pub stands_so : (depth : ℕ) → (depth ≡ 0 → ⊥)
        → stands_for_in language modules (groupings_of modules) owner depth u ≡ conditioned language (own_of below) (extended (depth - 1))
    unfolding stands_for_in
    stands_so zero some = absurd (some refl)
    stands_so (suc depth) some =
        let less : suc depth - 1 ≡ depth = omega arith in
        ap₂ (λ those f. conditioned language u.own (extended_by language (meant depth) modules owner those f)) (own_augments language below) (own_refined below (inner depth))
        ∙ ap (λ n. conditioned language u.own (extended n)) (sym less)

    pub unfit_so : (depth : ℕ) → (depth ≡ 0 → ⊥)
        → unfit_for_in language modules (groupings_of modules) owner depth u ≡ breaks_for language modules owner (depth - 1) row ++ told_inside (depth - 1)
    unfolding unfit_for_in
    unfit_so zero some = absurd (some refl)
    unfit_so (suc depth) some =
        let less : suc depth - 1 ≡ depth = omega arith in
        let inside : inner_breaks language (told depth) (meant depth) modules owner (inner_augments language u.own) (refined_in language modules owner u.own (inner depth))
        ≡ inner_breaks language (told depth) (meant depth) modules owner (inner_augments language below) (refined depth) =
        ap₂ (λ those f. inner_breaks language (told depth) (meant depth) modules owner those f) (own_augments language below) (own_refined below (inner depth)) in
        ap (λ bs. breaks_for language modules owner depth row ++ bs) (ap₂ (λ xs ys. xs ++ ys) inside (own_told below (inner depth)))
        ∙ ap (λ n. breaks_for language modules owner n row ++ told_inside n) (sym less)

pub ends_so : (language : Language) (modules : Forest Source) (s : Source) (below : Forest Source) (depth : ℕ)
    → ends_within_in language modules (groupings_of modules) depth (part_of s below) ≡ true
    → (depth ≡ 0 → ⊥) × AllEnd language modules (depth - 1) (row_used modules (groupings_of modules) (part_of s below))
    × (all_inner (ends_within_in language modules (groupings_of modules) (depth - 1)) (inner_augments language below) ≡ true)
unfolding ends_within_in
ends_so language modules s below zero ends = absurd cc
ends_so language modules s below (suc depth) ends =
    let u = part_of s below in
    let less : suc depth - 1 ≡ depth = omega arith in
    let both = and_parts (all_uses (ends_within_in language modules (groupings_of modules) depth) (row_used modules (groupings_of modules) u))
    (all_inner (ends_within_in language modules (groupings_of modules) depth) (inner_augments language u.own)) ends in (
      λ none. absurd (omega (arith, none)),
      subst (λ n. AllEnd language modules n (row_used modules (groupings_of modules) u)) (sym less) both.0,
      ap₂ (λ n those. all_inner (ends_within_in language modules (groupings_of modules) n) those) less (sym (own_augments language below)) ∙ both.1,
    )

pub all_pass : (test : Part → Bool) → ((u : Part) → test u ≡ true) → (f : Forest Part) → all_uses test f ≡ true
unfolding all_uses
all_pass test passes end = refl
all_pass test passes (node p below after) = by (is_uses p) (all_pass test passes below) (all_pass test passes after)
  where
    by : (b : Bool) → all_uses test below ≡ true → all_uses test after ≡ true → (cond b (test p) (all_uses test below) && all_uses test after) ≡ true
    by true inner rest = ap (λ x. x && all_uses test after) (passes p) ∙ rest
    by false inner rest = ap (λ x. x && all_uses test after) inner ∙ rest

-- as many as there are statements, and one
pub depth_of : (modules : Forest Source) (rows slots : List (Slot held.Source)) → modules ≡ numbered_by source_view 0 (forest_of rows) → slots ≡ rows
    → length slots + 1 ≡ suc (size modules)
depth_of modules rows slots is same =
    let count : size modules ≡ length rows = ap size is ∙ (size-by source_view 0 (forest_of rows) ∙ size_forest rows) in
    let whole = ap length same in
    omega (arith, count, whole)

-- what comes into an empty table
abbrev pub begun : List (Slot ExpandedNode) → Forest Part → List (Place Part)
begun slots f = layout.seen numbered_part 0 (layout.laid slots) ++ places None (length slots) f

-- What is told in groupings without nodes, learned in an order in which each stands behind those that it uses.
use Rattle.std.proofs.Common.{◌≡◌, ℕ, zero, suc, ◌+◌, ◌<◌, Bool, true, false, cond, ◌&&◌, List, [], ◌++◌, length, get_or, min, Option, Some, None, refl, sym, ap, ap₂, ◌∙◌, arith, subst, append_assoc}
use Rattle.std.specs.Prelude.{◌==◌, option_and_then}
use Rattle.std.specs.Option.{option_map_or}
use Rattle.std.proofs.lemmas.Bool.{and_parts}
use Rattle.std.proofs.lemmas.Bool.Decides.{Decides-eqb}
use Rattle.yspec.specs.Forest.{Forest, end, node}
use Rattle.yspec.specs.linking.Augments.{Augment}
use Rattle.yspec.specs.linking.DerivedTypes.{number_named}
use Rattle.yspec.specs.linking.Expansion.{Grouping, groupings_of, laid, row_in, row_used, all_refine_breaks, replaced, unfit_in}
use Rattle.yspec.specs.linking.Keyword.{Keyword, same_keyword, augment_word, grouping_word, uses_word}
use Rattle.yspec.specs.linking.Parts.{Part, defines_node, part_of, within}
use Rattle.yspec.specs.linking.Rewriting.{all_uses}
use Rattle.yspec.specs.linking.Source.{Source, is_source_of}
use Rattle.yspec.specs.schema.Breaks.{Break, broken, least_from}
use Rattle.yspec.proofs.LinkingProofs.KeywordLemmas.{same_is}
use Rattle.yspec.proofs.SchemaProofs.LeastLemmas.{least_of_both}
use Rattle.yspec_wide.specs.Expansion.{inner_augments, inner_breaks, refined_in, refine_breaks_in, stands_for_in, unfit_for_in}
use Rattle.yspec_wide.specs.Language.{Language, core, rfc}
use Rattle.yspec_wide.specs.NodeCounts.{count_of_case, counted_below}
use Rattle.yspec_wide.specs.Sources.{is_augment_in}
use Rattle.ybase_preorder.specs.Layout.{numbered_by}
use Rattle.ylink_grammar.specs.declared.source.Source as held
use Rattle.ylink_grammar.specs.SourceView.{source_view}
use Rattle.yschema_expand.specs.Counting.{grouping_row, many, told_list, top_breaks}
use Rattle.ylink_names.specs.Ordered.{IsNamed, AreInOrder}
use Rattle.ylink_names.proofs.OrderedLemmas.{edge_named, place_of}
use Rattle.yschema_expand.specs.Walk.{all_inner, nodes_for, breaks_for, ends_within_in, AllEnd}
use Rattle.yschema_expand.proofs.CountLemmas.{CountedAre, all_counted, by_table, none_named, refined_none, whole, whole_is}
use Rattle.yschema_expand.proofs.EmptiedLemmas.{of_uses}
use Rattle.yschema_expand.proofs.GroupingLemmas.{row_laid}
use Rattle.yschema_expand.proofs.LeastLemmas.{least_told}
use Rattle.yschema_expand.proofs.NothingLemmas.{own_refines, refines_of_none, none_first, none_last, augments_none}
use Rattle.yschema_expand.proofs.UsedLemmas.{OnSome, augment_no_grouping, uses_no_grouping}
use Rattle.yschema_expand.proofs.WalkLemmas.{own_augments, first_inner, other_inner}

-- ---- two lists of which the least is the same from any on

same_two : (x : Option Break) (first second third fourth : List Break) → least_from x first ≡ least_from x second
    → ((y : Option Break) → least_from y third ≡ least_from y fourth) → least_from x (first ++ third) ≡ least_from x (second ++ fourth)
same_two x first second third fourth one other = least_of_both x first third
    ∙ (ap (λ o. least_from o third) one ∙ (other (least_from x second) ∙ sym (least_of_both x second fourth)))

augment_is : (language : Language) (s : Source) → is_augment_in language s ≡ true → is_source_of augment_word s ≡ true
augment_is core s is = absurd cc
augment_is (rfc wide) s is = is

augment_unused : (s : Source) → is_source_of augment_word s ≡ true → same_keyword uses_word s.keyword ≡ false
augment_unused s is = let word : augment_word ≡ s.keyword = same_is augment_word s.keyword is in sym (ap (same_keyword uses_word) word)

module _ (language : Language) (f : Forest held.Source) where
  abbrev set : Forest Source
  set = numbered_by source_view 0 f

  abbrev groupings : List Grouping
  groupings = groupings_of set

  abbrev row : ℕ → Forest Part
  row e = row_in groupings e

  abbrev all : ℕ → ℕ
  all = whole language f

  abbrev ends : ℕ → Part → Bool
  ends depth = ends_within_in language set groupings depth

  -- It is known what is told in the grouping of a number, if that is named and has no nodes,
  abbrev pub IsTold : (ℕ → Option Break) → ℕ → Type 0
  IsTold told e = (owner depth : ℕ) → IsNamed set e → all e ≡ 0 → AllEnd language set depth (row e)
      → told e ≡ least_from None (breaks_for language set owner depth (row e))

  -- and in the first ones in an order.
  abbrev pub AreTold : List ℕ → (ℕ → Option Break) → ℕ → Type 0
  AreTold nodes told i = (j : ℕ) → j < i → j < length nodes → IsTold told (get_or nodes j 0)

  module _ (nodes : List ℕ) (order : AreInOrder nodes set) where
    module _ (told : ℕ → Option Break) (owner : ℕ) where
      abbrev by_use : ℕ → Option Break
      by_use number = option_and_then told (number_named set number)

      abbrev meant : Source → ℕ
      meant = by_table language f all

      abbrev Known : Source → Type 0
      Known s = OnSome (number_named set s.number) (IsTold told)

      abbrev stands : ℕ → Part → Forest Part
      stands depth = stands_for_in language set groupings owner depth

      abbrev unfit : ℕ → Part → List Break
      unfit depth = unfit_for_in language set groupings owner depth

      abbrev breaks : ℕ → Forest Part → List Break
      breaks depth parts = breaks_for language set owner depth parts

      -- what augments break that lead to nothing
      abbrev breaks_inside : ℕ → List Augment → List Break
      breaks_inside depth xs = inner_breaks language (unfit depth) (stands depth) set owner xs end

      -- ---- one `uses`

      used_nodes : (number : ℕ) (o : Option ℕ) → number_named set number ≡ o → option_map_or all o 0 ≡ 0 → (depth : ℕ)
          → nodes_for language set owner depth (option_map_or row o end) ≡ end
      unfolding replaced
      used_nodes number None is none depth = refl
      used_nodes number (Some e) is none depth = none_named language f nodes order owner depth e (number, is) none

      used_told : (x : Option Break) (number : ℕ) (o : Option ℕ) → number_named set number ≡ o → OnSome o (IsTold told) → option_map_or all o 0 ≡ 0 → (depth : ℕ)
          → AllEnd language set depth (option_map_or row o end)
          → least_from x (told_list (option_and_then told o)) ≡ least_from x (breaks depth (option_map_or row o end))
      unfolding unfit_in
      used_told x number None is known none depth enough = refl
      used_told x number (Some e) is known none depth enough =
          ap (λ o. least_from x (told_list o)) (known owner depth (number, is) none enough) ∙ least_told x (breaks depth (row e))

      uses_told : (x : Option Break) (depth : ℕ) (s : Source) (below : Forest Source) → Known s → meant s ≡ 0 → ends depth (part_of s below) ≡ true
          → ((d : ℕ) (y : Option Break) → all_inner (ends d) (inner_augments language below) ≡ true
          → least_from y (top_breaks language by_use true below) ≡ least_from y (breaks_inside d (inner_augments language below)))
          → least_from x (of_uses language by_use s below) ≡ least_from x (unfit depth (part_of s below))
      unfolding unfit_for_in ends_within_in
      uses_told x zero s below known none enough deeper = absurd cc
      uses_told x (suc d) s below known none enough deeper =
          let u = part_of s below in
          let used = row_used set groupings u in
          let inner = nodes_for language set owner d used in
          let parts = and_parts (all_uses (ends d) used) (all_inner (ends d) (inner_augments language u.own)) enough in
          let same = own_augments language below in
          let empty : inner ≡ end = used_nodes s.number (number_named set s.number) refl none d in
          let refined : refined_in language set owner u.own inner ≡ end = ap (refined_in language set owner u.own) empty ∙ refined_none language set owner u.own in
          let augments : breaks_inside d (inner_augments language below)
          ≡ inner_breaks language (unfit d) (stands d) set owner (inner_augments language u.own) (refined_in language set owner u.own inner) =
          sym (ap₂ (λ xs g. inner_breaks language (unfit d) (stands d) set owner xs g) same refined) in
          let refines : all_refine_breaks below ≡ refine_breaks_in language set owner u.own inner =
          sym (ap (refine_breaks_in language set owner u.own) empty ∙ (refines_of_none language set owner u.own ∙ own_refines below)) in
          same_two x (told_list (by_use s.number)) (breaks d used) (top_breaks language by_use true below ++ all_refine_breaks below)
          (inner_breaks language (unfit d) (stands d) set owner (inner_augments language u.own) (refined_in language set owner u.own inner)
          ++ refine_breaks_in language set owner u.own inner)
          (used_told x s.number (number_named set s.number) refl known none d parts.0)
          (λ y. same_two y (top_breaks language by_use true below) (inner_breaks language (unfit d) (stands d) set owner (inner_augments language u.own) (refined_in language set owner u.own inner))
          (all_refine_breaks below) (refine_breaks_in language set owner u.own inner)
          (deeper d y (sym (ap (all_inner (ends d)) same) ∙ parts.1) ∙ ap (least_from y) augments)
          (λ z. ap (least_from z) refines))

      -- ---- one statement after another

      module _ (x : Option Break) (depth : ℕ) (above : Keyword) (s : Source) (below after : Forest Source) where
        abbrev p : Part
        p = part_of s below

        abbrev inside : ℕ
        inside = counted_below language meant s.keyword below

        abbrev left : ℕ
        left = counted_below language meant above after

        row_step : same_keyword uses_word above ≡ false → counted_below language meant above (node s below after) ≡ 0 → all_uses (ends depth) (laid (node s below after)) ≡ true
            → (is_source_of uses_word s ≡ true → Known s)
            → (is_source_of uses_word s ≡ true → inside ≡ 0 → (d : ℕ) (y : Option Break) → all_inner (ends d) (inner_augments language below) ≡ true
            → least_from y (top_breaks language by_use true below) ≡ least_from y (breaks_inside d (inner_augments language below)))
            → (left ≡ 0 → all_uses (ends depth) (laid after) ≡ true → (y : Option Break) → least_from y (top_breaks language by_use false after) ≡ least_from y (breaks depth (laid after)))
            → least_from x (top_breaks language by_use false (node s below after)) ≡ least_from x (breaks depth (laid (node s below after)))
        unfolding laid unfit_in all_uses counted_below top_breaks
        row_step other count enough known deeper later = by (same_keyword uses_word above) other (defines_node s.keyword) (is_source_of uses_word s) refl count enough
          where
            by : (z : Bool) → z ≡ false → (d u : Bool) → is_source_of uses_word s ≡ u
                → cond z (cond (is_augment_in language s) inside 0) (cond d (count_of_case above s + suc inside) (cond u (count_of_case above s + (meant s + inside)) 0)) + left ≡ 0
                → all_uses (ends depth) (cond d (node p (within s (laid below)) (laid after)) (cond u (node p end (laid after)) (laid after))) ≡ true
                → least_from x (cond u (of_uses language by_use s below) [] ++ top_breaks language by_use false after)
                ≡ least_from x (unfit_in (unfit depth) (cond d (node p (within s (laid below)) (laid after)) (cond u (node p end (laid after)) (laid after))))
            by true e d u used count enough = absurd cc
            by false e true u used count enough = absurd (omega (arith, count))
            by false e false true used count enough =
                let whole_test : (ends depth p && all_uses (ends depth) (laid after)) ≡ true =
                sym (ap (λ b. cond b (ends depth p) true && all_uses (ends depth) (laid after)) used) ∙ enough in
                let parts = and_parts (ends depth p) (all_uses (ends depth) (laid after)) whole_test in
                let own : meant s ≡ 0 = omega (arith, count) in
                let inner : inside ≡ 0 = omega (arith, count) in
                let others : left ≡ 0 = omega (arith, count) in
                same_two x (of_uses language by_use s below) (unfit depth p) (top_breaks language by_use false after) (breaks depth (laid after))
                (uses_told x depth s below (known used) own parts.0 (deeper used inner)) (later others parts.1)
                ∙ sym (ap (λ b. least_from x (cond b (unfit depth p) [] ++ breaks depth (laid after))) used)
            by false e false false used count enough = later (omega (arith, count)) enough x

        inner_step : same_keyword uses_word above ≡ true → counted_below language meant above (node s below after) ≡ 0
            → all_inner (ends depth) (inner_augments language (node s below after)) ≡ true
            → (is_augment_in language s ≡ true → inside ≡ 0 → all_uses (ends depth) (laid below) ≡ true
            → (y : Option Break) → least_from y (top_breaks language by_use false below) ≡ least_from y (breaks depth (laid below)))
            → (left ≡ 0 → all_inner (ends depth) (inner_augments language after) ≡ true
            → (y : Option Break) → least_from y (top_breaks language by_use true after) ≡ least_from y (breaks_inside depth (inner_augments language after)))
            → least_from x (top_breaks language by_use true (node s below after)) ≡ least_from x (breaks_inside depth (inner_augments language (node s below after)))
        unfolding counted_below top_breaks
        inner_step is count enough deeper later = by (same_keyword uses_word above) is (is_augment_in language s) refl count
          where
            a : Augment
            a = record { source = s; given = below }

            by : (z : Bool) → z ≡ true → (b : Bool) → is_augment_in language s ≡ b
                → cond z (cond b inside 0) (cond (defines_node s.keyword) (count_of_case above s + suc inside) (cond (is_source_of uses_word s) (count_of_case above s + (meant s + inside)) 0)) + left ≡ 0
                → least_from x (cond b (top_breaks language by_use false below ++ broken 14 s.home s.statement.line) [] ++ top_breaks language by_use true after)
                ≡ least_from x (breaks_inside depth (inner_augments language (node s below after)))
            by false e b added count = absurd cc
            by true e true added count =
                let first = first_inner language s below after added in
                let xs = inner_augments language after in
                let told_here = top_breaks language by_use false below in
                let rule = broken 14 s.home s.statement.line in
                let parts = and_parts (all_uses (ends depth) (laid below)) (all_inner (ends depth) xs) (sym (ap (all_inner (ends depth)) first) ∙ enough) in
                ap (least_from x) (append_assoc told_here rule (top_breaks language by_use true after))
                ∙ (same_two x told_here (breaks depth (laid below)) (rule ++ top_breaks language by_use true after) (rule ++ breaks_inside depth xs)
                (deeper added (omega (arith, count)) parts.0 x)
                (λ y. same_two y rule rule (top_breaks language by_use true after) (breaks_inside depth xs) refl (later (omega (arith, count)) parts.1))
                ∙ ap (least_from x) (sym (none_first language set owner (unfit depth) (stands depth) a xs) ∙ sym (ap (breaks_inside depth) first)))
            by true e false added count =
                let first = other_inner language s below after added in
                later (omega (arith, count)) (sym (ap (all_inner (ends depth)) first) ∙ enough) x
                ∙ ap (λ xs. least_from x (breaks_inside depth xs)) (sym first)

      -- of a row, or of the augments among what a `uses` states
      abbrev Ends : Bool → ℕ → Forest Source → Type 0
      Ends in_uses depth g = cond in_uses (all_inner (ends depth) (inner_augments language g)) (all_uses (ends depth) (laid g)) ≡ true

      abbrev Of : Bool → ℕ → Forest Source → List Break
      Of in_uses depth g = cond in_uses (breaks_inside depth (inner_augments language g)) (breaks depth (laid g))

      told_so : (in_uses : Bool) (above : Keyword) → same_keyword uses_word above ≡ in_uses → (x : Option Break) (depth : ℕ) (g : Forest Source) → CountedAre Known g
          → counted_below language meant above g ≡ 0 → Ends in_uses depth g
          → least_from x (top_breaks language by_use in_uses g) ≡ least_from x (Of in_uses depth g)
      unfolding top_breaks laid unfit_in
      told_so true above is x depth end are count enough =
          ap (least_from x) (sym (ap (breaks_inside depth) (augments_none language) ∙ none_last language set owner (unfit depth) (stands depth)))
      told_so false above is x depth end are count enough = refl
      told_so true above is x depth (node s below after) are count enough = inner_step x depth above s below after is count enough
          (λ added none all y. let word = augment_is language s added in
          told_so false s.keyword (augment_unused s word) y depth below (are.1 (augment_no_grouping s word)) none all)
          (λ none all y. told_so true above is y depth after are.2 none all)
      told_so false above is x depth (node s below after) are count enough = row_step x depth above s below after is count enough are.0
          (λ used none d y all. told_so true s.keyword used y d below (are.1 (uses_no_grouping s used)) none all)
          (λ none all y. told_so false above is y depth after are.2 none all)

      -- and so of a grouping, where it is known of those that stand before it
      told_own : (i : ℕ) → AreTold nodes told i → i < length nodes → IsNamed set (get_or nodes i 0) → all (get_or nodes i 0) ≡ 0 → (depth : ℕ)
          → AllEnd language set depth (row (get_or nodes i 0))
          → least_from None (top_breaks language by_use false (grouping_row set (get_or nodes i 0))) ≡ least_from None (breaks depth (row (get_or nodes i 0)))
      told_own i so_far there named none depth enough =
          let d = get_or nodes i 0 in
          let is = row_laid f d in
          told_so false grouping_word refl None depth (grouping_row set d)
          (all_counted language f (IsTold told) d (λ e edge.
          let at = place_of nodes set order e (edge_named f d e edge) in
          let within_it = at.1 in
          let before = order.behind d e edge i at.0 there within_it refl at.2 in
          subst (IsTold told) at.2 (so_far at.0 before within_it)))
          (sym (whole_is language f nodes order d named) ∙ none) (subst (AllEnd language set depth) is enough)
          ∙ ap (λ parts. least_from None (breaks depth parts)) (sym is)

    -- ---- one grouping after another

    pub told_next : (told more : ℕ → Option Break) (i : ℕ) → AreTold nodes told i → i < length nodes
        → (IsNamed set (get_or nodes i 0) → all (get_or nodes i 0) ≡ 0)
        → ((e : ℕ) → more e ≡ cond (e == get_or nodes i 0)
        (least_from None (top_breaks language (λ number. option_and_then told (number_named set number)) false (grouping_row set (get_or nodes i 0)))) (told e))
        → AreTold nodes more (i + 1)
    told_next told more i so_far there none set_to j below within_it owner depth named empty enough = set_to (get_or nodes j 0) ∙ by (get_or nodes j 0 == d) refl
      where
        d : ℕ
        d = get_or nodes i 0

        own : Option Break
        own = least_from None (top_breaks language (λ number. option_and_then told (number_named set number)) false (grouping_row set d))

        earlier : (get_or nodes j 0 == d) ≡ false → j < i
        earlier other = less_than (i == j) refl
          where
            clash : i ≡ j → ⊥
            clash same = absurd (let e : false ≡ true = sym other ∙ (Decides-eqb (get_or nodes j 0) d).1 (ap (λ k. get_or nodes k 0) (sym same)) in cc)

            less_than : (b : Bool) → (i == j) ≡ b → j < i
            less_than true is = absurd (clash ((Decides-eqb i j).0 is))
            less_than false is = let differ : (i ≡ j) → ⊥ = clash in omega (arith, below, differ)

        by : (b : Bool) → (get_or nodes j 0 == d) ≡ b → cond b own (told (get_or nodes j 0)) ≡ least_from None (breaks_for language set owner depth (row (get_or nodes j 0)))
        by true is =
            let same : get_or nodes j 0 ≡ d = (Decides-eqb (get_or nodes j 0) d).0 is in
            let here = subst (IsNamed set) same named in
            told_own told owner i so_far there here (none here) depth (subst (λ e. AllEnd language set depth (row e)) same enough)
            ∙ ap (λ e. least_from None (breaks_for language set owner depth (row e))) (sym same)
        by false is = so_far j (earlier is) within_it owner depth named empty enough

    -- one that has nodes is passed over
    pub told_passed : (told : ℕ → Option Break) (i : ℕ) → AreTold nodes told i → (IsNamed set (get_or nodes i 0) → all (get_or nodes i 0) ≡ 0 → ⊥)
        → AreTold nodes told (i + 1)
    told_passed told i so_far full j below within_it owner depth named empty enough = by (i == j) refl
      where
        by : (b : Bool) → (i == j) ≡ b → told (get_or nodes j 0) ≡ least_from None (breaks_for language set owner depth (row (get_or nodes j 0)))
        by true is =
            let same : i ≡ j = (Decides-eqb i j).0 is in
            absurd (full (subst (λ k. IsNamed set (get_or nodes k 0)) (sym same) named) (ap (λ k. all (get_or nodes k 0)) same ∙ empty))
        by false is =
            let differ : (i ≡ j) → ⊥ = λ same. let clash : false ≡ true = sym is ∙ (Decides-eqb i j).1 same in absurd cc in
            so_far j (omega (arith, below, differ)) within_it owner depth named empty enough

    -- and in the end of all that are named
    pub told_all : (told : ℕ → Option Break) → AreTold nodes told (length nodes) → (e owner depth : ℕ) → IsNamed set e → all e ≡ 0 → AllEnd language set depth (row e)
        → told e ≡ least_from None (breaks_for language set owner depth (row e))
    told_all told so_far e owner depth named =
        let at = place_of nodes set order e named in
        let within_it = at.1 in
        subst (λ d. IsNamed set d → all d ≡ 0 → AllEnd language set depth (row d) → told d ≡ least_from None (breaks_for language set owner depth (row d))) at.2
        (so_far at.0 within_it within_it owner depth) named

    -- ---- what is known when a grouping without nodes is used

    pub known_used : (counts : ℕ → ℕ) (told : ℕ → Option Break) → ((e : ℕ) → IsNamed set e → counts e ≡ min (all e) many)
        → ((e owner depth : ℕ) → IsNamed set e → all e ≡ 0 → AllEnd language set depth (row e) → told e ≡ least_from None (breaks_for language set owner depth (row e)))
        → (number : ℕ) (o : Option ℕ) → number_named set number ≡ o → (owner depth : ℕ) → option_map_or counts o 0 ≡ 0 → AllEnd language set depth (option_map_or row o end)
        → (nodes_for language set owner depth (option_map_or row o end) ≡ end)
        × (option_and_then told o ≡ least_from None (breaks_for language set owner depth (option_map_or row o end)))
    unfolding replaced unfit_in
    known_used counts told counts_are told_are number None names owner depth none enough = (refl, refl)
    known_used counts told counts_are told_are number (Some e) names owner depth none enough =
        let named : IsNamed set e = (number, names) in
        let is = counts_are e named in
        let empty : all e ≡ 0 = omega (arith, is, none) in
        (none_named language f nodes order owner depth e named empty, told_are e owner depth named empty enough)

-- What the statements of an augment below a `uses` add, one after another, and how that comes among the nodes that the `uses` brings.
use Rattle.std.proofs.Common.{◌≡◌, ℕ, ◌+◌, ◌-◌, Bool, true, false, cond, not, ◌&&◌, is_some, List, [], ◌∷◌, ◌++◌, length, Option, Some, None, refl, sym, ap, ap₂, ◌∙◌, append_assoc, arith, length-append}
use Rattle.std.specs.Prelude.{option_and_then}
use Rattle.std.specs.Option.{option_map_or, IfSome}
use Rattle.std.proofs.lemmas.Bool.{and_parts}
use Rattle.std.proofs.lemmas.List.{append-nil}
use Rattle.yspec.specs.Forest.{Forest, node, end, join, size}
use Rattle.yspec.specs.linking.Augments.{Augment, kept_out, may_be_augmented}
use Rattle.yspec.specs.linking.Keyword.{Keyword, same_keyword, case_word, choice_word, uses_word}
use Rattle.yspec.specs.linking.Source.{Source, first_with, is_source_of}
use Rattle.yspec.specs.linking.Parts.{Part, as_cases, case_for, own_of, part_of, within}
use Rattle.yspec.specs.linking.Expansion.{groupings_of, is_uses, laid, owned_by, refine_steps, row_used}
use Rattle.yspec.specs.schema.Breaks.{Break, broken, when, least_from}
use Rattle.yspec.proofs.SchemaProofs.LeastLemmas.{least_of_both}
use Rattle.yspec_wide.specs.Expansion.{after_augment, conditioned, extended_by, inner_augments, inner_breaks, is_choice_in_choice, is_closed, is_fit_augment, may_take_in, refined_in, refine_breaks_in, stands_for_in, unfit_for_in}
use Rattle.yspec_wide.specs.Language.{Language, core, rfc}
use Rattle.yspec_wide.specs.Sources.{guard_row}
use Rattle.yspec_wide.proofs.LeastLemmas.{swap_lists}
use Rattle.ybase_preorder.specs.Layout.{Place, places}
use Rattle.ybase_preorder.specs.declared.slot.Slot.{Slot}
use Rattle.ybase_preorder.proofs.LayoutLemmas.{length-places}
use Rattle.ylink_grammar.specs.BreakView.{seen}
use Rattle.yschema_expand.specs.Hanging.{hung_at}
use Rattle.yschema_expand.specs.Indexing.{part_in}
use Rattle.yschema_expand.specs.TableView.{parts_in, slots_of}
use Rattle.yschema_expand.specs.Targets.{inner_target}
use Rattle.yschema_expand.specs.Tasks.{brought, Extends, Hangs}
use Rattle.yschema_expand.specs.Walk.{breaks_for, chosen, is_laid, nodes_for, Adds, AddsParts, Changes}
use Rattle.yschema_expand.specs.declared.expanding.Made.{Made}
use Rattle.yschema_expand.specs.declared.nodes.ExpandedNode.{ExpandedNode}
use Rattle.yschema_expand.proofs.ExtendLemmas.{extended, not_extended}
use Rattle.yschema_expand.proofs.IndexedLemmas.{count_parts, part_there}
use Rattle.yschema_expand.proofs.WalkLemmas.{adds_changed, adds_join, breaks_join, breaks_uses, changes_both, chosen-join, chosen_empty, laid_node, nodes_join, nodes_node, nodes_none, nodes_uses, stands_so, unfit_so}
use Rattle.yschema_given.specs.Keeping.{are_kept_right}
use Rattle.yschema_given.proofs.KeepingLemmas.{asked_alike, own_conditions}

-- ---- what its statements add

module _ (language : Language) (modules : Forest Source) (owner depth : ℕ) (given : Forest Source) where
  abbrev nodes : Forest Part → Forest Part
  nodes = nodes_for language modules owner depth

  abbrev breaks : Forest Part → List Break
  breaks = breaks_for language modules owner depth

  abbrev asked : Forest Part → Forest Part
  asked f = conditioned language given (nodes f)

  abbrev added : Bool → Forest Part → Forest Part
  added c f = brought language modules owner depth c given f

  asked_join : (f g : Forest Part) → conditioned language given (join f g) ≡ join (conditioned language given f) (conditioned language given g)
  asked_join end g = refl
  asked_join (node p below after) g = ap (node (record p { own = join p.own (guard_row language given) }) below) (asked_join after g)

  brought_join : (c : Bool) (f g : Forest Part) → added c (join f g) ≡ join (added c f) (added c g)
  brought_join c f g = ap (λ h. chosen c (conditioned language given h)) (nodes_join language modules owner depth f g)
      ∙ (ap (chosen c) (asked_join (nodes f) (nodes g)) ∙ chosen-join c (asked f) (asked g))

  pub brought_none : (c : Bool) (f : Forest Part) → f ≡ end → added c f ≡ end
  brought_none c f none = chosen_empty c (asked f) (ap asked none ∙ ap (conditioned language given) (nodes_none language modules owner depth))

  asked_one : (p : Part) (below : Forest Part) → is_uses p ≡ false
      → asked (node p below end) ≡ node (record (owned_by owner p) { own = join p.own (guard_row language given) }) (nodes below) end
  asked_one p below unused = ap (conditioned language given) (nodes_node language modules owner depth p below unused)

  -- a single one stands for a case
  pub brought_single : (c : Bool) (s : Source) (below : Forest Source) → is_laid s ≡ true → is_source_of uses_word s ≡ false
      → (c && not (same_keyword case_word s.keyword)) ≡ true
      → added c (laid (node s below end)) ≡ node (owned_by owner (case_for (part_of s below))) (added false (laid (node s below end))) end
  brought_single c s below is unused single =
      let parts = and_parts c (not (same_keyword case_word s.keyword)) single in
      let own : Part = record (owned_by owner (part_of s below)) { own = join (own_of below) (guard_row language given) } in
      let inside = nodes (within s (laid below)) in
      let one : asked (laid (node s below end)) ≡ node own inside end =
      ap asked (laid_node s below is unused) ∙ asked_one (part_of s below) (within s (laid below)) unused in
      ap (λ b. chosen b (asked (laid (node s below end)))) parts.0
      ∙ (ap as_cases one
      ∙ (ap (λ b. cond b (node own inside end) (node (case_for own) (node own inside end) end)) (no_case (same_keyword case_word s.keyword) parts.1)
      ∙ ap (λ f. node (owned_by owner (case_for (part_of s below))) f end) (sym one)))
    where
      no_case : (b : Bool) → not b ≡ true → b ≡ false
      no_case true e = absurd cc
      no_case false e = refl

  -- any other stands as it is
  pub brought_own : (c : Bool) (s : Source) (below : Forest Source) → is_laid s ≡ true → (c ≡ true → is_source_of uses_word s ≡ false)
      → (c && not (same_keyword case_word s.keyword)) ≡ false → added c (laid (node s below end)) ≡ added false (laid (node s below end))
  brought_own false s below is unused single = refl
  brought_own true s below is unused single =
      let own : Part = record (owned_by owner (part_of s below)) { own = join (own_of below) (guard_row language given) } in
      let inside = nodes (within s (laid below)) in
      let one : asked (laid (node s below end)) ≡ node own inside end =
      ap asked (laid_node s below is (unused refl)) ∙ asked_one (part_of s below) (within s (laid below)) (unused refl) in
      ap as_cases one
      ∙ (ap (λ b. cond b (node own inside end) (node (case_for own) (node own inside end) end)) (a_case (same_keyword case_word s.keyword) single)
      ∙ sym one)
    where
      a_case : (b : Bool) → (true && not b) ≡ false → b ≡ true
      a_case true e = refl
      a_case false e = absurd cc

  -- nodes are added, and the guards asked of them
  pub adds_asked : (parent : Option ℕ) (first : ℕ) (f : Forest Part) (old full new : Made) → first ≡ length (slots_of old.table)
      → are_kept_right language given ≡ true → AddsParts language modules parent owner depth f old full
      → ((g : Forest Part) → Changes first g (conditioned language (own_of given) g) [] full new) → Adds parent (added false f) (breaks f) old new
  adds_asked parent first f old full new count kept adds asks =
      let whole = adds_changed parent first (nodes f) (conditioned language (own_of given) (nodes f)) (breaks f) [] old full new count adds (asks (nodes f)) in (
        whole.0 ∙ ap (λ g. parts_in old.table ++ places parent (length (slots_of old.table)) g)
            (asked_alike language (own_of given) given (own_conditions language given kept) (nodes f)),
        whole.1 ∙ ap (least_from (seen old.told)) (append-nil (breaks f)),
      )

  -- one after another
  pub brings_both : (parent : Option ℕ) (c : Bool) (f g : Forest Part) (old mid new : Made) → Adds parent (added c f) (breaks f) old mid
      → Adds parent (added c g) (breaks g) mid new → Adds parent (added c (join f g)) (breaks (join f g)) old new
  brings_both parent c f g old mid new one two =
      let both = adds_join parent (added c f) (added c g) (breaks f) (breaks g) old mid new one two in (
        both.0 ∙ ap (λ h. parts_in old.table ++ places parent (length (slots_of old.table)) h) (sym (brought_join c f g)),
        both.1 ∙ ap (least_from (seen old.told)) (sym (breaks_join language modules owner depth f g)),
      )

-- ---- no `uses` in a choice

untrue : (b : Bool) → not b ≡ true → b ≡ false
untrue true e = absurd cc
untrue false e = refl

pub none_is : (b some : Bool) → some ≡ not b → b ≡ not some
none_is true some e = ap not (sym e)
none_is false some e = ap not (sym e)

-- a row that lacks a keyword
pub lacks_parts : (k : Keyword) (s : Source) (below after : Forest Source) → is_some (first_with k (node s below after)) ≡ false
    → (is_source_of k s ≡ false) × (is_some (first_with k after) ≡ false)
lacks_parts k s below after lacks = by (is_source_of k s) lacks
  where
    by : (b : Bool) → is_some (cond b (Some s) (first_with k after)) ≡ false → (b ≡ false) × (is_some (first_with k after) ≡ false)
    by true e = absurd cc
    by false e = (refl, e)

-- a choice that takes what an augment states takes none
pub choice_lacks : (language : Language) (modules : Forest Source) (a : Augment) (slots : List (Slot ExpandedNode)) (target : Option ℕ)
    → IfSome target (λ n. option_map_or (λ (p : Part). may_take_in language modules a p) (part_in slots n) false ≡ true)
    → option_map_or (λ (p : Part). is_source_of choice_word p.source) (option_and_then (part_in slots) target) false ≡ true
    → is_some (first_with uses_word a.given) ≡ false
choice_lacks language modules a slots None takes chooses = absurd cc
choice_lacks language modules a slots (Some n) takes chooses = by (part_in slots n) takes chooses
  where
    by : (o : Option Part) → option_map_or (λ (p : Part). may_take_in language modules a p) o false ≡ true
        → option_map_or (λ (p : Part). is_source_of choice_word p.source) o false ≡ true → is_some (first_with uses_word a.given) ≡ false
    by None takes chooses = absurd cc
    by (Some p) takes chooses =
        let lacks = not (is_some (first_with (kept_out p) a.given)) in
        let others = not (is_choice_in_choice language modules a p) in
        let open_to = and_parts (may_be_augmented p.source.keyword && (lacks && others)) (not (is_closed language a.given p.source)) takes in
        let taken = and_parts (may_be_augmented p.source.keyword) (lacks && others) open_to.0 in
        let lacking = and_parts lacks others taken.1 in
        untrue (is_some (first_with uses_word a.given))
        (ap (λ b. not (is_some (first_with (cond b uses_word case_word) a.given))) (sym chooses) ∙ lacking.0)

-- ---- how it comes among the nodes

turned : (so_far : Option Break) (xs ys : List Break) → least_from so_far (xs ++ ys) ≡ least_from so_far (ys ++ xs)
turned so_far xs ys = least_of_both so_far xs ys ∙ (swap_lists so_far xs ys ∙ sym (least_of_both so_far ys xs))

module _ (language : Language) (modules : Forest Source) (owner depth first : ℕ) where
  abbrev meant : Part → Forest Part
  meant = stands_for_in language modules (groupings_of modules) owner depth

  abbrev told : Part → List Break
  told = unfit_for_in language modules (groupings_of modules) owner depth

  module _ (a : Augment) where
    abbrev after : Forest Part → Forest Part
    after = after_augment language meant modules owner a

    abbrev given_nodes : Bool → Forest Part
    given_nodes c = brought language modules owner depth c a.given (laid a.given)

    abbrev own_break : Bool → List Break
    own_break fit = when (not fit) (broken 14 a.source.home a.source.statement.line)

    abbrev in_choice : Option ℕ → Made → Bool
    in_choice target m = option_map_or (λ (p : Part). is_source_of choice_word p.source) (option_and_then (part_in (slots_of m.table)) target) false

    at_target : (old : Made) (earlier : List (Place Part)) (parent : Option ℕ) (f : Forest Part) (target : Option ℕ) → length earlier ≡ first
        → parts_in old.table ≡ earlier ++ places parent first f → target ≡ inner_target language modules owner a first f
        → (hung_at target first (given_nodes (in_choice target old)) f ≡ after f) × (is_fit_augment language modules owner f a ≡ is_some target)
    at_target old earlier parent f None count at is =
        let none = not_extended language meant modules owner a first f is in (sym none.1, none.0)
    at_target old earlier parent f (Some n) count at is =
        let there = extended language meant modules owner a first f n is in
        let x = there.0 in
        let lies : part_in (slots_of old.table) n ≡ Some x.part = ap (part_in (slots_of old.table)) (sym there.2)
        ∙ part_there (slots_of old.table) first earlier parent f count at (refine_steps modules owner a.source) x there.1 in
        let chooses = ap (λ o. option_map_or (λ (p : Part). is_source_of choice_word p.source) o false) lies in
        (ap (λ b. hung_at (Some n) first (given_nodes b) f) chooses ∙ there.4, there.3)

    one_extended : (f : Forest Part) → extended_by language meant modules owner (a ∷ []) f ≡ after f
    unfolding extended_by
    one_extended f = refl

    one_broken : (f : Forest Part) → inner_breaks language told meant modules owner (a ∷ []) f
        ≡ breaks_for language modules owner depth (laid a.given) ++ (own_break (is_fit_augment language modules owner f a) ++ [])
    unfolding inner_breaks
    one_broken f = refl

    -- It is told if it has no target; then all that it adds comes last, and then where it belongs.
    pub augment_added : (target : Option ℕ) (c : Bool) (start : ℕ) (old mid full new : Made) → mid.table ≡ old.table → start ≡ length (slots_of old.table)
        → ((earlier : List (Place Part)) (parent : Option ℕ) (f : Forest Part) → length earlier ≡ first
        → parts_in old.table ≡ earlier ++ places parent first f → target ≡ inner_target language modules owner a first f)
        → c ≡ in_choice target old → seen mid.told ≡ least_from (seen old.told) (own_break (is_some target))
        → Adds target (given_nodes c) (breaks_for language modules owner depth (laid a.given)) mid full
        → Hangs (record { first = first; target = target; start = start }) full new
        → Extends language modules owner depth first (a ∷ []) old new
    augment_added target c start old mid full new same start_is found c_is mid_told adds hangs = λ f earlier parent count at.
        let is = found earlier parent f count at in
        let there = at_target old earlier parent f target count at is in
        let body = breaks_for language modules owner depth (laid a.given) in
        let own = own_break (is_some target) in
        let all = sym (count_parts (slots_of old.table)) ∙ (ap length at ∙ length-append earlier (places parent first f)) in
        let row = length-places parent first f in
        let starts : start ≡ first + size f = omega (arith, start_is, all, row, count) in
        let lies : parts_in full.table ≡ (earlier ++ places parent first f) ++ places target start (given_nodes c) =
        adds.0 ∙ ap₂ (λ ps n. ps ++ places target n (given_nodes c)) (ap parts_in same ∙ at) (ap (λ t. length (slots_of t)) same ∙ sym start_is) in
        let put = hangs.0 earlier parent f (given_nodes c) count starts lies in (
          put ∙ ap (λ g. earlier ++ places parent first g)
              (ap (λ b. hung_at target first (given_nodes b) f) c_is ∙ (there.0 ∙ sym (one_extended f))),
          ap seen hangs.1 ∙ (adds.1 ∙ (ap (λ o. least_from o body) mid_told
              ∙ (sym (least_of_both (seen old.told) own body) ∙ (turned (seen old.told) own body
              ∙ ap (least_from (seen old.told)) (ap (λ bs. body ++ bs) (sym (append-nil own) ∙ ap (λ b. own_break b ++ []) (sym there.1)) ∙ sym (one_broken f)))))),
        )

    -- and then others
    pub extends_more : (others : List Augment) (old mid new : Made) → Extends language modules owner depth first (a ∷ []) old mid
        → Extends language modules owner depth first others mid new → Extends language modules owner depth first (a ∷ others) old new
    unfolding extended_by inner_breaks
    extends_more others old mid new one two = λ f earlier parent count at.
        let next = after f in
        let body = breaks_for language modules owner depth (laid a.given) in
        let own = own_break (is_fit_augment language modules owner f a) in
        let rest = inner_breaks language told meant modules owner others next in
        let both = changes_both first f next (extended_by language meant modules owner others next) (body ++ (own ++ [])) rest old mid new (one f) (two next)
        earlier parent count at in (
          both.0,
          both.1 ∙ ap (least_from (seen old.told)) (append_assoc body (own ++ []) rest ∙ ap (λ bs. body ++ bs) (append_assoc own [] rest)),
        )

  -- where there are no more statements there is no more augment
  pub extends_none : (m : Made) → Extends language modules owner depth first (inner_augments language end) m m
  unfolding extended_by inner_breaks
  extends_none m = by language
    where
      by : (l : Language) → Extends l modules owner depth first (inner_augments l end) m m
      by core = λ f earlier parent count at. (at, refl)
      by (rfc wide) = λ f earlier parent count at. (at, refl)

-- ---- what a `uses` stands for, once all its tasks are done

module _ (language : Language) (modules : Forest Source) (owner depth : ℕ) (s : Source) (below : Forest Source) where
  abbrev u : Part
  u = part_of s below

  abbrev less : ℕ
  less = depth - 1

  abbrev row : Forest Part
  row = row_used modules (groupings_of modules) u

  abbrev inner : Forest Part
  inner = nodes_for language modules owner less row

  pub uses_added : (parent : Option ℕ) (first : ℕ) (old a b c new : Made) → is_uses u ≡ true → (depth ≡ 0 → ⊥) → first ≡ length (slots_of old.table)
      → AddsParts language modules parent owner less row old a
      → ((f : Forest Part) → Changes first f (refined_in language modules owner below f) (refine_breaks_in language modules owner below f) a b)
      → Extends language modules owner less first (inner_augments language below) b c
      → ((f : Forest Part) → Changes first f (conditioned language (own_of below) f) [] c new)
      → AddsParts language modules parent owner depth (node u end end) old new
  uses_added parent first old a b c new is some count adds refines extends asks =
      let those = inner_augments language below in
      let standing = stands_for_in language modules (groupings_of modules) owner less in
      let telling = unfit_for_in language modules (groupings_of modules) owner less in
      let refined = refined_in language modules owner below inner in
      let extended_so = extended_by language standing modules owner those refined in
      let xs = breaks_for language modules owner less row in
      let ys = refine_breaks_in language modules owner below inner in
      let zs = inner_breaks language telling standing modules owner those refined in
      let one = adds_changed parent first inner refined xs ys old a b count adds (refines inner) in
      let two = adds_changed parent first refined extended_so (xs ++ ys) zs old b c count one (extends refined) in
      let three = adds_changed parent first extended_so (conditioned language (own_of below) extended_so) ((xs ++ ys) ++ zs) [] old c new count two (asks extended_so) in
      let t = seen old.told in (
        three.0 ∙ ap (λ f. parts_in old.table ++ places parent (length (slots_of old.table)) f)
            (sym (nodes_uses language modules owner depth u is ∙ stands_so language modules owner s below depth some)),
        three.1 ∙ (ap (least_from t) (append-nil ((xs ++ ys) ++ zs) ∙ append_assoc xs ys zs)
            ∙ (least_of_both t xs (ys ++ zs) ∙ (turned (least_from t xs) ys zs ∙ (sym (least_of_both t xs (zs ++ ys))
            ∙ ap (least_from t) (sym (breaks_uses language modules owner depth u is ∙ unfit_so language modules owner s below depth some)))))),
      )

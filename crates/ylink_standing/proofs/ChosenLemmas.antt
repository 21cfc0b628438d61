-- Names of features that are chosen, one after another, and features of a set that are chosen, by their numbers.
use Rattle.std.proofs.Common.{◌≡◌, ℕ, zero, suc, ◌+◌, ◌<◌, Bool, true, false, cond, List, [], ◌∷◌, get_or, drop, map, Option, Some, None, is_some, option_map, refl, sym, ap, ◌∙◌, length}
use Rattle.std.specs.Prelude.{◌&&◌, ◌||◌, slice_get, unwrap_or}
use Rattle.std.specs.Borrow.{Bor}
use Rattle.std.specs.BTreeMap.{BTreeMap, UpdatesBy}
use Rattle.std.specs.Cmp.Lexicographic.{slice_cmp, nat_list_eq_equiv}
use Rattle.std.specs.List.{list_any}
use Rattle.std.specs.Option.{option_map_or}
use Rattle.std.specs.Ordering.{nat_cmp}
use Rattle.std.proofs.lemmas.List.{at_drop_more}
use Rattle.std.proofs.lemmas.Option.{slice_get-map}
use Rattle.yspec.specs.Forest.{Forest, first_of, row}
use Rattle.yspec.specs.linking.Identities.{module_name}
use Rattle.yspec.specs.linking.Scopes.{Placed}
use Rattle.yspec.specs.linking.Source.{Source, argument_in}
use Rattle.yspec.specs.text.Text.{Text, is_text}
use Rattle.yspec_wide.specs.Language.{Wide, Language, core, rfc, is_chosen, is_chosen_of}
use Rattle.yspec_wide.specs.Sources.{is_feature}
use Rattle.ybase_preorder.specs.declared.slot.Slot.{Slot}
use Rattle.ybase_preorder.specs.Layout.{numbered_by, forest_of}
use Rattle.ylink_grammar.specs.declared.source.Source as held
use Rattle.ylink_grammar.specs.SourceView.{source_view}
use Rattle.ylink_names.proofs.BelowLemmas.{source_at}
use Rattle.ylink_names.proofs.FirstNamedLemmas.{value_at, one_more}
use Rattle.ylink_names.proofs.PlacedLemmas.{stands_at}
use Rattle.ylink_standing.specs.ChosenView.{name_among, is_chosen_by}
use Rattle.ylink_standing.specs.StandingView.{AreChosen}

-- ---- names, one after another

module _ {X V : Type 0} (see : X → Text) (xs : List X) (t : Text) where
  is_held : (v : V) (o : Option V) (b rest : Bool) → (is_some (first_of o (cond b (Some v) None)) || rest) ≡ (is_some o || (b || rest))
  is_held v (Some w) b rest = refl
  is_held v None true rest = refl
  is_held v None false rest = refl

  pub name_more : (v : V) (i : ℕ) (x : X) (name : Text) (old new : Option V) (whole : Bool) → i < length xs → x ≡ get_or xs i x → name ≡ see x
      → new ≡ first_of old (cond (is_text name t) (Some v) None) → (is_some old || list_any (is_text t) (map see (drop i xs))) ≡ whole
      → (is_some new || list_any (is_text t) (map see (drop (i + 1) xs))) ≡ whole
  name_more v i x name old new whole within is named added so_far =
      let rest = list_any (is_text t) (map see (drop (i + 1) xs)) in
      ap (λ o. is_some o || rest) added
      ∙ (is_held v old (is_text name t) rest
      ∙ (ap (λ b. is_some old || (b || rest)) (nat_list_eq_equiv.symm name t ∙ ap (is_text t) (named ∙ ap see is))
      ∙ (sym (at_drop_more (λ ys. is_some old || list_any (is_text t) (map see ys)) xs i x within) ∙ so_far)))

-- ---- what is held of a module, once one more is added

module _ {N : Type 0} (says : N → Bool) where
  said_more : (o : Option N) (n : N) (b told : Bool) → says n ≡ told
      → option_map says (first_of o (cond b (Some n) None)) ≡ first_of (option_map says o) (cond b (Some told) None)
  said_more (Some m) n b told is = refl
  said_more None n true told is = ap (λ (c : Bool). Some c) is
  said_more None n false told is = refl

  pub held_more : (old new : BTreeMap (Bor Text) N) (name : Text) (n : N) (told : Bool) → is_some (value_at old name) ≡ false
      → UpdatesBy (λ x y. slice_cmp nat_cmp x.now y.now) (λ k. slice_cmp nat_cmp name k.now) old new (Some n) → says n ≡ told
      → (t : Text) → option_map says (value_at new t) ≡ first_of (option_map says (value_at old t)) (cond (is_text t name) (Some told) None)
  held_more old new name n told absent updates is t =
      ap (option_map says) (one_more old new name n absent updates t)
      ∙ (said_more (value_at old t) n (is_text name t) told is
      ∙ ap (λ b. first_of (option_map says (value_at old t)) (cond b (Some told) None)) (nat_list_eq_equiv.symm name t))

-- ---- features of a set, by their numbers

-- the number of a statement says nothing of it
same_feature : (language : Language) (n : ℕ) (s : held.Source) → is_feature language (source_view 0 s) ≡ is_feature language (source_view n s)
same_feature core n s = refl
same_feature (rfc wide) n s = refl

got : {X : Type 0} (says : X → Bool) (xs : List X) (n : ℕ) → get_or (map says xs) n false ≡ option_map_or says (slice_get xs n) false
got says [] n = refl
got says (x ∷ xs) zero = refl
got says (x ∷ xs) (suc n) = got says xs n

name_is : (modules : Forest Source) (names : List Text) (home : ℕ) → names ≡ map argument_in (row modules) → name_among names home ≡ module_name modules home
name_is modules names home are = ap (λ l. name_among l home) are
    ∙ (ap (λ o. unwrap_or o []) (slice_get-map argument_in (row modules) home) ∙ by (slice_get (row modules) home))
  where
    by : (o : Option Source) → unwrap_or (option_map argument_in o) [] ≡ option_map_or argument_in o []
    by None = refl
    by (Some s) = refl

module _ (rows : List (Slot held.Source)) (language : Language) (wide : Wide) (is : language ≡ rfc wide) where
  abbrev set : Forest Source
  set = numbered_by source_view 0 (forest_of rows)

  pub all_chosen : (chosen : Text → Text → Bool) (names : List Text) (slots : List (Slot held.Source)) (table : List Bool)
      → ((name feature : Text) → chosen name feature ≡ is_chosen_of wide.choosings name feature) → names ≡ map argument_in (row set) → slots ≡ rows
      → table ≡ map (λ (r : Slot held.Source). is_chosen_by language chosen names (source_view 0 r.label)) slots → AreChosen table language set
  all_chosen chosen names slots table so named same made p at =
      ap (λ (l : List Bool). get_or l n false) (made ∙ ap (map says) same)
      ∙ (got says rows n
      ∙ (by (slice_get rows n) (source_at rows n ∙ ap (option_map (λ (q : Placed). q.source)) (stands_at (forest_of rows) p at))
      ∙ ap (λ b. is_feature language p.source && b) meant))
    where
      n : ℕ
      n = p.source.number

      says : Slot held.Source → Bool
      says r = is_chosen_by language chosen names (source_view 0 r.label)

      by : (o : Option (Slot held.Source)) → option_map (λ (r : Slot held.Source). source_view n r.label) o ≡ Some p.source
          → option_map_or says o false ≡ is_chosen_by language chosen names p.source
      by None there = absurd cc
      by (Some r) there =
          let own : source_view n r.label ≡ p.source = cc in
          ap (λ b. b && chosen (name_among names r.label.home) (argument_in (source_view n r.label))) (same_feature language n r.label)
          ∙ ap (is_chosen_by language chosen names) own

      meant : chosen (name_among names p.source.home) (argument_in p.source) ≡ is_chosen language (module_name set p.source.home) (argument_in p.source)
      meant = so (name_among names p.source.home) (argument_in p.source)
          ∙ (ap (λ name. is_chosen_of wide.choosings name (argument_in p.source)) (name_is set names p.source.home named)
          ∙ sym (ap (λ l. is_chosen l (module_name set p.source.home) (argument_in p.source)) is))

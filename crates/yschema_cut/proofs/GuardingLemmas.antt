-- Which parts bear no `when`, by what is told of statements by their numbers.
use Rattle.std.proofs.Common.{◌≡◌, ℕ, zero, suc, Bool, true, false, not, ◌&&◌, ◌||◌, List, [], ◌∷◌, get_or, map, Option, Some, None, option_map, refl, ap, ap₂, ◌∙◌}
use Rattle.std.specs.Prelude.{slice_get}
use Rattle.std.specs.List.{Contains}
use Rattle.std.specs.Option.{option_map_or}
use Rattle.yspec.specs.Forest.{Forest, end, node, preorder}
use Rattle.yspec.specs.linking.Parts.{Part}
use Rattle.yspec.specs.linking.Scopes.{Placed, statements_of}
use Rattle.yspec.specs.linking.Source.{Source}
use Rattle.yspec_wide.specs.Expansion.{augmented_in}
use Rattle.yspec_wide.specs.Language.{Language, core, rfc}
use Rattle.yspec_wide.specs.Sources.{is_condition, is_when, bears_when}
use Rattle.yspec_wide.specs.Standing.{is_standing, standing}
use Rattle.ybase_preorder.specs.Layout.{forest_of, numbered_by}
use Rattle.ybase_preorder.specs.declared.slot.Slot.{Slot}
use Rattle.ylink_grammar.specs.SourceView.{source_view}
use Rattle.ylink_grammar.specs.declared.source.Source as held
use Rattle.ylink_names.proofs.BelowLemmas.{source_at}
use Rattle.ylink_names.proofs.PlacedLemmas.{stands_at}
use Rattle.yschema_given.specs.Holding.{holds_in, kept_hold}
use Rattle.yschema_given.specs.Keeping.{are_kept_right, is_kept}
use Rattle.yschema_given.proofs.KeepingLemmas.{as_kept}
use Rattle.yschema_cut.proofs.HoldingLemmas.{Right, each_right, own_alike}
use Rattle.yschema_cut.proofs.OwnLemmas.{Each, own_augmented, own_left_standing}

-- the number of a statement says nothing of it
same_when : (language : Language) (n : ℕ) (s : held.Source) → is_when language (source_view 0 s) ≡ is_when language (source_view n s)
same_when core n s = refl
same_when (rfc wide) n s = refl

got : {X : Type 0} (says : X → Bool) (xs : List X) (n : ℕ) → get_or (map says xs) n true ≡ option_map_or says (slice_get xs n) true
got says [] n = refl
got says (x ∷ xs) zero = refl
got says (x ∷ xs) (suc n) = got says xs n

any : (b : Bool) → (b || true) ≡ true
any true = refl
any false = refl

module _ (language : Language) (slots : List (Slot held.Source)) (others : List Bool)
    (others_are : others ≡ map (λ (r : Slot held.Source). not (is_when language (source_view 0 r.label))) slots) where
  abbrev modules : Forest Source
  modules = numbered_by source_view 0 (forest_of slots)

  abbrev says : Source → Bool
  says s = not (is_when language s)

  says_other : (p : Placed) → Contains (statements_of modules) p → holds_in others p.source.number ≡ says p.source
  says_other p at = ap (λ (bs : List Bool). get_or bs n true) others_are
      ∙ (got held_says slots n ∙ by (slice_get slots n) (source_at slots n ∙ ap (option_map (λ (q : Placed). q.source)) (stands_at (forest_of slots) p at)))
    where
      n : ℕ
      n = p.source.number

      held_says : Slot held.Source → Bool
      held_says r = not (is_when language (source_view 0 r.label))

      by : (o : Option (Slot held.Source)) → option_map (λ (r : Slot held.Source). source_view n r.label) o ≡ Some p.source
          → option_map_or held_says o true ≡ says p.source
      by None there = absurd cc
      by (Some r) there =
          let own : source_view n r.label ≡ p.source = cc in
          ap not (same_when language n r.label ∙ ap (is_when language) own)

  -- of a row it is told that all hold where none is one
  row_unguarded : (f : Forest Source) → Each (Right language others says) f → kept_hold (holds_in others) f ≡ not (bears_when language f)
  row_unguarded end right = refl
  row_unguarded (node s below after) right = by (is_when language s) refl right.0.0 (row_unguarded after right.2)
    where
      rest : Bool
      rest = kept_hold (holds_in others) after

      by : (c : Bool) → is_when language s ≡ c → holds_in others s.number ≡ not c → rest ≡ not (bears_when language after)
          → ((not (is_kept s) || holds_in others s.number) && rest) ≡ not (c || bears_when language after)
      by true is says inner =
          let kept : is_kept s ≡ true = as_kept language s right.0.1 (ap (λ b. is_condition language s || b) is ∙ any (is_condition language s)) in
          ap₂ (λ k h. (not k || h) && rest) kept says
      by false is says inner = ap (λ h. (not (is_kept s) || h) && rest) says
          ∙ (ap (λ b. b && rest) (any (not (is_kept s))) ∙ inner)

  -- so of all parts of a set that stand
  pub own_unguarded : are_kept_right language modules ≡ true
      → map (λ (p : Part). kept_hold (holds_in others) p.own) (preorder (standing language modules (augmented_in language modules).0))
      ≡ map (λ (p : Part). not (bears_when language p.own)) (preorder (standing language modules (augmented_in language modules).0))
  own_unguarded kept =
      own_alike (Right language others says) (λ p. true) (kept_hold (holds_in others)) (λ own. not (bears_when language own)) row_unguarded
      (standing language modules (augmented_in language modules).0)
      (own_left_standing (Right language others says) (is_standing language modules) (augmented_in language modules).0
      (own_augmented (Right language others says) language modules (each_right language others says [] modules says_other kept)))

-- The predicates of keys one after another.
use Rattle.std.proofs.Common.{◌≡◌, ℕ, List, [], ◌∷◌, ◌++◌, Option, Some, None, refl, sym, ap, ◌∙◌, option_map, option_and_then}
use Rattle.std.proofs.lemmas.List.{append_assoc, append-nil}
use Rattle.yspec.specs.text.Text.{Text}
use Rattle.yspec.specs.schema.Schema.{Schema}
use Rattle.yspec.specs.document.Document.{Tree, Step}
use Rattle.yspec.specs.document.Path.{module_after}
use Rattle.ysay_place.specs.KeyedPath.{key_predicate, all_predicates, keyed_step, keyed_from}
use Rattle.ysay_place.specs.Places.{row_to}

module _ (schema : Schema) (row : Tree) where
  -- those of some keys behind a text
  abbrev pub behind : Text → List ℕ → Option Text
  behind before keys = option_map (λ (others : Text). before ++ others) (all_predicates schema row keys)

  pub nothing_before : (keys : List ℕ) → behind [] keys ≡ all_predicates schema row keys
  nothing_before keys = same (all_predicates schema row keys)
    where
      same : (o : Option Text) → option_map (λ (others : Text). [] ++ others) o ≡ o
      same (Some t) = refl
      same None = refl

  -- of a key that has one, and of one that has none
  of_key : (before : Text) (key : ℕ) (keys : List ℕ) (o : Option Text) → key_predicate schema row key ≡ o
      → behind before (key ∷ keys) ≡ option_map (λ (others : Text). before ++ others)
      (option_and_then (λ (first : Text). option_map (λ (others : Text). first ++ others) (all_predicates schema row keys)) o)
  of_key before key keys o is = ap (λ (p : Option Text). option_map (λ (others : Text). before ++ others)
      (option_and_then (λ (first : Text). option_map (λ (others : Text). first ++ others) (all_predicates schema row keys)) p)) is

  together : (before first : Text) (o : Option Text) → option_map (λ (others : Text). (before ++ first) ++ others) o
      ≡ option_map (λ (others : Text). before ++ others) (option_map (λ (others : Text). first ++ others) o)
  together before first (Some others) = ap Some (append_assoc before first others)
  together before first None = refl

  pub one_more : (before after first : Text) (key : ℕ) (keys : List ℕ) → key_predicate schema row key ≡ Some first
      → after ≡ before ++ first → behind after keys ≡ behind before (key ∷ keys)
  one_more before after first key keys is added =
      ap (λ (t : Text). behind t keys) added ∙ together before first (all_predicates schema row keys)
      ∙ sym (of_key before key keys (Some first) is)

  pub none_named : (before : Text) (key : ℕ) (keys : List ℕ) → key_predicate schema row key ≡ None → behind before (key ∷ keys) ≡ None
  none_named before key keys is = of_key before key keys None is

  pub all_named : (before : Text) → behind before [] ≡ Some before
  all_named before = ap Some (append-nil before)

-- a step more behind a text
pub step_added : (s : Schema) (parent next : Option ℕ) (row below : Tree) (step : Step) (rest : List Step) (text longer whole : Text)
    → longer ≡ text ++ keyed_step s parent row step → next ≡ module_after s step → below ≡ row_to row step
    → text ++ keyed_from s parent row (step ∷ rest) ≡ whole
    → longer ++ keyed_from s next below rest ≡ whole
step_added s parent next row below step rest text longer whole grown next_is below_is before =
    ap (λ t. t ++ keyed_from s next below rest) grown
    ∙ (ap (λ p. (text ++ keyed_step s parent row step) ++ keyed_from s p below rest) next_is
    ∙ (ap (λ r. (text ++ keyed_step s parent row step) ++ keyed_from s (module_after s step) r rest) below_is
    ∙ (append_assoc text (keyed_step s parent row step) (keyed_from s (module_after s step) (row_to row step) rest) ∙ before)))

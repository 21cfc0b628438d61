-- Statements whose argument an earlier one has.
use Rattle.std.proofs.Common.{◌≡◌, ℕ, ◌+◌, ◌<◌, ◌≤◌, Bool, true, false, cond, ◌||◌, List, [], ◌∷◌, length, get_or, drop, map, Option, Some, None, is_some, refl, sym, ap, ap₂, ◌∙◌}
use Rattle.std.specs.List.{list_any}
use Rattle.std.specs.Cmp.Lexicographic.{nat_list_eq_equiv}
use Rattle.std.proofs.lemmas.List.{at_drop_more, at_drop_all}
use Rattle.std.proofs.Math.Bool.{or_comm}
use Rattle.yspec.specs.Forest.{Forest, node, first_of}
use Rattle.yspec.specs.text.Text.{Text, is_text}
use Rattle.yspec.specs.linking.Imports.{prefix_statements, repeated, repeated_prefixes}
use Rattle.yspec.specs.linking.Source.{Source, argument_in}
use Rattle.yspec.specs.schema.Breaks.{Break, broken, when, least_from}
use Rattle.yspec.proofs.SchemaProofs.LeastLemmas.{least_of_both}
use Rattle.ylink_names.specs.FirstNamedView.{named}
use Rattle.ylink_names.specs.declared.first_named.FirstNamed.{FirstNamed}

-- names that are held are those of a list
abbrev pub AreHeld : {V : Type 0} → FirstNamed V → List Text → Type 0
AreHeld names before = (t : Text) → is_some (named names t) ≡ list_any (is_text t) before

is_some_first : {V : Type 0} (v : V) (a : Option V) (b : Bool) → is_some (first_of a (cond b (Some v) None)) ≡ (is_some a || b)
is_some_first v (Some w) b = refl
is_some_first v None true = refl
is_some_first v None false = refl

pub held_more : {V : Type 0} (v : V) (old new : FirstNamed V) (before : List Text) (name : Text) → AreHeld old before
    → ((t : Text) → named new t ≡ first_of (named old t) (cond (is_text name t) (Some v) None)) → AreHeld new (name ∷ before)
held_more v old new before name held added t =
    ap is_some (added t) ∙ (is_some_first v (named old t) (is_text name t)
    ∙ (ap₂ (λ a b. a || b) (held t) (nat_list_eq_equiv.symm name t) ∙ or_comm (list_any (is_text t) before) (is_text t name)))

module _ {X : Type 0} (see : X → Source) (xs : List X) where
  pub next_repeated : (i : ℕ) (x : X) (before : List Text) (told result whole : Option Break) (is_repeated : Bool) → i < length xs → x ≡ get_or xs i x
      → is_repeated ≡ list_any (is_text (argument_in (see x))) before
      → result ≡ least_from told (when is_repeated (broken 6 (see x).home (see x).statement.line))
      → least_from told (repeated before (map see (drop i xs))) ≡ whole
      → least_from result (repeated (argument_in (see x) ∷ before) (map see (drop (i + 1) xs))) ≡ whole
  next_repeated i x before told result whole is_repeated within is had judged so_far =
      let others = repeated (argument_in (see x) ∷ before) (map see (drop (i + 1) xs)) in
      ap (λ t. least_from t others) (judged ∙ ap (λ b. least_from told (when b (broken 6 (see x).home (see x).statement.line))) had)
      ∙ (sym (least_of_both told (when (list_any (is_text (argument_in (see x))) before) (broken 6 (see x).home (see x).statement.line)) others)
      ∙ (ap (λ y. least_from told (repeated before (see y ∷ map see (drop (i + 1) xs)))) is
      ∙ (sym (at_drop_more (λ ys. least_from told (repeated before (map see ys))) xs i x within) ∙ so_far)))

  pub all_repeated : (i : ℕ) (before : List Text) (told whole : Option Break) → length xs ≤ i
      → least_from told (repeated before (map see (drop i xs))) ≡ whole → told ≡ whole
  all_repeated i before told whole ended so_far = sym (at_drop_all (λ ys. least_from told (repeated before (map see ys))) xs i ended) ∙ so_far

pub next_module : (before after below : Forest Source) (s : Source) (told result whole : Option Break) → before ≡ node s below after
    → result ≡ least_from told (repeated [] (prefix_statements below)) → least_from told (repeated_prefixes before) ≡ whole
    → least_from result (repeated_prefixes after) ≡ whole
next_module before after below s told result whole first judged so_far =
    ap (λ t. least_from t (repeated_prefixes after)) judged
    ∙ (sym (least_of_both told (repeated [] (prefix_statements below)) (repeated_prefixes after))
    ∙ (sym (ap (λ f. least_from told (repeated_prefixes f)) first) ∙ so_far))

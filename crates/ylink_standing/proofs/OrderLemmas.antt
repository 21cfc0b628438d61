-- Features that are on, told one after another in an order in which each stands behind those that its conditions name.
use Rattle.std.proofs.Common.{◌≡◌, ℕ, zero, suc, ◌+◌, ◌<◌, Bool, true, false, List, [], length, get_or, refl, sym, ap, ◌∙◌, subst, arith}
use Rattle.std.specs.Prelude.{◌==◌, ◌&&◌}
use Rattle.std.specs.List.{Contains}
use Rattle.std.proofs.lemmas.Bool.Decides.{Decides-eqb}
use Rattle.yspec.specs.Forest.{Forest, size}
use Rattle.yspec.specs.linking.Scopes.{Placed, statements_of}
use Rattle.yspec.specs.linking.Source.{Source}
use Rattle.yspec_wide.specs.Language.{Language}
use Rattle.yspec_wide.specs.Features.{Feature, is_chosen_feature, all_hold, is_on_within, is_on, condition_breaks}
use Rattle.yspec_wide.specs.Sources.{is_feature, conditions_in}
use Rattle.ylink_standing.specs.StandingView.{feature_at, told, TellsOn, AreInOrder}
use Rattle.ylink_standing.proofs.AskedLemmas.{same_all}
use Rattle.ylink_standing.proofs.PlaceLemmas.{named_feature}
use Rattle.ylink_standing.proofs.EdgeLemmas.{asked_edge}

-- of the first statements in an order it is told which are features that are on
abbrev pub AreTold : Language → Forest Source → List ℕ → (ℕ → Bool) → ℕ → Type 0
AreTold language modules nodes table i = (j : ℕ) → j < i → j < length nodes → (p : Placed) → Contains (statements_of modules) p
    → is_feature language p.source ≡ true → get_or nodes j 0 ≡ p.source.number → table p.source.number ≡ is_on language modules (feature_at p)

module _ (language : Language) (modules : Forest Source) (none : condition_breaks language modules ≡ []) (nodes : List ℕ) (order : AreInOrder nodes language modules) where
  -- where a feature stands that one before it names
  named_before : (i : ℕ) → i < length nodes → (p : Placed) → Contains (statements_of modules) p → is_feature language p.source ≡ true
      → get_or nodes i 0 ≡ p.source.number → (here there : Feature → Bool)
      → ((j : ℕ) → j < i → j < length nodes → (q : Placed) → Contains (statements_of modules) q → is_feature language q.source ≡ true
      → get_or nodes j 0 ≡ q.source.number → here (feature_at q) ≡ there (feature_at q))
      → all_hold language modules here p.below ≡ all_hold language modules there p.below
  named_before i within p at is_one place here there same =
      same_all language modules here there (conditions_in language p.below) (λ s at_s n at_n g named.
      let found = named_feature language modules s.home n g named in
      let q = found.0 in
      let standing = order.all q found.1 in
      let edge = asked_edge language modules none p at is_one s at_s n at_n g named in
      let target = ap (λ (f : Feature). f.source.number) found.3 in
      let before = order.behind p.source.number g.source.number edge i standing.0 within standing.1 place (standing.2 ∙ target) in
      subst (λ (f : Feature). here f ≡ there f) found.3 (same standing.0 before standing.1 q found.1 found.2 standing.2))

  -- as many others as stand before a feature are enough
  pub settled : (n m i : ℕ) → i < n → i < m → i < length nodes → (p : Placed) → Contains (statements_of modules) p → is_feature language p.source ≡ true
      → get_or nodes i 0 ≡ p.source.number → is_on_within language modules n (feature_at p) ≡ is_on_within language modules m (feature_at p)
  unfolding is_on_within
  settled zero m i low high within p at is_one place = absurd (omega (arith, low))
  settled (suc n) zero i low high within p at is_one place = absurd (omega (arith, high))
  settled (suc n) (suc m) i low high within p at is_one place =
      ap (λ b. is_chosen_feature language modules (feature_at p) && b)
      (named_before i within p at is_one place (is_on_within language modules n) (is_on_within language modules m)
      (λ j before inside q at_q is_q place_q. settled n m j (omega (arith, low, before)) (omega (arith, high, before)) inside q at_q is_q place_q))

  -- a feature is on where it is chosen and its conditions hold by what is told of those before it
  pub told_own : (table : ℕ → Bool) (i : ℕ) → AreTold language modules nodes table i → i < length nodes → (p : Placed) → Contains (statements_of modules) p
      → is_feature language p.source ≡ true → get_or nodes i 0 ≡ p.source.number
      → (is_chosen_feature language modules (feature_at p) && all_hold language modules (told table) p.below) ≡ is_on language modules (feature_at p)
  unfolding is_on_within
  told_own table i so_far within p at is_one place =
      ap (λ b. is_chosen_feature language modules (feature_at p) && b)
      (named_before i within p at is_one place (told table) (is_on_within language modules (size modules))
      (λ j before inside q at_q is_q place_q. so_far j before inside q at_q is_q place_q
      ∙ settled (suc (size modules)) (size modules) j
      (let few = order.count in omega (arith, inside, few)) (let few = order.count in omega (arith, inside, few)) inside q at_q is_q place_q))

  -- ---- one more

  pub told_next : (table more : ℕ → Bool) (i : ℕ) → AreTold language modules nodes table i → i < length nodes
      → ((p : Placed) → Contains (statements_of modules) p → is_feature language p.source ≡ true → get_or nodes i 0 ≡ p.source.number
      → more p.source.number ≡ (is_chosen_feature language modules (feature_at p) && all_hold language modules (told table) p.below))
      → ((e : ℕ) → (get_or nodes i 0 ≡ e → ⊥) → more e ≡ table e)
      → AreTold language modules nodes more (i + 1)
  told_next table more i so_far within own others j below inside p at is_one place = by (get_or nodes i 0 == p.source.number) refl
    where
      earlier : (get_or nodes i 0 ≡ p.source.number → ⊥) → j < i
      earlier other = less (i == j) refl
        where
          clash : i ≡ j → ⊥
          clash same = other (ap (λ k. get_or nodes k 0) same ∙ place)

          less : (b : Bool) → (i == j) ≡ b → j < i
          less true is = absurd (clash ((Decides-eqb i j).0 is))
          less false is = let differ : (i ≡ j) → ⊥ = clash in omega (arith, below, differ)

      by : (b : Bool) → (get_or nodes i 0 == p.source.number) ≡ b → more p.source.number ≡ is_on language modules (feature_at p)
      by true is = let here = (Decides-eqb (get_or nodes i 0) p.source.number).0 is in
          own p at is_one here ∙ told_own table i so_far within p at is_one here
      by false is =
          let other : get_or nodes i 0 ≡ p.source.number → ⊥ = λ same. (let e : false ≡ true = sym is ∙ (Decides-eqb (get_or nodes i 0) p.source.number).1 same in let no : ⊥ = cc in no) in
          others p.source.number other ∙ so_far j (earlier other) inside p at is_one place

  -- and in the end all
  pub told_all : (table : ℕ → Bool) → AreTold language modules nodes table (length nodes) → TellsOn language modules table
  told_all table so_far p at is_one =
      let standing = order.all p at in
      let inside = standing.1 in so_far standing.0 inside inside p at is_one standing.2

-- ---- what stands

-- by what is told of all features a row stands as the definition says
pub tells_standing : (language : Language) (modules : Forest Source) (table : ℕ → Bool) → TellsOn language modules table
    → (below : Forest Source) → all_hold language modules (told table) below ≡ all_hold language modules (is_on language modules) below
tells_standing language modules table tells below =
    same_all language modules (told table) (is_on language modules) (conditions_in language below) (λ s at_s n at_n g named.
    let found = named_feature language modules s.home n g named in
    subst (λ (f : Feature). told table f ≡ is_on language modules f) found.3 (tells found.0 found.1 found.2))

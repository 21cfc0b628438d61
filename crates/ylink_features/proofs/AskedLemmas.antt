-- What conditions ask, one after another, and what that breaks.
use Rattle.std.proofs.Common.{◌≡◌, ℕ, ◌+◌, ◌<◌, ◌≤◌, Bool, true, false, cond, not, ◌&&◌, ◌||◌, List, [], ◌∷◌, ◌++◌, length, get_or, drop, map, Option, Some, None, is_some, option_map, refl, sym, ap, ap₂, ◌∙◌}
use Rattle.std.specs.List.{list_any, flat_map, filter_map, cons_option}
use Rattle.std.specs.Option.{option_map_or}
use Rattle.std.proofs.lemmas.Grind.{flat_map-append}
use Rattle.std.proofs.lemmas.List.{append_assoc, append-nil, at_drop_more, at_drop_all}
use Rattle.yspec.specs.Forest.{Forest, end, node}
use Rattle.yspec.specs.linking.Arguments.{Name}
use Rattle.yspec.specs.linking.Graph.{Edge, is_on_circle}
use Rattle.yspec.specs.linking.Scopes.{Placed, placed, statements_of}
use Rattle.yspec.specs.linking.Source.{Source}
use Rattle.yspec.specs.schema.Breaks.{broken, when}
use Rattle.yspec_wide.specs.Features.{Feature, feature_named, names_asked, is_lost, feature_above, edge_to, feature_edges, feature_edges_at, condition_break, condition_breaks}
use Rattle.yspec_wide.specs.Language.{Language}
use Rattle.yspec_wide.specs.Sources.{is_feature, is_condition}
use Rattle.ylink_arguments.specs.declared.name.Name as held
use Rattle.ylink_arguments.specs.NameView.{name_view, names_view}
use Rattle.ylink_features.specs.AskedView.{Condition, number_meant, in_front, all_named, edges_to, asked_as, above_in, asked_of, lost_break}

-- ---- lists

pub flat_flat : {A B C : Type 0} (f : B → List C) (g : A → List B) (h : A → List C) → ((x : A) → flat_map f (g x) ≡ h x) → (xs : List A)
    → flat_map f (flat_map g xs) ≡ flat_map h xs
flat_flat f g h same [] = refl
flat_flat f g h same (x ∷ xs) = flat_map-append f (g x) (flat_map g xs) ∙ ap₂ (λ a b. a ++ b) (same x) (flat_flat f g h same xs)

map_both : {A B C : Type 0} (f : B → C) (g : A → B) (xs : List A) → map f (map g xs) ≡ map (λ x. f (g x)) xs
map_both f g [] = refl
map_both f g (x ∷ xs) = ap (λ l. f (g x) ∷ l) (map_both f g xs)

-- ---- the numbers of features that names mean

module _ (language : Language) (modules : Forest Source) (home : ℕ) where
  abbrev pub left_named : List ℕ → List held.Name → Option (List ℕ)
  left_named numbers names = option_map (λ ns. numbers ++ ns) (all_named language modules home (names_view names))

  named_at : (names : List held.Name) (i : ℕ) (n : held.Name) → i < length names
      → all_named language modules home (names_view (drop i names))
      ≡ in_front (number_meant language modules home (name_view (get_or names i n))) (all_named language modules home (names_view (drop (i + 1) names)))
  named_at names i n within = at_drop_more (λ ys. all_named language modules home (names_view ys)) names i n within

  pub next_named : (names : List held.Name) (i : ℕ) (n : held.Name) (numbers more : List ℕ) (k : ℕ) (whole : Option (List ℕ)) → i < length names
      → Some k ≡ number_meant language modules home (name_view (get_or names i n)) → more ≡ numbers ++ k ∷ []
      → left_named numbers (drop i names) ≡ whole → left_named more (drop (i + 1) names) ≡ whole
  next_named names i n numbers more k whole within is pushed so_far =
      let others = all_named language modules home (names_view (drop (i + 1) names)) in
      ap (λ l. option_map (λ ns. l ++ ns) others) pushed ∙ (by others
      ∙ (sym (ap (option_map (λ ns. numbers ++ ns)) (named_at names i n within ∙ ap (λ o. in_front o others) (sym is))) ∙ so_far))
    where
      by : (others : Option (List ℕ)) → option_map (λ ns. (numbers ++ k ∷ []) ++ ns) others ≡ option_map (λ ns. numbers ++ ns) (in_front (Some k) others)
      by None = refl
      by (Some ns) = ap Some (append_assoc numbers (k ∷ []) ns)

  pub none_named : (names : List held.Name) (i : ℕ) (n : held.Name) (numbers : List ℕ) (whole : Option (List ℕ)) → i < length names
      → None ≡ number_meant language modules home (name_view (get_or names i n))
      → left_named numbers (drop i names) ≡ whole → None ≡ whole
  none_named names i n numbers whole within is so_far =
      let others = all_named language modules home (names_view (drop (i + 1) names)) in
      sym (ap (option_map (λ ns. numbers ++ ns)) (named_at names i n within ∙ ap (λ o. in_front o others) (sym is))) ∙ so_far

  pub named_ended : (names : List held.Name) (i : ℕ) (numbers : List ℕ) (whole : Option (List ℕ)) → length names ≤ i
      → left_named numbers (drop i names) ≡ whole → Some numbers ≡ whole
  named_ended names i numbers whole ended so_far =
      sym (at_drop_all (λ ys. left_named numbers ys) names i ended ∙ ap Some (append-nil numbers)) ∙ so_far

  -- where one means none, none is told
  named_or_lost : (ns : List Name) → all_named language modules home ns
      ≡ cond (list_any (λ n. not (is_some (feature_named language modules home n))) ns) None
      (Some (map (λ (f : Feature). f.source.number) (filter_map (feature_named language modules home) ns)))
  named_or_lost [] = refl
  named_or_lost (n ∷ ns) =
      ap (in_front (number_meant language modules home n)) (named_or_lost ns)
      ∙ by (feature_named language modules home n) (list_any (λ n. not (is_some (feature_named language modules home n))) ns) (filter_map (feature_named language modules home) ns)
    where
      by : (o : Option Feature) (b : Bool) (fs : List Feature)
          → in_front (option_map (λ (f : Feature). f.source.number) o) (cond b None (Some (map (λ (f : Feature). f.source.number) fs)))
          ≡ cond (not (is_some o) || b) None (Some (map (λ (f : Feature). f.source.number) (cons_option o fs)))
      by None b fs = refl
      by (Some f) true fs = refl
      by (Some f) false fs = refl

-- ---- the edges of a condition, and what it breaks

module _ (language : Language) (modules : Forest Source) where
  above_at : (s : Source) (below : Forest Source) (ancestors : List (Source × Forest Source))
      → above_in language ancestors ≡ option_map (λ (a : Source). a.number) (feature_above language (record { source = s; below = below; ancestors = ancestors }))
  above_at s below [] = refl
  above_at s below (a ∷ ancestors) = by (is_feature language a.0)
    where
      by : (b : Bool) → cond b (Some a.0.number) None ≡ option_map (λ (x : Source). x.number) (cond b (Some a.0) None)
      by true = refl
      by false = refl

  edges_same : (above : Option Source) (fs : List Feature)
      → edges_to (option_map (λ (a : Source). a.number) above) (map (λ (f : Feature). f.source.number) fs)
      ≡ option_map_or (λ (a : Source). map (edge_to language a.number) fs) above []
  edges_same None fs = refl
  edges_same (Some a) fs = map_both (λ t. record { source = a.number; target = t }) (λ (f : Feature). f.source.number) fs

  edges_by : (s : Source) (above : Option ℕ) (numbers : List ℕ) (b lost : Bool)
      → flat_map (λ (c : Condition). c.edges) (cond b (asked_as s above (cond lost None (Some numbers)) ∷ []) [])
      ≡ cond (b && not lost) (edges_to above numbers) []
  edges_by s above numbers false lost = refl
  edges_by s above numbers true true = refl
  edges_by s above numbers true false = append-nil (edges_to above numbers)

  breaks_by : (circular : Edge → Bool) (s : Source) (above : Option ℕ) (numbers : List ℕ) (b lost : Bool)
      → flat_map (lost_break circular) (cond b (asked_as s above (cond lost None (Some numbers)) ∷ []) [])
      ≡ when (b && (lost || list_any circular (cond (b && not lost) (edges_to above numbers) []))) (broken 22 s.home s.statement.line)
  breaks_by circular s above numbers false lost = refl
  breaks_by circular s above numbers true true = refl
  breaks_by circular s above numbers true false = by (list_any circular (edges_to above numbers))
    where
      by : (b : Bool) → when (false || b) (broken 22 s.home s.statement.line) ++ [] ≡ when (true && (false || b)) (broken 22 s.home s.statement.line)
      by true = refl
      by false = refl

  module _ (p : Placed) where
    abbrev pub targets_of : List ℕ
    targets_of = map (λ (f : Feature). f.source.number) (filter_map (feature_named language modules p.source.home) (names_asked language modules p.source))

    asked_is : asked_of language modules p
        ≡ cond (is_condition language p.source)
        (asked_as p.source (option_map (λ (a : Source). a.number) (feature_above language p)) (cond (is_lost language modules p.source) None (Some targets_of)) ∷ []) []
    asked_is = ap₂ (λ above named. cond (is_condition language p.source) (asked_as p.source above named ∷ []) [])
        (above_at p.source p.below p.ancestors) (named_or_lost language modules p.source.home (names_asked language modules p.source))

    edges_are : feature_edges_at language modules p
        ≡ cond (is_condition language p.source && not (is_lost language modules p.source))
        (edges_to (option_map (λ (a : Source). a.number) (feature_above language p)) targets_of) []
    edges_are = ap (λ es. cond (is_condition language p.source && not (is_lost language modules p.source)) es [])
        (sym (edges_same (feature_above language p) (filter_map (feature_named language modules p.source.home) (names_asked language modules p.source))))

    pub edges_of_one : flat_map (λ (c : Condition). c.edges) (asked_of language modules p) ≡ feature_edges_at language modules p
    edges_of_one = ap (flat_map (λ (c : Condition). c.edges)) asked_is
        ∙ (edges_by p.source (option_map (λ (a : Source). a.number) (feature_above language p)) targets_of (is_condition language p.source) (is_lost language modules p.source)
        ∙ sym edges_are)

    pub breaks_of_one : (edges : List Edge) → flat_map (lost_break (is_on_circle edges)) (asked_of language modules p) ≡ condition_break language modules edges p
    breaks_of_one edges = ap (flat_map (lost_break (is_on_circle edges))) asked_is
        ∙ (breaks_by (is_on_circle edges) p.source (option_map (λ (a : Source). a.number) (feature_above language p)) targets_of (is_condition language p.source) (is_lost language modules p.source)
        ∙ ap (λ es. when (is_condition language p.source && (is_lost language modules p.source || list_any (is_on_circle edges) es)) (broken 22 p.source.home p.source.statement.line))
        (sym edges_are))

  -- ---- all of them

  pub edges_of_all : flat_map (λ (c : Condition). c.edges) (flat_map (asked_of language modules) (statements_of modules)) ≡ feature_edges language modules
  edges_of_all = flat_flat (λ (c : Condition). c.edges) (asked_of language modules) (feature_edges_at language modules) edges_of_one (statements_of modules)

  pub breaks_of_all : flat_map (lost_break (is_on_circle (feature_edges language modules))) (flat_map (asked_of language modules) (statements_of modules))
      ≡ condition_breaks language modules
  breaks_of_all =
      let edges = feature_edges language modules in
      flat_flat (lost_break (is_on_circle edges)) (asked_of language modules) (condition_break language modules edges) (λ p. breaks_of_one p edges) (statements_of modules)

-- ---- statements, one after another

module _ {B : Type 0} (g : Placed → List B) (ancestors : List (Source × Forest Source)) where
  pub next_listed : (s : Source) (below after before : Forest Source) (so_far mid more whole : List B) → before ≡ node s below after
      → mid ≡ so_far ++ g (record { source = s; below = below; ancestors = ancestors })
      → more ≡ mid ++ flat_map g (placed ((s, below) ∷ ancestors) below)
      → so_far ++ flat_map g (placed ancestors before) ≡ whole → more ++ flat_map g (placed ancestors after) ≡ whole
  unfolding placed
  next_listed s below after before so_far mid more whole first own inner made =
      let here = g (record { source = s; below = below; ancestors = ancestors }) in
      let under = placed ((s, below) ∷ ancestors) below in
      let behind = placed ancestors after in
      let rest = flat_map g behind in
      ap (λ l. l ++ rest) (inner ∙ ap (λ l. l ++ flat_map g under) own)
      ∙ (append_assoc (so_far ++ here) (flat_map g under) rest
      ∙ (append_assoc so_far here (flat_map g under ++ rest)
      ∙ (ap (λ l. so_far ++ (here ++ l)) (sym (flat_map-append g under behind))
      ∙ (sym (ap (λ f. so_far ++ flat_map g (placed ancestors f)) first) ∙ made))))

  pub all_listed : (left : Forest Source) (so_far whole : List B) → left ≡ end → so_far ++ flat_map g (placed ancestors left) ≡ whole → so_far ≡ whole
  unfolding placed
  all_listed left so_far whole ended made = sym (ap (λ f. so_far ++ flat_map g (placed ancestors f)) ended ∙ append-nil so_far) ∙ made

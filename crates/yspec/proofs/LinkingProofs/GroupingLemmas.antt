-- Of the groupings of a set: the row of each, and the refines in those that have no nodes.
use Rattle.std.proofs.Common.{◌≡◌, ℕ, suc, Bool, true, false, not, cond, ◌&&◌, List, [], ◌∷◌, ◌++◌, Option, Some, None, refl, ap, ap₂, ◌∙◌}
use Rattle.std.specs.Prelude.{find, unwrap_or, ◌==◌}
use Rattle.std.specs.List.{filter_map, cons_option}
use Rattle.std.specs.Option.{option_map_or}
use Rattle.yspec.specs.Forest.{Forest, end, node}
use Rattle.yspec.specs.schema.Breaks.{Break, broken, when}
use Rattle.yspec.specs.linking.Keyword.{grouping_word}
use Rattle.yspec.specs.linking.Source.{Source, is_source_of}
use Rattle.yspec.specs.linking.Scopes.{Placed, statements_of, statement_at}
use Rattle.yspec.specs.linking.Prefixes.{NodeName}
use Rattle.yspec.specs.linking.Parts.{Part}
use Rattle.yspec.specs.linking.Expansion.{Grouping, laid, grouping_at, groupings_of, row_in, row_used, part_at, is_refine, is_fit, refine_steps, may_bear, changed_at, overridden, after_refine, refine_breaks, all_refine_breaks, replaced, stands_for, unfit_in, unfit_for}
use Rattle.yspec.specs.linking.NodeCounts.{count_used, counts_within}
use Rattle.yspec.proofs.LinkingProofs.ExpansionLemmas.{count_used_is_size, none_in}

-- ---- rows

row_found : (ps : List Placed) (number : ℕ) (q : Placed) → find (λ (p : Placed). p.source.number == number) ps ≡ Some q → is_source_of grouping_word q.source ≡ true
    → row_in (filter_map grouping_at ps) number ≡ laid q.below
row_found [] number q found is = absurd cc
row_found (p ∷ ps) number q found is = by (p.source.number == number) refl found (λ e. row_found ps number q e is)
  where
    rest : List Grouping
    rest = filter_map grouping_at ps

    this : Grouping
    this = record { number = p.source.number; row = laid p.below }

    first : (b : Bool) → b ≡ true → (p.source.number == number) ≡ true
        → row_in (cons_option (cond b (Some this) None) rest) number ≡ laid p.below
    first true holds same = ap (λ x. option_map_or (λ (g : Grouping). g.row) (cond x (Some this) (find (λ (g : Grouping). g.number == number) rest)) end) same
    first false holds same = absurd cc

    later : (b : Bool) → (p.source.number == number) ≡ false → row_in (cons_option (cond b (Some this) None) rest) number ≡ row_in rest number
    later true other = ap (λ x. option_map_or (λ (g : Grouping). g.row) (cond x (Some this) (find (λ (g : Grouping). g.number == number) rest)) end) other
    later false other = refl

    by : (c : Bool) → (p.source.number == number) ≡ c → cond c (Some p) (find (λ (p : Placed). p.source.number == number) ps) ≡ Some q
        → (find (λ (p : Placed). p.source.number == number) ps ≡ Some q → row_in rest number ≡ laid q.below)
        → row_in (cons_option (cond (is_source_of grouping_word p.source) (Some this) None) rest) number ≡ laid q.below
    by true same found more = let e : p ≡ q = ap (λ o. unwrap_or o p) found in
        first (is_source_of grouping_word p.source) (ap (λ (r : Placed). is_source_of grouping_word r.source) e ∙ is) same
        ∙ ap (λ (r : Placed). laid r.below) e
    by false other found more = later (is_source_of grouping_word p.source) other ∙ more found

pub row_of_grouping : (modules : Forest Source) (number : ℕ) (p : Placed) → statement_at modules number ≡ Some p → is_source_of grouping_word p.source ≡ true
    → row_in (groupings_of modules) number ≡ laid p.below
row_of_grouping modules number p found is = row_found (statements_of modules) number p found is

-- ---- refines without nodes

no_target : (steps : List NodeName) → part_at steps end ≡ None
no_target [] = refl
no_target (step ∷ []) = refl
no_target (step ∷ next ∷ steps) = refl

none_fit : (modules : Forest Source) (owner : ℕ) (s : Source) (given : Forest Source) → is_fit modules owner s given end ≡ false
none_fit modules owner s given = ap (λ (o : Option Part). option_map_or (λ p. may_bear p given) o false) (no_target (refine_steps modules owner s))

none_changed : (modules : Forest Source) (owner : ℕ) (s : Source) (given : Forest Source) → after_refine modules owner s given end ≡ end
none_changed modules owner s given = by (is_refine s) (is_fit modules owner s given end) (none_fit modules owner s given)
  where
    by : (a b : Bool) → b ≡ false → cond (a && b) (changed_at (refine_steps modules owner s) (overridden given) end) end ≡ end
    by true true unfit = absurd cc
    by true false unfit = refl
    by false b unfit = refl

pub refines_of_none : (modules : Forest Source) (owner : ℕ) (own : Forest Source) → refine_breaks modules owner own end ≡ all_refine_breaks own
refines_of_none modules owner end = refl
refines_of_none modules owner (node s given after) = ap₂ (λ x y. x ++ y)
    (by (is_refine s) (is_fit modules owner s given end) (none_fit modules owner s given))
    (ap (refine_breaks modules owner after) (none_changed modules owner s given) ∙ refines_of_none modules owner after)
  where
    by : (a b : Bool) → b ≡ false → when (a && not b) (broken 14 s.home s.statement.line) ≡ when a (broken 14 s.home s.statement.line)
    by true true unfit = absurd cc
    by true false unfit = refl
    by false b unfit = refl

pub unfit_of_none : (modules : Forest Source) (groupings : List Grouping) (owner depth : ℕ) (u : Part) → count_used modules (counts_within modules groupings (suc depth)) u ≡ 0
    → unfit_for modules groupings owner (suc depth) u
    ≡ unfit_in (unfit_for modules groupings owner depth) (row_used modules groupings u) ++ all_refine_breaks u.own
unfolding unfit_for
unfit_of_none modules groupings owner depth u none =
    let inner = replaced (stands_for modules groupings owner depth) owner (row_used modules groupings u) in
    ap (λ (x : List Break). unfit_in (unfit_for modules groupings owner depth) (row_used modules groupings u) ++ x)
    (ap (refine_breaks modules owner u.own) (none_in inner (count_used_is_size modules groupings owner depth u) none) ∙ refines_of_none modules owner u.own)

-- Verdicts in a table, and on the members of a union, one after another.
use Rattle.std.proofs.Common.{◌≡◌, ℕ, Bool, true, false, not, ◌&&◌, cond, List, [], ◌∷◌, ◌++◌, length, Option, Some, None, map, refl, sym, ap, ap₂, ◌∙◌}
use Rattle.std.specs.Global.{Box}
use Rattle.std.specs.Prelude.{slice_get, slice_set, option_map, option_and_then}
use Rattle.std.specs.List.{flat_map}
use Rattle.std.proofs.lemmas.List.{append_assoc, append-nil}
use Rattle.std.proofs.lemmas.Option.{slice_get-map}
use Rattle.std.proofs.Math.Path.{fun_ext}
use Rattle.std.proofs.Math.Seq.{set-append_seam}
use Rattle.yspec.specs.Forest.{Forest, end, node, preorder}
use Rattle.yspec.specs.linking.Keyword.{type_word}
use Rattle.yspec.specs.linking.Source.{Source, is_source_of}
use Rattle.yspec.specs.linking.Scopes.{Placed, statement_at, statements_of}
use Rattle.yspec.specs.linking.TypeStatements as spec
use Rattle.yspec.specs.linking.DerivedTypes as derived
use Rattle.yspec.specs.linking.DerivedTypes.{is_own_member, verdict_by, known_named, type_meant, type_break, type_breaks}
use Rattle.yspec_wide.specs.Types.{Keeping, all_names, verdict_at, verdict_of, verdicts_of, verdict_on_of, known_named_of, meant_of}
use Rattle.yspec_wide.proofs.CoreTypeLemmas.{verdict_alike, verdicts_alike, known_named_alike}
use Rattle.ybase_preorder.specs.Layout.{numbered_by}
use Rattle.ylink_grammar.specs.declared.source.Source as held
use Rattle.ylink_grammar.specs.SourceView.{source_view}
use Rattle.ylink_names.proofs.NumberedLemmas.{by_number_from}
use Rattle.ylink_types.specs.TypedefView.{AreOf, IsOf}
use Rattle.ylink_types.specs.declared.typedefs.Typedefs.{Typedefs}
use Rattle.ylink_types.specs.declared.types.Verdict.{Verdict}
use Rattle.ylink.specs.KeptMeaningsView.{type_meant_of}
use Rattle.ylink.specs.VerdictView.{members_in, members_below, judged, judged_of, table_view, verdict_held, told_by, AreVerdicts, AreVerdictsOf}
use Rattle.ylink_names.proofs.PlacedLemmas.{found_at}
use Rattle.ylink_types.proofs.TypeLemmas.{no_verdict, next_verdict, no_more_verdicts}

-- what was pushed first is set once what stands below it is pushed
pub seam : {A : Type 0} (so_far mid full new inner : List A) (y x : A) (n : ℕ) → mid ≡ so_far ++ y ∷ [] → full ≡ mid ++ inner
    → n ≡ length so_far → new ≡ slice_set full n x → new ≡ (so_far ++ x ∷ []) ++ inner
seam so_far mid full new inner y x n mid_is full_is n_is new_is =
    new_is ∙ (ap (λ k. slice_set full k x) n_is
    ∙ (ap (λ l. slice_set l (length so_far) x) (full_is ∙ (ap (λ l. l ++ inner) mid_is ∙ append_assoc so_far (y ∷ []) inner))
    ∙ (set-append_seam so_far y inner x ∙ sym (append_assoc so_far (x ∷ []) inner))))

module _ (kept : Keeping) (modules : Forest Source) (named : ℕ → spec.Verdict) where
  abbrev one_judged : Source → Forest Source → spec.Verdict
  one_judged s below = verdict_of kept modules named (not s.may_refer) s below (verdicts_of kept modules named below)

  none_judged : verdicts_of kept modules named end ≡ []
  unfolding verdicts_of
  none_judged = refl

  judged_step : (s : Source) (below after : Forest Source) → verdicts_of kept modules named (node s below after)
      ≡ cond (is_source_of type_word s) (one_judged s below ∷ verdicts_of kept modules named after) (verdicts_of kept modules named after)
  unfolding verdicts_of
  judged_step s below after = refl

  module _ (s : Source) (below after before : Forest Source) (first : before ≡ node s below after) where
    pub no_member : (u : Bool) (so_far whole : List spec.Verdict) → is_source_of type_word s ≡ false
        → so_far ++ members_below kept modules named u before ≡ whole → so_far ++ members_below kept modules named u after ≡ whole
    no_member true so_far whole other made = no_verdict one_judged (verdicts_of kept modules named) none_judged judged_step
        s below after before first so_far whole other made
    no_member false so_far whole other made = made

    pub next_member : (u : Bool) (so_far more : List spec.Verdict) (v : spec.Verdict) (whole : List spec.Verdict) → is_source_of type_word s ≡ true
        → more ≡ so_far ++ members_in u v → v ≡ verdict_of kept modules named (u && not s.may_refer) s below (verdicts_of kept modules named below)
        → so_far ++ members_below kept modules named u before ≡ whole → more ++ members_below kept modules named u after ≡ whole
    next_member true so_far more v whole stands added is made = next_verdict one_judged (verdicts_of kept modules named) none_judged
        judged_step s below after before first so_far more v whole stands added is made
    next_member false so_far more v whole stands added is made = ap (λ l. l ++ []) (added ∙ append-nil so_far) ∙ made

  pub all_members : (u : Bool) (left : Forest Source) (so_far whole : List spec.Verdict) → left ≡ end
      → so_far ++ members_below kept modules named u left ≡ whole → so_far ≡ whole
  all_members true left so_far whole ended made = no_more_verdicts one_judged (verdicts_of kept modules named) none_judged
      judged_step left so_far whole ended made
  all_members false left so_far whole ended made = sym (append-nil so_far) ∙ made

-- ---- what verdicts tell

one_told : (s : Source) (v : spec.Verdict) (b : Bool) → told_by s (cond b (Some v) None) ≡ cond b (spec.told s v) []
one_told s v true = refl
one_told s v false = refl

all_told : (modules : Forest Source) (ps : List Placed)
    → flat_map (λ p. told_by p.source (judged modules (verdict_by (known_named modules)) p)) ps ≡ flat_map (type_break modules) ps
all_told modules [] = refl
all_told modules (p ∷ ps) =
    ap₂ (λ a l. a ++ l) (one_told p.source (derived.verdict_of modules p) (is_source_of type_word p.source)) (all_told modules ps)

pub all_judged : (f : Forest held.Source) (table : List (Option spec.Verdict))
    → table ≡ map (judged (numbered_by source_view 0 f) (verdict_by (known_named (numbered_by source_view 0 f)))) (statements_of (numbered_by source_view 0 f))
    → flat_map (λ s. told_by s (verdict_held table s.number)) (preorder (numbered_by source_view 0 f)) ≡ type_breaks (numbered_by source_view 0 f)
all_judged f table are =
    let modules = numbered_by source_view 0 f in
    let one = judged modules (verdict_by (known_named modules)) in
    by_number_from one (λ s v. told_by s (option_and_then (λ o. o) v)) table [] 0 f [] [] refl (are ∙ sym (append-nil (map one (statements_of modules))))
    ∙ all_told modules (statements_of modules)

-- ---- what a statement of a number means

-- over the names that are kept
pub kept_held : (kept : Keeping) (f : Forest held.Source) (table : List (Option spec.Verdict))
    → table ≡ map (judged_of kept (numbered_by source_view 0 f) (verdict_by (known_named_of kept (numbered_by source_view 0 f)))) (statements_of (numbered_by source_view 0 f))
    → (n : ℕ) → option_and_then spec.meaning_of (verdict_held table n) ≡ type_meant_of kept (numbered_by source_view 0 f) n
kept_held kept f table are n =
    ap (λ l. option_and_then spec.meaning_of (option_and_then (λ v. v) (slice_get l n))) are
    ∙ (ap (λ o. option_and_then spec.meaning_of (option_and_then (λ v. v) o)) (slice_get-map one (statements_of modules) n)
    ∙ (by (slice_get (statements_of modules) n) ∙ ap (option_and_then (meant_of kept modules)) (sym (found_at f n))))
  where
    modules : Forest Source
    modules = numbered_by source_view 0 f

    one : Placed → Option spec.Verdict
    one = judged_of kept modules (verdict_by (known_named_of kept modules))

    of_one : (v : spec.Verdict) (b : Bool) → option_and_then spec.meaning_of (cond b (Some v) None) ≡ cond b (spec.meaning_of v) None
    of_one v true = refl
    of_one v false = refl

    by : (o : Option Placed) → option_and_then spec.meaning_of (option_and_then (λ v. v) (option_map one o)) ≡ option_and_then (meant_of kept modules) o
    by None = refl
    by (Some p) = of_one (verdict_at kept modules p) (is_source_of type_word p.source)

-- ---- all names

module _ (modules : Forest Source) where
  on_alike : (p : Placed) → verdict_on_of all_names modules (verdict_by (known_named_of all_names modules)) (is_own_member p) p.source p.below
      ≡ derived.verdict_of modules p
  on_alike p =
      let named = verdict_by (known_named modules) in
      ap (λ known. verdict_on_of all_names modules (verdict_by known) (is_own_member p) p.source p.below) (known_named_alike modules)
      ∙ (ap (verdict_of all_names modules named (is_own_member p) p.source p.below) (verdicts_alike modules named p.below)
      ∙ verdict_alike modules named (is_own_member p) p.source p.below (spec.verdicts modules named p.below))

  judged_alike : judged_of all_names modules (verdict_by (known_named_of all_names modules)) ≡ judged modules (verdict_by (known_named modules))
  judged_alike = fun_ext (λ p. ap (λ v. cond (is_source_of type_word p.source) (Some v) None) (on_alike p))

  pub as_judged : (table : List (Option spec.Verdict))
      → table ≡ map (judged_of all_names modules (verdict_by (known_named_of all_names modules))) (statements_of modules)
      → table ≡ map (judged modules (verdict_by (known_named modules))) (statements_of modules)
  as_judged table are = are ∙ ap (λ one. map one (statements_of modules)) judged_alike

  -- the verdicts over typedefs over all names
  pub over_all : (typedefs : Typedefs) (table : List (Option (Box Verdict))) → IsOf typedefs modules
      → (AreOf all_names typedefs modules → AreVerdictsOf all_names table modules) → AreVerdicts table modules
  over_all typedefs table is are =
      as_judged (table_view table) (are (λ number. is number ∙ sym (ap (λ (known : ℕ → derived.Known). known number) (known_named_alike modules))))

  -- what a statement of a number means
  pub all_meant : (n : ℕ) → type_meant_of all_names modules n ≡ type_meant modules n
  all_meant n = ap (λ meant. option_and_then meant (statement_at modules n))
      (fun_ext (λ p. ap (λ v. cond (is_source_of type_word p.source) (spec.meaning_of v) None) (on_alike p)))

pub meant_held : (f : Forest held.Source) (table : List (Option spec.Verdict))
    → table ≡ map (judged (numbered_by source_view 0 f) (verdict_by (known_named (numbered_by source_view 0 f)))) (statements_of (numbered_by source_view 0 f))
    → (n : ℕ) → option_and_then spec.meaning_of (verdict_held table n) ≡ type_meant (numbered_by source_view 0 f) n
meant_held f table are n =
    let modules = numbered_by source_view 0 f in
    kept_held all_names f table (are ∙ sym (ap (λ one. map one (statements_of modules)) (judged_alike modules))) n ∙ all_meant modules n

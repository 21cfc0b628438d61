-- What is known of a typedef rests on what is known of those alone that its `type` statements name.
use Rattle.std.proofs.Common.{◌≡◌, ℕ, suc, Bool, true, false, not, cond, List, [], ◌∷◌, Option, Some, None, refl, sym, ap, ap₂, ◌∙◌, arith, subst}
use Rattle.std.specs.Prelude.{⊤, option_map, option_and_then, find}
use Rattle.std.specs.List.{Contains}
use Rattle.std.specs.Option.{option_map_or}
use Rattle.std.proofs.lemmas.List.Elements.{Contains-append_left, Contains-append_right}
use Rattle.yspec.specs.Forest.{Forest, end, node, first_of}
use Rattle.yspec.specs.linking.Circles.{referring, innermost, definition_edge, definition_edges}
use Rattle.yspec.specs.linking.DerivedTypes.{Known, unknown, named, verdict_by, known_in_row, typedef_row}
use Rattle.yspec.specs.linking.Keyword.{same_keyword, type_word, typedef_word, default_word}
use Rattle.yspec.specs.linking.Scopes.{Placed, placed, statements_of, statement_at, meaning, kind_named}
use Rattle.yspec.specs.linking.Source.{Source, Stated, is_source_of, found_with, stated_with}
use Rattle.yspec.specs.linking.TypeStatements.{wrong, are_in_place, built_in_meant, derived_by}
use Rattle.yspec.proofs.LinkingProofs.KeywordLemmas.{same_is}
use Rattle.yspec_wide.specs.Types.{Keeping, all_names, named_kept, verdict_of, verdicts_of, verdict_on_of, verdict_in_place_of, known_of, known_in_row_of}
use Rattle.yspec_wide.proofs.CoreTypeLemmas.{known_in_row_alike}
use Rattle.ybase_graph.specs.Reaching.{HasEdge}
use Rattle.ybase_preorder.proofs.NumberLemmas.{AreFrom, found_again, found_among}
use Rattle.ylink_names.specs.ReferringView.{innermost_of}
use Rattle.ylink_names.specs.ScopeView.{placed_at}
use Rattle.ylink_names.proofs.PlacedLemmas.{number_of, edge_among, below_them}

-- ---- verdicts

module _ (kept : Keeping) (modules : Forest Source) (f g : ℕ → Known) where
  -- they say the same of the `type` statements of a row, and of those below these
  abbrev pub Agree : Forest Source → Type 0
  Agree end = ⊤
  Agree (node s below after) = (is_source_of type_word s ≡ true → (f s.number ≡ g s.number) × Agree below) × Agree after

  same_verdicts : (row : Forest Source) → Agree row → verdicts_of kept modules (verdict_by f) row ≡ verdicts_of kept modules (verdict_by g) row
  unfolding verdicts_of
  same_verdicts end a = refl
  same_verdicts (node s below after) a = by (is_source_of type_word s) refl (λ own. same_verdicts below own) (same_verdicts after a.1)
    where
      by : (b : Bool) → is_source_of type_word s ≡ b
          → (Agree below → verdicts_of kept modules (verdict_by f) below ≡ verdicts_of kept modules (verdict_by g) below)
          → verdicts_of kept modules (verdict_by f) after ≡ verdicts_of kept modules (verdict_by g) after
          → cond b (verdict_of kept modules (verdict_by f) (not s.may_refer) s below (verdicts_of kept modules (verdict_by f) below) ∷ verdicts_of kept modules (verdict_by f) after) (verdicts_of kept modules (verdict_by f) after)
          ≡ cond b (verdict_of kept modules (verdict_by g) (not s.may_refer) s below (verdicts_of kept modules (verdict_by g) below) ∷ verdicts_of kept modules (verdict_by g) after) (verdicts_of kept modules (verdict_by g) after)
      by true is inner rest =
          let own = a.0 is in
          ap₂ (λ v vs. v ∷ vs)
          (ap₂ (λ (k : Known) vs. option_map_or (λ type. cond (are_in_place type below) (verdict_in_place_of kept modules (not s.may_refer) s type below vs) wrong)
          (built_in_meant modules s) (derived_by (named_kept kept below) (not s.may_refer) below k.verdict)) own.0 (inner own.1))
          rest
      by false is inner rest = rest

  pub same_verdict : (is_member : Bool) (s : Source) (below : Forest Source) → f s.number ≡ g s.number → Agree below
      → verdict_on_of kept modules (verdict_by f) is_member s below ≡ verdict_on_of kept modules (verdict_by g) is_member s below
  same_verdict is_member s below own inner =
      ap₂ (λ (k : Known) vs. option_map_or (λ type. cond (are_in_place type below) (verdict_in_place_of kept modules is_member s type below vs) wrong)
      (built_in_meant modules s) (derived_by (named_kept kept below) is_member below k.verdict)) own (same_verdicts below inner)

  pub agree_all : ((n : ℕ) → f n ≡ g n) → (row : Forest Source) → Agree row
  agree_all all end = tt
  agree_all all (node s below after) = ((λ is. (all s.number, agree_all all below)), agree_all all after)

  pub agree_found : (row : Forest Source) → Agree row → (t : Source × Forest Source) → found_with type_word row ≡ Some t
      → (f t.0.number ≡ g t.0.number) × Agree t.1
  agree_found end a t e = absurd cc
  agree_found (node s below after) a t e = by (is_source_of type_word s) refl e (λ later. agree_found after a.1 t later)
    where
      by : (b : Bool) → is_source_of type_word s ≡ b → cond b (Some (s, below)) (found_with type_word after) ≡ Some t
          → (found_with type_word after ≡ Some t → (f t.0.number ≡ g t.0.number) × Agree t.1)
          → (f t.0.number ≡ g t.0.number) × Agree t.1
      by true is e rest = let same : (s, below) ≡ t = cc in subst (λ (u : Source × Forest Source). (f u.0.number ≡ g u.0.number) × Agree u.1) same (a.0 is)
      by false is e rest = rest e

  pub same_in_row : (row : Forest Source) → Agree row → known_in_row_of kept modules f row ≡ known_in_row_of kept modules g row
  same_in_row row a = by (found_with type_word row) refl
    where
      by : (o : Option (Source × Forest Source)) → found_with type_word row ≡ o
          → option_map_or (known_of kept modules f row) o unknown ≡ option_map_or (known_of kept modules g row) o unknown
      by None e = refl
      by (Some t) e =
          let same = agree_found row a t e in
          ap₂ (λ v (d : Option Stated). record { verdict = v; default = d })
          (same_verdict false t.0 t.1 same.0 same.1)
          (ap (λ (k : Known). first_of (stated_with default_word row) k.default) same.0)

  -- ---- by where statements stand

  pub agree_below : (d : ℕ) (ancestors : List (Source × Forest Source)) (row : Forest Source) → innermost_of typedef_word ancestors ≡ Some d
      → ((p : Placed) → Contains (placed ancestors row) p → is_source_of type_word p.source ≡ true → referring p ≡ Some d → f p.source.number ≡ g p.source.number)
      → Agree row
  unfolding placed
  agree_below d ancestors end inner all = tt
  agree_below d ancestors (node s below after) inner all =
      let p = placed_at s below ancestors in
      let under = placed ((s, below) ∷ ancestors) below in
      let behind = placed ancestors after in (
        (λ is.
            let word : type_word ≡ s.keyword = same_is type_word s.keyword is in (
              all p (0, omega arith, refl) is (sym (ap (λ k. option_and_then (λ kind. innermost kind p) (kind_named k)) word) ∙ inner),
              agree_below d ((s, below) ∷ ancestors) below
                  (sym (ap (λ k. option_map (λ (a : Source × Forest Source). a.0.number) (cond (same_keyword typedef_word k) (Some (s, below)) (find (λ (a : Source × Forest Source). is_source_of typedef_word a.0) ancestors))) word) ∙ inner)
                  (λ q at. all q (let inside = Contains-append_left under behind q at in let within = inside.1 in (suc inside.0, omega (arith, within), inside.2))),
            )),
        agree_below d ancestors after inner
            (λ q at. all q (let inside = Contains-append_right under behind q at in let within = inside.1 in (suc inside.0, omega (arith, within), inside.2))),
      )

-- ---- a set of modules

-- whose statements have the numbers from 0 on
module _ (kept : Keeping) (set : Forest Source) (numbered : AreFrom number_of 0 (statements_of set)) where
  module _ (known_here known_there : ℕ → Known) (d : ℕ) (same : (e : ℕ) → HasEdge (definition_edges set) d e → known_here e ≡ known_there e) where
    -- of a statement in the typedef
    same_named : (p : Placed) → Contains (statements_of set) p → referring p ≡ Some d → named set known_here p.source.number ≡ named set known_there p.source.number
    same_named p at refers =
        sym (ap (λ o. option_map_or known_here (option_map (λ (x : Source). x.number) (option_and_then (meaning set) o)) unknown) stands)
        ∙ (by (meaning set p) refl
        ∙ ap (λ o. option_map_or known_there (option_map (λ (x : Source). x.number) (option_and_then (meaning set) o)) unknown) stands)
      where
        stands : Some p ≡ statement_at set p.source.number
        stands = sym (found_again number_of (statements_of set) numbered p at)

        by : (o : Option Source) → meaning set p ≡ o
            → option_map_or known_here (option_map (λ (x : Source). x.number) o) unknown ≡ option_map_or known_there (option_map (λ (x : Source). x.number) o) unknown
        by None e = refl
        by (Some x) e = same x.number (edge_among (definition_edge set) (statements_of set) p d x.number at
            (ap₂ (λ m r. option_and_then (λ (y : Source). option_map (λ (a : ℕ). record { source = a; target = y.number }) r) m) e refers))

    pub same_known_of : option_map_or (known_in_row_of kept set (named set known_here)) (typedef_row set d) unknown
        ≡ option_map_or (known_in_row_of kept set (named set known_there)) (typedef_row set d) unknown
    same_known_of = by (statement_at set d) refl
      where
        by : (o : Option Placed) → statement_at set d ≡ o
            → option_map_or (known_in_row_of kept set (named set known_here)) (option_and_then (λ p. cond (is_source_of typedef_word p.source) (Some p.below) None) o) unknown
            ≡ option_map_or (known_in_row_of kept set (named set known_there)) (option_and_then (λ p. cond (is_source_of typedef_word p.source) (Some p.below) None) o) unknown
        by None e = refl
        by (Some p) e = is (is_source_of typedef_word p.source) refl
          where
            at : Contains (statements_of set) p × (p.source.number ≡ d)
            at = found_among number_of d p (statements_of set) e

            is : (b : Bool) → is_source_of typedef_word p.source ≡ b
                → option_map_or (known_in_row_of kept set (named set known_here)) (cond b (Some p.below) None) unknown
                ≡ option_map_or (known_in_row_of kept set (named set known_there)) (cond b (Some p.below) None) unknown
            is false other = refl
            is true typedef = same_in_row kept set (named set known_here) (named set known_there) p.below
                (agree_below kept set (named set known_here) (named set known_there) d ((p.source, p.below) ∷ p.ancestors) p.below
                (ap (λ b. option_map (λ (a : Source × Forest Source). a.0.number) (cond b (Some (p.source, p.below)) (find (λ (a : Source × Forest Source). is_source_of typedef_word a.0) p.ancestors))) typedef
                ∙ ap (λ n. Some n) at.1)
                (λ q inside is_type refers. same_named q (below_them [] set p q at.0 inside) refers))

-- where all names are kept
pub same_known : (set : Forest Source) → AreFrom number_of 0 (statements_of set) → (known_here known_there : ℕ → Known) (d : ℕ)
    → ((e : ℕ) → HasEdge (definition_edges set) d e → known_here e ≡ known_there e)
    → option_map_or (known_in_row set (named set known_here)) (typedef_row set d) unknown
    ≡ option_map_or (known_in_row set (named set known_there)) (typedef_row set d) unknown
same_known set numbered known_here known_there d same =
    let of = λ (in_row : Forest Source → Known). option_map_or in_row (typedef_row set d) unknown in
    sym (ap of (known_in_row_alike set (named set known_here)))
    ∙ (same_known_of all_names set numbered known_here known_there d same
    ∙ ap of (known_in_row_alike set (named set known_there)))

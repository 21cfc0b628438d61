-- What YANG 1 doesn't know of types, by the verdicts that are held.
use Rattle.std.proofs.Common.{◌≡◌, suc, ◌&&◌, List, [], ◌∷◌, ◌++◌, map, Option, Some, None, refl, sym, ap, ap₂, ◌∙◌, arith}
use Rattle.std.specs.Prelude.{option_and_then}
use Rattle.std.specs.List.{Contains, flat_map}
use Rattle.yspec.specs.Forest.{Forest}
use Rattle.yspec.specs.linking.DerivedTypes.{is_member, known_named, meant_by, verdict_by}
use Rattle.yspec.specs.linking.Keyword as word
use Rattle.yspec.specs.linking.Scopes.{Placed, statement_at, statements_of}
use Rattle.yspec.specs.linking.Source.{Source, is_source_of}
use Rattle.yspec.specs.linking.TypeStatements as spec
use Rattle.yspec.specs.schema.Breaks.{Break, broken, when}
use Rattle.yspec_wide.specs.Language.{Language}
use Rattle.yspec_wide.specs.VersionBreaks.{is_of_yang_1, version_type_break, version_type_breaks}
use Rattle.ybase_preorder.specs.Layout.{numbered_by}
use Rattle.ylink_grammar.specs.declared.source.Source as held
use Rattle.ylink_grammar.specs.SourceView.{source_view}
use Rattle.ylink_names.proofs.PlacedLemmas.{stands_at}
use Rattle.ylink.specs.EmptyView.{AreBare, IsBareMeant, is_wrong_as, meant_held, wrong_break}
use Rattle.ylink.specs.VerdictView.{judged}
use Rattle.ylink.proofs.EmptyLemmas.{bare_meant}
use Rattle.ylink.proofs.VerdictLemmas as verdicts

same_of : (g h : Placed → List Break) (ps : List Placed) → ((p : Placed) → Contains ps p → g p ≡ h p) → flat_map g ps ≡ flat_map h ps
same_of g h [] same = refl
same_of g h (p ∷ ps) same = ap₂ (λ here others. here ++ others) (same p (0, omega arith, refl)) (same_of g h ps (λ q at. same q (later q at)))
  where
    later : (q : Placed) → Contains ps q → Contains (p ∷ ps) q
    later q at = let within = at.1 in (suc at.0, omega (arith, within), at.2)

module _ (f : Forest held.Source) (table : List (Option spec.Verdict))
    (are : table ≡ map (judged (numbered_by source_view 0 f) (verdict_by (known_named (numbered_by source_view 0 f)))) (statements_of (numbered_by source_view 0 f))) where
  abbrev set : Forest Source
  set = numbered_by source_view 0 f

  -- what they hold bears no restriction where it is `empty`
  pub all_bare : AreBare table
  all_bare n m e = by (statement_at set n) (sym (verdicts.meant_held f table are n) ∙ e)
    where
      by : (o : Option Placed) → option_and_then (meant_by set) o ≡ Some m → IsBareMeant m
      by None e = absurd cc
      by (Some p) e = bare_meant set p m e

  pub all_wrong : (language : Language) → flat_map (wrong_break language set table) (statements_of set) ≡ version_type_breaks language set
  all_wrong language = same_of (wrong_break language set table) (version_type_break language set) (statements_of set) one
    where
      one : (p : Placed) → Contains (statements_of set) p → wrong_break language set table p ≡ version_type_break language set p
      one p at =
          let meant : meant_held table p.source.number ≡ meant_by set p = verdicts.meant_held f table are p.source.number ∙ ap (option_and_then (meant_by set)) (stands_at f p at) in
          ap (λ m. when (is_source_of word.type_word p.source && (is_of_yang_1 language set p.source && is_wrong_as (is_member p.ancestors) m p.below))
          (broken 10 p.source.home p.source.statement.line)) meant

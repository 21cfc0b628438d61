use Rattle.std.proofs.Common.{◌≡◌, ℕ, ◌∷◌, [], ◌++◌, true, false, not, ◌&&◌, cond, List, Option, Some, None, length, map, refl, ap, ap₂, sym, ◌∙◌, rules, arith}
use Rattle.std.proofs.lemmas.List.{map_push, length-map}
use Rattle.yspec.specs.Forest.{Forest, node, size}
use Rattle.yspec.specs.linking.DerivedTypes.{is_member}
use Rattle.yspec.specs.linking.Keyword.{same_keyword, type_word}
use Rattle.yspec.specs.linking.Scopes.{placed}
use Rattle.yspec.specs.linking.Source.{Source}
use Rattle.yspec.specs.linking.TypeStatements.{Verdict}
use Rattle.yspec_wide.specs.Types.{verdict_of, verdicts_of, verdict_on_of}
use Rattle.ybase_preorder.specs.View.{row_by, label_by}
use Rattle.ybase_preorder.proofs.RowLemmas.{takes_by, takes_none_by}
use Rattle.ybase_words.specs.KeywordView.{keyword_view}
use Rattle.ylink_grammar.specs.LinkView.{view}
use Rattle.ylink_grammar.specs.SourceView.{source_view}
use Rattle.ylink_names.specs.ScopeView.{placed_at}
use Rattle.ylink_names.proofs.MeaningLemmas.{next_meant, all_meant}
use Rattle.ylink_values.specs.KeptView.{kept_view}
use Rattle.ylink_types.specs.TypeView.{verdict_view}
use Rattle.ylink_types.specs.TypedefView.{verdicts_in}
use Rattle.ylink.specs.VerdictView.{judged_of, held_view, members_in, members_below, table_view}
use Rattle.ylink.proofs.VerdictLemmas.{seam, no_member, next_member, all_members}
use Rattle.ylink.proofs.verdicts.+add_verdicts.Goals as goal
use Rattle.ylink.proofs.verdicts.+add_verdicts.Goals.{In_ok-inner}

-- once those below the next statement are judged
module _ (t : ℕ) (c : In_ok-inner t) where
  abbrev next : Source
  next = label_by source_view c.in-Some.statement

  abbrev below_next : Forest Source
  below_next = row_by source_view c.in-Some.statement.children

  is_type : c.is-is_type.result ≡ same_keyword type_word next.keyword
  is_type = c.is-is_type.ensures ∙ ap (λ l. same_keyword type_word (keyword_view l.keyword)) c.label.ensures

  taken : row_by source_view c.loop-statement.statement-iterator ≡ node next below_next (row_by source_view c.next.new.self)
  taken = takes_by source_view c.loop-statement.statement-iterator c.next.new.self c.in-Some.statement c.in-Some.ensures.steps

  own_pushed : table_view c.push.new.self.items ≡ table_view c.loop-statement.table.items ++ None ∷ []
  own_pushed = ap table_view c.in_ok-push.ensures.items ∙ map_push held_view c.loop-statement.table.items None

  others_pushed : (ancestors : List (Source × Forest Source)) → table_view c.add_verdicts.new.table.items
      ≡ table_view c.push.new.self.items ++ map (judged_of (kept_view c.args.kept) (view c.args.sources.now) (verdicts_in c.args.typedefs.now)) (placed ((next, below_next) ∷ ancestors) below_next)
  others_pushed ancestors =
      c.in_ok-inner.ensures.table ((next, below_next) ∷ ancestors) is_type
      ∙ ap (λ n. table_view c.push.new.self.items ++ map (judged_of (kept_view c.args.kept) (view c.args.sources.now) (verdicts_in c.args.typedefs.now)) (placed ((next, below_next) ∷ ancestors) (row_by source_view n)))
      c.children-below.ensures

-- ---- and one after another

pub loop-statement-preserved-then-not-is_type : goal.loop-statement-preserved-then-not-is_type
loop-statement-preserved-then-not-is_type t c =
    let made = (goal.at.loop-statement-preserved-then-not-is_type t c).In_ok-inner in
    let kept = kept_view c.args.kept in
    let modules = view c.args.sources.now in
    let named = verdicts_in c.args.typedefs.now in
    let before = c.loop-statement.statement-iterator in
    let after = row_by source_view c.next.new.self in
    let s = next t made in
    let below = below_next t made in
    let sized = ap size c.in-Some.ensures.steps.0 in
    let first = taken t made in
    let so_far = table_view c.loop-statement.table.items in
    let pushed = table_view c.push.new.self.items in
    let full = table_view c.add_verdicts.new.table.items in
    let other : same_keyword type_word s.keyword ≡ false = sym (is_type t made) ∙ first_of (search rules, cc) in
    record {
      more = tt;
      ends = tt;
      smaller = omega (arith, sized, c.loop-statement.invariant.smaller);
      members = no_member kept modules named s below after (row_by source_view before) first c.args.in_union (map verdict_view c.loop-statement.members.items) _ other c.loop-statement.invariant.members;
      table = λ ancestors in_union.
          next_meant (judged_of kept modules named) ancestors s below after (row_by source_view before) first so_far pushed full _ None (own_pushed t made)
          (sym (ap (λ b. cond b (Some (verdict_on_of kept modules named (is_member ancestors && not s.may_refer) s below)) None) other)) (others_pushed t made ancestors)
          (c.loop-statement.invariant.table ancestors in_union);
    }

pub loop-statement-preserved : goal.loop-statement-preserved
loop-statement-preserved t c =
    let made = (goal.at.loop-statement-preserved t c).In_ok-inner in
    let kept = kept_view c.args.kept in
    let modules = view c.args.sources.now in
    let named = verdicts_in c.args.typedefs.now in
    let before = c.loop-statement.statement-iterator in
    let after = row_by source_view c.next.new.self in
    let s = next t made in
    let below = below_next t made in
    let sized = ap size c.in-Some.ensures.steps.0 in
    let first = taken t made in
    let so_far = table_view c.loop-statement.table.items in
    let pushed = table_view c.push.new.self.items in
    let full = table_view c.add_verdicts.new.table.items in
    let holds : c.is-is_type.result ≡ true = first_of (search rules, cc) in
    let stands : same_keyword type_word s.keyword ≡ true = sym (is_type t made) ∙ holds in
    let members : map verdict_view c.in_ok-inner.inner.items ≡ verdicts_of kept modules named below =
    c.in_ok-inner.ensures.members
    ∙ (ap (λ b. members_below kept modules named b (row_by source_view c.children-below.result)) holds
    ∙ ap (λ n. verdicts_of kept modules named (row_by source_view n)) c.children-below.ensures) in
    let own_member : c.is_own_member-is_own.result ≡ (c.args.in_union && not s.may_refer) =
    c.is_own_member-is_own.ensures ∙ ap (λ l. c.args.in_union && not l.may_refer) c.label-in-loop-statement.ensures in
    let v : Verdict = verdict_of kept modules named (c.args.in_union && not s.may_refer) s below (verdicts_of kept modules named below) in
    let judged_so : verdict_view c.in_ok-verdict.verdict ≡ v =
    c.in_ok-verdict.ensures ∙ ap₂ (λ u ms. verdict_of kept modules named u s below ms) own_member members in
    let new = table_view c.set_verdict.new.table.items in
    let count : c.len-number.result ≡ length so_far = c.len-number.ensures ∙ (c.loop-statement.table.ok.0 ∙ sym (length-map c.loop-statement.table.items held_view)) in
    record {
      more = tt;
      ends = tt;
      smaller = omega (arith, sized, c.loop-statement.invariant.smaller);
      members = next_member kept modules named s below after (row_by source_view before) first c.args.in_union (map verdict_view c.loop-statement.members.items)
          (map verdict_view c.add_member.new.members.items) v _ stands
          (c.in_ok-add_member.ensures ∙ ap (λ x. map verdict_view c.loop-statement.members.items ++ members_in c.args.in_union x) judged_so)
          refl c.loop-statement.invariant.members;
      table = λ ancestors in_union.
          let under = map (judged_of kept modules named) (placed ((s, below) ∷ ancestors) below) in
          let own : Option Verdict = Some (verdict_view c.in_ok-verdict.verdict) in
          let is : own ≡ judged_of kept modules named (placed_at s below ancestors) =
          ap Some (judged_so ∙ ap (λ u. verdict_on_of kept modules named (u && not s.may_refer) s below) in_union)
          ∙ sym (ap (λ b. cond b (Some (verdict_on_of kept modules named (is_member ancestors && not s.may_refer) s below)) None) stands) in
          next_meant (judged_of kept modules named) ancestors s below after (row_by source_view before) first so_far (so_far ++ own ∷ []) new _ own refl is
          (seam so_far pushed full new under None own c.len-number.result (own_pushed t made) (others_pushed t made ancestors) count c.in_ok-set_verdict.ensures)
          (c.loop-statement.invariant.table ancestors in_union);
    }

pub returns-clause-members : goal.returns-clause-members
returns-clause-members t c =
    let before = c.loop-statement.statement-iterator in
    let ended = (takes_none_by source_view before c.next.new.self c.in-None.ensures.steps).0 in
    all_members (kept_view c.args.kept) (view c.args.sources.now) (verdicts_in c.args.typedefs.now) c.args.in_union (row_by source_view before) (map verdict_view c.loop-statement.members.items) _ ended c.loop-statement.invariant.members

pub returns-clause-table : goal.returns-clause-table
returns-clause-table t c ancestors in_union =
    let before = c.loop-statement.statement-iterator in
    let ended = (takes_none_by source_view before c.next.new.self c.in-None.ensures.steps).0 in
    all_meant (judged_of (kept_view c.args.kept) (view c.args.sources.now) (verdicts_in c.args.typedefs.now)) ancestors (row_by source_view before) (table_view c.loop-statement.table.items) _ ended (c.loop-statement.invariant.table ancestors in_union)

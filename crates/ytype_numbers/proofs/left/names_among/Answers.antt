use Rattle.std.proofs.Common.{◌≡◌, ◌++◌, ◌∷◌, [], cond, sym, ap, ap₂, subst, ◌∙◌}
use Rattle.std.specs.Prelude.{ℤ, filter, string_bytes}
use Rattle.std.specs.Map.Iter.{deref_pair}
use Rattle.std.specs.Int.{w64}
use Rattle.std.proofs.lemmas.Int.{to_z-of_z}
use Rattle.std.proofs.lemmas.Map.Iter.{rest_more}
use Rattle.yspec.specs.text.Text.{Text}
use Rattle.yspec.specs.types.Names.{Assigned}
use Rattle.ytype_numbers.specs.Sets.{holds_word}
use Rattle.ytype_numbers.specs.Tables.{assigned, AreWords, AreBefore, AreAscending}
use Rattle.ytype_numbers.specs.Words.{named}
use Rattle.ytype_numbers.proofs.LeftLemmas.{ascending, none_before, before_more, one_left}
use Rattle.ytype_numbers.proofs.left.names_among.Goals as goal

pub loop-number-init : goal.loop-number-init
loop-number-init c =
    let gives = c.into_iter-number-iterator.ensures.into_iter_gives in
    let table = c.by_number-number-items.result.now in
    record {
      left = ap₂ (λ ns es. ns ++ filter (λ (a : Assigned). holds_word c.args.texts.now a.name) (assigned es)) c.new-left.ensures gives.0
          ∙ ap (filter (λ (a : Assigned). holds_word c.args.texts.now a.name)) c.by_number-number-items.ensures.entries;
      before = subst (λ ns. AreBefore ns (assigned c.into_iter-number-iterator.result)) (sym c.new-left.ensures)
          (none_before (assigned c.into_iter-number-iterator.result));
      ascending = subst (λ es. AreAscending (assigned es)) (sym gives.0) (ascending table.entries gives.5);
      words = subst (λ es. AreWords (assigned es)) (sym gives.0) c.by_number-number-items.ensures.words;
    }

pub loop-number-preserved : goal.loop-number-preserved
loop-number-preserved c =
    let before = c.loop-number.number-iterator in
    let after = c.next.new.self in
    let left = c.loop-number.left in
    let texts = c.args.texts.now in
    let a = named (string_bytes c.in-Some.name.now) c.in-Some.number.now in
    let first = rest_more deref_pair before after c.next.result (c.in-Some.number, c.in-Some.name) c.in-Some.is c.next.ensures.steps in
    let below : AreBefore left (a ∷ assigned after) = subst (λ es. AreBefore left (assigned es)) first c.loop-number.invariant.before in
    let ordered : AreAscending (a ∷ assigned after) = subst (λ es. AreAscending (assigned es)) first c.loop-number.invariant.ascending in
    let words : AreWords (a ∷ assigned after) = subst (λ es. AreWords (assigned es)) first c.loop-number.invariant.words in
    let grown : c.in_ok-left.left ≡ left ++ cond (holds_word texts a.name) (a ∷ []) [] = c.in_ok-left.ensures
    ∙ ap₂ (λ (t : Text) (n : ℤ). left ++ cond (holds_word texts t) (named t n ∷ []) []) c.as_str.ensures.value
    (to_z-of_z w64 c.in-Some.number.now words.0) in
    record {
      left = ap (λ ns. ns ++ filter (λ (a : Assigned). holds_word texts a.name) (assigned after)) grown
          ∙ one_left (λ (a : Assigned). holds_word texts a.name) left a (assigned after) _
          (sym (ap (λ es. left ++ filter (λ (a : Assigned). holds_word texts a.name) (assigned es)) first) ∙ c.loop-number.invariant.left);
      before = subst (λ ns. AreBefore ns (assigned after)) (sym grown) (before_more left a (assigned after) (holds_word texts a.name) below.1 ordered.0);
      ascending = ordered.1;
      words = words.1;
    }

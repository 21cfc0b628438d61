-- What nodes state with all that they are given.
use Rattle.std.proofs.Common.{◌≡◌, ℕ, Bool, true, false, ◌||◌, List, [], ◌∷◌, ◌++◌, refl, ap, ap₂, ◌∙◌}
use Rattle.yspec.specs.Forest.{Forest}
use Rattle.yspec.specs.linking.Source.{Source}
use Rattle.yspec.specs.linking.Parts.{Part}
use Rattle.yspec_wide.specs.Language.{Language, core, rfc}
use Rattle.yspec_wide.specs.Words.{Word, rpc_word, action_word, notification_word, input_word, output_word}
use Rattle.yspec_wide.specs.Sources.{is_added, is_call, is_operation, is_operation_part}
use Rattle.yschema_expand.specs.NodeView.{part_for, with_given}
use Rattle.yschema_given.specs.GivenView.{stated_after, stated_with}
use Rattle.yschema_given.specs.declared.given.Given.{Given}

stated_last : (own : Forest Source) (given : List Given) (one : Given) → stated_after own (given ++ one ∷ []) ≡ stated_with one (stated_after own given)
stated_last own [] one = refl
stated_last own (g ∷ given) one = stated_last (stated_with g own) given one

-- one more
pub given_last : (given : List Given) (one : Given) (p : Part) (own : Forest Source) → stated_with one (stated_after p.own given) ≡ own
    → with_given (given ++ one ∷ []) p ≡ record p { own = own }
given_last given one p own is = ap (λ (o : Forest Source). record p { own = o }) (stated_last p.own given one ∙ is)

-- ---- operations: the case for which a statement stands is told apart as the statement is

pub same_added : (language : Language) (w : Word) (owner : ℕ) (is_implied : Bool) (s : Source) (below : Forest Source)
    → is_added language w (part_for owner is_implied s below).source ≡ is_added language w s
same_added core w owner is_implied s below = refl
same_added (rfc wide) w owner true s below = refl
same_added (rfc wide) w owner false s below = refl

pub same_action : (language : Language) (owner : ℕ) (is_implied : Bool) (s : Source) (below : Forest Source)
    → is_added language action_word (part_for owner is_implied s below).source ≡ is_added language action_word s
same_action language owner is_implied s below = same_added language action_word owner is_implied s below

pub same_call : (language : Language) (owner : ℕ) (is_implied : Bool) (s : Source) (below : Forest Source)
    → is_call language (part_for owner is_implied s below).source ≡ is_call language s
same_call language owner is_implied s below =
    ap₂ (λ a b. a || b) (same_added language rpc_word owner is_implied s below) (same_added language action_word owner is_implied s below)

pub same_operation : (language : Language) (owner : ℕ) (is_implied : Bool) (s : Source) (below : Forest Source)
    → is_operation language (part_for owner is_implied s below).source ≡ is_operation language s
same_operation language owner is_implied s below =
    ap₂ (λ a b. a || b) (same_call language owner is_implied s below) (same_added language notification_word owner is_implied s below)

pub same_operation_part : (language : Language) (owner : ℕ) (is_implied : Bool) (s : Source) (below : Forest Source)
    → is_operation_part language (part_for owner is_implied s below).source ≡ is_operation_part language s
same_operation_part language owner is_implied s below =
    ap₂ (λ a b. a || b) (same_operation language owner is_implied s below)
    (ap₂ (λ a b. a || b) (same_added language input_word owner is_implied s below) (same_added language output_word owner is_implied s below))

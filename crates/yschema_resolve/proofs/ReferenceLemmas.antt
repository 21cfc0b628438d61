-- References that are wrong.
use Rattle.std.proofs.Common.{◌≡◌, ◌||◌, ℕ, Bool, true, false, List, Option, sym, ap, ap₂, ◌∙◌}
use Rattle.std.specs.List.{list_any}
use Rattle.yspec.specs.linking.Arguments.{Name}
use Rattle.yspec.specs.linking.Planned.{Planned, Plan, target_meant, is_on_circle}
use Rattle.yspec.specs.linking.NodeBreaks.{is_wrong_target, is_wrong_member, is_wrong_reference}
use Rattle.yspec.specs.linking.TypeStatements.{Member, Meant, of_target, of_union}

pub either_way : (plan : Plan) (p : Planned) (m : Meant) (home : ℕ) (steps : List Name) (required : Bool) → m ≡ of_target home steps required
    → (t : Option Planned) → t ≡ target_meant plan p m → (on w : Bool) → on ≡ is_on_circle plan p → w ≡ is_wrong_target p required t
    → (w || on) ≡ is_wrong_reference plan p m
either_way plan p m home steps required is t t_is on w on_is w_is =
    ap₂ (λ a b. a || b) (w_is ∙ ap (is_wrong_target p required) (t_is ∙ ap (target_meant plan p) is)) on_is ∙ sym (ap (is_wrong_reference plan p) is)

pub either_member : (plan : Plan) (p : Planned) (m : Meant) (members : List Member) → m ≡ of_union members → (on w : Bool) → on ≡ is_on_circle plan p
    → w ≡ list_any (is_wrong_member plan p) members → (w || on) ≡ is_wrong_reference plan p m
either_member plan p m members is on w on_is w_is = ap₂ (λ a b. a || b) w_is on_is ∙ sym (ap (is_wrong_reference plan p) is)

pub first_holds : (w on : Bool) → w ≡ true → w ≡ (w || on)
first_holds w on e = e ∙ sym (ap (λ b. b || on) e)

pub second_tells : (w on : Bool) → w ≡ false → on ≡ (w || on)
second_tells w on e = sym (ap (λ b. b || on) e)

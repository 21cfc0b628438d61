-- Values of one order are one.
use Rattle.std.proofs.Common.{◌≡◌, ℕ, zero, suc, ℤ, pos, negsuc, cond, eqb, Bool, true, false, List, Option, Some, None, refl, sym, ap, ◌∙◌, arith}
use Rattle.std.specs.declared.cmp.Ordering.{Ordering}
use Rattle.std.specs.declared.cmp.Ordering.TheVariants.{Less, Equal, Greater}
use Rattle.std.specs.Ordering.{ordering_then, is_eq, nat_cmp, int_cmp}
use Rattle.std.specs.Cmp.Lexicographic.{slice_cmp}
use Rattle.std.specs.Cmp.{IsTotalOrder}
use Rattle.std.specs.FinMap.{nat_cmp-IsAntisymmetric, int_cmp-IsAntisymmetric, slice_cmp-IsAntisymmetric}
use Rattle.std.proofs.lemmas.Cmp.{tied_itself, nat_cmp_total, on_total, then_total, nat_list_cmp_total, int_cmp_total, lists_total}
use Rattle.yspec.specs.text.Text.{Text}
use Rattle.yspec.specs.types.Types.{Content, text_value, number_value, bool_value, empty_value, bits_value, octets_value, Val}
use Rattle.yspec.specs.types.Order.{member_number, kind_number, text_part, number_part, bits_part, member_of, content_of, content_cmp, value_cmp, TellsValues}

both_tied : (a b : Ordering) → ordering_then a b ≡ Equal → (a ≡ Equal) × (b ≡ Equal)
both_tied Less b e = absurd cc
both_tied Equal b e = (refl, e)
both_tied Greater b e = absurd cc

is_tied : (o : Ordering) → is_eq o ≡ true → o ≡ Equal
is_tied Less e = absurd cc
is_tied Equal e = refl
is_tied Greater e = absurd cc

flag : ℤ → Bool
flag (pos n) = cond (eqb n 0) false true
flag (negsuc n) = true

-- a value from its parts
rebuilt : ℕ → Text → ℤ → List ℤ → Content
rebuilt zero t z zs = text_value t
rebuilt (suc zero) t z zs = number_value z
rebuilt (suc (suc zero)) t z zs = bool_value (flag z)
rebuilt (suc (suc (suc zero))) t z zs = empty_value
rebuilt (suc (suc (suc (suc zero)))) t z zs = bits_value zs
rebuilt (suc (suc (suc (suc (suc n))))) t z zs = octets_value t

is_rebuilt : (c : Content) → rebuilt (kind_number c) (text_part c) (number_part c) (bits_part c) ≡ c
unfolding rebuilt flag
is_rebuilt (text_value t) = refl
is_rebuilt (number_value z) = refl
is_rebuilt (bool_value true) = refl
is_rebuilt (bool_value false) = refl
is_rebuilt empty_value = refl
is_rebuilt (bits_value zs) = refl
is_rebuilt (octets_value octets) = refl

same_content : (c d : Content) → content_cmp c d ≡ Equal → c ≡ d
same_content c d e =
    let a = both_tied (nat_cmp (kind_number c) (kind_number d)) _ e in
    let b = both_tied (slice_cmp nat_cmp (text_part c) (text_part d)) _ a.1 in
    let f = both_tied (int_cmp (number_part c) (number_part d)) _ b.1 in
    let k : kind_number c ≡ kind_number d = nat_cmp-IsAntisymmetric _ _ a.0 in
    let t : text_part c ≡ text_part d = slice_cmp-IsAntisymmetric nat_cmp-IsAntisymmetric _ _ b.0 in
    let z : number_part c ≡ number_part d = int_cmp-IsAntisymmetric _ _ f.0 in
    let zs : bits_part c ≡ bits_part d = slice_cmp-IsAntisymmetric int_cmp-IsAntisymmetric _ _ f.1 in
    let r : rebuilt (kind_number c) (text_part c) (number_part c) (bits_part c) ≡ rebuilt (kind_number d) (text_part d) (number_part d) (bits_part d) = rw (k, t, z, zs) refl in
    sym (is_rebuilt c) ∙ r ∙ is_rebuilt d

same_member : (m n : Option ℕ) → member_number m ≡ member_number n → m ≡ n
same_member None None e = refl
same_member None (Some n) e = absurd (omega (arith, e))
same_member (Some m) None e = absurd (omega (arith, e))
same_member (Some m) (Some n) e = ap Some (omega (arith, e))

same_parts : (v w : Val) → v.member ≡ w.member → v.content ≡ w.content → v ≡ w
same_parts v w m c =
    let made : Option ℕ → Content → Val = λ n d. record { member = n; content = d } in
    ap (λ (n : Option ℕ). made n v.content) m ∙ ap (λ (d : Content). made w.member d) c

pub content_total : IsTotalOrder content_cmp
content_total = then_total (on_total kind_number nat_cmp_total) (then_total (on_total text_part nat_list_cmp_total) (then_total (on_total number_part int_cmp_total) (on_total bits_part (lists_total int_cmp_total))))

pub value_total : IsTotalOrder value_cmp
value_total = then_total (on_total member_of nat_cmp_total) (on_total content_of content_total)

pub tells_values : TellsValues
tells_values v w = (
  λ e.
      let p = both_tied (nat_cmp (member_of v) (member_of w)) _ (is_tied (value_cmp v w) e) in
      same_parts v w (same_member _ _ (nat_cmp-IsAntisymmetric _ _ p.0)) (same_content _ _ p.1),
  λ e. rw e (ap is_eq (tied_itself value_total w)),
)

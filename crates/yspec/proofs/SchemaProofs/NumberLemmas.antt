-- Schema nodes by their numbers.
use Rattle.std.proofs.Common.{◌≡◌, ℕ, Bool, true, false, cond, Option, Some, None, refl, sym, ap, ◌∙◌}
use Rattle.std.specs.Prelude.{◌==◌, unwrap_or}
use Rattle.std.proofs.lemmas.Bool.Decides.{Decides-eqb}
use Rattle.yspec.specs.Forest.{Forest, node, end, find_label, first_of}
use Rattle.yspec.specs.schema.Schema.{SchemaNode}

-- a node that is found by a number has it
pub number_at : (f : Forest SchemaNode) (i : ℕ) (n : SchemaNode) → find_label (λ n. n.number == i) f ≡ Some n → n.number ≡ i
number_at end i n e = absurd cc
number_at (node l below after) i n e = by (l.number == i) refl (find_label (λ n. n.number == i) below) refl e (number_at below i n) (number_at after i n)
  where
    by : (b : Bool) → (l.number == i) ≡ b → (o : Option SchemaNode) → find_label (λ n. n.number == i) below ≡ o
        → cond b (Some l) (first_of o (find_label (λ n. n.number == i) after)) ≡ Some n
        → (find_label (λ n. n.number == i) below ≡ Some n → n.number ≡ i) → (find_label (λ n. n.number == i) after ≡ Some n → n.number ≡ i) → n.number ≡ i
    by true here o is e inner rest = ap (λ (o : Option SchemaNode). (unwrap_or o n).number) (sym e) ∙ (Decides-eqb l.number i).0 here
    by false here (Some m) is e inner rest = inner (is ∙ e)
    by false here None is e inner rest = rest e

-- For callers: what is added to a row taken out again, and where a node is that stands once.
use Rattle.std.proofs.Common.{◌≡◌, ◌+◌, ◌-◌, ◌<◌, ◌≤◌, ℕ, zero, suc, Bool, true, false, cond, List, [], ◌∷◌, length, refl, sym, subst, ap, ◌∙◌, arith, ltb, leb, insert, remove, one-add}
use Rattle.std.specs.List.{prefix_len}
use Rattle.std.proofs.lemmas.Bool.{le-leb, le-ltb, lt-ltb}
use Rattle.std.proofs.lemmas.List.Sums.{prefix_len-le-length}
use Rattle.ystore_rows.specs.Rows.{Child, added, without_last, first_place, end_place}
pub use Rattle.ystore_rows.proofs.NearLemmas.{near_once}

behind_prefix : (p : Child → Bool) (row : List Child) (y : Child) → p y ≡ true → prefix_len p (insert row (prefix_len p row) y) ≡ suc (prefix_len p row)
behind_prefix p [] y passes = ap (λ b. cond b (1 + 0) 0) passes
behind_prefix p (c ∷ cs) y passes = by (behind_prefix p cs y passes) (p c) refl
  where
    further : prefix_len p (insert cs (prefix_len p cs) y) ≡ suc (prefix_len p cs) → p c ≡ true
        → (i : ℕ) → i ≡ suc (prefix_len p cs) → prefix_len p (insert (c ∷ cs) i y) ≡ suc i
    further later here i is =
        subst (λ (j : ℕ). prefix_len p (insert (c ∷ cs) j y) ≡ suc j) (sym is)
        (ap (λ b. cond b (1 + prefix_len p (insert cs (prefix_len p cs) y)) 0) here
        ∙ (ap (λ n. 1 + n) later ∙ one-add (suc (prefix_len p cs))))

    by : prefix_len p (insert cs (prefix_len p cs) y) ≡ suc (prefix_len p cs)
        → (b : Bool) → p c ≡ b → prefix_len p (insert (c ∷ cs) (prefix_len p (c ∷ cs)) y) ≡ suc (prefix_len p (c ∷ cs))
    by later true here = further later here (prefix_len p (c ∷ cs)) (ap (λ b. cond b (1 + prefix_len p cs) 0) here ∙ one-add (prefix_len p cs))
    by later false here =
        subst (λ (i : ℕ). prefix_len p (insert (c ∷ cs) i y) ≡ suc i) (sym (ap (λ b. cond b (1 + prefix_len p cs) 0) here))
        (ap (λ b. cond b (1 + prefix_len p (c ∷ cs)) 0) passes ∙ ap (λ b. 1 + cond b (1 + prefix_len p cs) 0) here)

before_prefix : (p q : Child → Bool) (row : List Child) (y : Child) → q y ≡ false → prefix_len q (insert row (prefix_len p row) y) ≤ prefix_len p row
before_prefix p q [] y fails = rw fails (omega arith)
before_prefix p q (c ∷ cs) y fails = by (before_prefix p q cs y fails) (p c) refl
  where
    less : (b : Bool) (m n : ℕ) → m ≤ n → cond b (1 + m) 0 ≤ suc n
    less true m n within = omega (arith, within)
    less false m n within = omega arith

    by : prefix_len q (insert cs (prefix_len p cs) y) ≤ prefix_len p cs
        → (b : Bool) → p c ≡ b → prefix_len q (insert (c ∷ cs) (prefix_len p (c ∷ cs)) y) ≤ prefix_len p (c ∷ cs)
    by later true here =
        subst (λ (i : ℕ). prefix_len q (insert (c ∷ cs) i y) ≤ i) (sym (ap (λ b. cond b (1 + prefix_len p cs) 0) here ∙ one-add (prefix_len p cs)))
        (less (q c) (prefix_len q (insert cs (prefix_len p cs) y)) (prefix_len p cs) later)
    by later false here =
        subst (λ (i : ℕ). prefix_len q (insert (c ∷ cs) i y) ≤ i) (sym (ap (λ b. cond b (1 + prefix_len p cs) 0) here))
        (rw fails (omega arith))

pub out_again : (row : List Child) (i : ℕ) (y : Child) → i ≤ length row → remove (insert row i y) i ≡ row
out_again [] zero y within = refl
out_again [] (suc i) y within = absurd (omega (arith, within))
out_again (c ∷ cs) zero y within = refl
out_again (c ∷ cs) (suc i) y within = ap (λ xs. c ∷ xs) (out_again cs i y (omega (arith, within)))

pub added_is_last : (child : Child) (row : List Child) → without_last child.0 (added child row) ≡ row
added_is_last child row =
    let last = end_place child.0 row in
    let made = added child row in
    let end_is : end_place child.0 made ≡ suc last = behind_prefix (λ c. leb c.0.0 child.0.0) row child (le-leb child.0.0 child.0.0 (omega arith)) in
    let first = before_prefix (λ c. leb c.0.0 child.0.0) (λ c. ltb c.0.0 child.0.0) row child (le-ltb child.0.0 child.0.0 (omega arith)) in
    let is_there : ltb (first_place child.0 made) (end_place child.0 made) ≡ true = lt-ltb (first_place child.0 made) (end_place child.0 made) (omega (arith, end_is, first)) in
    let there : end_place child.0 made - 1 ≡ last = omega (arith, end_is) in
    ap (λ b. cond b (remove made (end_place child.0 made - 1)) made) is_there
    ∙ (ap (remove made) there
    ∙ out_again row last child (prefix_len-le-length (λ c. leb c.0.0 child.0.0) row))

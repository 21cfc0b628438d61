-- What nodes of a forest weigh, without a part of it whose nodes weigh nothing.
use Rattle.std.proofs.Common.{◌≡◌, ℕ, ◌+◌, ◌≤◌, ◌<◌, Bool, true, false, cond, refl, sym, ap, ap₂, ◌∙◌, arith, ltb}
use Rattle.std.proofs.lemmas.Bool.{ltb-true, ltb-false, lt-ltb, eq-eqb}
use Rattle.yspec.specs.Forest.{end, node, weigh}
use Rattle.yspec.specs.document.Document.{Stored}
use Rattle.ystore_rows.specs.declared.row.Row.{Row}
use Rattle.ystore_rows.specs.declared.row.Row.TheVariants.{Below}
use Rattle.ystore_tree.specs.Hanging.{Numbered, Branches, stored_of, tree_of, times}
use Rattle.ystore_tree.proofs.HangingLemmas.{is_itself}
use Rattle.ylive_retell.specs.Each.{Each}

-- ---- sums

pub weigh_none : (f : Branches) → weigh (λ n. 0) f ≡ 0
weigh_none end = refl
weigh_none (node n below after) = let first = weigh_none below in let rest = weigh_none after in omega (arith, first, rest)

pub weigh_both : (a b : Numbered → ℕ) (f : Branches) → weigh a f + weigh b f ≡ weigh (λ n. a n + b n) f
weigh_both a b end = refl
weigh_both a b (node n below after) = let first = weigh_both a b below in let rest = weigh_both a b after in omega (arith, first, rest)

pub weigh_if : (b : Bool) (a : Numbered → ℕ) (f : Branches) → cond b (weigh a f) 0 ≡ weigh (λ n. cond b (a n) 0) f
weigh_if true a f = refl
weigh_if false a f = sym (weigh_none f)

pub weigh_tree : (w : Stored → ℕ) (f : Branches) → weigh w (tree_of f) ≡ weigh (λ n. w (stored_of n)) f
weigh_tree w end = refl
weigh_tree w (node n below after) = let first = weigh_tree w below in let rest = weigh_tree w after in omega (arith, first, rest)

-- ---- a part

module _ (part : Branches) (a c : Numbered → ℕ) where
  -- what the nodes of the part weigh in all
  abbrev inside : Numbered → ℕ
  inside n = cond (ltb 0 (times n.id.0 part)) (c n) 0

  inside_is : (n : Numbered) → 1 ≤ times n.id.0 part → inside n ≡ c n
  inside_is n here = ap (λ b. cond b (c n) 0) (lt-ltb 0 (times n.id.0 part) (omega (arith, here)))

  all_inside : (f : Branches) → ((k : ℕ) → times k f ≤ times k part) → weigh c f ≤ weigh inside f
  all_inside end of = omega arith
  all_inside (node n below after) of =
      let here = is_itself n in
      let among = of n.id.0 in
      let own = inside_is n (omega (arith, here, among)) in
      let first = all_inside below (λ k. let so = of k in omega (arith, so)) in
      let rest = all_inside after (λ k. let so = of k in omega (arith, so)) in
      omega (arith, own, first, rest)

  -- a node of the part weighs nothing, another no more than it may
  abbrev pub IsPaid : Row → Numbered → Branches → Type 0
  IsPaid above n below = (1 ≤ times n.id.0 part → a n ≡ 0) × (a n ≤ c n)

  both_paid : (n : Numbered) → (1 ≤ times n.id.0 part → a n ≡ 0) → a n ≤ c n → a n + inside n ≤ c n
  both_paid n none most = by (ltb 0 (times n.id.0 part)) refl
    where
      by : (b : Bool) → ltb 0 (times n.id.0 part) ≡ b → a n + cond b (c n) 0 ≤ c n
      by true e = let some = ltb-true 0 (times n.id.0 part) e in let zero = none (omega (arith, some)) in omega (arith, zero)
      by false e = omega (arith, most)

  all_paid : (above : Row) (f : Branches) → Each IsPaid above f → weigh a f + weigh inside f ≤ weigh c f
  all_paid above end each = omega arith
  all_paid above (node n below after) each =
      let own = both_paid n each.0.0 each.0.1 in
      let first = all_paid (Below n.id) below each.1 in
      let rest = all_paid above after each.2 in
      omega (arith, own, first, rest)

  -- so there is room for what the part may weigh
  pub paid_beside : (above : Row) (f : Branches) → ((w : Numbered → ℕ) → weigh w part ≤ weigh w f) → Each IsPaid above f → weigh a f + weigh c part ≤ weigh c f
  paid_beside above f within each =
      let all = all_paid above f each in
      let some = all_inside part (λ k. omega arith) in
      let less = within inside in
      omega (arith, all, some, less)

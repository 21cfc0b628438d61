-- What is told of new nodes, one after another.
use Rattle.std.proofs.Common.{◌≡◌, ℕ, suc, ◌+◌, ◌*◌, ◌≤◌, Bool, true, false, ◌||◌, List, [], ◌∷◌, length, option_map, refl, sym, ap, ◌∙◌, arith, cond, eqb}
use Rattle.std.specs.List.{list_any}
use Rattle.std.proofs.lemmas.Bool.{false≢true}
use Rattle.ystore.specs.Held.{Told}
use Rattle.ystore.specs.Store.{same_row}
use Rattle.ystore_rows.specs.declared.row.NodeId.{NodeId}
use Rattle.ystore_rows.specs.declared.row.Row.{Row}
use Rattle.ystore_rows.specs.declared.row.Row.TheVariants.{Below}
use Rattle.ystore.specs.declared.nodes.Nodes.{Nodes}
use Rattle.ystore_tree.specs.Hanging.{Branches}
use Rattle.ylive_marks.specs.Totals.{told_at, judged_at}
use Rattle.ylive_retell.specs.Telling.{AreNew, told_by, with_news}
use Rattle.ylive_retell.specs.declared.account.News.{News}

abbrev Step : News → Nodes → Nodes → Type 0
Step n before after = (row : Row) → told_at after row ≡ cond (same_row (Below n.id) row) (option_map (with_news n) (told_at before row)) (told_at before row)

-- the others are still new
module _ (f : Branches) (n : News) (before after : Nodes) (told : Step n before after) where
  judged_same : (id : NodeId) → eqb n.id.0 id.0 ≡ false → judged_at after id ≡ judged_at before id
  judged_same id other =
      ap (option_map (λ (t : Told). t.judged)) (told (Below id) ∙ ap (λ b. cond b (option_map (with_news n) (told_at before (Below id))) (told_at before (Below id))) other)

  either : (a b : Bool) → (a || b) ≡ false → (a ≡ false) × (b ≡ false)
  either true b e = absurd (false≢true (sym e))
  either false b e = (refl, e)

  pub still_new : (ns : List News) → list_any (λ (m : News). eqb n.id.0 m.id.0) ns ≡ false → AreNew before f ns → AreNew after f ns
  still_new [] others new = tt
  still_new (m ∷ ms) others new =
      let both = either (eqb n.id.0 m.id.0) (list_any (λ (k : News). eqb n.id.0 k.id.0) ms) others in
      (new.0, judged_same m.id both.0 ∙ new.1, new.2, new.3, still_new ms both.1 new.4)

-- one is told
pub told_on : (rest : List News) (n : News) (all : List News) (row : Row) (first before after : Nodes) → Step n before after
    → told_by (n ∷ rest) row (told_at before row) ≡ told_by all row (told_at first row) → told_by rest row (told_at after row) ≡ told_by all row (told_at first row)
told_on rest n all row first before after told so = ap (told_by rest row) (told row) ∙ so

pub none_left : (ns : List News) → length ns ≡ 0 → ns ≡ []
none_left [] none = refl
none_left (n ∷ ns) none = absurd (omega (arith, none))

-- what is read to tell of one more
pub read_news : (n : News) (whole rest all : List News) (cost first before after : ℕ) → whole ≡ n ∷ rest → before + length whole * cost ≤ first + length all * cost
    → after ≤ before + cost → after + length rest * cost ≤ first + length all * cost
read_news n whole rest all cost first before after is so_far one =
    let e : length whole * cost ≡ suc (length rest) * cost = ap (λ (ns : List News). length ns * cost) is in
    omega (arith, e, so_far, one)

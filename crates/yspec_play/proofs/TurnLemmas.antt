-- What is in play of a row where the instances of one schema node come or go: it changes at the child of the row that is
-- over that node, and nowhere else.
use Rattle.std.proofs.Common.{◌≡◌, ℕ, suc, ◌+◌, ◌<◌, ◌≤◌, Bool, true, false, cond, eqb, ltb, ltb-true, lt-ltb, eqb-true, ◌||◌, List, [], ◌∷◌, ◌++◌, length, take, drop, Option, Some, None, refl, sym, ap, ap₂, ◌∙◌, subst, arith, append_assoc, length-append}
use Rattle.std.specs.Prelude.{is_some}
use Rattle.std.proofs.lemmas.Bool.{false≢true}
use Rattle.std.proofs.lemmas.List.{append-nil}
use Rattle.yspec.specs.Forest.{Forest, end, node, size, first_of}
use Rattle.yspec.specs.schema.Schema.{SchemaNode, Kind, container, leaf, leaf_list, list, choice, case, is_data, node_in}
use Rattle.yspec.specs.document.Fitting.{IsNumbered}
use Rattle.yspec.specs.document.Play.{cases, stored_among, stored_cases, or_default, stored_inside}
use Rattle.yspec_play.specs.Absences.{Absent, Default, absent_leaf_told, amount_told, choice_told, node_absences, absences_in, absent_leaf_default, node_defaults, defaults_in, told_at, used_at}
use Rattle.yspec_play.specs.Over.{AlikeBut, child_over, told_over, used_over, told_before, number_over, told_instead}
use Rattle.yspec_play.proofs.AbsenceLemmas.{Between, absences_between}
use Rattle.yspec_play.proofs.OverLemmas.{within}

-- ---- nodes of other numbers

-- no node of a row or below it has that number
abbrev Without : ℕ → Forest SchemaNode → Type 0
Without s end = Unit {0}
Without s (node n below after) = (eqb n.number s ≡ false) × Without s below × Without s after

-- counts that differ at that number alone
abbrev pub Alike : ℕ → (ℕ → ℕ) → (ℕ → ℕ) → Type 0
Alike s old new = (m : ℕ) → eqb m s ≡ false → old m ≡ new m

without_none : (f : Forest SchemaNode) (s : ℕ) → is_some (node_in f s) ≡ false → Without s f
without_none end s none = tt
without_none (node n below after) s none = by (eqb n.number s) refl none (node_in below s) refl (without_none below s) (without_none after s)
  where
    by : (b : Bool) → eqb n.number s ≡ b → is_some (cond b (Some n) (first_of (node_in below s) (node_in after s))) ≡ false
        → (o : Option SchemaNode) → node_in below s ≡ o → (is_some (node_in below s) ≡ false → Without s below) → (is_some (node_in after s) ≡ false → Without s after)
        → (eqb n.number s ≡ false) × Without s below × Without s after
    by true e is o inner_is inner later = absurd cc
    by false e is (Some m) inner_is inner later =
        absurd (false≢true (sym is ∙ ap (λ o. is_some (first_of o (node_in after s))) inner_is))
    by false e is None inner_is inner later =
        (e, inner (ap is_some inner_is), later (sym (ap (λ o. is_some (first_of o (node_in after s))) inner_is) ∙ is))

-- those of a row whose numbers begin behind it
without_behind : (f : Forest SchemaNode) (k s : ℕ) → IsNumbered k f → s < k → Without s f
without_behind end k s numbered less = tt
without_behind (node n below after) k s numbered less =
    (apart (eqb n.number s) refl, without_behind below (k + 1) s numbered.1 (omega (arith, less)), without_behind after (k + 1 + size below) s numbered.2 (omega (arith, less)))
  where
    apart : (b : Bool) → eqb n.number s ≡ b → eqb n.number s ≡ false
    apart false e = e
    apart true e =
        let same = eqb-true n.number s e in
        let here = numbered.0 in
        absurd (omega (arith, same, here, less))

-- ---- they have the same in play

among_same : (s : ℕ) (old new : ℕ → ℕ) (f : Forest SchemaNode) → Without s f → Alike s old new → stored_among old f ≡ stored_among new f
among_same s old new end none alike = refl
among_same s old new (node n below after) none alike = ap₂ ◌+◌ (by (is_data n.kind) (among_same s old new below none.1 alike)) (among_same s old new after none.2 alike)
  where
    by : (b : Bool) → stored_among old below ≡ stored_among new below → cond b (old n.number) (stored_among old below) ≡ cond b (new n.number) (stored_among new below)
    by true inner = alike n.number none.0
    by false inner = inner

cases_same : (s : ℕ) (old new : ℕ → ℕ) (f : Forest SchemaNode) → Without s f → Alike s old new → stored_cases old f ≡ stored_cases new f
cases_same s old new end none alike = refl
cases_same s old new (node n below after) none alike =
    ap₂ ◌++◌ (ap (λ k. cond (ltb 0 k) (n.number ∷ []) []) (among_same s old new below none.1 alike)) (cases_same s old new after none.2 alike)

chosen_same : (s : ℕ) (old new : ℕ → ℕ) (kind : Kind) (f : Forest SchemaNode) → Without s f → Alike s old new → cases old kind f ≡ cases new kind f
chosen_same s old new (container presence) f none alike = refl
chosen_same s old new (leaf type absence) f none alike = refl
chosen_same s old new (leaf_list type defaults amount) f none alike = refl
chosen_same s old new (list tuples amount) f none alike = refl
chosen_same s old new (choice default_case is_mandatory) f none alike = ap (or_default default_case) (cases_same s old new f none alike)
chosen_same s old new case f none alike = refl

inside_alike : (s : ℕ) (old new : ℕ → ℕ) (kind : Kind) → Alike s old new → Alike s (stored_inside kind old) (stored_inside kind new)
inside_alike s old new (container presence) alike = λ m other. refl
inside_alike s old new (leaf type absence) alike = alike
inside_alike s old new (leaf_list type defaults amount) alike = alike
inside_alike s old new (list tuples amount) alike = alike
inside_alike s old new (choice default_case is_mandatory) alike = alike
inside_alike s old new case alike = alike

absences_same_at : (old new : ℕ → ℕ) (chosen : List ℕ) (n : SchemaNode) (kind : Kind) (below : Forest SchemaNode) (inside : List Absent)
    → old n.number ≡ new n.number → stored_cases old below ≡ stored_cases new below → node_absences old chosen n kind below inside ≡ node_absences new chosen n kind below inside
absences_same_at old new chosen n (container presence) below inside same cased = ap (λ k. cond (ltb 0 k) [] (cond presence [] inside)) same
absences_same_at old new chosen n (leaf type absence) below inside same cased = ap (λ k. cond (ltb 0 k) [] (absent_leaf_told n.number absence)) same
absences_same_at old new chosen n (leaf_list type defaults amount) below inside same cased = ap (λ k. amount_told n.number amount k) same
absences_same_at old new chosen n (list tuples amount) below inside same cased = ap (λ k. amount_told n.number amount k) same
absences_same_at old new chosen n (choice default_case is_mandatory) below inside same cased = ap (λ cs. choice_told n.number is_mandatory cs ++ inside) cased
absences_same_at old new chosen n case below inside same cased = refl

defaults_same_at : (old new : ℕ → ℕ) (chosen : List ℕ) (n : SchemaNode) (kind : Kind) (inside : List Default)
    → old n.number ≡ new n.number → node_defaults old chosen n kind inside ≡ node_defaults new chosen n kind inside
defaults_same_at old new chosen n (container presence) inside same = ap (λ k. cond (ltb 0 k) [] (cond presence [] inside)) same
defaults_same_at old new chosen n (leaf type absence) inside same = ap (λ k. cond (ltb 0 k) [] (absent_leaf_default n.number absence)) same
defaults_same_at old new chosen n (leaf_list type defaults amount) inside same = ap (λ k. node_defaults (λ m. k) chosen n (leaf_list type defaults amount) inside) same
defaults_same_at old new chosen n (list tuples amount) inside same = refl
defaults_same_at old new chosen n (choice default_case is_mandatory) inside same = refl
defaults_same_at old new chosen n case inside same = refl

absences_same : (s : ℕ) (old new : ℕ → ℕ) (chosen : List ℕ) (f : Forest SchemaNode) → Without s f → Alike s old new → absences_in old chosen f ≡ absences_in new chosen f
unfolding absences_in
absences_same s old new chosen end none alike = refl
absences_same s old new chosen (node n below after) none alike =
    ap₂ ◌++◌ (absences_same_at old new chosen n n.kind below (absences_in (stored_inside n.kind old) (cases old n.kind below) below)
    (alike n.number none.0) (cases_same s old new below none.1 alike)
    ∙ ap (node_absences new chosen n n.kind below) (ap (λ cs. absences_in (stored_inside n.kind old) cs below) (chosen_same s old new n.kind below none.1 alike)
    ∙ absences_same s (stored_inside n.kind old) (stored_inside n.kind new) (cases new n.kind below) below none.1 (inside_alike s old new n.kind alike)))
    (absences_same s old new chosen after none.2 alike)

defaults_same : (s : ℕ) (old new : ℕ → ℕ) (chosen : List ℕ) (f : Forest SchemaNode) → Without s f → Alike s old new → defaults_in old chosen f ≡ defaults_in new chosen f
unfolding defaults_in
defaults_same s old new chosen end none alike = refl
defaults_same s old new chosen (node n below after) none alike =
    ap₂ ◌++◌ (defaults_same_at old new chosen n n.kind (defaults_in (stored_inside n.kind old) (cases old n.kind below) below) (alike n.number none.0)
    ∙ ap (node_defaults new chosen n n.kind) (ap (λ cs. defaults_in (stored_inside n.kind old) cs below) (chosen_same s old new n.kind below none.1 alike)
    ∙ defaults_same s (stored_inside n.kind old) (stored_inside n.kind new) (cases new n.kind below) below none.1 (inside_alike s old new n.kind alike)))
    (defaults_same s old new chosen after none.2 alike)

-- ---- the child over the node

around_more : {X : Type 0} (old_part new_part old new first second : List X) → first ≡ second → AlikeBut old_part new_part old new
    → AlikeBut old_part new_part (first ++ old) (second ++ new)
around_more old_part new_part old new first second same so =
    record {
      front = first ++ so.front;
      back = so.back;
      old_is = ap (λ xs. first ++ xs) so.old_is ∙ sym (append_assoc first so.front (old_part ++ so.back));
      new_is = ap₂ ◌++◌ (sym same) so.new_is ∙ sym (append_assoc first so.front (new_part ++ so.back));
    }

-- of a row's node that is over a number, and of one that isn't
over_false : (n : SchemaNode) (below : Forest SchemaNode) (s : ℕ) → (eqb n.number s || is_some (node_in below s)) ≡ false → (eqb n.number s ≡ false) × (is_some (node_in below s) ≡ false)
over_false n below s e = by (eqb n.number s) refl e
  where
    by : (b : Bool) → eqb n.number s ≡ b → (b || is_some (node_in below s)) ≡ false → (eqb n.number s ≡ false) × (is_some (node_in below s) ≡ false)
    by true same is = absurd cc
    by false other is = (other, is)

over_less : (n : SchemaNode) (below : Forest SchemaNode) (k s : ℕ) → n.number ≡ k → IsNumbered (k + 1) below → (eqb n.number s || is_some (node_in below s)) ≡ true → s < k + 1 + size below
over_less n below k s here numbered e = by (eqb n.number s) refl e
  where
    by : (b : Bool) → eqb n.number s ≡ b → (b || is_some (node_in below s)) ≡ true → s < k + 1 + size below
    by true same is = let number = eqb-true n.number s same in omega (arith, here, number)
    by false other is = let high = (within below (k + 1) s numbered is).1 in omega (arith, high)

module _ (s : ℕ) (old new : ℕ → ℕ) (alike : Alike s old new) where
  used_around : (f : Forest SchemaNode) (k : ℕ) → IsNumbered k f
      → AlikeBut (used_over old (child_over f s)) (used_over new (child_over f s)) (defaults_in old [] f) (defaults_in new [] f)
  unfolding defaults_in
  used_around end k numbered = record { front = []; back = []; old_is = refl; new_is = refl }
  used_around (node n below after) k numbered = by (eqb n.number s || is_some (node_in below s)) refl (used_around after (k + 1 + size below) numbered.2)
    where
      by : (b : Bool) → (eqb n.number s || is_some (node_in below s)) ≡ b
          → AlikeBut (used_over old (child_over after s)) (used_over new (child_over after s)) (defaults_in old [] after) (defaults_in new [] after)
          → AlikeBut (used_over old (cond b (Some (n, below)) (child_over after s))) (used_over new (cond b (Some (n, below)) (child_over after s)))
          (used_at old [] n below ++ defaults_in old [] after) (used_at new [] n below ++ defaults_in new [] after)
      by true e later =
          let less = over_less n below k s numbered.0 numbered.1 e in
          record {
            front = [];
            back = defaults_in old [] after;
            old_is = refl;
            new_is = ap (λ xs. used_at new [] n below ++ xs)
                (sym (defaults_same s old new [] after (without_behind after (k + 1 + size below) s numbered.2 less) alike));
          }
      by false e later =
          let apart = over_false n below s e in
          around_more (used_over old (child_over after s)) (used_over new (child_over after s)) (defaults_in old [] after) (defaults_in new [] after)
          (used_at old [] n below) (used_at new [] n below) (node_same (apart.0, without_none below s apart.1, tt)) later
        where
          node_same : Without s (node n below end) → used_at old [] n below ≡ used_at new [] n below
          node_same none =
              sym (append-nil (used_at old [] n below)) ∙ (defaults_same s old new [] (node n below end) none alike ∙ append-nil (used_at new [] n below))

  -- what is told of the row, with the number of the child before which the front stands
  pub record ToldAround (child : Option ℕ) (old_part new_part was now : List Absent) : Type 0 where
    pub front : List Absent
    pub back : List Absent
    pub old_is : was ≡ front ++ (old_part ++ back)
    pub new_is : now ≡ front ++ (new_part ++ back)
    pub first : told_before child (front ++ (old_part ++ back)) ≡ length front

  before_none : (xs : List Absent) (c least limit : ℕ) → Between least limit xs → c ≤ least → told_before (Some c) xs ≡ 0
  before_none [] c least limit between less = refl
  before_none (a ∷ xs) c least limit between less = by (ltb a.1 c) refl
    where
      by : (b : Bool) → ltb a.1 c ≡ b → cond b (suc (told_before (Some c) xs)) 0 ≡ 0
      by true e =
          let more = ltb-true a.1 c e in
          let low = between.0 in
          absurd (omega (arith, more, low, less))
      by false e = refl

  before_all : (xs ys : List Absent) (c least limit : ℕ) → Between least limit xs → limit ≤ c → told_before (Some c) (xs ++ ys) ≡ length xs + told_before (Some c) ys
  before_all [] ys c least limit between more = omega arith
  before_all (a ∷ xs) ys c least limit between more =
      let rest = before_all xs ys c (suc a.1) limit between.2 more in
      ap (λ b. cond b (suc (told_before (Some c) (xs ++ ys))) 0) (lt-ltb a.1 c (let high = between.1 in omega (arith, high, more)))
      ∙ omega (arith, rest)

  before_every : (xs : List Absent) → told_before None xs ≡ length xs
  before_every [] = refl
  before_every (a ∷ xs) = ap suc (before_every xs)

  child_behind : (f : Forest SchemaNode) (k : ℕ) (m : SchemaNode) (b : Forest SchemaNode) → IsNumbered k f → child_over f s ≡ Some (m, b) → k ≤ m.number
  child_behind end k m b numbered e = absurd cc
  child_behind (node n below after) k m b numbered e = by (eqb n.number s || is_some (node_in below s)) e (child_behind after (k + 1 + size below) m b numbered.2)
    where
      by : (d : Bool) → cond d (Some (n, below)) (child_over after s) ≡ Some (m, b) → (child_over after s ≡ Some (m, b) → k + 1 + size below ≤ m.number) → k ≤ m.number
      by true is later =
          let pair : ◌≡◌ {A = SchemaNode × Forest SchemaNode} (n, below) (m, b) = cc in
          let same = ap (λ p. p.0.number) pair in
          let here = numbered.0 in
          omega (arith, same, here)
      by false is later = let more = later is in omega (arith, more)

  told_around : (f : Forest SchemaNode) (k : ℕ) → IsNumbered k f
      → ToldAround (number_over (child_over f s)) (told_over old (child_over f s)) (told_over new (child_over f s)) (absences_in old [] f) (absences_in new [] f)
  unfolding absences_in around_more
  told_around end k numbered = record { front = []; back = []; old_is = refl; new_is = refl; first = refl }
  told_around (node n below after) k numbered =
      by (eqb n.number s || is_some (node_in below s)) refl (told_around after (k + 1 + size below) numbered.2)
      (absences_between (node n below after) k old [] numbered) (absences_between (node n below end) k old [] (numbered.0, numbered.1, tt))
    where
      by : (b : Bool) → (eqb n.number s || is_some (node_in below s)) ≡ b
          → ToldAround (number_over (child_over after s)) (told_over old (child_over after s)) (told_over new (child_over after s)) (absences_in old [] after) (absences_in new [] after)
          → Between k (k + size (node n below after)) (told_at old [] n below ++ absences_in old [] after)
          → Between k (k + size (node n below end)) (told_at old [] n below ++ [])
          → ToldAround (number_over (cond b (Some (n, below)) (child_over after s))) (told_over old (cond b (Some (n, below)) (child_over after s)))
          (told_over new (cond b (Some (n, below)) (child_over after s))) (told_at old [] n below ++ absences_in old [] after) (told_at new [] n below ++ absences_in new [] after)
      by true e later all here =
          let less = over_less n below k s numbered.0 numbered.1 e in
          record {
            front = [];
            back = absences_in old [] after;
            old_is = refl;
            new_is = ap (λ xs. told_at new [] n below ++ xs)
                (sym (absences_same s old new [] after (without_behind after (k + 1 + size below) s numbered.2 less) alike));
            first = before_none (told_at old [] n below ++ absences_in old [] after) n.number k (k + size (node n below after)) all
                (let number = numbered.0 in omega (arith, number));
          }
      by false e later all here =
          let apart = over_false n below s e in
          let told = told_at old [] n below in
          let left = told_over old (child_over after s) in
          let more = around_more left (told_over new (child_over after s)) (absences_in old [] after) (absences_in new [] after)
          told (told_at new [] n below) (node_same (apart.0, without_none below s apart.1, tt))
          (record { front = later.front; back = later.back; old_is = later.old_is; new_is = later.new_is }) in
          record {
            front = told ++ later.front;
            back = later.back;
            old_is = more.old_is;
            new_is = more.new_is;
            first = ap (told_before (number_over (child_over after s))) (append_assoc told later.front (left ++ later.back))
                ∙ (ahead (child_over after s) refl (later.front ++ (left ++ later.back))
                ∙ (ap (λ m. length told + m) later.first ∙ sym (length-append told later.front)));
          }
        where
          node_same : Without s (node n below end) → told_at old [] n below ≡ told_at new [] n below
          node_same none =
              sym (append-nil (told_at old [] n below)) ∙ (absences_same s old new [] (node n below end) none alike ∙ append-nil (told_at new [] n below))

          ahead : (o : Option (SchemaNode × Forest SchemaNode)) → child_over after s ≡ o → (rest : List Absent)
              → told_before (number_over o) (told_at old [] n below ++ rest) ≡ length (told_at old [] n below) + told_before (number_over o) rest
          ahead None is rest =
              before_every (told_at old [] n below ++ rest) ∙ (length-append (told_at old [] n below) rest ∙ ap (λ m. length (told_at old [] n below) + m) (sym (before_every rest)))
          ahead (Some (m, b)) is rest =
              let behind = child_behind after (k + 1 + size below) m b numbered.2 is in
              before_all (told_at old [] n below) rest m.number k (k + size (node n below end))
              (subst (Between k (k + size (node n below end))) (append-nil (told_at old [] n below)) here) (omega (arith, behind))

-- ---- what is told then

take_front : {X : Type 0} (xs ys : List X) → take (length xs) (xs ++ ys) ≡ xs
take_front [] ys = refl
take_front (x ∷ xs) ys = ap (λ zs. x ∷ zs) (take_front xs ys)

drop_first : {X : Type 0} (xs ys : List X) → drop (length xs) (xs ++ ys) ≡ ys
drop_first [] ys = refl
drop_first (x ∷ xs) ys = drop_first xs ys

drop_front : {X : Type 0} (xs ys zs : List X) → drop (length xs + length ys) (xs ++ (ys ++ zs)) ≡ zs
drop_front [] ys zs = let none : 0 + length ys ≡ length ys = omega arith in ap (λ m. drop m (ys ++ zs)) none ∙ drop_first ys zs
drop_front (x ∷ xs) ys zs =
    let more : suc (length xs) + length ys ≡ suc (length xs + length ys) = omega arith in
    ap (λ m. drop m (x ∷ (xs ++ (ys ++ zs)))) more ∙ drop_front xs ys zs

-- what is told of a row once instances of a schema node come or go
pub told_turned : (f : Forest SchemaNode) (k s : ℕ) (old new : ℕ → ℕ) → IsNumbered k f → Alike s old new
    → absences_in new [] f ≡ told_instead (number_over (child_over f s)) (length (told_over old (child_over f s))) (told_over new (child_over f s)) (absences_in old [] f)
told_turned f k s old new numbered alike =
    let so = told_around s old new alike f k numbered in
    let child = child_over f s in
    let part = told_over old child in
    let added = told_over new child in
    let whole = so.front ++ (part ++ so.back) in
    so.new_is ∙ (sym (ap₂ (λ xs ys. xs ++ (added ++ ys)) (ap (λ m. take m whole) so.first ∙ take_front so.front (part ++ so.back))
    (ap (λ m. drop (m + length part) whole) so.first ∙ drop_front so.front part so.back))
    ∙ sym (ap (told_instead (number_over child) (length part) added) so.old_is))

-- and the defaults in use in it
pub used_turned : (f : Forest SchemaNode) (k s : ℕ) (old new : ℕ → ℕ) → IsNumbered k f → Alike s old new
    → AlikeBut (used_over old (child_over f s)) (used_over new (child_over f s)) (defaults_in old [] f) (defaults_in new [] f)
used_turned f k s old new numbered alike = used_around s old new alike f k numbered

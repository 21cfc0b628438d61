-- What is found by a key, once a node is noted.
use Rattle.std.proofs.Common.{◌≡◌, ℕ, Bool, true, false, cond, ◌&&◌, Option, Some, None, refl, sym, ap, ap₂, ◌∙◌}
use Rattle.std.specs.Prelude.{◌==◌, OnOk, Result, Ok, Err, option_and_then}
use Rattle.std.proofs.lemmas.Bool.{and_parts, eqb-true}
use Rattle.yspec.specs.Forest.{first_of}
use Rattle.yspec.specs.linking.Planned.{same_number}
use Rattle.yspec.proofs.BasicLemmas.{first_of_none}
use Rattle.ybase_index.specs.Keys.{asks_for, first_in, is_key, key_of, same_key}
use Rattle.ybase_index.specs.declared.keys.Among.{Among}
use Rattle.ybase_index.specs.declared.keys.Among.TheVariants.{Children, Scope, DataNodes}
use Rattle.ybase_index.specs.declared.keys.Asked.{Asked}
use Rattle.ybase_index.specs.declared.keys.Firsts.{Firsts}
use Rattle.ybase_index.specs.declared.keys.IndexedNode.{IndexedNode}
use Rattle.ybase_index.specs.declared.keys.Key.{Key}

pub same_number-is : (a b : Option ℕ) → same_number a b ≡ true → a ≡ b
same_number-is None None e = refl
same_number-is None (Some n) e = absurd cc
same_number-is (Some m) None e = absurd cc
same_number-is (Some m) (Some n) e = ap Some (eqb-true m n e)

pub same_key-is : (a b : Key) → same_key a b ≡ true → a ≡ b
same_key-is a b e =
    let parts = and_parts (same_number a.above b.above) (a.«module» == b.«module» && a.name == b.name) e in
    let more = and_parts (a.«module» == b.«module») (a.name == b.name) parts.1 in
    let above = same_number-is a.above b.above parts.0 in
    let modules = eqb-true a.«module» b.«module» more.0 in
    let names = eqb-true a.name b.name more.1 in
    (λ i. record { above = above i; «module» = modules i; name = names i })

-- one key after a node is noted at another, or at itself
pub noted : (among : Among) (is_here asks : Bool) (old : Option Firsts) (firsts : Firsts) (number : ℕ)
    → (is_here ≡ true → first_in among firsts ≡ first_of (option_and_then (first_in among) old) (cond asks (Some number) None))
    → option_and_then (first_in among) (cond is_here (Some firsts) old) ≡ first_of (option_and_then (first_in among) old) (cond (is_here && asks) (Some number) None)
noted among true asks old firsts number here = here refl
noted among false asks old firsts number here = sym (first_of_none (option_and_then (first_in among) old))

-- what is put where it was just put
pub put_twice : (is_here : Bool) (now before : Firsts) (old : Option Firsts)
    → cond is_here (Some now) (cond is_here (Some before) old) ≡ cond is_here (Some now) old
put_twice true now before old = refl
put_twice false now before old = refl

pub on_ok : {X Y : Type 0} {P Q : Type 0} (r : Result X Y) → OnOk r P → (P → Q) → OnOk r Q
on_ok (Ok x) h more = more h
on_ok (Err e) h more = tt

-- ---- one node at its keys

and_false : (b : Bool) → (b && false) ≡ false
and_false true = refl
and_false false = refl

and_true : (b : Bool) → (b && true) ≡ b
and_true true = refl
and_true false = refl

turned : (a b : Bool) → (a && b) ≡ (b && a)
turned true true = refl
turned true false = refl
turned false true = refl
turned false false = refl

-- those among which a node is
abbrev pub below_scope : Bool → IndexedNode → Asked
below_scope is_child node = record { child = is_child; in_scope = true; data_node = node.is_data }

abbrev pub below_parent : Asked
below_parent = record { child = true; in_scope = false; data_node = false }

pub all_noted : (among : Among) (node : IndexedNode) (name : ℕ) (key : Key) (old : Option ℕ) → node.parent ≡ node.scope
    → first_of old (cond (same_key (key_of Scope node name) key && asks_for among (below_scope true node)) (Some node.number) None)
    ≡ first_of old (cond (is_key among node name key) (Some node.number) None)
all_noted Children node name key old same = ap (λ b. first_of old (cond b (Some node.number) None))
    (and_true (same_key (key_of Scope node name) key)
    ∙ ap (λ above. same_key (record { above = above; «module» = node.«module»; name = name }) key) (sym same))
all_noted Scope node name key old same = ap (λ b. first_of old (cond b (Some node.number) None)) (and_true (same_key (key_of Scope node name) key))
all_noted DataNodes node name key old same = ap (λ b. first_of old (cond b (Some node.number) None)) (turned (same_key (key_of Scope node name) key) node.is_data)

pub both_noted : (among : Among) (node : IndexedNode) (name : ℕ) (key : Key) (old : Option ℕ)
    → first_of (first_of old (cond (same_key (key_of Children node name) key && asks_for among below_parent) (Some node.number) None))
    (cond (same_key (key_of Scope node name) key && asks_for among (below_scope false node)) (Some node.number) None)
    ≡ first_of old (cond (is_key among node name key) (Some node.number) None)
both_noted Children node name key old =
    ap₂ (λ a b. first_of (first_of old (cond a (Some node.number) None)) (cond b (Some node.number) None))
    (and_true (same_key (key_of Children node name) key)) (and_false (same_key (key_of Scope node name) key))
    ∙ first_of_none (first_of old (cond (same_key (key_of Children node name) key) (Some node.number) None))
both_noted Scope node name key old =
    ap₂ (λ a b. first_of (first_of old (cond a (Some node.number) None)) (cond b (Some node.number) None))
    (and_false (same_key (key_of Children node name) key)) (and_true (same_key (key_of Scope node name) key))
    ∙ ap (λ o. first_of o (cond (same_key (key_of Scope node name) key) (Some node.number) None)) (first_of_none old)
both_noted DataNodes node name key old =
    ap₂ (λ a b. first_of (first_of old (cond a (Some node.number) None)) (cond b (Some node.number) None))
    (and_false (same_key (key_of Children node name) key)) (turned (same_key (key_of Scope node name) key) node.is_data)
    ∙ ap (λ o. first_of o (cond (node.is_data && same_key (key_of Scope node name) key) (Some node.number) None)) (first_of_none old)

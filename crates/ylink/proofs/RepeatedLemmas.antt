-- Names met before: only which they are counts, not their order nor how often each is there.
use Rattle.std.proofs.Common.{◌≡◌, ℕ, ◌+◌, ◌<◌, Bool, true, false, cond, ◌||◌, not, List, [], ◌∷◌, ◌++◌, length, get_or, drop, map, Option, refl, sym, ap, ap₂, subst, ◌∙◌}
use Rattle.std.specs.List.{list_any}
use Rattle.std.proofs.lemmas.Slice.Eq.{bytes_eq-Decides}
use Rattle.indexmap.specs.IndexSet.{insert_key}
use Rattle.ytext.specs.View.{view, modules_view}
use Rattle.ytext.specs.declared.statement.Module.{Module}
use Rattle.yspec.specs.Forest.{Forest, node, end}
use Rattle.yspec.specs.text.Text.{Text, is_text}
use Rattle.yspec.specs.text.Statement.{Statement}
use Rattle.yspec.specs.schema.Schema.{argument_text}
use Rattle.yspec.specs.schema.Breaks.{Break, broken, when, least_from, doubled, module_breaks}
use Rattle.yspec.proofs.SchemaProofs.LeastLemmas.{least_of_both}
use Rattle.ylink.proofs.ModuleLemmas.{modules_view_at}
use Rattle.std.proofs.Math.Bool.{or_comm, or-false}
use Rattle.std.proofs.lemmas.List.Folds.{list_any-append}

-- the same names are among both
abbrev pub HaveSame : List Text → List Text → Type 0
HaveSame bs cs = (t : Text) → list_any (is_text t) bs ≡ list_any (is_text t) cs

pub module_breaks-alike : (m : ℕ) (bs cs : List Text) (f : Forest Statement) → HaveSame bs cs → module_breaks m bs f ≡ module_breaks m cs f
module_breaks-alike m bs cs end same = refl
module_breaks-alike m bs cs (node s below after) same =
    let a = argument_text s in
    ap₂ (λ w z. when w (broken 7 m s.line) ++ z) (same a)
    (module_breaks-alike (m + 1) (a ∷ bs) (a ∷ cs) after (λ t. ap (λ b. is_text t a || b) (same t)))

-- ---- what a set of names holds after one more

or_true : (a b : Bool) → (a ≡ true → b ≡ true) → b ≡ (a || b)
or_true true b h = h refl
or_true false b h = refl

list_any-map : {X Y : Type 0} (p : Y → Bool) (f : X → Y) (xs : List X) → list_any p (map f xs) ≡ list_any (λ x. p (f x)) xs
list_any-map p f [] = refl
list_any-map p f (x ∷ xs) = ap (λ b. p (f x) || b) (list_any-map p f xs)

module _ {X : Type 0} (now : X → Text) where
  inserted_has : (b : Bool) (ks : List X) (x : X) (t : Text) → list_any (λ k. is_text (now x) (now k)) ks ≡ b
      → list_any (λ k. is_text t (now k)) (cond b ks (ks ++ x ∷ [])) ≡ (is_text t (now x) || list_any (λ k. is_text t (now k)) ks)
  inserted_has true ks x t had = or_true (is_text t (now x)) (list_any (λ k. is_text t (now k)) ks)
      (λ e. subst (λ a. list_any (λ k. is_text a (now k)) ks ≡ true) (sym ((bytes_eq-Decides t (now x)).0 e)) had)
  inserted_has false ks x t had = list_any-append (λ k. is_text t (now k)) ks (x ∷ [])
      ∙ (or_comm (list_any (λ k. is_text t (now k)) ks) (is_text t (now x) || false)
      ∙ ap (λ b. b || list_any (λ k. is_text t (now k)) ks) (or-false (is_text t (now x))))

  pub insert_key-has : (ks : List X) (x : X) → HaveSame (map now (insert_key (λ a b. is_text (now a) (now b)) ks x)) (now x ∷ map now ks)
  insert_key-has ks x t =
      list_any-map (is_text t) now (insert_key (λ a b. is_text (now a) (now b)) ks x)
      ∙ (inserted_has (list_any (λ k. is_text (now x) (now k)) ks) ks x t refl
      ∙ ap (λ b. is_text t (now x) || b) (sym (list_any-map (is_text t) now ks)))

  pub contains-texts : (ks : List X) (x : X) → list_any (λ k. is_text (now x) (now k)) ks ≡ list_any (is_text (now x)) (map now ks)
  contains-texts ks x = sym (list_any-map (is_text (now x)) now ks)

-- ---- one module of a set, and the others

not_not : (b : Bool) → not (not b) ≡ b
not_not true = refl
not_not false = refl

told_if_doubled : (code m : ℕ) (before : List Text) (s : Statement) (is_new : Bool) (told alone : Option Break)
    → is_new ≡ not (list_any (is_text (argument_text s)) before) → alone ≡ least_from told (when (not is_new) (broken code m s.line))
    → alone ≡ least_from told (doubled code m before s)
told_if_doubled code m before s is_new told alone fresh first =
    first ∙ ap (λ b. least_from told (when b (broken code m s.line))) (ap not fresh ∙ not_not (list_any (is_text (argument_text s)) before))

-- one module's own name
pub judged_module_name : (before after : List Text) (ms : List Module) (i : ℕ) (m : Module) (is_new : Bool) (told result whole : Option Break)
    → i < length ms → m ≡ get_or ms i m
    → is_new ≡ not (list_any (is_text (argument_text (view m.top).0)) before)
    → HaveSame after (argument_text (view m.top).0 ∷ before)
    → result ≡ least_from told (when (not is_new) (broken 7 i (view m.top).0.line))
    → least_from told (module_breaks i before (modules_view (drop i ms))) ≡ whole
    → least_from result (module_breaks (i + 1) after (modules_view (drop (i + 1) ms))) ≡ whole
judged_module_name before after ms i m is_new told result whole within is fresh has judged so =
    let label = (view m.top).0 in
    let rest = modules_view (drop (i + 1) ms) in
    let others = module_breaks (i + 1) (argument_text label ∷ before) rest in
    ap₂ least_from (told_if_doubled 7 i before label is_new told result fresh judged) (module_breaks-alike (i + 1) after (argument_text label ∷ before) rest has)
    ∙ (sym (least_of_both told (doubled 7 i before label) others)
    ∙ (ap (λ f. least_from told (module_breaks i before f)) (sym (modules_view_at ms i m within is)) ∙ so))

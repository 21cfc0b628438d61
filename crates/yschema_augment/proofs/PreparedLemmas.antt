-- What is known before any augment is applied, where the nodes of modules lie first and behind them what each augment adds.
use Rattle.std.proofs.Common.{◌≡◌, ◌⊎◌, inl, inr, ℕ, zero, suc, ◌+◌, ◌-◌, ◌<◌, ◌≤◌, true, false, List, [], ◌∷◌, ◌++◌, take, drop, get_or, length, map, replicate, Option, Some, None, refl, sym, ap, ap₂, subst, ◌∙◌, arith, length-append}
use Rattle.std.specs.Prelude.{slice_get}
use Rattle.std.specs.Option.{option_map_or}
use Rattle.std.proofs.lemmas.Bool.{cases_lt, ne_eqb}
use Rattle.std.proofs.lemmas.List.{append-nil, append_assoc}
use Rattle.std.proofs.lemmas.Option.{none-some}
use Rattle.yspec.specs.Forest.{Forest, end, node, join, size, first_of}
use Rattle.yspec.specs.text.Text.{Text}
use Rattle.yspec.specs.linking.Source.{Source}
use Rattle.yspec.specs.linking.Parts.{Part}
use Rattle.yspec.specs.linking.Prefixes.{NodeName}
use Rattle.yspec.specs.linking.Planned.{same_number}
use Rattle.yspec.specs.linking.Expansion.{laid as laid_parts}
use Rattle.yspec_wide.specs.Language.{Language}
use Rattle.yspec.specs.linking.Augments.{Augment, target_steps}
use Rattle.yspec.proofs.LinkingProofs.ExpansionLemmas.{size_join}
use Rattle.ybase_preorder.specs.Layout.{Place, places, laid, seen, numbered_by, forest_of}
use Rattle.ybase_preorder.specs.declared.slot.Slot.{Slot}
use Rattle.ybase_preorder.proofs.LayoutLemmas.{forest_seen, length-places, length-laid, length-seen, places-join}
use Rattle.ybase_preorder.proofs.LabelLemmas.{size-by}
use Rattle.ybase_index.specs.Index.{texts_of}
use Rattle.yschema_expand.specs.declared.nodes.ExpandedNode.{ExpandedNode}
use Rattle.yschema_augment.specs.declared.search.Search.{Search}
use Rattle.yschema_augment.specs.declared.search.Step.{Step}
use Rattle.yschema_expand.specs.NodeView.{numbered_part, part_view}
use Rattle.yschema_augment.specs.Arranging.{own_rows, rows_of}
use Rattle.yschema_expand.specs.NumberedView.{rows_between, with_number, Numbered}
use Rattle.yschema_augment.specs.Asking.{AreNames}
use Rattle.yschema_expand.specs.Bodies.{bodies_of, body_of, starts_from}
use Rattle.yschema_augment.specs.Hanging.{numbered, plain, times}
use Rattle.yschema_augment.specs.Picking.{is_waiting, source_at, nothing}
use Rattle.yschema_augment.specs.Resolving.{AreApart, Stands}
use Rattle.yschema_augment.specs.Searching.{Lookup, Agrees, first_in}
use Rattle.yschema_augment.specs.SearchView.{look_in, names_by, path_at}
use Rattle.yschema_augment.specs.Settling.{Among, Paths}
use Rattle.yschema_augment.specs.Starting.{first_child}
use Rattle.yschema_augment.specs.Turning.{augment_at, no_augment, Prepared}
use Rattle.yschema_augment.specs.WaitingView.{waiters_at}
use Rattle.yschema_augment.proofs.AskingLemmas.{get_before, get_behind, texts_between}
use Rattle.yschema_augment.proofs.PutLemmas.{plain_numbered, times_before, times_behind, times_numbered}
use Rattle.yschema_augment.proofs.SearchLemmas.{of_none}
use Rattle.yschema_augment.proofs.StartingLemmas.{at_top, below_one, first_append, first_node, no_child, no_head, none_at_top}
use Rattle.yschema_expand.proofs.TableLemmas.{behind_them}

abbrev Rows : Type 0
Rows = List (Slot ExpandedNode)

abbrev parts : Rows → List (Place Part)
parts slots = seen numbered_part 0 (laid slots)

-- ---- rows of nodes as they lie

take_seen : (k n : ℕ) (slots : Rows) (mid after : List (Place Part)) → length mid ≡ n → seen numbered_part k (laid slots) ≡ mid ++ after
    → seen numbered_part k (laid (take n slots)) ≡ mid
take_seen k n slots [] after count is = ap (λ m. seen numbered_part k (laid (take m slots))) (sym count)
take_seen k zero slots (p ∷ mid) after count is = absurd (omega (arith, count))
take_seen k (suc n) [] (p ∷ mid) after count is = absurd cc
take_seen k (suc n) (x ∷ slots) (p ∷ mid) after count is =
    let first : record { parent = x.parent; label = part_view x.label; below = x.below } ≡ p = cc in
    let rest : seen numbered_part (k + 1) (laid slots) ≡ mid ++ after = cc in
    ap₂ (λ (q : Place Part) qs. q ∷ qs) first (take_seen (k + 1) n slots mid after (omega (arith, count)) rest)

with_numbered : (k : ℕ) (f : Forest ExpandedNode) → numbered_by with_number k f ≡ numbered k (numbered_by numbered_part k f)
with_numbered k end = refl
with_numbered k (node l below after) =
    let past = k + suc (size below) in
    ap₂ (λ b a. node (with_number k l) b a) (with_numbered (k + 1) below)
    (with_numbered past after ∙ ap (λ n. numbered (k + suc n) (numbered_by numbered_part past after)) (sym (size-by numbered_part (k + 1) below)))

rows_lie : (n past : ℕ) (slots : Rows) (before after : List (Place Part)) (p : Option ℕ) (f : Forest Part) → length before ≡ n → n + size f ≡ past
    → parts slots ≡ before ++ (places p n f ++ after) → rows_between n past slots ≡ numbered n f
rows_lie n past slots before after p f count ends is =
    let plain_n : 0 + n ≡ n = omega arith in
    let behind = ap (λ m. seen numbered_part m (laid (drop n slots))) (sym plain_n) ∙ behind_them 0 n slots before (places p n f ++ after) count is in
    let row = take (past - n) (drop n slots) in
    let here = take_seen n (past - n) (drop n slots) (places p n f) after (length-places p n f ∙ omega (arith, ends)) behind in
    with_numbered n (forest_of row) ∙ ap (numbered n) (forest_seen numbered_part f p n row here).0

pub count_parts : (slots : Rows) → length (parts slots) ≡ length slots
count_parts slots = length-seen numbered_part 0 (laid slots) ∙ length-laid slots

-- ---- what augments add, where it lies

module _ (language : Language) (m : Forest Source) where
  nothing_added : body_of language m no_augment ≡ end
  unfolding laid_parts
  nothing_added = refl

  start_first : (n last : ℕ) (augments : List Augment) → last ≡ n + size (bodies_of language m augments) → get_or (starts_from language m n augments) 0 last ≡ n
  start_first n last [] is = omega (arith, is)
  start_first n last (a ∷ augments) is = refl

  starts_after : (n last : ℕ) (augments : List Augment) (j : ℕ) → last ≡ n + size (bodies_of language m augments) → n ≤ get_or (starts_from language m n augments) j last
  starts_after n last [] j is = omega (arith, is)
  starts_after n last (a ∷ augments) zero is = omega arith
  starts_after n last (a ∷ augments) (suc j) is =
      let later = starts_after (n + size (body_of language m a)) last augments j (omega (arith, is, size_join (body_of language m a) (bodies_of language m augments))) in omega (arith, later)

  ends_before : (n last : ℕ) (augments : List Augment) (i j : ℕ) → last ≡ n + size (bodies_of language m augments) → i < j
      → get_or (starts_from language m n augments) i last + size (body_of language m (augment_at augments i)) ≤ get_or (starts_from language m n augments) j last
  ends_before n last [] i j is less = omega (arith, ap size nothing_added)
  ends_before n last (a ∷ augments) i zero is less = absurd (omega (arith, less))
  ends_before n last (a ∷ augments) zero (suc j) is less =
      starts_after (n + size (body_of language m a)) last augments j (omega (arith, is, size_join (body_of language m a) (bodies_of language m augments)))
  ends_before n last (a ∷ augments) (suc i) (suc j) is less =
      ends_before (n + size (body_of language m a)) last augments i j (omega (arith, is, size_join (body_of language m a) (bodies_of language m augments))) (omega (arith, less))

  body_lies : (n : ℕ) (augments : List Augment) (slots : Rows) (before : List (Place Part)) → length before ≡ n
      → length slots ≡ n + size (bodies_of language m augments) → parts slots ≡ before ++ places None n (bodies_of language m augments) → (j : ℕ)
      → rows_between (get_or (starts_from language m n augments) j (length slots)) (get_or (starts_from language m n augments) (j + 1) (length slots)) slots
      ≡ numbered (get_or (starts_from language m n augments) j (length slots)) (body_of language m (augment_at augments j))
  body_lies n [] slots before count last is j =
      let all = sym (append-nil (parts slots)) in
      rows_lie (length slots) (length slots) slots (parts slots) [] None end (count_parts slots) (omega arith) all
      ∙ ap (numbered (length slots)) (sym nothing_added)
  body_lies n (a ∷ augments) slots before count last is zero =
      let body = body_of language m a in
      let later = bodies_of language m augments in
      let there : length slots ≡ n + size body + size later = omega (arith, last, size_join body later) in
      rows_lie n (get_or (starts_from language m (n + size body) augments) 0 (length slots)) slots before (places None (n + size body) later) None body count
      (sym (start_first (n + size body) (length slots) augments there))
      (is ∙ ap (λ ps. before ++ ps) (places-join None n body later))
  body_lies n (a ∷ augments) slots before count last is (suc j) =
      let body = body_of language m a in
      let later = bodies_of language m augments in
      let next : suc j + 1 ≡ suc (j + 1) = omega arith in
      let starts = n ∷ starts_from language m (n + size body) augments in
      ap (λ i. rows_between (get_or starts (suc j) (length slots)) (get_or starts i (length slots)) slots) next
      ∙ body_lies (n + size body) augments slots (before ++ places None n body)
      (length-append before (places None n body) ∙ omega (arith, count, length-places None n body))
      (omega (arith, last, size_join body later))
      (is ∙ (ap (λ ps. before ++ ps) (places-join None n body later) ∙ sym (append_assoc before (places None n body) (places None (n + size body) later)))) j

-- ---- numbers

inside : (n k : ℕ) (f : Forest Part) → 1 ≤ times n (numbered k f) → (k ≤ n) × (n < k + size f)
inside n k f some = by (cases_lt n k) (cases_lt n (k + size f))
  where
    by : ((n < k) ⊎ (k ≤ n)) → ((n < k + size f) ⊎ (k + size f ≤ n)) → (k ≤ n) × (n < k + size f)
    by (inl less) c = absurd (omega (arith, some, times_before n k f less))
    by (inr more) (inl less) = (more, less)
    by (inr more) (inr behind) = absurd (omega (arith, some, times_behind n k f behind))

module _ (rows : ℕ → Forest (Numbered Part)) (starts : ℕ → ℕ) (bodies : ℕ → Forest Part) (is : (j : ℕ) → rows j ≡ numbered (starts j) (bodies j))
    (order : (i j : ℕ) → i < j → starts i + size (bodies i) ≤ starts j) where
  few : (j n : ℕ) → times n (rows j) ≤ 1
  few j n = subst (λ f. times n f ≤ 1) (sym (is j)) (times_numbered n (starts j) (bodies j))

  apart : (i j n : ℕ) → (i ≡ j → ⊥) → 1 ≤ times n (rows i) → times n (rows j) ≡ 0
  apart i j n other some = ap (times n) (is j) ∙ by (cases_lt i j) (cases_lt j i) (inside n (starts i) (bodies i) (subst (λ f. 1 ≤ times n f) (is i) some))
    where
      by : ((i < j) ⊎ (j ≤ i)) → ((j < i) ⊎ (i ≤ j)) → (starts i ≤ n) × (n < starts i + size (bodies i)) → times n (numbered (starts j) (bodies j)) ≡ 0
      by (inl less) c at = times_before n (starts j) (bodies j) (omega (arith, order i j less, at.1))
      by (inr more) (inl less) at = times_behind n (starts j) (bodies j) (omega (arith, order j i less, at.0))
      by (inr more) (inr same) at = absurd (other (omega (arith, more, same)))

  pub are_apart : AreApart rows
  are_apart = record { few = few; apart = apart }

  pub apart_from : (e : Forest Part) → ((j : ℕ) → size e ≤ starts j) → (j n : ℕ) → 1 ≤ times n (numbered 0 e) → times n (rows j) ≡ 0
  apart_from e behind j n some =
      let at = inside n 0 e some in
      ap (times n) (is j) ∙ times_before n (starts j) (bodies j) (omega (arith, at.1, behind j))

-- ---- what is found, and the statements of nodes

-- the children of nodes lie among them
Children : ℕ → Lookup → Option ℕ → ℕ → Forest Part → Type 0
Children first look q k f = (j : ℕ) (name : NodeName) → k ≤ j → j < k + size f → look (Some j) name ≡ first_child first (Some j) name k (places q k f)

Sourced : (ℕ → Source) → ℕ → Forest Part → Type 0
Sourced source k end = Unit {0}
Sourced source k (node p below after) = (source k ≡ p.source) × Sourced source (k + 1) below × Sourced source (k + suc (size below)) after

agrees : (first : ℕ) (look : Lookup) (source : ℕ → Source) (q : Option ℕ) (k : ℕ) (f : Forest Part) → ((j : ℕ) → k ≤ j → same_number (Some j) q ≡ false)
    → Children first look q k f → Sourced source k f → Agrees look source (numbered k f)
unfolding Children Sourced
agrees first look source q k end other children sourced = tt
agrees first look source q k (node p below after) other children sourced =
    let past = k + suc (size below) in
    let of : (j : ℕ) (name : NodeName) → k ≤ j → j < k + suc (size below + size after) → look (Some j) name
    ≡ first_of (first_child first (Some j) name (k + 1) (places (Some k) (k + 1) below)) (first_child first (Some j) name past (places q past after)) =
    λ j name more less. children j name more less ∙ (first_node first (Some j) name k q p below after ∙ no_head (same_number (Some j) q) _ _ k _ (other j more)) in (
      (
        sym sourced.0,
        λ name. of k name (omega arith) (omega arith)
            ∙ (ap₂ first_of (below_one first k name (k + 1) below (omega arith)) (no_child first k name past q after (other k (omega arith)) (inl (omega arith)))
            ∙ of_none _),
      ),
      agrees first look source (Some k) (k + 1) below (λ j more. ne_eqb j k (λ e. absurd (omega (arith, more, e))))
          (λ j name more less. of j name (omega (arith, more)) (omega (arith, less))
          ∙ (ap (first_of (first_child first (Some j) name (k + 1) (places (Some k) (k + 1) below)))
          (no_child first j name past q after (other j (omega (arith, more))) (inl (omega (arith, less))))
          ∙ of_none _)) sourced.1,
      agrees first look source q past after (λ j more. other j (omega (arith, more)))
          (λ j name more less. of j name (omega (arith, more)) (omega (arith, less))
          ∙ ap (λ o. first_of o (first_child first (Some j) name past (places q past after)))
          (no_child first j name (k + 1) (Some k) below (ne_eqb j k (λ e. absurd (omega (arith, more, e)))) (inr (omega (arith, more))))) sourced.2,
    )

source_seen : (k : ℕ) (slots : Rows) (i : ℕ) (p : Place Part) → slice_get (seen numbered_part k (laid slots)) i ≡ Some p → source_at slots i ≡ p.label.source
source_seen k [] i p e = absurd (none-some p e)
source_seen k (r ∷ slots) zero p e = ap (λ (o : Option (Place Part)). option_map_or (λ x. x.label.source) o nothing) e
source_seen k (r ∷ slots) (suc i) p e = source_seen (k + 1) slots i p e

sourced_of : (source : ℕ → Source) (q : Option ℕ) (k : ℕ) (f : Forest Part)
    → ((i : ℕ) (p : Place Part) → slice_get (places q k f) i ≡ Some p → source (k + i) ≡ p.label.source) → Sourced source k f
unfolding Sourced
sourced_of source q k end known = tt
sourced_of source q k (node p below after) known =
    let under = places (Some k) (k + 1) below in
    let behind = places q (k + suc (size below)) after in
    let here : k ≡ k + 0 = omega arith in (
      ap source here ∙ known 0 _ refl,
      sourced_of source (Some k) (k + 1) below (λ i x e.
          let next : k + 1 + i ≡ k + suc i = omega arith in
          ap source next ∙ known (suc i) x (get_before under behind i x e)),
      sourced_of source q (k + suc (size below)) after (λ i x e.
          let next : k + suc (size below) + i ≡ k + suc (length under + i) = omega (arith, length-places (Some k) (k + 1) below) in
          ap source next ∙ known (suc (length under + i)) x (get_behind under behind i (length under + i) refl ∙ e)),
    )

numbered_join : (k : ℕ) (f g : Forest Part) → numbered k (join f g) ≡ join (numbered k f) (numbered (k + size f) g)
numbered_join k end g = ap (λ n. numbered n g) (omega arith)
numbered_join k (node p below after) g =
    let same : k + suc (size below) + size after ≡ k + suc (size below + size after) = omega arith in
    ap (node (record { number = k; label = p }) (numbered (k + 1) below))
    (numbered_join (k + suc (size below)) after g ∙ ap (λ n. join (numbered (k + suc (size below)) after) (numbered n g)) same)

agrees_parts : (look : Lookup) (source : ℕ → Source) (f g : Forest (Numbered Part)) → Agrees look source (join f g) → Agrees look source f × Agrees look source g
agrees_parts look source end g both = (tt, both)
agrees_parts look source (node l below after) g both =
    let rest = agrees_parts look source after g both.2 in ((both.0, both.1, rest.0), rest.1)

agrees_both : (look : Lookup) (source : ℕ → Source) (k : ℕ) (f g : Forest Part) → Agrees look source (numbered k (join f g))
    → Agrees look source (numbered k f) × Agrees look source (numbered (k + size f) g)
agrees_both look source k f g both =
    agrees_parts look source (numbered k f) (numbered (k + size f) g) (subst (Agrees look source) (numbered_join k f g) both)

agrees_each : (language : Language) (m : Forest Source) (look : Lookup) (source : ℕ → Source) (n last : ℕ) (augments : List Augment) → Agrees look source (numbered n (bodies_of language m augments)) → (j : ℕ)
    → Agrees look source (numbered (get_or (starts_from language m n augments) j last) (body_of language m (augment_at augments j)))
agrees_each language m look source n last [] all j = subst (λ f. Agrees look source (numbered last f)) (sym (nothing_added language m)) tt
agrees_each language m look source n last (a ∷ augments) all zero = (agrees_both look source n (body_of language m a) (bodies_of language m augments) all).0
agrees_each language m look source n last (a ∷ augments) all (suc j) =
    agrees_each language m look source (n + size (body_of language m a)) last augments (agrees_both look source n (body_of language m a) (bodies_of language m augments) all).1 j

-- ---- paths

steps_at : (texts : List Text) (paths : Paths) (steps : Augment → List NodeName) (augments : List Augment)
    → map (λ p. names_by texts p.items) paths ≡ map steps augments → (j : ℕ) → j < length augments
    → names_by texts (path_at paths j) ≡ steps (augment_at augments j)
steps_at texts [] steps [] is j less = absurd (omega (arith, less))
steps_at texts (p ∷ paths) steps [] is j less = absurd (omega (arith, less))
steps_at texts [] steps (a ∷ augments) is j less = absurd cc
steps_at texts (p ∷ paths) steps (a ∷ augments) is zero less =
    let here : names_by texts p.items ≡ steps a = cc in here
steps_at texts (p ∷ paths) steps (a ∷ augments) is (suc j) less =
    let rest : map (λ p. names_by texts p.items) paths ≡ map steps augments = cc in
    steps_at texts paths steps augments rest j (omega (arith, less))

-- ---- all of it

module _ (language : Language) (m : Forest Source) (augments : List Augment) (slots : Rows) (starts : List ℕ) (e : Forest Part)
    (lie : parts slots ≡ places None 0 (join e (bodies_of language m augments))) (begin : starts ≡ starts_from language m (size e) augments) where
  last : length slots ≡ size e + size (bodies_of language m augments)
  last = sym (count_parts slots) ∙ (ap length lie ∙ (length-places None 0 (join e (bodies_of language m augments)) ∙ size_join e (bodies_of language m augments)))

  apart_parts : parts slots ≡ places None 0 e ++ places None (size e) (bodies_of language m augments)
  apart_parts =
      let plain_size : 0 + size e ≡ size e = omega arith in
      lie ∙ (places-join None 0 e (bodies_of language m augments) ∙ ap (λ n. places None 0 e ++ places None n (bodies_of language m augments)) plain_size)

  first_is : get_or starts 0 (length slots) ≡ size e
  first_is = ap (λ xs. get_or xs 0 (length slots)) begin ∙ start_first language m (size e) (length slots) augments last

  pub own_is : own_rows starts slots ≡ numbered 0 e
  own_is = ap (λ n. rows_between 0 n slots) first_is
      ∙ rows_lie 0 (size e) slots [] (places None (size e) (bodies_of language m augments)) None e refl (omega arith) apart_parts

  abbrev start : ℕ → ℕ
  start j = get_or starts j (length slots)

  abbrev body : ℕ → Forest Part
  body j = body_of language m (augment_at augments j)

  rows_are : (j : ℕ) → rows_of starts slots j ≡ numbered (start j) (body j)
  rows_are j = subst (λ xs. rows_of xs slots j ≡ numbered (get_or xs j (length slots)) (body j)) (sym begin)
      (body_lies language m (size e) augments slots (places None 0 e) (length-places None 0 e) last apart_parts j)

  ordered : (i j : ℕ) → i < j → start i + size (body i) ≤ start j
  ordered i j less = subst (λ xs. get_or xs i (length slots) + size (body i) ≤ get_or xs j (length slots)) (sym begin)
      (ends_before language m (size e) (length slots) augments i j last less)

  behind_own : (j : ℕ) → size e ≤ start j
  behind_own j = subst (λ xs. size e ≤ get_or xs j (length slots)) (sym begin) (starts_after language m (size e) (length slots) augments j last)

  module _ (paths : Paths) (s : Search) (look : (above : Option ℕ) (name : NodeName) → look_in s above name ≡ first_child (get_or starts 0 (length slots)) above name 0 (parts slots)) where
    all : Forest Part
    all = join e (bodies_of language m augments)

    found : (above : Option ℕ) (name : NodeName) → look_in s above name ≡ first_child (size e) above name 0 (parts slots)
    found above name = look above name ∙ ap (λ n. first_child n above name 0 (parts slots)) first_is

    all_agree : Agrees (look_in s) (source_at slots) (numbered 0 all)
    unfolding Children all
    all_agree = agrees (size e) (look_in s) (source_at slots) None 0 all (λ j more. refl)
        (λ j name more less. found (Some j) name ∙ ap (first_child (size e) (Some j) name 0) lie)
        (sourced_of (source_at slots) None 0 all (λ i p at.
        let plain_i : 0 + i ≡ i = omega arith in
        ap (source_at slots) plain_i ∙ source_seen 0 slots i p (ap (λ ps. slice_get ps i) lie ∙ at)))

    both_agree : Agrees (look_in s) (source_at slots) (numbered 0 e) × Agrees (look_in s) (source_at slots) (numbered (size e) (bodies_of language m augments))
    unfolding all
    both_agree =
        let plain_size : 0 + size e ≡ size e = omega arith in
        let both = agrees_both (look_in s) (source_at slots) 0 e (bodies_of language m augments) all_agree in
        (both.0, subst (λ n. Agrees (look_in s) (source_at slots) (numbered n (bodies_of language m augments))) plain_size both.1)

    top_agrees : (name : NodeName) → look_in s None name ≡ first_in name (numbered 0 e)
    top_agrees name = found None name ∙ (ap (first_child (size e) None name 0) apart_parts
        ∙ (first_append (size e) None name 0 (places None 0 e) (places None (size e) (bodies_of language m augments))
        ∙ (ap₂ first_of (at_top (size e) name 0 e (omega arith))
        (ap (λ n. first_child (size e) None name n (places None (size e) (bodies_of language m augments))) (omega (arith, length-places None 0 e))
        ∙ none_at_top (size e) name (size e) (bodies_of language m augments) (omega arith))
        ∙ of_none _)))

    each_agrees : (j : ℕ) → Agrees (look_in s) (source_at slots) (rows_of starts slots j)
    each_agrees j = subst (Agrees (look_in s) (source_at slots)) (sym (rows_are j))
        (subst (λ xs. Agrees (look_in s) (source_at slots) (numbered (get_or xs j (length slots)) (body j))) (sym begin)
        (agrees_each language m (look_in s) (source_at slots) (size e) (length slots) augments both_agree.1 j))

    stands : Stands (source_at slots) (rows_of starts slots) (λ j. is_waiting (replicate (length augments) true) j) (look_in s) (own_rows starts slots)
    stands = record {
      few = λ n. subst (λ f. times n f ≤ 1) (sym own_is) (times_numbered n 0 e);
      apart = λ j n waits some. apart_from (rows_of starts slots) start body rows_are ordered e behind_own j n (subst (λ f. 1 ≤ times n f) own_is some);
      agrees = (λ name. top_agrees name ∙ ap (first_in name) (sym own_is), subst (Agrees (look_in s) (source_at slots)) (sym own_is) both_agree.0);
      bodies = λ j waits. each_agrees j;
    }

    pub prepared : AreNames (texts_of s.index) slots → map (λ p. names_by (texts_of s.index) p.items) paths ≡ map (target_steps m) augments
        → ((j n : ℕ) (step : Step) → slice_get (path_at paths j) n ≡ Some step → step.text < length (texts_of s.index))
        → ((key : _) → waiters_at s.waiting key ≡ []) → Prepared language m augments slots starts paths s
    prepared names steps within none = record {
      steps = steps_at (texts_of s.index) paths (target_steps m) augments steps;
      ranged = within;
      texts = λ j less. texts_between (texts_of s.index) slots (start j) (get_or starts (j + 1) (length slots)) names;
      bodies = λ j less. ap plain (rows_are j) ∙ plain_numbered (start j) (body j);
      alone = are_apart (rows_of starts slots) start body rows_are ordered;
      stands = stands;
      sound = λ key w among. absurd (subst (λ ws. Among w ws) (none key) among);
    }

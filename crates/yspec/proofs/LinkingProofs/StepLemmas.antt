-- Single steps come to an end, and where none can be taken no `uses` is left.
use Rattle.std.proofs.Common.{◌≡◌, ◌⊎◌, inl, inr, ℕ, zero, suc, ◌+◌, Bool, true, false, not, cond, ◌&&◌, List, [], ◌∷◌, Option, Some, None, refl, sym, ap, ◌∙◌, arith}
use Rattle.std.proofs.lemmas.Bool.{and_parts}
use Rattle.std.specs.Prelude.{find, ◌==◌}
use Rattle.std.specs.Option.{option_map_or}
use Rattle.yspec.specs.Forest.{Forest, end, node, join}
use Rattle.yspec.specs.linking.Source.{Source}
use Rattle.yspec.specs.linking.Parts.{Part}
use Rattle.yspec.specs.linking.DerivedTypes.{number_named}
use Rattle.yspec.specs.linking.Expansion.{Grouping, is_uses, row_in, row_used, refined}
use Rattle.yspec.specs.linking.Rewriting.{is_settled, settled, Step, replacing, inside, behind, GroupingStep, in_first, in_others, Rewritten, as_it_is, in_nodes, in_groupings, all_uses, ends_within, Ends}
use Rattle.yspec.proofs.LinkingProofs.ExpansionLemmas.{Nodes, IsPlain, plain_settled, plain_refined}

-- ---- what is put in place of a `uses` holds none

made_plain : (modules : Forest Source) (groupings : List Grouping) (owner : ℕ) (u : Part) → IsPlain owner (refined modules owner u.own (settled owner (row_used modules groupings u)))
made_plain modules groupings owner u = plain_refined modules owner u.own (settled owner (row_used modules groupings u)) (plain_settled owner (row_used modules groupings u))

all_joined : (test : Part → Bool) (owner : ℕ) (f g : Nodes) → IsPlain owner f → all_uses test g ≡ true → all_uses test (join f g) ≡ true
unfolding all_uses
all_joined test owner end g plain all = all
all_joined test owner (node p below after) g plain all = by (is_uses p) plain.0 (all_joined test owner below end plain.2 refl) (all_joined test owner after g plain.3 all)
  where
    same_end : (f : Nodes) → join f end ≡ f
    same_end end = refl
    same_end (node q c d) = ap (node q c) (same_end d)

    by : (b : Bool) → b ≡ false → all_uses test (join below end) ≡ true → all_uses test (join after g) ≡ true → (cond b (test p) (all_uses test below) && all_uses test (join after g)) ≡ true
    by true is inner rest = absurd cc
    by false is inner rest = let e = ap (all_uses test) (sym (same_end below)) ∙ inner in ap (λ x. x && all_uses test (join after g)) e ∙ rest

-- ---- a step asks nothing more

all_step : (test : Part → Bool) (modules : Forest Source) (groupings : List Grouping) (owner : ℕ) (f g : Nodes) → Step modules groupings owner f g → all_uses test f ≡ true → all_uses test g ≡ true
unfolding all_uses
all_step test modules groupings owner f g (replacing u below after is none) all =
    all_joined test owner (refined modules owner u.own (settled owner (row_used modules groupings u))) after (made_plain modules groupings owner u)
    (and_parts (cond (is_uses u) (test u) (all_uses test below)) (all_uses test after) all).1
all_step test modules groupings owner f g (inside p below changed after is step) all = by (is_uses p) is all (all_step test modules groupings owner below changed step)
  where
    by : (b : Bool) → b ≡ false → (cond b (test p) (all_uses test below) && all_uses test after) ≡ true → (all_uses test below ≡ true → all_uses test changed ≡ true)
        → (cond b (test p) (all_uses test changed) && all_uses test after) ≡ true
    by true is all inner = absurd cc
    by false is all inner = let parts = and_parts (all_uses test below) (all_uses test after) all in
        ap (λ x. x && all_uses test after) (inner parts.0) ∙ parts.1
all_step test modules groupings owner f g (behind p below after changed step) all =
    let parts = and_parts (cond (is_uses p) (test p) (all_uses test below)) (all_uses test after) all in
    ap (λ x. x && all_uses test changed) parts.0 ∙ all_step test modules groupings owner after changed step parts.1

all_more : (first second : Part → Bool) → ((u : Part) → first u ≡ true → second u ≡ true) → (f : Nodes) → all_uses first f ≡ true → all_uses second f ≡ true
unfolding all_uses
all_more first second more end all = refl
all_more first second more (node p below after) all = by (is_uses p) all (all_more first second more below) (all_more first second more after)
  where
    by : (b : Bool) → (cond b (first p) (all_uses first below) && all_uses first after) ≡ true → (all_uses first below ≡ true → all_uses second below ≡ true)
        → (all_uses first after ≡ true → all_uses second after ≡ true) → (cond b (second p) (all_uses second below) && all_uses second after) ≡ true
    by true all inner rest = let parts = and_parts (first p) (all_uses first after) all in ap (λ x. x && all_uses second after) (more p parts.0) ∙ rest parts.1
    by false all inner rest = let parts = and_parts (all_uses first below) (all_uses first after) all in
        ap (λ x. x && all_uses second after) (inner parts.0) ∙ rest parts.1

all_of_any : (test : Part → Bool) → ((u : Part) → test u ≡ true) → (f : Nodes) → all_uses test f ≡ true
unfolding all_uses
all_of_any test any end = refl
all_of_any test any (node p below after) = by (is_uses p) (all_of_any test any below) (all_of_any test any after)
  where
    by : (b : Bool) → all_uses test below ≡ true → all_uses test after ≡ true → (cond b (test p) (all_uses test below) && all_uses test after) ≡ true
    by true inner rest = ap (λ x. x && all_uses test after) (any p) ∙ rest
    by false inner rest = ap (λ x. x && all_uses test after) inner ∙ rest

-- the same of the rows of groupings
row_all : (test : Part → Bool) (modules : Forest Source) (groupings : List Grouping) (owner : ℕ) (before changed : List Grouping) → GroupingStep modules groupings owner before changed
    → (number : ℕ) → all_uses test (row_in before number) ≡ true → all_uses test (row_in changed number) ≡ true
row_all test modules groupings owner before changed (in_first g row others step) number = by (g.number == number)
  where
    found : Option Grouping
    found = find (λ (h : Grouping). h.number == number) others

    by : (b : Bool) → all_uses test (option_map_or (λ (h : Grouping). h.row) (cond b (Some g) found) end) ≡ true
        → all_uses test (option_map_or (λ (h : Grouping). h.row) (cond b (Some (record g { row = row })) found) end) ≡ true
    by true all = all_step test modules groupings owner g.row row step all
    by false all = all
row_all test modules groupings owner before changed (in_others g others next step) number = by (g.number == number) (row_all test modules groupings owner others next step number)
  where
    by : (b : Bool) → (all_uses test (row_in others number) ≡ true → all_uses test (row_in next number) ≡ true)
        → all_uses test (option_map_or (λ (h : Grouping). h.row) (cond b (Some g) (find (λ (h : Grouping). h.number == number) others)) end) ≡ true
        → all_uses test (option_map_or (λ (h : Grouping). h.row) (cond b (Some g) (find (λ (h : Grouping). h.number == number) next)) end) ≡ true
    by true rest all = all
    by false rest all = rest all

used_all : (test : Part → Bool) (modules : Forest Source) (groupings changed : List Grouping) (owner : ℕ) → GroupingStep modules groupings owner groupings changed
    → (u : Part) → all_uses test (row_used modules groupings u) ≡ true → all_uses test (row_used modules changed u) ≡ true
unfolding all_uses
used_all test modules groupings changed owner step u = by (number_named modules u.source.number)
  where
    by : (o : Option ℕ) → all_uses test (option_map_or (row_in groupings) o end) ≡ true → all_uses test (option_map_or (row_in changed) o end) ≡ true
    by None all = refl
    by (Some number) all = row_all test modules groupings owner groupings changed step number all

ends_step : (modules : Forest Source) (groupings changed : List Grouping) (owner : ℕ) → GroupingStep modules groupings owner groupings changed
    → (depth : ℕ) (u : Part) → ends_within modules groupings depth u ≡ true → ends_within modules changed depth u ≡ true
unfolding ends_within
ends_step modules groupings changed owner step zero u ends = ends
ends_step modules groupings changed owner step (suc depth) u ends = used_all (ends_within modules changed depth) modules groupings changed owner step u
    (all_more (ends_within modules groupings depth) (ends_within modules changed depth) (ends_step modules groupings changed owner step depth) (row_used modules groupings u) ends)

-- ---- a step can be taken

abbrev NextRow : Forest Source → List Grouping → ℕ → Nodes → Type 0
NextRow modules groupings owner f = (next : Nodes) × Step modules groupings owner f next

abbrev NextGroupings : Forest Source → List Grouping → ℕ → List Grouping → Type 0
NextGroupings modules groupings owner before = (next : List Grouping) × GroupingStep modules groupings owner before next

no_step : (modules : Forest Source) (groupings : List Grouping) (owner : ℕ) (f g : Nodes) → Step modules groupings owner f g → f ≡ end → ⊥
no_step modules groupings owner f g (replacing u below after is none) e = cc
no_step modules groupings owner f g (inside p below changed after is step) e = cc
no_step modules groupings owner f g (behind p below after changed step) e = cc

step_in_row : (modules : Forest Source) (groupings : List Grouping) (owner : ℕ) (before : List Grouping) (number : ℕ) → NextRow modules groupings owner (row_in before number)
    → NextGroupings modules groupings owner before
step_in_row modules groupings owner [] number step = absurd (no_step modules groupings owner end step.0 step.1 refl)
step_in_row modules groupings owner (g ∷ others) number step = by (g.number == number) step (step_in_row modules groupings owner others number)
  where
    by : (b : Bool) → NextRow modules groupings owner (option_map_or (λ (h : Grouping). h.row) (cond b (Some g) (find (λ (h : Grouping). h.number == number) others)) end)
        → (NextRow modules groupings owner (row_in others number) → NextGroupings modules groupings owner others) → NextGroupings modules groupings owner (g ∷ others)
    by true step rest = (record g { row = step.0 } ∷ others, in_first g step.0 others step.1)
    by false step rest = let more = rest step in (g ∷ more.0, in_others g others more.0 more.1)

step_in_used : (modules : Forest Source) (groupings : List Grouping) (owner : ℕ) (u : Part) → NextRow modules groupings owner (row_used modules groupings u)
    → NextGroupings modules groupings owner groupings
step_in_used modules groupings owner u = by (number_named modules u.source.number)
  where
    by : (o : Option ℕ) → NextRow modules groupings owner (option_map_or (row_in groupings) o end) → NextGroupings modules groupings owner groupings
    by None step = absurd (no_step modules groupings owner end step.0 step.1 refl)
    by (Some number) step = step_in_row modules groupings owner groupings number step

abbrev Next : Forest Source → List Grouping → ℕ → Nodes → Type 0
Next modules groupings owner f = NextRow modules groupings owner f ⊎ NextGroupings modules groupings owner groupings

-- at one `uses`, given the same of the row of its grouping
next_at : (modules : Forest Source) (groupings : List Grouping) (owner : ℕ) (u : Part) (below after : Nodes) → is_uses u ≡ true
    → (is_settled (row_used modules groupings u) ≡ false → Next modules groupings owner (row_used modules groupings u)) → Next modules groupings owner (node u below after)
next_at modules groupings owner u below after is deeper = by (is_settled (row_used modules groupings u)) refl
  where
    lifted : Next modules groupings owner (row_used modules groupings u) → Next modules groupings owner (node u below after)
    lifted (inl step) = inr (step_in_used modules groupings owner u step)
    lifted (inr step) = inr step

    by : (b : Bool) → is_settled (row_used modules groupings u) ≡ b → Next modules groupings owner (node u below after)
    by true none = inl (_, replacing u below after is none)
    by false some = lifted (deeper some)

next_in : (modules : Forest Source) (groupings : List Grouping) (owner : ℕ) (test : Part → Bool)
    → ((u : Part) → test u ≡ true → is_settled (row_used modules groupings u) ≡ false → Next modules groupings owner (row_used modules groupings u))
    → (f : Nodes) → all_uses test f ≡ true → is_settled f ≡ false → Next modules groupings owner f
unfolding all_uses is_settled
next_in modules groupings owner test deeper end all some = absurd cc
next_in modules groupings owner test deeper (node p below after) all some =
    by (is_uses p) refl (is_settled below) refl all some (next_in modules groupings owner test deeper below) (next_in modules groupings owner test deeper after)
  where
    from_below : is_uses p ≡ false → Next modules groupings owner below → Next modules groupings owner (node p below after)
    from_below is (inl step) = inl (node p step.0 after, inside p below step.0 after is step.1)
    from_below is (inr step) = inr step

    from_after : Next modules groupings owner after → Next modules groupings owner (node p below after)
    from_after (inl step) = inl (node p below step.0, behind p below after step.0 step.1)
    from_after (inr step) = inr step

    by : (b : Bool) → is_uses p ≡ b → (c : Bool) → is_settled below ≡ c → (cond b (test p) (all_uses test below) && all_uses test after) ≡ true
        → (not b && (c && is_settled after)) ≡ false
        → (all_uses test below ≡ true → is_settled below ≡ false → Next modules groupings owner below)
        → (all_uses test after ≡ true → is_settled after ≡ false → Next modules groupings owner after) → Next modules groupings owner (node p below after)
    by true is c settled_below all some inner rest = next_at modules groupings owner p below after is (deeper p (and_parts (test p) (all_uses test after) all).0)
    by false is true settled_below all some inner rest = from_after (rest (and_parts (all_uses test below) (all_uses test after) all).1 some)
    by false is false settled_below all some inner rest = from_below is (inner (and_parts (all_uses test below) (all_uses test after) all).0 settled_below)

next_within : (modules : Forest Source) (groupings : List Grouping) (owner depth : ℕ) (u : Part) → ends_within modules groupings depth u ≡ true
    → is_settled (row_used modules groupings u) ≡ false → Next modules groupings owner (row_used modules groupings u)
unfolding ends_within
next_within modules groupings owner zero u ends some = absurd cc
next_within modules groupings owner (suc depth) u ends some =
    next_in modules groupings owner (ends_within modules groupings depth) (next_within modules groupings owner depth) (row_used modules groupings u) ends some

next : (modules : Forest Source) (groupings : List Grouping) (owner depth : ℕ) → Ends modules groupings depth → (f : Nodes) → is_settled f ≡ false → Next modules groupings owner f
next modules groupings owner depth ends f some = next_in modules groupings owner (ends_within modules groupings depth) (next_within modules groupings owner depth) f
    (all_of_any (ends_within modules groupings depth) ends f) some

-- ---- each step leaves one `uses` less

uses_in : Nodes → ℕ
uses_in end = 0
uses_in (node p below after) = cond (is_uses p) 1 (uses_in below) + uses_in after

none_in_plain : (owner : ℕ) (f g : Nodes) → IsPlain owner f → uses_in (join f g) ≡ uses_in g
unfolding uses_in
none_in_plain owner end g plain = refl
none_in_plain owner (node p below after) g plain = by (is_uses p) plain.0 (none_in_plain owner below end plain.2) (none_in_plain owner after g plain.3)
  where
    same_end : (f : Nodes) → join f end ≡ f
    same_end end = refl
    same_end (node q c d) = ap (node q c) (same_end d)

    by : (b : Bool) → b ≡ false → uses_in (join below end) ≡ 0 → uses_in (join after g) ≡ uses_in g → cond b 1 (uses_in below) + uses_in (join after g) ≡ uses_in g
    by true is inner rest = absurd cc
    by false is inner rest = let e = ap uses_in (sym (same_end below)) ∙ inner in omega (arith, e, rest)

one_less : (modules : Forest Source) (groupings : List Grouping) (owner : ℕ) (f g : Nodes) → Step modules groupings owner f g → uses_in f ≡ suc (uses_in g)
unfolding uses_in
one_less modules groupings owner f g (replacing u below after is none) =
    let e = none_in_plain owner (refined modules owner u.own (settled owner (row_used modules groupings u))) after (made_plain modules groupings owner u) in
    let w : cond (is_uses u) 1 (uses_in below) ≡ 1 = ap (λ b. cond b 1 (uses_in below)) is in omega (arith, w, e)
one_less modules groupings owner f g (inside p below changed after is step) =
    let e = one_less modules groupings owner below changed step in
    let w : cond (is_uses p) 1 (uses_in below) ≡ uses_in below = ap (λ b. cond b 1 (uses_in below)) is in
    let v : cond (is_uses p) 1 (uses_in changed) ≡ uses_in changed = ap (λ b. cond b 1 (uses_in changed)) is in omega (arith, e, w, v)
one_less modules groupings owner f g (behind p below after changed step) = let e = one_less modules groupings owner after changed step in omega (arith, e)

uses_in_all : List Grouping → ℕ
uses_in_all [] = 0
uses_in_all (g ∷ others) = uses_in g.row + uses_in_all others

one_less_in_all : (modules : Forest Source) (groupings : List Grouping) (owner : ℕ) (before changed : List Grouping) → GroupingStep modules groupings owner before changed
    → uses_in_all before ≡ suc (uses_in_all changed)
unfolding uses_in_all
one_less_in_all modules groupings owner before changed (in_first g row others step) = let e = one_less modules groupings owner g.row row step in omega (arith, e)
one_less_in_all modules groupings owner before changed (in_others g others next step) = let e = one_less_in_all modules groupings owner others next step in omega (arith, e)

-- ---- the law

abbrev IsRewritten : Forest Source → ℕ → List Grouping → Nodes → Type 0
IsRewritten modules owner groupings f = (last : Nodes) × Rewritten modules owner groupings f last × (is_settled last ≡ true)

taken : (modules : Forest Source) (owner depth n : ℕ) (groupings : List Grouping) (f : Nodes) → uses_in_all groupings + uses_in f ≡ suc n → Ends modules groupings depth
    → ((gs : List Grouping) (g : Nodes) → uses_in_all gs + uses_in g ≡ n → Ends modules gs depth → IsRewritten modules owner gs g)
    → Next modules groupings owner f → IsRewritten modules owner groupings f
taken modules owner depth n groupings f count ends more (inl (g, step)) =
    let e = one_less modules groupings owner f g step in
    let rest = more groupings g (omega (arith, e, count)) ends in
    (rest.0, in_nodes groupings f g rest.0 step rest.1, rest.2)
taken modules owner depth n groupings f count ends more (inr (gs, step)) =
    let e = one_less_in_all modules groupings owner groupings gs step in
    let rest = more gs f (omega (arith, e, count)) (λ u. ends_step modules groupings gs owner step depth u (ends u)) in
    (rest.0, in_groupings groupings gs f rest.0 step rest.1, rest.2)

none_taken : (modules : Forest Source) (owner : ℕ) (groupings : List Grouping) (f : Nodes) → uses_in_all groupings + uses_in f ≡ 0 → Next modules groupings owner f → ⊥
none_taken modules owner groupings f count (inl (g, step)) = let e = one_less modules groupings owner f g step in absurd (omega (arith, e, count))
none_taken modules owner groupings f count (inr (gs, step)) = let e = one_less_in_all modules groupings owner groupings gs step in absurd (omega (arith, e, count))

settled_or : (modules : Forest Source) (owner : ℕ) (groupings : List Grouping) (f : Nodes) → (is_settled f ≡ false → IsRewritten modules owner groupings f) → IsRewritten modules owner groupings f
settled_or modules owner groupings f more = by (is_settled f) refl
  where
    by : (b : Bool) → is_settled f ≡ b → IsRewritten modules owner groupings f
    by true none = (f, as_it_is groupings f, none)
    by false some = more some

ends_by : (modules : Forest Source) (owner depth n : ℕ) (groupings : List Grouping) (f : Nodes) → uses_in_all groupings + uses_in f ≡ n → Ends modules groupings depth
    → IsRewritten modules owner groupings f
ends_by modules owner depth zero groupings f count ends = settled_or modules owner groupings f
    (λ some. absurd (none_taken modules owner groupings f count (next modules groupings owner depth ends f some)))
ends_by modules owner depth (suc n) groupings f count ends = settled_or modules owner groupings f
    (λ some. taken modules owner depth n groupings f count ends (ends_by modules owner depth n) (next modules groupings owner depth ends f some))

pub steps_end : (modules : Forest Source) (owner depth : ℕ) (groupings : List Grouping) (f : Nodes) → Ends modules groupings depth → IsRewritten modules owner groupings f
steps_end modules owner depth groupings f ends = ends_by modules owner depth (uses_in_all groupings + uses_in f) groupings f refl ends

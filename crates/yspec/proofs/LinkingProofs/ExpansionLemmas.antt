-- What `uses` stand for, by recursion and by single steps; and how many nodes that is.
use Rattle.std.proofs.Common.{◌≡◌, ℕ, zero, suc, ◌+◌, Bool, true, false, not, cond, ◌&&◌, List, [], ◌∷◌, map, Option, Some, None, refl, sym, ap, ap₂, ◌∙◌, arith}
use Rattle.std.specs.Prelude.{find, ◌==◌}
use Rattle.std.specs.Option.{option_map_or}
use Rattle.std.proofs.lemmas.Bool.{and_parts}
use Rattle.yspec.specs.Forest.{Forest, end, node, size, join, change_nth}
use Rattle.yspec.specs.linking.Keyword as word
use Rattle.yspec.specs.linking.Source.{Source, is_source_of}
use Rattle.yspec.specs.linking.Parts.{Part}
use Rattle.yspec.specs.linking.Prefixes.{NodeName}
use Rattle.yspec.specs.linking.DerivedTypes.{number_named}
use Rattle.yspec.specs.linking.Expansion.{Grouping, is_uses, row_in, row_used, is_step, changed_at, is_refine, is_fit, refine_steps, overridden, after_refine, refined, owned_by, replaced, stands_for, laid, groupings_of, expanded, expanded_from}
use Rattle.yspec.specs.linking.Augments.{Augment, sizes_added}
use Rattle.yspec.specs.linking.NodeCounts.{GroupingCount, counted, count_in, count_used, counted_by, counts_within, counted_from, counted_in}
use Rattle.yspec.specs.linking.Rewriting.{is_settled, settled, Step, replacing, inside, behind, GroupingStep, in_first, in_others, Rewritten, as_it_is, in_nodes, in_groupings, all_uses, ends_within, Ends}

abbrev pub Nodes : Type 0
Nodes = Forest Part

same_node : (p q : Part) (a b c d : Nodes) → p ≡ q → a ≡ b → c ≡ d → node p a c ≡ node q b d
same_node p q a b c d e f g = cc

-- ---- a refine changes what nodes state, and nothing else of a row

-- the same row but for what its nodes state
abbrev pub SameNodes : Nodes → Nodes → Type 0
SameNodes end end = Unit {0}
SameNodes end (node q c d) = ⊥
SameNodes (node p b a) end = ⊥
SameNodes (node p b a) (node q c d) = (p.source ≡ q.source) × (p.owner ≡ q.owner) × SameNodes b c × SameNodes a d

pub same_itself : (f : Nodes) → SameNodes f f
same_itself end = tt
same_itself (node p b a) = (refl, refl, same_itself b, same_itself a)

same_by_way : (f g h : Nodes) → SameNodes f g → SameNodes g h → SameNodes f h
same_by_way end end h first second = second
same_by_way end (node q c d) h first second = absurd first
same_by_way (node p b a) end h first second = absurd first
same_by_way (node p b a) (node q c d) end first second = absurd second
same_by_way (node p b a) (node q c d) (node r i o) first second = (
  first.0 ∙ second.0,
  first.1 ∙ second.1,
  same_by_way b c i first.2 second.2,
  same_by_way a d o first.3 second.3,
)

abbrev KeepsNodes : (Part → Nodes → Nodes → Nodes) → Type 0
KeepsNodes change = (p : Part) (below after : Nodes) → SameNodes (node p below after) (change p below after)

same_nth : (test : Part → Bool) (change : Part → Nodes → Nodes → Nodes) → KeepsNodes change → (f : Nodes) → SameNodes f (change_nth test 0 change f)
same_nth test change keeps end = tt
same_nth test change keeps (node p below after) = by (test p) (same_nth test change keeps after)
  where
    by : (b : Bool) → SameNodes after (change_nth test 0 change after)
        → SameNodes (node p below after) (cond b (change p below after) (node p below (change_nth test 0 change after)))
    by true rest = keeps p below after
    by false rest = (refl, refl, same_itself below, rest)

same_at : (steps : List NodeName) (change : Part → Nodes → Nodes → Nodes) → KeepsNodes change → (f : Nodes) → SameNodes f (changed_at steps change f)
same_at [] change keeps f = same_itself f
same_at (step ∷ []) change keeps f = same_nth (is_step step) change keeps f
same_at (step ∷ next ∷ steps) change keeps f = same_nth (is_step step) (λ p below after. node p (changed_at (next ∷ steps) change below) after)
    (λ p below after. (refl, refl, same_at (next ∷ steps) change keeps below, same_itself after)) f

same_after : (modules : Forest Source) (owner : ℕ) (s : Source) (given : Forest Source) (f : Nodes) → SameNodes f (after_refine modules owner s given f)
same_after modules owner s given f = by (is_refine s && is_fit modules owner s given f)
  where
    by : (b : Bool) → SameNodes f (cond b (changed_at (refine_steps modules owner s) (overridden given) f) f)
    by true = same_at (refine_steps modules owner s) (overridden given) (λ p below after. (refl, refl, same_itself below, same_itself after)) f
    by false = same_itself f

pub same_refined : (modules : Forest Source) (owner : ℕ) (own : Forest Source) (f : Nodes) → SameNodes f (refined modules owner own f)
unfolding refined
same_refined modules owner end f = same_itself f
same_refined modules owner (node s given after) f =
    let next = after_refine modules owner s given f in
    same_by_way f next (refined modules owner after next) (same_after modules owner s given f) (same_refined modules owner after next)

pub same_size : (f g : Nodes) → SameNodes f g → size f ≡ size g
same_size end end same = refl
same_size end (node q c d) same = absurd same
same_size (node p b a) end same = absurd same
same_size (node p b a) (node q c d) same = ap₂ (λ m n. suc (m + n)) (same_size b c same.2) (same_size a d same.3)

-- ---- plain rows: nodes of one module alone

abbrev pub IsPlain : ℕ → Nodes → Type 0
IsPlain owner end = Unit {0}
IsPlain owner (node p below after) = (is_uses p ≡ false) × (p.owner ≡ owner) × IsPlain owner below × IsPlain owner after

same_plain : (owner : ℕ) (f g : Nodes) → SameNodes f g → IsPlain owner f → IsPlain owner g
same_plain owner end end same plain = tt
same_plain owner end (node q c d) same plain = absurd same
same_plain owner (node p b a) end same plain = absurd same
same_plain owner (node p b a) (node q c d) same plain = (
  ap (is_source_of word.uses_word) (sym same.0) ∙ plain.0,
  sym same.1 ∙ plain.1,
  same_plain owner b c same.2 plain.2,
  same_plain owner a d same.3 plain.3,
)

pub plain_join : (owner : ℕ) (f g : Nodes) → IsPlain owner f → IsPlain owner g → IsPlain owner (join f g)
plain_join owner end g first second = second
plain_join owner (node p below after) g first second = (first.0, first.1, first.2, plain_join owner after g first.3 second)

-- what a row with a node in front is replaced by
abbrev front : Bool → (Part → Nodes) → ℕ → Part → Nodes → Nodes → Nodes
front b meant owner p below after = cond b (join (meant p) after) (node (owned_by owner p) below after)

plain_replaced : (meant : Part → Nodes) (owner : ℕ) → ((u : Part) → IsPlain owner (meant u)) → (f : Nodes) → IsPlain owner (replaced meant owner f)
unfolding replaced
plain_replaced meant owner plain end = tt
plain_replaced meant owner plain (node p below after) = by (is_uses p) refl (plain_replaced meant owner plain below) (plain_replaced meant owner plain after)
  where
    by : (b : Bool) → is_uses p ≡ b → IsPlain owner (replaced meant owner below) → IsPlain owner (replaced meant owner after)
        → IsPlain owner (front b meant owner p (replaced meant owner below) (replaced meant owner after))
    by true is inner rest = plain_join owner (meant p) (replaced meant owner after) (plain p) rest
    by false is inner rest = (is, refl, inner, rest)

pub plain_settled : (owner : ℕ) (f : Nodes) → IsPlain owner (settled owner f)
plain_settled owner f = plain_replaced (λ u. end) owner (λ u. tt) f

pub plain_refined : (modules : Forest Source) (owner : ℕ) (own : Forest Source) (f : Nodes) → IsPlain owner f → IsPlain owner (refined modules owner own f)
plain_refined modules owner own f plain = same_plain owner f (refined modules owner own f) (same_refined modules owner own f) plain

-- such a row is replaced by itself
front_node : (b : Bool) (meant : Part → Nodes) (owner : ℕ) (p : Part) (below after : Nodes) → b ≡ false → front b meant owner p below after ≡ node (owned_by owner p) below after
front_node true meant owner p below after e = absurd cc
front_node false meant owner p below after e = refl

front_uses : (b : Bool) (meant : Part → Nodes) (owner : ℕ) (p : Part) (below after : Nodes) → b ≡ true → front b meant owner p below after ≡ join (meant p) after
front_uses true meant owner p below after e = refl
front_uses false meant owner p below after e = absurd cc

owned_already : (owner : ℕ) (p : Part) → p.owner ≡ owner → owned_by owner p ≡ p
owned_already owner p e = ap (λ (o : ℕ). record p { owner = o }) (sym e)

pub plain_stays : (meant : Part → Nodes) (owner : ℕ) (f : Nodes) → IsPlain owner f → replaced meant owner f ≡ f
unfolding replaced
plain_stays meant owner end plain = refl
plain_stays meant owner (node p below after) plain = front_node (is_uses p) meant owner p (replaced meant owner below) (replaced meant owner after) plain.0
    ∙ same_node (owned_by owner p) p (replaced meant owner below) below (replaced meant owner after) after
    (owned_already owner p plain.1) (plain_stays meant owner below plain.2) (plain_stays meant owner after plain.3)

replaced_join : (meant : Part → Nodes) (owner : ℕ) (f g : Nodes) → IsPlain owner f → replaced meant owner (join f g) ≡ join f (replaced meant owner g)
unfolding replaced
replaced_join meant owner end g plain = refl
replaced_join meant owner (node p below after) g plain = front_node (is_uses p) meant owner p (replaced meant owner below) (replaced meant owner (join after g)) plain.0
    ∙ same_node (owned_by owner p) p (replaced meant owner below) below (replaced meant owner (join after g)) (join after (replaced meant owner g))
    (owned_already owner p plain.1) (plain_stays meant owner below plain.2) (replaced_join meant owner after g plain.3)

-- ---- two meanings that agree where they are asked

pub agree : (test : Part → Bool) (first second : Part → Nodes) → ((u : Part) → test u ≡ true → first u ≡ second u) → (owner : ℕ) (f : Nodes) → all_uses test f ≡ true
    → replaced first owner f ≡ replaced second owner f
unfolding replaced all_uses
agree test first second same owner end all = refl
agree test first second same owner (node p below after) all = by (is_uses p) all (agree test first second same owner below) (agree test first second same owner after)
  where
    by : (b : Bool) → (cond b (test p) (all_uses test below) && all_uses test after) ≡ true
        → (all_uses test below ≡ true → replaced first owner below ≡ replaced second owner below)
        → (all_uses test after ≡ true → replaced first owner after ≡ replaced second owner after)
        → front b first owner p (replaced first owner below) (replaced first owner after) ≡ front b second owner p (replaced second owner below) (replaced second owner after)
    by true all inner rest = let parts = and_parts (test p) (all_uses test after) all in ap₂ join (same p parts.0) (rest parts.1)
    by false all inner rest = let parts = and_parts (all_uses test below) (all_uses test after) all in
        same_node (owned_by owner p) (owned_by owner p) (replaced first owner below) (replaced second owner below) (replaced first owner after) (replaced second owner after)
        refl (inner parts.0) (rest parts.1)

-- in a row without `uses` they are asked nowhere
settled_asks_none : (test : Part → Bool) (f : Nodes) → is_settled f ≡ true → all_uses test f ≡ true
unfolding is_settled all_uses
settled_asks_none test end none = refl
settled_asks_none test (node p below after) none = by (is_uses p) none (settled_asks_none test below) (settled_asks_none test after)
  where
    by : (b : Bool) → (not b && (is_settled below && is_settled after)) ≡ true → (is_settled below ≡ true → all_uses test below ≡ true)
        → (is_settled after ≡ true → all_uses test after ≡ true) → (cond b (test p) (all_uses test below) && all_uses test after) ≡ true
    by true none inner rest = absurd cc
    by false none inner rest = let parts = and_parts (is_settled below) (is_settled after) none in
        let e = inner parts.0 in let f = rest parts.1 in ap (λ x. x && all_uses test after) e ∙ f

pub replaced_settled : (meant : Part → Nodes) (owner : ℕ) (f : Nodes) → is_settled f ≡ true → replaced meant owner f ≡ settled owner f
replaced_settled meant owner f none = agree (λ u. false) meant (λ u. end) (λ u e. absurd cc) owner f (settled_asks_none (λ u. false) f none)

-- ---- what each `uses` stands for

-- each stands for the nodes of its grouping, every `uses` in it replaced, and refined
abbrev pub StandsFor : Forest Source → List Grouping → ℕ → (Part → Nodes) → Type 0
StandsFor modules groupings owner meant = (u : Part) → meant u ≡ refined modules owner u.own (replaced meant owner (row_used modules groupings u))

pub one_deeper : (modules : Forest Source) (groupings : List Grouping) (owner depth : ℕ) (u : Part) → ends_within modules groupings depth u ≡ true
    → stands_for modules groupings owner depth u ≡ stands_for modules groupings owner (suc depth) u
unfolding stands_for ends_within
one_deeper modules groupings owner zero u ends = absurd cc
one_deeper modules groupings owner (suc depth) u ends = ap (refined modules owner u.own)
    (agree (ends_within modules groupings depth) (stands_for modules groupings owner depth) (stands_for modules groupings owner (suc depth))
    (one_deeper modules groupings owner depth) owner (row_used modules groupings u) ends)

pub stands_by_depth : (modules : Forest Source) (groupings : List Grouping) (owner depth : ℕ) → Ends modules groupings depth
    → StandsFor modules groupings owner (stands_for modules groupings owner depth)
unfolding stands_for
stands_by_depth modules groupings owner depth ends u = one_deeper modules groupings owner depth u (ends u)

-- ---- a step changes nothing of what a row stands for

replaced_step : (modules : Forest Source) (groupings : List Grouping) (owner : ℕ) (meant : Part → Nodes) → StandsFor modules groupings owner meant
    → (f g : Nodes) → Step modules groupings owner f g → replaced meant owner f ≡ replaced meant owner g
unfolding replaced
replaced_step modules groupings owner meant stands f g (replacing u below after is none) =
    front_uses (is_uses u) meant owner u (replaced meant owner below) (replaced meant owner after) is
    ∙ (ap (λ x. join x (replaced meant owner after)) (stands u ∙ ap (refined modules owner u.own) (replaced_settled meant owner (row_used modules groupings u) none))
    ∙ sym (replaced_join meant owner (refined modules owner u.own (settled owner (row_used modules groupings u))) after
    (plain_refined modules owner u.own (settled owner (row_used modules groupings u)) (plain_settled owner (row_used modules groupings u)))))
replaced_step modules groupings owner meant stands f g (inside p below changed after is step) =
    ap (λ x. front (is_uses p) meant owner p x (replaced meant owner after)) (replaced_step modules groupings owner meant stands below changed step)
replaced_step modules groupings owner meant stands f g (behind p below after changed step) =
    ap (λ x. front (is_uses p) meant owner p (replaced meant owner below) x) (replaced_step modules groupings owner meant stands after changed step)

-- nor of what the groupings stand for
row_step : (modules : Forest Source) (groupings : List Grouping) (owner : ℕ) (meant : Part → Nodes) → StandsFor modules groupings owner meant
    → (before changed : List Grouping) → GroupingStep modules groupings owner before changed → (number : ℕ)
    → replaced meant owner (row_in before number) ≡ replaced meant owner (row_in changed number)
row_step modules groupings owner meant stands before changed (in_first g row others step) number = by (g.number == number)
  where
    found : Option Grouping
    found = find (λ (h : Grouping). h.number == number) others

    by : (b : Bool) → replaced meant owner (option_map_or (λ (h : Grouping). h.row) (cond b (Some g) found) end)
        ≡ replaced meant owner (option_map_or (λ (h : Grouping). h.row) (cond b (Some (record g { row = row })) found) end)
    by true = replaced_step modules groupings owner meant stands g.row row step
    by false = refl
row_step modules groupings owner meant stands before changed (in_others g others next step) number =
    by (g.number == number) (row_step modules groupings owner meant stands others next step number)
  where
    by : (b : Bool) → replaced meant owner (row_in others number) ≡ replaced meant owner (row_in next number)
        → replaced meant owner (option_map_or (λ (h : Grouping). h.row) (cond b (Some g) (find (λ (h : Grouping). h.number == number) others)) end)
        ≡ replaced meant owner (option_map_or (λ (h : Grouping). h.row) (cond b (Some g) (find (λ (h : Grouping). h.number == number) next)) end)
    by true rest = refl
    by false rest = rest

stands_step : (modules : Forest Source) (groupings : List Grouping) (owner : ℕ) (meant : Part → Nodes) → StandsFor modules groupings owner meant
    → (changed : List Grouping) → GroupingStep modules groupings owner groupings changed → StandsFor modules changed owner meant
stands_step modules groupings owner meant stands changed step u =
    stands u ∙ ap (refined modules owner u.own) (used (number_named modules u.source.number))
  where
    used : (o : Option ℕ) → replaced meant owner (option_map_or (row_in groupings) o end) ≡ replaced meant owner (option_map_or (row_in changed) o end)
    used None = refl
    used (Some number) = row_step modules groupings owner meant stands groupings changed step number

-- ---- whatever order the steps are taken in, they end where the recursion does

pub replaced_by_steps : (modules : Forest Source) (owner : ℕ) (meant : Part → Nodes) (groupings : List Grouping) (f last : Nodes)
    → StandsFor modules groupings owner meant → Rewritten modules owner groupings f last → is_settled last ≡ true → replaced meant owner f ≡ settled owner last
replaced_by_steps modules owner meant groupings f last stands (as_it_is gs nodes) done = replaced_settled meant owner nodes done
replaced_by_steps modules owner meant groupings f last stands (in_nodes gs nodes next to step more) done =
    replaced_step modules gs owner meant stands nodes next step ∙ replaced_by_steps modules owner meant gs next to stands more done
replaced_by_steps modules owner meant groupings f last stands (in_groupings gs changed nodes to step more) done =
    replaced_by_steps modules owner meant changed nodes to (stands_step modules gs owner meant stands changed step) more done

-- ---- counting without expanding

pub size_join : (f g : Nodes) → size (join f g) ≡ size f + size g
size_join end g = omega arith
size_join (node p below after) g = let e = size_join after g in omega (arith, e)

pub counted_is_size : (owner : ℕ) (count : Part → ℕ) (meant : Part → Nodes) → ((u : Part) → count u ≡ size (meant u)) → (f : Nodes) → counted count f ≡ size (replaced meant owner f)
unfolding counted replaced
counted_is_size owner count meant same end = refl
counted_is_size owner count meant same (node p below after) = by (is_uses p) (counted_is_size owner count meant same below) (counted_is_size owner count meant same after)
  where
    by : (b : Bool) → counted count below ≡ size (replaced meant owner below) → counted count after ≡ size (replaced meant owner after)
        → cond b (count p) (suc (counted count below)) + counted count after ≡ size (front b meant owner p (replaced meant owner below) (replaced meant owner after))
    by true inner rest = let e = size_join (meant p) (replaced meant owner after) in let s = same p in omega (arith, e, s, rest)
    by false inner rest = omega (arith, inner, rest)

-- a table over all groupings
table_row : (modules : Forest Source) (counts : List GroupingCount) (groupings : List Grouping) (number : ℕ)
    → count_in (map (counted_by modules counts) groupings) number ≡ counted (count_used modules counts) (row_in groupings number)
unfolding counted
table_row modules counts [] number = refl
table_row modules counts (g ∷ groupings) number = by (g.number == number) (table_row modules counts groupings number)
  where
    by : (b : Bool) → count_in (map (counted_by modules counts) groupings) number ≡ counted (count_used modules counts) (row_in groupings number)
        → option_map_or (λ (c : GroupingCount). c.count) (cond b (Some (counted_by modules counts g)) (find (λ (c : GroupingCount). c.number == number) (map (counted_by modules counts) groupings))) 0
        ≡ counted (count_used modules counts) (option_map_or (λ (h : Grouping). h.row) (cond b (Some g) (find (λ (h : Grouping). h.number == number) groupings)) end)
    by true rest = refl
    by false rest = rest

-- what a grouping holds, before refines
abbrev inner_row : Forest Source → List Grouping → ℕ → ℕ → Part → Nodes
inner_row modules groupings owner depth u = replaced (stands_for modules groupings owner depth) owner (row_used modules groupings u)

by_row : (modules : Forest Source) (groupings : List Grouping) (owner depth : ℕ) (u : Part)
    → ((v : Part) → count_used modules (counts_within modules groupings depth) v ≡ size (stands_for modules groupings owner depth v))
    → count_used modules (counts_within modules groupings (suc depth)) u ≡ size (inner_row modules groupings owner depth u)
unfolding counts_within counted replaced
by_row modules groupings owner depth u inner = used (number_named modules u.source.number)
    ∙ counted_is_size owner (count_used modules counts) (stands_for modules groupings owner depth) inner (row_used modules groupings u)
  where
    counts : List GroupingCount
    counts = counts_within modules groupings depth

    used : (o : Option ℕ) → option_map_or (count_in (map (counted_by modules counts) groupings)) o 0 ≡ counted (count_used modules counts) (option_map_or (row_in groupings) o end)
    used None = refl
    used (Some number) = table_row modules counts groupings number

pub count_is_size : (modules : Forest Source) (groupings : List Grouping) (owner depth : ℕ) (u : Part)
    → count_used modules (counts_within modules groupings depth) u ≡ size (stands_for modules groupings owner depth u)
unfolding counts_within stands_for counted replaced
count_is_size modules groupings owner zero u = none (number_named modules u.source.number)
  where
    none : (o : Option ℕ) → option_map_or (count_in []) o 0 ≡ 0
    none None = refl
    none (Some number) = refl
count_is_size modules groupings owner (suc depth) u = by_row modules groupings owner depth u (count_is_size modules groupings owner depth)
    ∙ same_size (inner_row modules groupings owner depth u) (refined modules owner u.own (inner_row modules groupings owner depth u))
    (same_refined modules owner u.own (inner_row modules groupings owner depth u))

pub count_used_is_size : (modules : Forest Source) (groupings : List Grouping) (owner depth : ℕ) (u : Part)
    → count_used modules (counts_within modules groupings (suc depth)) u ≡ size (inner_row modules groupings owner depth u)
count_used_is_size modules groupings owner depth u = by_row modules groupings owner depth u (count_is_size modules groupings owner depth)

pub counted_all : (modules : Forest Source) (groupings : List Grouping) (f : Forest Source)
    → counted_from modules (counts_within modules groupings (suc (size modules))) f ≡ size (expanded_from modules groupings f)
counted_all modules groupings end = refl
counted_all modules groupings (node s below after) =
    let meant = stands_for modules groupings s.home (suc (size modules)) in
    let counts = counts_within modules groupings (suc (size modules)) in
    ap₂ (λ m n. m + n) (counted_is_size s.home (count_used modules counts) meant (count_is_size modules groupings s.home (suc (size modules))) (laid below))
    (counted_all modules groupings after)
    ∙ sym (size_join (expanded modules groupings s.home (laid below)) (expanded_from modules groupings after))

pub counted_added : (modules : Forest Source) (augments : List Augment)
    → counted_in modules (counts_within modules (groupings_of modules) (suc (size modules))) augments ≡ sizes_added modules augments
counted_added modules [] = refl
counted_added modules (a ∷ others) =
    let groupings = groupings_of modules in
    let meant = stands_for modules groupings a.source.home (suc (size modules)) in
    let counts = counts_within modules groupings (suc (size modules)) in
    ap₂ (λ m n. m + n) (counted_is_size a.source.home (count_used modules counts) meant (count_is_size modules groupings a.source.home (suc (size modules))) (laid a.given))
    (counted_added modules others)

-- a row of no nodes is empty
pub none_in : {n : ℕ} (f : Nodes) → n ≡ size f → n ≡ 0 → f ≡ end
none_in end is none = refl
none_in (node p below after) is none = absurd (omega (arith, is, none))

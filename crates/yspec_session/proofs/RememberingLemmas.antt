-- What becomes of a session that is kept by the edits since a document.
use Rattle.std.proofs.Common.{◌≡◌, ◌≢◌, ◌&&◌, append_assoc, append-nil, subst, ℕ, zero, suc, ◌+◌, ◌-◌, ◌++◌, Bool, true, false, List, [], ◌∷◌, length, Option, Some, None, Ok, refl, sym, ap, ap₂, ◌∙◌, ◌≤◌, ◌<◌, arith}
use Rattle.std.specs.Prelude.{if◌then◌else◌, take, drop, nat_lt, nat_le, option_map, is_some, unwrap_or}
use Rattle.std.specs.List.{flat_map}
use Rattle.std.proofs.lemmas.Bool.{ltb-true, ltb-false, leb-true}
use Rattle.std.proofs.lemmas.List.{take-append-le, take-append-drop, drop-append-le, length-append, length-take-le}
use Rattle.yspec.specs.schema.Schema.{Schema}
use Rattle.yspec.specs.document.Document.{Tree}
use Rattle.yspec.specs.edit.EditText.{Edit}
use Rattle.yspec.specs.edit.Editing.{applied, tree_or, after}
use Rattle.yspec_session.specs.Carrying.{Turn}
use Rattle.yspec_session.specs.Session.{Earlier, Begun, Session, turns_of, turns_to, with_turns, without_turns, with_remembered, undone, begun_with, committed, fallen}
use Rattle.yspec_session.specs.Remembering.{Since, Kept, kept_from, behind_groups, turns_back, befores, one_more, with_group, begun_here, joined, back_to, began_behind, stands_behind, less_groups, counted_from, settled_by, settled, way_from, way_to, Later, until, marked, Leads, turns_in, begun_at, turns_behind, groups_since, kept_since, Remembers}

-- ---- lists

none_taken : {A : Type 0} (xs : List A) → take 0 xs ≡ []
none_taken [] = refl
none_taken (x ∷ xs) = refl

all_taken : {A : Type 0} (xs : List A) → take (length xs) xs ≡ xs
all_taken [] = refl
all_taken (x ∷ xs) = ap (λ ys. x ∷ ys) (all_taken xs)

none_left : {A : Type 0} (xs : List A) → drop (length xs) xs ≡ []
none_left [] = refl
none_left (x ∷ xs) = none_left xs

fewer_taken : {A : Type 0} (l k : ℕ) (xs : List A) → l ≤ k → take l (take k xs) ≡ take l xs
fewer_taken zero k xs le = none_taken (take k xs) ∙ sym (none_taken xs)
fewer_taken (suc l) zero xs le = absurd (omega (arith, le))
fewer_taken (suc l) (suc k) [] le = refl
fewer_taken (suc l) (suc k) (x ∷ xs) le = ap (λ ys. x ∷ ys) (fewer_taken l k xs (omega (arith, le)))

more_taken : {A : Type 0} (l k : ℕ) (xs : List A) → k ≤ l → take l (take k xs) ≡ take k xs
more_taken zero zero xs le = none_taken (take 0 xs) ∙ sym (none_taken xs)
more_taken zero (suc k) xs le = absurd (omega (arith, le))
more_taken (suc l) zero xs le = ap (take (suc l)) (none_taken xs) ∙ sym (none_taken xs)
more_taken (suc l) (suc k) [] le = refl
more_taken (suc l) (suc k) (x ∷ xs) le = ap (λ ys. x ∷ ys) (more_taken l k xs (omega (arith, le)))

one_in_front : {A : Type 0} (limit n : ℕ) (x : A) (xs : List A) → take limit (x ∷ take n xs) ≡ take (one_more limit n) (x ∷ xs)
one_in_front limit n x xs = by (nat_lt n limit) refl
  where
    front : (limit : ℕ) → n < limit → take limit (x ∷ take n xs) ≡ take (suc n) (x ∷ xs)
    front zero lt = absurd (omega (arith, lt))
    front (suc l) lt = ap (λ ys. x ∷ ys) (more_taken l n xs (omega (arith, lt)))

    whole : (limit : ℕ) → limit ≤ n → take limit (x ∷ take n xs) ≡ take limit (x ∷ xs)
    whole zero le = refl
    whole (suc l) le = ap (λ ys. x ∷ ys) (fewer_taken l n xs (omega (arith, le)))

    by : (b : Bool) → nat_lt n limit ≡ b → take limit (x ∷ take n xs) ≡ take (if b then n + 1 else limit) (x ∷ xs)
    by true e = let next : suc n ≡ n + 1 = omega (arith) in front limit (ltb-true n limit e) ∙ ap (λ m. take m (x ∷ xs)) next
    by false e = whole limit (ltb-false n limit e)

one_more_le : (limit n : ℕ) → one_more limit n ≤ n + 1
one_more_le limit n = by (nat_lt n limit) refl
  where
    by : (b : Bool) → nat_lt n limit ≡ b → (if b then n + 1 else limit) ≤ n + 1
    by true e = omega (arith)
    by false e = omega (arith, ltb-false n limit e)

-- ---- groups of edits

after_both : (schema : Schema) (tree : Tree) (xs ys : List Edit) → after schema tree (xs ++ ys) ≡ after schema (after schema tree xs) ys
after_both schema tree [] ys = refl
after_both schema tree (x ∷ xs) ys = after_both schema (tree_or (applied schema tree x) tree) xs ys

behind_both : (schema : Schema) (tree : Tree) (gs hs : List (List Edit))
    → behind_groups schema tree (gs ++ hs) ≡ behind_groups schema (behind_groups schema tree gs) hs
behind_both schema tree [] hs = refl
behind_both schema tree (g ∷ gs) hs = behind_both schema (after schema tree g) gs hs

as_one : (schema : Schema) (tree : Tree) (gs : List (List Edit)) → after schema tree (flat_map (λ g. g) gs) ≡ behind_groups schema tree gs
as_one schema tree [] = refl
as_one schema tree (g ∷ gs) = after_both schema tree g (flat_map (λ g. g) gs) ∙ as_one schema (after schema tree g) gs

-- what comes back before a group at a document
abbrev comes : Schema → List Edit → Tree → Earlier
comes schema g tree = record { tree = tree; turns = turns_back schema tree g }

before_last : (schema : Schema) (tree : Tree) (gs : List (List Edit)) (g : List Edit)
    → befores schema tree (gs ++ g ∷ []) ≡ comes schema g (behind_groups schema tree gs) ∷ befores schema tree gs
before_last schema tree [] g = refl
before_last schema tree (h ∷ gs) g = ap (λ ts. ts ++ comes schema h tree ∷ []) (before_last schema (after schema tree h) gs g)

-- the turns of edits as one
pub turns_both : (schema : Schema) (tree : Tree) (xs ys : List Edit)
    → turns_back schema tree (xs ++ ys) ≡ turns_back schema (after schema tree xs) ys ++ turns_back schema tree xs
turns_both schema tree [] ys = sym (append-nil (turns_back schema tree ys))
turns_both schema tree (x ∷ xs) ys = let next = tree_or (applied schema tree x) tree in
    ap (λ ts. ts ++ (turns_of schema tree x).back) (turns_both schema next xs ys)
    ∙ append_assoc (turns_back schema (after schema next xs) ys) (turns_back schema next xs) (turns_of schema tree x).back

all_turns : List Earlier → List Turn
all_turns es = flat_map (λ turns. turns) (turns_in es)

last_turns : (es : List Earlier) (e : Earlier) → all_turns (es ++ e ∷ []) ≡ all_turns es ++ e.turns
unfolding all_turns
last_turns [] e = append-nil e.turns
last_turns (x ∷ es) e = ap (λ ts. x.turns ++ ts) (last_turns es e) ∙ sym (append_assoc x.turns (all_turns es) e.turns)

turns_as_one : (schema : Schema) (tree : Tree) (gs : List (List Edit))
    → turns_back schema tree (flat_map (λ g. g) gs) ≡ flat_map (λ turns. turns) (turns_in (befores schema tree gs))
unfolding all_turns
turns_as_one schema tree [] = refl
turns_as_one schema tree (g ∷ gs) = turns_both schema tree g (flat_map (λ g. g) gs)
    ∙ (ap (λ ts. ts ++ turns_back schema tree g) (turns_as_one schema (after schema tree g) gs)
    ∙ sym (last_turns (befores schema (after schema tree g) gs) (comes schema g tree)))

-- the last groups as one leave the same document
joined_same : (schema : Schema) (tree : Tree) (n : ℕ) (gs : List (List Edit))
    → behind_groups schema tree (take n gs ++ flat_map (λ g. g) (drop n gs) ∷ []) ≡ behind_groups schema tree gs
joined_same schema tree n gs = behind_both schema tree (take n gs) (flat_map (λ g. g) (drop n gs) ∷ [])
    ∙ (as_one schema (behind_groups schema tree (take n gs)) (drop n gs)
    ∙ (sym (behind_both schema tree (take n gs) (drop n gs)) ∙ ap (behind_groups schema tree) (take-append-drop n gs)))

-- where edits together began there are the turns of one more group behind it
begun_more : (schema : Schema) (base : Tree) (gs : List (List Edit)) (g : List Edit) (o : Option Since) → groups_since o ≤ length gs
    → option_map (begun_at schema base (gs ++ g ∷ [])) o
    ≡ option_map (with_turns (turns_back schema (behind_groups schema base gs) g)) (option_map (begun_at schema base gs) o)
begun_more schema base gs g None le = refl
begun_more schema base gs g (Some b) le =
    ap₂ (λ (xs ys : List (List Edit)). Some (at xs ys)) (take-append-le b.groups gs (g ∷ []) le) (drop-append-le b.groups gs (g ∷ []) le)
    ∙ ap (λ ts. Some (since ts)) (ap turns_in (before_last schema there (drop b.groups gs) g)
    ∙ ap (λ t. turns_back schema t g ∷ turns_in (befores schema there (drop b.groups gs)))
    (sym (behind_both schema base (take b.groups gs) (drop b.groups gs)) ∙ ap (behind_groups schema base) (take-append-drop b.groups gs)))
  where
    there : Tree
    there = behind_groups schema base (take b.groups gs)

    -- with the first groups and those behind
    at : List (List Edit) → List (List Edit) → Begun
    at xs ys = record {
      tree = behind_groups schema base xs;
      remembered = take b.kept (befores schema base xs);
      turns = turns_in (befores schema (behind_groups schema base xs) ys);
    }

    since : List (List Turn) → Begun
    since ts = record { tree = there; remembered = take b.kept (befores schema base (take b.groups gs)); turns = ts }

one_fewer : (turns : List Turn) (o : Option Begun) → option_map without_turns (option_map (with_turns turns) o) ≡ o
one_fewer turns None = refl
one_fewer turns (Some b) = refl

-- ---- the later document

-- with groups behind it
leads_more : (schema : Schema) (base : Tree) (gs more : List (List Edit)) (o : Option Later) → Leads schema base gs o → Leads schema base (gs ++ more) o
leads_more schema base gs more None leads = tt
leads_more schema base gs more (Some l) leads = (
  omega (arith, leads.0, length-append gs more),
  leads.1 ∙ sym (ap (behind_groups schema base) (take-append-le l.groups gs more leads.0)),
)

-- where no more than the first groups stay, whatever stands behind them
leads_until : (schema : Schema) (base : Tree) (gs more : List (List Edit)) (n : ℕ) (o : Option Later) → n ≤ length gs → Leads schema base gs o
    → Leads schema base (take n gs ++ more) (until n o)
leads_until schema base gs more n None within leads = tt
leads_until schema base gs more n (Some l) within leads = by (nat_le l.groups n) refl
  where
    by : (b : Bool) → nat_le l.groups n ≡ b → Leads schema base (take n gs ++ more) (if b then Some l else None)
    by true e = let few : l.groups ≤ n = leb-true l.groups n e in (
      omega (arith, few, length-append (take n gs) more, length-take-le n gs within),
      leads.1 ∙ sym (ap (behind_groups schema base) (take-append-le l.groups (take n gs) more (omega (arith, few, length-take-le n gs within)) ∙ fewer_taken l.groups n gs few)),
    )
    by false e = tt

leads_first : (schema : Schema) (base : Tree) (gs : List (List Edit)) (n : ℕ) (o : Option Later) → n ≤ length gs → Leads schema base gs o
    → Leads schema base (take n gs) (until n o)
leads_first schema base gs n o within leads = subst (λ hs. Leads schema base hs (until n o)) (append-nil (take n gs)) (leads_until schema base gs [] n o within leads)

-- ---- what becomes of it

pub starts : (schema : Schema) (tree : Tree) → Remembers schema (kept_from tree) (record { tree = tree; remembered = []; begun = None })
starts schema tree = record { tree = refl; earlier = refl; begun = refl; room = omega (arith); inner = omega (arith); later = tt }

pub changes : (schema : Schema) (limit : ℕ) (k : Kept) (s : Session) (e : Edit) (later : Tree) → Remembers schema k s
    → applied schema s.tree e ≡ Ok later → Remembers schema (with_group limit (e ∷ []) k) (with_remembered limit (turns_of schema s.tree e).back later s)
changes schema limit k s e later r is = record {
  tree = sym (behind_both schema k.base k.groups ((e ∷ []) ∷ []) ∙ ap (λ answer. tree_or answer here) (ap (λ t. applied schema t e) (sym r.tree) ∙ is));
  earlier = ap₂ (λ (t : Tree) (es : List Earlier). take limit (comes schema (e ∷ []) t ∷ es)) r.tree r.earlier
      ∙ (one_in_front limit k.kept (comes schema (e ∷ []) here) (befores schema k.base k.groups)
      ∙ ap (take (one_more limit k.kept)) (sym (before_last schema k.base k.groups (e ∷ []))));
  begun = ap₂ (λ (t : Tree) (o : Option Begun). option_map (with_turns (turns_back schema t (e ∷ []))) o) r.tree r.begun
      ∙ sym (begun_more schema k.base k.groups (e ∷ []) k.begun (omega (arith, r.room)));
  room = omega (arith, r.room, one_more_le limit k.kept, length-append k.groups ((e ∷ []) ∷ []));
  inner = r.inner;
  later = leads_more schema k.base k.groups ((e ∷ []) ∷ []) k.later r.later;
}
  where
    here : Tree
    here = behind_groups schema k.base k.groups

pub nothing_left : (schema : Schema) (k : Kept) (s : Session) → Remembers schema k s → k.kept ≡ 0 → s.remembered ≡ []
nothing_left schema k s r none = r.earlier ∙ (ap (λ n. take n (befores schema k.base k.groups)) none ∙ none_taken (befores schema k.base k.groups))

-- what is taken back: the last document that is remembered, and the session behind it
pub record TakenBack (schema : Schema) (k : Kept) (gs : List (List Edit)) (g : List Edit) (s : Session) : Type 0 where
  pub earlier : Earlier
  pub others : List Earlier
  pub remembered : s.remembered ≡ earlier ∷ others
  pub tree : earlier.tree ≡ behind_groups schema k.base gs
  pub turns : earlier.turns ≡ turns_back schema (behind_groups schema k.base gs) g
  pub held : Remembers schema (record k { groups = gs; kept = k.kept - 1; later = until (length gs) k.later }) (undone None schema s (earlier ∷ others)).1

pub takes_back : (schema : Schema) (k : Kept) (gs : List (List Edit)) (g : List Edit) (s : Session) → Remembers schema k s
    → k.groups ≡ gs ++ g ∷ [] → (n : ℕ) → k.kept ≡ suc n → TakenBack schema k gs g s
takes_back schema k gs g s r is n more = record {
  earlier = comes schema g here;
  others = others;
  remembered = remembered;
  tree = refl;
  turns = refl;
  held = record {
    tree = refl;
    earlier = ap (λ m. take m (befores schema k.base gs)) (omega (arith, more));
    begun = begun;
    room = omega (arith, r.room, ap length is, length-append gs (g ∷ []), more);
    inner = r.inner;
    later = leads;
  };
}
  where
    here : Tree
    here = behind_groups schema k.base gs

    others : List Earlier
    others = take n (befores schema k.base gs)

    remembered : s.remembered ≡ comes schema g here ∷ others
    remembered = r.earlier
        ∙ (ap₂ (λ (m : ℕ) (hs : List (List Edit)). take m (befores schema k.base hs)) more is ∙ ap (take (suc n)) (before_last schema k.base gs g))

    within : groups_since k.begun ≤ length gs
    within = omega (arith, r.room, ap length is, length-append gs (g ∷ []), more)

    begun : option_map without_turns s.begun ≡ option_map (begun_at schema k.base gs) k.begun
    begun = ap (option_map without_turns)
        (r.begun ∙ (ap (λ (hs : List (List Edit)). option_map (begun_at schema k.base hs) k.begun) is ∙ begun_more schema k.base gs g k.begun within))
        ∙ one_fewer (turns_back schema here g) (option_map (begun_at schema k.base gs) k.begun)

    leads : Leads schema k.base gs (until (length gs) k.later)
    leads = subst (λ hs. Leads schema k.base hs (until (length gs) k.later)) (take-append-le (length gs) gs (g ∷ []) (omega arith) ∙ all_taken gs)
        (leads_first schema k.base (gs ++ g ∷ []) (length gs) k.later (omega (arith, length-append gs (g ∷ [])))
        (subst (λ hs. Leads schema k.base hs k.later) is r.later))

-- ---- the last of the groups

-- a list with a last item
pub record Ends {A : Type 0} (xs : List A) : Type 0 where
  pub last : A
  pub is : xs ≡ take (length xs - 1) xs ++ last ∷ []

ends : {A : Type 0} (x : A) (xs : List A) → Ends (x ∷ xs)
ends x [] = record { last = x; is = refl }
ends x (y ∷ xs) = let e = ends y xs in
    let more : length (x ∷ y ∷ xs) - 1 ≡ suc (length (y ∷ xs) - 1) = omega (arith) in
    record { last = e.last; is = ap (λ ys. x ∷ ys) e.is ∙ ap (λ n. take n (x ∷ y ∷ xs) ++ e.last ∷ []) (sym more) }

pub has_last : {A : Type 0} (xs : List A) → 0 < length xs → Ends xs
has_last [] lt = absurd (omega (arith, lt))
has_last (x ∷ xs) lt = ends x xs

last_dropped : {A : Type 0} (xs : List A) (x : A) → drop (length xs) (xs ++ x ∷ []) ≡ x ∷ []
last_dropped [] x = refl
last_dropped (y ∷ xs) x = last_dropped xs x

-- how many there are to take back, where that isn't none
pub some_kept : (n : ℕ) → n ≢ 0 → (m : ℕ) × (n ≡ suc m)
some_kept zero some = absurd (some refl)
some_kept (suc n) some = (n, refl)

pub one_group_behind : (schema : Schema) (k : Kept) (g : List Edit) → k.groups ≡ take (length k.groups - 1) k.groups ++ g ∷ [] → 0 < length k.groups
    → turns_back schema (behind_groups schema k.base (take (length k.groups - 1) k.groups)) g ≡ turns_behind schema (length k.groups - 1) k
one_group_behind schema k g is some = ap (turns_back schema (behind_groups schema k.base front))
    (sym (ap (flat_map (λ g. g)) dropped ∙ append-nil g))
  where
    front : List (List Edit)
    front = take (length k.groups - 1) k.groups

    dropped : drop (length k.groups - 1) k.groups ≡ g ∷ []
    dropped = ap (drop (length k.groups - 1)) is
        ∙ (ap (λ n. drop n (front ++ g ∷ [])) (sym (length-take-le (length k.groups - 1) k.groups (omega (arith)))) ∙ last_dropped front g)

pub comes_back : (schema : Schema) (k : Kept) (s : Session) (e : Earlier) (others : List Earlier) → Remembers schema k s → s.remembered ≡ e ∷ others
    → e.turns ≡ turns_behind schema (length k.groups - 1) k
comes_back schema k s e others r is =
    ap (λ (es : List Earlier). (first es).turns) (sym is ∙ back.remembered) ∙ (back.turns ∙ one_group_behind schema k end.last end.is some)
  where
    first : List Earlier → Earlier
    first [] = e
    first (x ∷ es) = x

    none : k.kept ≡ 0 → ⊥
    none gone = nothing (sym is ∙ nothing_left schema k s r gone)
      where
        nothing : e ∷ others ≡ [] → ⊥
        nothing eq = absurd cc

    more : (m : ℕ) × (k.kept ≡ suc m)
    more = some_kept k.kept none

    some : 0 < length k.groups
    some = omega (arith, r.room, more.1)

    end : Ends k.groups
    end = has_last k.groups some

    back : TakenBack schema k (take (length k.groups - 1) k.groups) end.last s
    back = takes_back schema k (take (length k.groups - 1) k.groups) end.last s r end.is more.0 more.1

-- edits together have begun in both, or in neither
pub begun_in_both : (schema : Schema) (k : Kept) (s : Session) → Remembers schema k s → is_some s.begun ≡ is_some k.begun
begun_in_both schema k s r = ap is_some r.begun ∙ kept_some (begun_at schema k.base k.groups) k.begun
  where
    kept_some : {A B : Type 0} (f : A → B) (o : Option A) → is_some (option_map f o) ≡ is_some o
    kept_some f None = refl
    kept_some f (Some x) = refl

pub begins : (schema : Schema) (k : Kept) (s : Session) → Remembers schema k s → s.begun ≡ None → Remembers schema (begun_here k) (begun_with s None).1
begins schema k s r none = record {
  tree = r.tree;
  earlier = sym (none_taken (befores schema k.base k.groups));
  begun = ap₂ (λ (t : Tree) (es : List Earlier). Some (began t es [])) r.tree r.earlier
      ∙ ap₂ (λ (gs hs : List (List Edit)). Some (began (behind_groups schema k.base gs) (take k.kept (befores schema k.base gs))
      (turns_in (befores schema (behind_groups schema k.base gs) hs)))) (sym (all_taken k.groups)) (sym (none_left k.groups));
  room = omega (arith);
  inner = omega (arith, r.room);
  later = r.later;
}
  where
    began : Tree → List Earlier → List (List Turn) → Begun
    began t es turns = record { tree = t; remembered = es; turns = turns }

-- what edits together began with, and their turns
began_so : (schema : Schema) (k : Kept) (s : Session) (b : Begun) (since : Since) → Remembers schema k s → s.begun ≡ Some b → k.begun ≡ Some since
    → b ≡ begun_at schema k.base k.groups since
began_so schema k s b since r is there = ap (λ o. unwrap_or o b) (sym is ∙ (r.begun ∙ ap (option_map (begun_at schema k.base k.groups)) there))

since_within : (o : Option Since) (since : Since) (count n : ℕ) → o ≡ Some since → groups_since o + n ≤ count → since.groups ≤ count
since_within o since count n is le = omega (arith, le, ap groups_since is)

since_inner : (o : Option Since) (since : Since) → o ≡ Some since → kept_since o ≤ groups_since o → since.kept ≤ since.groups
since_inner o since is le = omega (arith, le, ap groups_since is, ap kept_since is)

pub commits : (schema : Schema) (limit : ℕ) (k : Kept) (s : Session) (b : Begun) (since : Since) → Remembers schema k s → s.begun ≡ Some b
    → k.begun ≡ Some since → Remembers schema (joined limit since k) (committed limit s (Some b)).1
commits schema limit k s b since r is there = record {
  tree = r.tree ∙ sym (joined_same schema k.base since.groups k.groups);
  earlier = ap (λ (b : Begun). take limit (record { tree = b.tree; turns = turns_to b } ∷ b.remembered)) (began_so schema k s b since r is there)
      ∙ (ap (λ turns. take limit (record { tree = there_tree; turns = turns } ∷ take since.kept (befores schema k.base front)))
      (sym (turns_as_one schema there_tree (drop since.groups k.groups)))
      ∙ (one_in_front limit since.kept (comes schema all there_tree) (befores schema k.base front)
      ∙ ap (take (one_more limit since.kept)) (sym (before_last schema k.base front all))));
  begun = refl;
  room = omega (
    arith,
    one_more_le limit since.kept,
    since_inner k.begun since there r.inner,
    length-append front (all ∷ []),
    length-take-le since.groups k.groups (since_within k.begun since (length k.groups) k.kept there r.room),
  );
  inner = omega (arith);
  later = leads_until schema k.base k.groups (all ∷ []) since.groups k.later (since_within k.begun since (length k.groups) k.kept there r.room) r.later;
}
  where
    front : List (List Edit)
    front = take since.groups k.groups

    there_tree : Tree
    there_tree = behind_groups schema k.base front

    all : List Edit
    all = flat_map (λ g. g) (drop since.groups k.groups)

-- the document where edits together began
pub back_tree : (schema : Schema) (k : Kept) (s : Session) (b : Begun) (since : Since) → Remembers schema k s → s.begun ≡ Some b → k.begun ≡ Some since
    → b.tree ≡ behind_groups schema k.base (take since.groups k.groups)
back_tree schema k s b since r is there = ap (λ (b : Begun). b.tree) (began_so schema k s b since r is there)

-- the turns that lead back there
pub falls_back : (schema : Schema) (k : Kept) (s : Session) (b : Begun) (since : Since) → Remembers schema k s → s.begun ≡ Some b → k.begun ≡ Some since
    → turns_to b ≡ turns_behind schema since.groups k
falls_back schema k s b since r is there = ap turns_to (began_so schema k s b since r is there)
    ∙ sym (turns_as_one schema (behind_groups schema k.base (take since.groups k.groups)) (drop since.groups k.groups))

pub falls : (schema : Schema) (k : Kept) (s : Session) (b : Begun) (since : Since) → Remembers schema k s → s.begun ≡ Some b → k.begun ≡ Some since
    → Remembers schema (back_to since k) (fallen None schema s (Some b)).1
falls schema k s b since r is there = record {
  tree = back_tree schema k s b since r is there;
  earlier = ap (λ (b : Begun). b.remembered) (began_so schema k s b since r is there);
  begun = refl;
  room = omega (
    arith,
    since_inner k.begun since there r.inner,
    length-take-le since.groups k.groups (since_within k.begun since (length k.groups) k.kept there r.room),
  );
  inner = omega (arith);
  later = leads_first schema k.base k.groups since.groups k.later (since_within k.begun since (length k.groups) k.kept there r.room) r.later;
}

-- ---- from where it is counted

taken_behind : {A : Type 0} (xs ys : List A) (n : ℕ) → length xs ≤ n → take n (xs ++ ys) ≡ xs ++ take (n - length xs) ys
taken_behind [] ys n le = let all : n ≡ n - 0 = omega (arith) in ap (λ m. take m ys) all
taken_behind (x ∷ xs) ys zero le = absurd (omega (arith, le))
taken_behind (x ∷ xs) ys (suc n) le = let same : n - length xs ≡ suc n - suc (length xs) = omega (arith) in
    ap (λ zs. x ∷ zs) (taken_behind xs ys n (omega (arith, le)) ∙ ap (λ m. xs ++ take m ys) same)

dropped_behind : {A : Type 0} (xs ys : List A) (n : ℕ) → length xs ≤ n → drop n (xs ++ ys) ≡ drop (n - length xs) ys
dropped_behind [] ys n le = let all : n ≡ n - 0 = omega (arith) in ap (λ m. drop m ys) all
dropped_behind (x ∷ xs) ys zero le = absurd (omega (arith, le))
dropped_behind (x ∷ xs) ys (suc n) le = let same : n - length xs ≡ suc n - suc (length xs) = omega (arith) in
    dropped_behind xs ys n (omega (arith, le)) ∙ ap (λ m. drop m ys) same

befores_both : (schema : Schema) (tree : Tree) (gs hs : List (List Edit))
    → befores schema tree (gs ++ hs) ≡ befores schema (behind_groups schema tree gs) hs ++ befores schema tree gs
befores_both schema tree [] hs = sym (append-nil (befores schema tree hs))
befores_both schema tree (g ∷ gs) hs = ap (λ ts. ts ++ comes schema g tree ∷ []) (befores_both schema (after schema tree g) gs hs)
    ∙ append_assoc (befores schema (behind_groups schema (after schema tree g) gs) hs) (befores schema (after schema tree g) gs) (comes schema g tree ∷ [])

length_befores : (schema : Schema) (tree : Tree) (gs : List (List Edit)) → length (befores schema tree gs) ≡ length gs
length_befores schema tree [] = refl
length_befores schema tree (g ∷ gs) =
    omega (arith, length-append (befores schema (after schema tree g) gs) (comes schema g tree ∷ []), length_befores schema (after schema tree g) gs)

module _ (schema : Schema) (base : Tree) (front rest : List (List Edit)) where
  abbrev there : Tree
  there = behind_groups schema base front

  -- what can be taken back stands behind the first groups
  last_befores : (n : ℕ) (gs : List (List Edit)) → n ≤ length gs → take n (befores schema base (front ++ gs)) ≡ take n (befores schema there gs)
  last_befores n gs le = ap (take n) (befores_both schema base front gs)
      ∙ take-append-le n (befores schema there gs) (befores schema base front) (omega (arith, le, length_befores schema there gs))

  later_begun : (o : Option Since) → began_behind (length front) o ≡ true → groups_since o ≤ length (front ++ rest)
      → option_map (begun_at schema base (front ++ rest)) o ≡ option_map (begun_at schema there rest) (option_map (less_groups (length front)) o)
  later_begun None behind within = refl
  later_begun (Some b) behind within =
      let enough : length front + b.kept ≤ b.groups = leb-true (length front + b.kept) b.groups behind in
      let middle = take (b.groups - length front) rest in
      let last = drop (b.groups - length front) rest in
      let long : b.kept ≤ length middle = omega (
        arith,
        enough,
        within,
        length-append front rest,
        length-take-le (b.groups - length front) rest (omega (arith, enough, within, length-append front rest)),
      ) in
      ap₂ (λ (gs hs : List (List Edit)). Some (began (behind_groups schema base gs) (take b.kept (befores schema base gs)) hs))
      (taken_behind front rest b.groups (omega (arith, enough))) (dropped_behind front rest b.groups (omega (arith, enough)))
      ∙ ap₂ (λ t es. Some (began t es last)) (behind_both schema base front middle) (last_befores b.kept middle long)
    where
      began : Tree → List Earlier → List (List Edit) → Begun
      began t es hs = record { tree = t; remembered = es; turns = turns_in (befores schema t hs) }

  later_within : (o : Option Since) (n : ℕ) → began_behind (length front) o ≡ true → groups_since o + n ≤ length (front ++ rest) → n ≤ length rest
      → groups_since (option_map (less_groups (length front)) o) + n ≤ length rest
  later_within None n behind room le = omega (arith, le)
  later_within (Some b) n behind room le = omega (arith, leb-true (length front + b.kept) b.groups behind, room, length-append front rest)

  later_inner : (o : Option Since) → began_behind (length front) o ≡ true
      → kept_since (option_map (less_groups (length front)) o) ≤ groups_since (option_map (less_groups (length front)) o)
  later_inner None behind = omega (arith)
  later_inner (Some b) behind = omega (arith, leb-true (length front + b.kept) b.groups behind)

  later_held : (kept : ℕ) (begun : Option Since) (o : Option Later) (s : Session) → Remembers schema (record { base = base; groups = front ++ rest; kept = kept; begun = begun; later = o }) s
      → length front + kept ≤ length (front ++ rest) → began_behind (length front) begun ≡ true
      → Remembers schema (record { base = there; groups = rest; kept = kept; begun = option_map (less_groups (length front)) begun; later = None }) s
  later_held kept begun o s r enough behind = record {
    tree = r.tree ∙ behind_both schema base front rest;
    earlier = r.earlier ∙ last_befores kept rest fits;
    begun = r.begun ∙ later_begun begun behind (omega (arith, r.room));
    room = later_within begun kept behind r.room fits;
    inner = later_inner begun behind;
    later = tt;
  }
    where
      fits : kept ≤ length rest
      fits = omega (arith, enough, length-append front rest)

and_first : (a b : Bool) → (a && b) ≡ true → a ≡ true
and_first true b e = refl
and_first false b e = absurd cc

and_second : (a b : Bool) → (a && b) ≡ true → b ≡ true
and_second true b e = e
and_second false b e = absurd cc

pub counts_from : (schema : Schema) (l : Later) (k : Kept) (s : Session) → Remembers schema k s → k.later ≡ Some l → stands_behind l.groups k ≡ true
    → Remembers schema (counted_from l k) s
counts_from schema l k s r is behind =
    subst (λ (p : Tree × ℕ). Remembers schema (record { base = p.0; groups = drop l.groups k.groups; kept = k.kept; begun = option_map (less_groups p.1) k.begun; later = None }) s)
    (ap₂ (λ (t : Tree) (m : ℕ). (t, m)) (sym leads.1) counted)
    (later_held schema k.base (take l.groups k.groups) (drop l.groups k.groups) k.kept k.begun k.later s
    (subst (λ gs. Remembers schema (record k { groups = gs }) s) (sym (take-append-drop l.groups k.groups)) r)
    (omega (arith, enough, counted, ap length (take-append-drop l.groups k.groups)))
    (ap (λ m. began_behind m k.begun) counted ∙ and_second (nat_le (l.groups + k.kept) (length k.groups)) (began_behind l.groups k.begun) behind))
  where
    leads : Leads schema k.base k.groups (Some l)
    leads = subst (Leads schema k.base k.groups) is r.later

    enough : l.groups + k.kept ≤ length k.groups
    enough = leb-true (l.groups + k.kept) (length k.groups) (and_first (nat_le (l.groups + k.kept) (length k.groups)) (began_behind l.groups k.begun) behind)

    counted : length (take l.groups k.groups) ≡ l.groups
    counted = length-take-le l.groups k.groups leads.0

pub marks : (schema : Schema) (k : Kept) (s : Session) → Remembers schema k s → Remembers schema (marked s.tree k) s
marks schema k s r = record {
  tree = r.tree;
  earlier = r.earlier;
  begun = r.begun;
  room = r.room;
  inner = r.inner;
  later = (omega (arith), r.tree ∙ ap (behind_groups schema k.base) (sym (all_taken k.groups)));
}

pub settles : (schema : Schema) (k : Kept) (s : Session) → Remembers schema k s → Remembers schema (settled k) s
settles schema k s r = by k.later refl
  where
    by : (o : Option Later) → k.later ≡ o → Remembers schema (settled_by o k) s
    by None is = r
    by (Some l) is = either (stands_behind l.groups k) refl
      where
        either : (b : Bool) → stands_behind l.groups k ≡ b → Remembers schema (if b then counted_from l k else k) s
        either true e = counts_from schema l k s r is e
        either false e = r

-- the nearest document and the groups from there lead to the same place
pub ways : (schema : Schema) (n : ℕ) (k : Kept) → Leads schema k.base k.groups k.later
    → behind_groups schema (way_to n k).0 (way_to n k).1 ≡ behind_groups schema k.base (take n k.groups)
ways schema n k leads = by k.later leads
  where
    by : (o : Option Later) → Leads schema k.base k.groups o
        → behind_groups schema (way_from k.base (take n k.groups) (until n o)).0 (way_from k.base (take n k.groups) (until n o)).1
        ≡ behind_groups schema k.base (take n k.groups)
    by None leads = refl
    by (Some l) leads = either (nat_le l.groups n) refl
      where
        led : List (List Edit)
        led = take n k.groups

        either : (b : Bool) → nat_le l.groups n ≡ b
            → behind_groups schema (way_from k.base led (if b then Some l else None)).0 (way_from k.base led (if b then Some l else None)).1 ≡ behind_groups schema k.base led
        either true e =
            ap (λ t. behind_groups schema t (drop l.groups led)) (leads.1 ∙ sym (ap (behind_groups schema k.base) (fewer_taken l.groups n k.groups (leb-true l.groups n e))))
            ∙ (sym (behind_both schema k.base (take l.groups led) (drop l.groups led)) ∙ ap (behind_groups schema k.base) (take-append-drop l.groups led))
        either false e = refl

-- What holds while a graph is searched.
use Rattle.std.specs.Prelude.{ℕ, suc, ◌+◌, ◌≡◌, ◌≢◌, ◌<◌, ◌≤◌, ◌⊎◌, List, [], ◌∷◌, length, get_or, slice_get}
use Rattle.std.specs.List.{Contains}
use Rattle.std.specs.Option.{option_map_or}
use Rattle.std.specs.declared.alloc.Global.{Global}
use Rattle.std.specs.declared.vec.Vec.{Vec}
use Rattle.ybase_graph.specs.Reaching.{Reaches}
use Rattle.ybase_graph.specs.declared.search.State.{State}
use Rattle.ybase_graph.specs.declared.search.State.TheVariants.{Unseen, OnPath, Done}
use Rattle.ybase_graph.specs.declared.search.Segment.{Segment}
use Rattle.ybase_graph.specs.declared.search.Search.{Search}

abbrev pub Rows : Type 0
Rows = List (Vec ℕ Global)

-- the nodes to which a node has an edge
abbrev pub targets_of : Rows → ℕ → List ℕ
targets_of graph a = option_map_or (λ row. row.items) (slice_get graph a) []

abbrev pub HasTarget : Rows → ℕ → ℕ → Type 0
HasTarget graph a b = Contains (targets_of graph a) b

abbrev pub TargetsWithin : Rows → Type 0
TargetsWithin graph = (a b : ℕ) → HasTarget graph a b → b < length graph

-- No edge leads up, and nodes with equal numbers reach one another.
pub record IsRanking (graph : Rows) (ranks : List ℕ) : Type 0 where
  pub count : length ranks ≡ length graph
  pub down : (a b : ℕ) → HasTarget graph a b → get_or ranks b 0 ≤ get_or ranks a 0
  pub joined : (a b : ℕ) → a < length graph → b < length graph → get_or ranks a 0 ≡ get_or ranks b 0 → Reaches (HasTarget graph) a b

-- ---- the search

abbrev pub state_at : List State → ℕ → State
state_at states v = get_or states v Unseen

abbrev pub node_at : List ℕ → ℕ → ℕ
node_at path i = get_or path i 0

abbrev pub segment_at : List Segment → ℕ → Segment
segment_at segments k = get_or segments k (record { first = 0; waiting = 0 })

abbrev pub first_at : List Segment → ℕ → ℕ
first_at segments k = (segment_at segments k).first

abbrev pub waiting_at : List Segment → ℕ → ℕ
waiting_at segments k = (segment_at segments k).waiting

-- no segment begins behind i and up to j
abbrev pub AreTogether : List Segment → ℕ → ℕ → Type 0
AreTogether segments i j = (k : ℕ) → k < length segments → i < first_at segments k → j < first_at segments k

-- a target is done, or stands in a segment or behind it, or waits for it or behind it
abbrev pub IsMet : List State → List Segment → List ℕ → ℕ → ℕ → Type 0
IsMet states segments waiting k b = ((r : ℕ) × (state_at states b ≡ Done r))
    ⊎ (((i : ℕ) × (state_at states b ≡ OnPath i) × (first_at segments k ≤ i))
    ⊎ ((q : ℕ) × (waiting_at segments k ≤ q) × (q < length waiting) × (node_at waiting q ≡ b)))

module _ (E : ℕ → ℕ → Type 0) (n : ℕ) where
  pub record Sound (states : List State) (path : List ℕ) (segments : List Segment) (waiting : List ℕ) (known : ℕ) : Type 0 where
    pub count : length states ≡ n
    pub nodes : (i : ℕ) → i < length path → node_at path i < n
    pub placed : (i : ℕ) → i < length path → state_at states (node_at path i) ≡ OnPath i
    pub on_path : (v i : ℕ) → state_at states v ≡ OnPath i → (i < length path) × (node_at path i ≡ v)
    -- each node of the path reaches those behind it, and those before it in its segment
    pub chain : (i j : ℕ) → i ≤ j → j < length path → Reaches E (node_at path i) (node_at path j)
    pub back : (i j : ℕ) → i ≤ j → j < length path → AreTogether segments i j → Reaches E (node_at path j) (node_at path i)
    pub rising : (k l : ℕ) → k < l → l < length segments
        → (first_at segments k < first_at segments l) × (waiting_at segments k ≤ waiting_at segments l)
    pub below : (k : ℕ) → k < length segments → first_at segments k < length path
    pub begins : (i : ℕ) → i < length path → (0 < length segments) × (first_at segments 0 ≡ 0)
    pub fits : (k : ℕ) → k < length segments → waiting_at segments k ≤ length waiting
    pub waits : (q : ℕ) → q < length waiting → node_at waiting q < n
    pub reached : (k q : ℕ) → k < length segments → waiting_at segments k ≤ q → q < length waiting
        → Reaches E (node_at path (first_at segments k)) (node_at waiting q)
    pub covered : (j b k : ℕ) → j < length path → E (node_at path j) b → k < length segments → first_at segments k ≤ j
        → IsMet states segments waiting k b
    pub done : (a r b : ℕ) → state_at states a ≡ Done r → E a b → (s : ℕ) × (state_at states b ≡ Done s) × (s ≤ r)
    pub joined : (a b r : ℕ) → state_at states a ≡ Done r → state_at states b ≡ Done r → Reaches E a b
    pub ranks : (a r : ℕ) → state_at states a ≡ Done r → r < known

abbrev pub IsSound : Rows → Search → Type 0
IsSound graph s = Sound (HasTarget graph) (length graph) s.states.items s.path.items s.segments.items s.waiting.items s.known

-- a node that was seen stays so
abbrev pub KeepsSeen : Search → Search → Type 0
KeepsSeen old new = (v : ℕ) → state_at old.states.items v ≢ Unseen → state_at new.states.items v ≢ Unseen

abbrev pub ReachesFromPath : Rows → Search → ℕ → Type 0
ReachesFromPath graph s v = (i : ℕ) → i < length s.path.items → Reaches (HasTarget graph) (node_at s.path.items i) v

-- the nodes from a place of the path on are done, and nothing else is changed
pub record IsMarked (path : List ℕ) (first rank : ℕ) (old new : List State) : Type 0 where
  pub count : length new ≡ length old
  pub marked : (i : ℕ) → first ≤ i → i < length path → state_at new (node_at path i) ≡ Done rank
  pub others : (v : ℕ) → ((i : ℕ) → first ≤ i → i < length path → node_at path i ≢ v) → state_at new v ≡ state_at old v

abbrev pub rank_of : State → ℕ
rank_of (Done rank) = rank
rank_of _ = 0

-- ---- how much is left to do

-- what the nodes from a number on weigh together that were not seen
unfoldable pub unseen_weight : (ℕ → ℕ) → ℕ → List State → ℕ
unseen_weight weight v [] = 0
unseen_weight weight v (Unseen ∷ states) = weight v + unseen_weight weight (suc v) states
unseen_weight weight v (state ∷ states) = unseen_weight weight (suc v) states

-- for a node that was not seen there is one step at each of its edges, one at its entry and one at its end
abbrev pub steps_of : Rows → ℕ → ℕ
steps_of graph v = length (targets_of graph v) + 2

abbrev pub work_left : Rows → Search → ℕ
work_left graph s = unseen_weight (steps_of graph) 0 s.states.items + length s.waiting.items + length s.segments.items

-- there are as many sets as nodes at most
abbrev pub IsCounted : Rows → Search → Type 0
IsCounted graph s = s.known + length s.segments.items + unseen_weight (λ v. 1) 0 s.states.items ≤ length graph

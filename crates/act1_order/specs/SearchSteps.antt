-- What is known in the middle of a search for an order.
use Rattle.std.specs.Prelude.{ℕ, ◌≡◌, List, [], ◌+◌, ◌*◌, ◌<◌, Bool, true, false, Contains, Option, Some, None, slice_get, slice_index_or, length, count_by}
use Rattle.act1_order.specs.Order.{Reads}
use Rattle.act1_order.specs.ClosingSteps.{ReadsBack}
use Rattle.act1_order.specs.declared.search.State.{State}
use Rattle.act1_order.specs.declared.search.State.TheVariants as state
use Rattle.act1_order.specs.declared.search.Search.{Search}

-- the search hasn't come to the vertex
abbrev pub is_new : State → Bool
is_new state.New = true
is_new state.Open = false
is_new state.Placed = false

-- how many vertices the search hasn't come to
abbrev pub news : List State → ℕ
news states = count_by is_new states

-- the search has come so far with the vertex
abbrev pub HasState : List State → ℕ → State → Type 0
HasState states v s = slice_get states v ≡ Some s

-- the open vertices are those of the path, once each, and each of them reads the next; the placed ones are those of the order, once each, and none that they read is new; nor are the first reads of each vertex, as many as are passed
pub record IsSearched (reads : List (List ℕ)) (states : List State) (passed path order : List ℕ) : Type 0 where
  pub all : length states ≡ length reads
  pub passed_all : length passed ≡ length reads
  pub passed_met : (v k w : ℕ) → k < slice_index_or passed v 0 → slice_get (slice_index_or reads v []) k ≡ Some w → HasState states w state.New → ⊥
  pub path_reads : (i v w : ℕ) → slice_get path i ≡ Some v → slice_get path (i + 1) ≡ Some w → Reads reads v w
  pub path_open : (i v : ℕ) → slice_get path i ≡ Some v → HasState states v state.Open
  pub open_path : (v : ℕ) → HasState states v state.Open → Contains path v
  pub path_once : (i j v : ℕ) → slice_get path i ≡ Some v → slice_get path j ≡ Some v → i ≡ j
  pub order_placed : (p v : ℕ) → slice_get order p ≡ Some v → HasState states v state.Placed
  pub placed_order : (v : ℕ) → HasState states v state.Placed → Contains order v
  pub order_once : (p q v : ℕ) → slice_get order p ≡ Some v → slice_get order q ≡ Some v → p ≡ q
  pub met : (p v w : ℕ) → slice_get order p ≡ Some v → Reads reads v w → HasState states w state.New → ⊥
  pub back : ReadsBack reads order
  pub one_each : length order + length path + news states ≡ length reads

-- the same, of a search
abbrev pub IsSearch : List (List ℕ) → Search → Type 0
IsSearch reads s = IsSearched reads s.states.items s.passed.items s.path.items s.order.items

-- a new vertex that v reads, or none where none is new
abbrev pub IsNextRead : List (List ℕ) → List State → ℕ → Option ℕ → Type 0
IsNextRead reads states v (Some w) = Reads reads v w × HasState states w state.New
IsNextRead reads states v None = (w : ℕ) → Reads reads v w → HasState states w state.New → ⊥

-- how many steps there may be at most
abbrev pub steps_left : Search → ℕ
steps_left s = 2 * news s.states.items + length s.path.items

-- what was placed still is, and the search has come to no fewer vertices
pub record IsLater (old new : List State) : Type 0 where
  pub placed : (v : ℕ) → HasState old v state.Placed → HasState new v state.Placed
  pub come_to : (v : ℕ) → HasState new v state.New → HasState old v state.New

-- a step of the search
pub record IsStep (reads : List (List ℕ)) (old new : Search) : Type 0 where
  pub search : IsSearch reads new
  pub later : IsLater old.states.items new.states.items
  pub nearer : steps_left new < steps_left old

-- the search from a vertex is done
pub record IsVisit (reads : List (List ℕ)) (root : ℕ) (old new : Search) : Type 0 where
  pub search : IsSearch reads new
  pub later : IsLater old.states.items new.states.items
  pub none_open : new.path.items ≡ []
  pub root_placed : HasState new.states.items root state.Placed

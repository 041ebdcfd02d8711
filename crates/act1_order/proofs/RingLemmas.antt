-- Rings of a finite graph: whether a vertex lies on one, levels where none does, and that an order leaves none.
use Rattle.std.proofs.Common.{ℕ, suc, zero, ◌≡◌, ◌<◌, ◌≤◌, ◌⊎◌, ◌+◌, ◌&&◌, ◌||◌, ◌==◌, Bool, true, false, cond, List, [], ◌∷◌, ◌++◌, length, get_or, refl, sym, ap, subst, ◌∙◌, inl, inr, arith}
use Rattle.std.specs.Prelude.{Contains, Some, slice_get, slice_index_or}
use Rattle.std.proofs.lemmas.List.{get_or_past}
use Rattle.std.proofs.lemmas.Bool.{cases_eq, cases_lt, false≢true}
use Rattle.act1_base.proofs.Elements.{among_contained, contained_among}
use Rattle.act1_base.proofs.ListGets.{place_of}
use Rattle.act1_order.specs.Laws.{LevelsWithoutRing, OrderWithoutRing, RingOrNone}
use Rattle.act1_order.specs.Order.{AreReads, IsOrder, LeadsTo, OnRing, Reads, StandsBefore}
use Rattle.std.specs.List.{list_any}
use Rattle.std.proofs.lemmas.Bool.Decides.{nat_tests}

-- the number is one of these
abbrev pub is_among : List ℕ → ℕ → Bool
is_among ns n = list_any (λ m. m == n) ns

-- one path after another
join : (reads : List (List ℕ)) (v u w : ℕ) (front back : List ℕ) → LeadsTo reads v front u → LeadsTo reads u back w → LeadsTo reads v (front ++ u ∷ back) w
join reads v u w [] back f b = (f, b)
join reads v u w (x ∷ front) back f b = (f.0, join reads x u w front back f.1 b)

either_true : (a b : Bool) → (a || b) ≡ true → (a ≡ true) ⊎ (b ≡ true)
either_true true b e = inl refl
either_true false b e = inr e

left_true : (a b : Bool) → a ≡ true → (a || b) ≡ true
left_true true b e = refl
left_true false b e = absurd (false≢true e)

right_true : (a b : Bool) → b ≡ true → (a || b) ≡ true
right_true true b e = refl
right_true false b e = e

both_parts : (a b : Bool) → (a && b) ≡ true → (a ≡ true) × (b ≡ true)
both_parts true b e = (refl, e)
both_parts false b e = absurd (false≢true e)

both_hold : (a b : Bool) → a ≡ true → b ≡ true → (a && b) ≡ true
both_hold true b e f = f
both_hold false b e f = absurd (false≢true e)

module _ (reads : List (List ℕ)) where
  -- w is reached from v by a path over vertices below m alone
  abbrev pub reach : ℕ → ℕ → ℕ → Bool
  reach zero v w = is_among (get_or reads v []) w
  reach (suc m) v w = reach m v w || (reach m v m && reach m m w)

  -- what is reached is led to by a path
  pub reach_leads : (m v w : ℕ) → reach m v w ≡ true → (path : List ℕ) × LeadsTo reads v path w
  reach_leads zero v w e = ([], among_contained (get_or reads v []) w e)
  reach_leads (suc m) v w e = by (either_true (reach m v w) (reach m v m && reach m m w) e) (λ a b. reach_leads m a b)
    where
      by : (reach m v w ≡ true) ⊎ ((reach m v m && reach m m w) ≡ true) → ((a b : ℕ) → reach m a b ≡ true → (path : List ℕ) × LeadsTo reads a path b) → (path : List ℕ) × LeadsTo reads v path w
      by (inl h) r = r v w h
      by (inr h) r =
          let parts = both_parts (reach m v m) (reach m m w) h in
          let front = r v m parts.0 in
          let back = r m w parts.1 in
          (front.0 ++ m ∷ back.0, join reads v m w front.0 back.0 front.1 back.1)

  -- what is reached over fewer is reached over more
  pub reach_more : (m k v w : ℕ) → reach m v w ≡ true → reach (m + k) v w ≡ true
  reach_more m zero v w e = let f : m + 0 ≡ m = omega arith in subst (λ (j : ℕ). reach j v w ≡ true) (sym f) e
  reach_more m (suc k) v w e =
      let f : m + suc k ≡ suc (m + k) = omega arith in
      subst (λ (j : ℕ). reach j v w ≡ true) (sym f) (left_true (reach (m + k) v w) (reach (m + k) v (m + k) && reach (m + k) (m + k) w) (reach_more m k v w e))

  -- what is reached over a vertex below m is reached
  pub reach_over : (m v u w : ℕ) → u < m → reach m v u ≡ true → reach m u w ≡ true → reach m v w ≡ true
  reach_over zero v u w low e f = absurd (omega arith)
  reach_over (suc m) v u w low e f =
      by (cases_eq u m) (either_true (reach m v u) (reach m v m && reach m m u) e) (either_true (reach m u w) (reach m u m && reach m m w) f) (λ a b c. reach_over m a b c)
    where
      direct : reach m v w ≡ true → reach (suc m) v w ≡ true
      direct h = left_true (reach m v w) (reach m v m && reach m m w) h

      through : reach m v m ≡ true → reach m m w ≡ true → reach (suc m) v w ≡ true
      through h k = right_true (reach m v w) (reach m v m && reach m m w) (both_hold (reach m v m) (reach m m w) h k)

      to_m : (u ≡ m) → (reach m v u ≡ true) ⊎ ((reach m v m && reach m m u) ≡ true) → reach m v m ≡ true
      to_m is (inl h) = subst (λ (x : ℕ). reach m v x ≡ true) is h
      to_m is (inr h) = (both_parts (reach m v m) (reach m m u) h).0

      from_m : (u ≡ m) → (reach m u w ≡ true) ⊎ ((reach m u m && reach m m w) ≡ true) → reach m m w ≡ true
      from_m is (inl h) = subst (λ (x : ℕ). reach m x w ≡ true) is h
      from_m is (inr h) = (both_parts (reach m u m) (reach m m w) h).1

      by : (u ≡ m) ⊎ (u ≡ m → ⊥) → (reach m v u ≡ true) ⊎ ((reach m v m && reach m m u) ≡ true) → (reach m u w ≡ true) ⊎ ((reach m u m && reach m m w) ≡ true)
          → ((a b c : ℕ) → b < m → reach m a b ≡ true → reach m b c ≡ true → reach m a c ≡ true) → reach (suc m) v w ≡ true
      by (inl is) e f r = through (to_m is e) (from_m is f)
      by (inr apart) (inl h) (inl k) r = direct (r v u w (omega arith) h k)
      by (inr apart) (inl h) (inr k) r = let parts = both_parts (reach m u m) (reach m m w) k in through (r v u m (omega arith) h parts.0) parts.1
      by (inr apart) (inr h) (inl k) r = let parts = both_parts (reach m v m) (reach m m u) h in through parts.0 (r m u w (omega arith) parts.1 k)
      by (inr apart) (inr h) (inr k) r = through (both_parts (reach m v m) (reach m m u) h).0 (both_parts (reach m u m) (reach m m w) k).1

  module _ (inside : AreReads reads) where
    -- what a vertex reads is reached
    pub reads_reach : (v w : ℕ) → Reads reads v w → reach (length reads) v w ≡ true
    reads_reach v w h = subst (λ (j : ℕ). reach j v w ≡ true) z (reach_more 0 (length reads) v w (contained_among (get_or reads v []) w h))
      where
        z : 0 + length reads ≡ length reads
        z = omega arith

    -- what a path leads to is reached
    pub leads_reach : (v w : ℕ) (path : List ℕ) → LeadsTo reads v path w → reach (length reads) v w ≡ true
    leads_reach v w [] h = reads_reach v w h
    leads_reach v w (u ∷ path) h = reach_over (length reads) v u w (inside v u h.0) (reads_reach v u h.0) (leads_reach u w path h.1)

    -- whether a vertex lies on a ring is decided
    on_ring_or_none : (v : ℕ) → OnRing reads v ⊎ (OnRing reads v → ⊥)
    on_ring_or_none v = by (reach (length reads) v v) refl
      where
        by : (b : Bool) → reach (length reads) v v ≡ b → OnRing reads v ⊎ (OnRing reads v → ⊥)
        by true e = let p = reach_leads (length reads) v v e in inl (record { path = p.0; leads = p.1 })
        by false e = inr (λ ring. false≢true (sym e ∙ leads_reach v v ring.path ring.leads))

  -- how many of the vertices below n are reached from v
  abbrev pub reached : ℕ → ℕ → ℕ → ℕ
  reached m zero v = 0
  reached m (suc n) v = cond (reach m v n) 1 0 + reached m n v

  -- where one vertex reaches all that another does it reaches at least as many, and more where it reaches one more
  reached_less : (m n v w : ℕ) → ((x : ℕ) → reach m w x ≡ true → reach m v x ≡ true) → reached m n w ≤ reached m n v
  reached_less m zero v w all = omega arith
  reached_less m (suc n) v w all = by (reach m w n) (reach m v n) (all n) (reached_less m n v w all)
    where
      by : (a b : Bool) → (a ≡ true → b ≡ true) → reached m n w ≤ reached m n v → cond a 1 0 + reached m n w ≤ cond b 1 0 + reached m n v
      by true true h r = omega arith
      by true false h r = absurd (false≢true (h refl))
      by false true h r = omega arith
      by false false h r = omega arith

  reached_below : (m n v w x : ℕ) → ((y : ℕ) → reach m w y ≡ true → reach m v y ≡ true) → x < n → reach m v x ≡ true → reach m w x ≡ false → reached m n w < reached m n v
  reached_below m zero v w x all low e f = absurd (omega arith)
  reached_below m (suc n) v w x all low e f = by (cases_eq x n) (reached_less m n v w all) (λ l. reached_below m n v w x all l e f)
    where
      here : (a b : Bool) → a ≡ false → b ≡ true → reached m n w ≤ reached m n v → cond a 1 0 + reached m n w < cond b 1 0 + reached m n v
      here true b p q r = absurd (false≢true (sym p))
      here false true p q r = omega arith
      here false false p q r = absurd (false≢true q)

      there : (a b : Bool) → (a ≡ true → b ≡ true) → reached m n w < reached m n v → cond a 1 0 + reached m n w < cond b 1 0 + reached m n v
      there true true h r = omega arith
      there true false h r = absurd (false≢true (h refl))
      there false true h r = omega arith
      there false false h r = omega arith

      by : (x ≡ n) ⊎ (x ≡ n → ⊥) → reached m n w ≤ reached m n v → (x < n → reached m n w < reached m n v) → cond (reach m w n) 1 0 + reached m n w < cond (reach m v n) 1 0 + reached m n v
      by (inl is) r h = here (reach m w n) (reach m v n) (subst (λ (k : ℕ). reach m w k ≡ false) is f) (subst (λ (k : ℕ). reach m v k ≡ true) is e) r
      by (inr apart) r h = there (reach m w n) (reach m v n) (all n) (h (omega arith))

  -- the level of a vertex: how many vertices it reaches
  abbrev pub level : ℕ → ℕ
  level v = reached (length reads) (length reads) v

  -- where no vertex is on a ring, each has a higher level than those that it reads
  pub level_above : AreReads reads → ((v : ℕ) → ¬ OnRing reads v) → (v w : ℕ) → Reads reads v w → level w < level v
  level_above inside none v w h = reached_below (length reads) (length reads) v w w all (inside v w h) (reads_reach inside v w h) (free (reach (length reads) w w) refl)
    where
      all : (x : ℕ) → reach (length reads) w x ≡ true → reach (length reads) v x ≡ true
      all x e = reach_over (length reads) v w x (inside v w h) (reads_reach inside v w h) e

      free : (b : Bool) → reach (length reads) w w ≡ b → b ≡ false
      free true e = let p = reach_leads (length reads) w w e in absurd (none w (record { path = p.0; leads = p.1 }))
      free false e = refl

pub ring_decided : RingOrNone
ring_decided reads inside v = on_ring_or_none reads inside v

pub levels_without_ring : LevelsWithoutRing
levels_without_ring reads inside none = (level reads, level_above reads inside none)

-- a vertex that reads something is one of the graph
reader_within : (reads : List (List ℕ)) (v w : ℕ) → Reads reads v w → v < length reads
reader_within reads v w h = by (cases_lt v (length reads))
  where
    by : (v < length reads) ⊎ (length reads ≤ v) → v < length reads
    by (inl low) = low
    by (inr high) = let none = subst (λ (ws : List ℕ). Contains ws w) (get_or_past reads v [] high) h in absurd (omega (arith, none.1))

leader_within : (reads : List (List ℕ)) (v w : ℕ) (path : List ℕ) → LeadsTo reads v path w → v < length reads
leader_within reads v w [] h = reader_within reads v w h
leader_within reads v w (u ∷ path) h = reader_within reads v u h.0

module _ (reads : List (List ℕ)) (order : List ℕ) (is : IsOrder reads order) where
  -- what a vertex of the order leads to stands before it
  led_to : (path : List ℕ) (p v w : ℕ) → slice_get order p ≡ Some v → LeadsTo reads v path w → StandsBefore order p w
  led_to [] p v w at h = is.after p v w at h
  led_to (u ∷ path) p v w at h =
      let first = is.after p v u at h.0 in
      let rest = led_to path first.place u w first.there h.1 in
      let low = first.before in
      let lower = rest.before in
      record { place = rest.place; before = omega arith; there = rest.there }

pub order_without_ring : OrderWithoutRing
order_without_ring reads order is v ring =
    let at = place_of order v (is.there v (leader_within reads v v ring.path ring.leads)) in
    let before = led_to reads order is ring.path at.0 v v at.1 ring.leads in
    let same : before.place ≡ at.0 = is.once before.place at.0 v before.there at.1 in
    let low = before.before in
    absurd (omega arith)

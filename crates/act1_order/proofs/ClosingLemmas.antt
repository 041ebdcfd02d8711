-- Which vertices of a closing order lie on a ring.
use Rattle.std.proofs.Common.{ℕ, ◌≡◌, ◌≢◌, ◌<◌, ◌≤◌, ◌+◌, ◌⊎◌, Bool, true, false, min, List, [], ◌∷◌, length, Option, Some, None, refl, sym, ap, subst, ◌∙◌, inl, inr, arith}
use Rattle.std.specs.Prelude.{slice_get, MatchOption}
use Rattle.std.proofs.lemmas.Bool.{cases_eq, cases_lt, true≢false}
use Rattle.act1_order.specs.Order.{Reads, AreReads, LeadsTo, OnRing, StandsBefore, IsOrder, IsFirstOnRing}
use Rattle.act1_order.specs.ClosingSteps.{DependsOn, IsClosingOrder, LeadsFrom}
use Rattle.act1_order.specs.ReachSteps.{IsLeastFrom, least_with}
use Rattle.act1_base.proofs.ListGets.{some_is, place_of}

-- what leads to a vertex that depends on another depends on that one
leads_on : (reads : List (List ℕ)) (v : ℕ) (path : List ℕ) (u w : ℕ) → LeadsTo reads v path u → DependsOn reads u w → DependsOn reads v w
leads_on reads v [] u w r d = record { path = u ∷ d.path; leads = (r, d.leads) }
leads_on reads v (t ∷ path) u w r d = let rest = leads_on reads t path u w r.1 d in record { path = t ∷ rest.path; leads = (r.0, rest.leads) }

-- what reads a vertex that leads to a late one leads to it too
pub leads_before : (reads : List (List ℕ)) (order : List ℕ) (p u w : ℕ) → Reads reads u w → LeadsFrom reads order p w → LeadsFrom reads order p u
leads_before reads order p u w r l = record { place = l.place; vertex = l.vertex; late = l.late; there = l.there; leads = inr (by l.leads) }
  where
    by : (w ≡ l.vertex) ⊎ DependsOn reads w l.vertex → DependsOn reads u l.vertex
    by (inl e) = record { path = []; leads = subst (λ (z : ℕ). Reads reads u z) e r }
    by (inr d) = leads_on reads u [] w l.vertex r d

module _ (reads : List (List ℕ)) (order : List ℕ) (o : IsClosingOrder reads order) (p x : ℕ) (is : slice_get order p ≡ Some x) where
  -- a vertex at p or before that leads to one at p or later depends on that at p
  crosses : (y r : ℕ) (path : List ℕ) (q z : ℕ) → slice_get order r ≡ Some y → r ≤ p → LeadsTo reads y path z → slice_get order q ≡ Some z → p ≤ q → DependsOn reads y x
  crosses y r [] q z iy early l iz late = by (o.back r p y z x iy l early is)
    where
      by : StandsBefore order (p + 1) z ⊎ DependsOn reads z x → DependsOn reads y x
      by (inl s) =
          let same = o.once s.place q z s.there iz in
          let before = s.before in
          let e : q ≡ p = omega arith in
          record { path = []; leads = subst (λ (u : ℕ). Reads reads y u) (some_is z x (sym iz ∙ ap (slice_get order) e ∙ is)) l }
      by (inr d) = leads_on reads y [] z x l d
  crosses y r (u ∷ path) q z iy early l iz late = by (λ s. let before = s.before in crosses u s.place path q z s.there (omega arith) l.1 iz late) (o.back r p y u x iy l.0 early is)
    where
      by : (StandsBefore order (p + 1) u → DependsOn reads u x) → StandsBefore order (p + 1) u ⊎ DependsOn reads u x → DependsOn reads y x
      by on (inl s) = leads_on reads y [] u x l.0 (on s)
      by on (inr d) = leads_on reads y [] u x l.0 d

  -- a vertex lies on a ring where it reads one that leads to it or to a later one
  pub ring_by : (w : ℕ) → Reads reads x w → LeadsFrom reads order p w → OnRing reads x
  ring_by w r l = by (leads_before reads order p x w r l)
    where
      from : DependsOn reads x x → OnRing reads x
      from d = record { path = d.path; leads = d.leads }

      to : (z q : ℕ) → slice_get order q ≡ Some z → p ≤ q → DependsOn reads x z → OnRing reads x
      to z q iz late d = from (crosses x p d.path q z is (omega arith) d.leads iz late)

      by : LeadsFrom reads order p x → OnRing reads x
      by m = through l.leads
        where
          through : (w ≡ l.vertex) ⊎ DependsOn reads w l.vertex → OnRing reads x
          through (inl e) = to l.vertex l.place l.there l.late (record { path = []; leads = subst (λ (z : ℕ). Reads reads x z) e r })
          through (inr d) = to l.vertex l.place l.there l.late (leads_on reads x [] w l.vertex r d)

  -- and only there
  pub ring_reads : OnRing reads x → (w : ℕ) × Reads reads x w × LeadsFrom reads order p w
  ring_reads on = by on.path on.leads
    where
      by : (path : List ℕ) → LeadsTo reads x path x → (w : ℕ) × Reads reads x w × LeadsFrom reads order p w
      by [] r = (x, r, record { place = p; vertex = x; late = omega arith; there = is; leads = inl refl })
      by (u ∷ path) r = (u, r.0, record { place = p; vertex = x; late = omega arith; there = is; leads = inr (record { path = path; leads = r.1 }) })

-- one vertex earlier
pub least_on : (reads : List (List ℕ)) (order : List ℕ) → IsClosingOrder reads order → (p v : ℕ) → slice_get order p ≡ Some v → (found : Option ℕ) (on : Bool)
    → (on ≡ true → OnRing reads v) → (OnRing reads v → on ≡ true) → IsLeastFrom reads order (p + 1) found → IsLeastFrom reads order p (least_with found v on)
least_on reads order o p v is None false to from h = λ q z late iz r. by q z late iz r (cases_eq q p)
  where
    by : (q z : ℕ) → p ≤ q → slice_get order q ≡ Some z → OnRing reads z → (q ≡ p) ⊎ (q ≢ p) → ⊥
    by q z late iz r (inl e) = true≢false (sym (from (subst (λ (u : ℕ). OnRing reads u) (some_is z v (sym iz ∙ ap (slice_get order) e ∙ is)) r)))
    by q z late iz r (inr apart) = h q z (omega arith) iz r
least_on reads order o p v is (Some first) false to from h = (h.0, h.1, λ q z late iz r. by q z late iz r (cases_eq q p))
  where
    by : (q z : ℕ) → p ≤ q → slice_get order q ≡ Some z → OnRing reads z → (q ≡ p) ⊎ (q ≢ p) → first ≤ z
    by q z late iz r (inl e) = absurd (true≢false (sym (from (subst (λ (u : ℕ). OnRing reads u) (some_is z v (sym iz ∙ ap (slice_get order) e ∙ is)) r))))
    by q z late iz r (inr apart) = h.2 q z (omega arith) iz r
least_on reads order o p v is None true to from h = (o.inside p v is, to refl, λ q z late iz r. by q z late iz r (cases_eq q p))
  where
    by : (q z : ℕ) → p ≤ q → slice_get order q ≡ Some z → OnRing reads z → (q ≡ p) ⊎ (q ≢ p) → v ≤ z
    by q z late iz r (inl e) = let same = some_is z v (sym iz ∙ ap (slice_get order) e ∙ is) in omega arith
    by q z late iz r (inr apart) = absurd (h q z (omega arith) iz r)
least_on reads order o p v is (Some first) true to from h = (low, ring (cases_lt v first), λ q z late iz r. by q z late iz r (cases_eq q p))
  where
    low : min first v < length reads
    low = let a = h.0 in let b = o.inside p v is in omega arith

    ring : (v < first) ⊎ (first ≤ v) → OnRing reads (min first v)
    ring (inl lt) = let e : v ≡ min first v = omega arith in subst (λ (u : ℕ). OnRing reads u) e (to refl)
    ring (inr le) = let e : first ≡ min first v = omega arith in subst (λ (u : ℕ). OnRing reads u) e h.1

    by : (q z : ℕ) → p ≤ q → slice_get order q ≡ Some z → OnRing reads z → (q ≡ p) ⊎ (q ≢ p) → min first v ≤ z
    by q z late iz r (inl e) = let same = some_is z v (sym iz ∙ ap (slice_get order) e ∙ is) in omega arith
    by q z late iz r (inr apart) = let le = h.2 q z (omega arith) iz r in omega arith

-- what a path leads to is one of the graph
pub leads_low : (reads : List (List ℕ)) → AreReads reads → (v : ℕ) (path : List ℕ) (w : ℕ) → LeadsTo reads v path w → w < length reads
leads_low reads inside v [] w r = inside v w r
leads_low reads inside v (u ∷ path) w r = leads_low reads inside u path w r.1

-- where no vertex lies on a ring, each stands after those that it reads
sorted : (reads : List (List ℕ)) (order : List ℕ) → IsClosingOrder reads order → ((q z : ℕ) → slice_get order q ≡ Some z → OnRing reads z → ⊥) → IsOrder reads order
sorted reads order o none = record { all = o.all; inside = o.inside; once = o.once; there = o.there; after = λ p v w is r. by p v w is r (o.back p p v w v is r (omega arith) is) }
  where
    earlier : (p v w : ℕ) → slice_get order p ≡ Some v → Reads reads v w → (s : StandsBefore order (p + 1) w) → (s.place ≡ p) ⊎ (s.place ≢ p) → StandsBefore order p w
    earlier p v w is r s (inl e) =
        let same = some_is w v (sym s.there ∙ ap (slice_get order) e ∙ is) in
        absurd (none p v is (record { path = []; leads = subst (λ (u : ℕ). Reads reads v u) same r }))
    earlier p v w is r s (inr apart) = let before = s.before in record { place = s.place; before = omega arith; there = s.there }

    by : (p v w : ℕ) → slice_get order p ≡ Some v → Reads reads v w → StandsBefore order (p + 1) w ⊎ DependsOn reads w v → StandsBefore order p w
    by p v w is r (inl s) = earlier p v w is r s (cases_eq s.place p)
    by p v w is r (inr d) = let on = leads_on reads v [] w v r d in absurd (none p v is (record { path = on.path; leads = on.leads }))

-- when all were looked at, the least is the first on a ring
pub least_is : (reads : List (List ℕ)) (order : List ℕ) → AreReads reads → IsClosingOrder reads order → (p : ℕ) → p ≡ 0 → (found : Option ℕ) → IsLeastFrom reads order p found
    → MatchOption found (IsOrder reads order) (IsFirstOnRing reads)
least_is reads order inside o p e None h = sorted reads order o (λ q z iz. h q z (omega arith) iz)
least_is reads order inside o p e (Some first) h = record { inside = h.0; ring = h.1; first = λ w low on. by w low on (leads_low reads inside w on.path w on.leads) }
  where
    by : (w : ℕ) → w < first → OnRing reads w → w < length reads → ⊥
    by w low on within = let q = place_of order w (o.there w within) in let le = h.2 q.0 w (omega arith) q.1 on in absurd (omega arith)

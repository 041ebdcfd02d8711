-- The bits with which a simulation begins, its vectors and its first module that doesn't rest are one each.
use Rattle.std.proofs.Common.{ℕ, zero, suc, ◌≡◌, ◌≢◌, ◌⊎◌, ◌+◌, ◌<◌, ◌≤◌, Bool, true, false, List, [], ◌∷◌, Contains, inl, inr, refl, sym, ap, subst, ◌∙◌, arith, true≢false}
use Rattle.std.specs.Prelude.{slice_get}
use Rattle.std.specs.Str.Lines.{lines}
use Rattle.std.proofs.lemmas.Bool.{cases_eq, cases_lt, cases_order}
use Rattle.std.proofs.lemmas.List.Sums.{AllPass-from_list_all}
use Rattle.std.proofs.lemmas.Option.{slice_get_past, slice_get_within, get_or_from_slice_get}
use Rattle.act1_base.proofs.ListGets.{same_gets}
use Rattle.act1_circuit.specs.declared.circuit.Circuit.{Circuit}
use Rattle.act1_circuit.specs.declared.circuit.Start.{Start}
use Rattle.act1_circuit.specs.Firing.{high_bits, IsLeastUnrest}
use Rattle.act1_sim.specs.Cycles.{in_site_order, AreFirstBits, Rests, RestsIn, UnrestsIn, IsFirstUnrest}
use Rattle.act1_sim.specs.Vectors.{is_vector, AreVectorsOf, IsFirstNoVector}

-- a start says the bit of the module
record Says (starts : List Start) (m : ℕ) : Type 0 where
  start : Start
  there : Contains starts start
  is : start.module ≡ m
  says : start.init ≤ 1

-- no start does
abbrev LeavesFree : List Start → ℕ → Type 0
LeavesFree starts m = (start : Start) → Contains starts start → start.module ≡ m → 1 < start.init

-- a start before others that leaves the bit free
free_first : (s : Start) (starts : List Start) (m : ℕ) → (s.module ≡ m → 1 < s.init) → LeavesFree starts m → LeavesFree (s ∷ starts) m
free_first s starts m here rest start (zero, low, e) is = subst (λ (t : Start). t.module ≡ m → 1 < t.init) e here is
free_first s starts m here rest start (suc k, low, e) is = rest start (k, omega arith, e) is

-- a start says the module's bit, or none does
says_or_leaves : (starts : List Start) (m : ℕ) → Says starts m ⊎ LeavesFree starts m
says_or_leaves [] m = inr (λ start h. absurd (omega (arith, h.1)))
says_or_leaves (s ∷ starts) m = cases (cases_eq s.module m) (cases_lt 1 s.init) (says_or_leaves starts m)
  where
    cases : (s.module ≡ m) ⊎ (s.module ≢ m) → (1 < s.init) ⊎ (s.init ≤ 1) → Says starts m ⊎ LeavesFree starts m → Says (s ∷ starts) m ⊎ LeavesFree (s ∷ starts) m
    cases is says (inl h) = let low = h.there.1 in inl (record { start = h.start; there = (suc h.there.0, omega arith, h.there.2); is = h.is; says = h.says })
    cases (inl is) (inr says) (inr free) = inl (record { start = s; there = (0, omega arith, refl); is = is; says = says })
    cases (inl is) (inl over) (inr free) = inr (free_first s starts m (λ e. over) free)
    cases (inr other) says (inr free) = inr (free_first s starts m (λ e. absurd (other e)) free)

-- the first bits are what starts and fill say
pub one_start : (starts : List Start) (count : ℕ) (fill : Bool) (a b : List Bool) → AreFirstBits starts count fill a → AreFirstBits starts count fill b → a ≡ b
one_start starts count fill a b is_a is_b = same_gets a b (λ m. by_place m (cases_lt m count))
  where
    inside : (m : ℕ) → m < count → Says starts m ⊎ LeavesFree starts m → slice_get a m ≡ slice_get b m
    inside m low (inl h) = subst (λ (k : ℕ). slice_get a k ≡ slice_get b k) h.is (is_a.declared h.start h.there h.says ∙ sym (is_b.declared h.start h.there h.says))
    inside m low (inr free) = is_a.filled m low free ∙ sym (is_b.filled m low free)

    by_place : (m : ℕ) → (m < count) ⊎ (count ≤ m) → slice_get a m ≡ slice_get b m
    by_place m (inl low) = inside m low (says_or_leaves starts m)
    by_place m (inr high) =
        let long_a = is_a.one_each in let long_b = is_b.one_each in
        slice_get_past a m (omega arith) ∙ sym (slice_get_past b m (omega arith))

-- a text has one list of vectors
pub one_list : (width : ℕ) (bytes : List ℕ) (xs ys : List (List Bool)) → AreVectorsOf width bytes xs → AreVectorsOf width bytes ys → xs ≡ ys
one_list width bytes xs ys is_xs is_ys = is_xs.are ∙ sym is_ys.are

-- no line of vectors is no vector
pub all_or_first : (width : ℕ) (bytes : List ℕ) (xs : List (List Bool)) (number : ℕ) → AreVectorsOf width bytes xs → IsFirstNoVector width bytes number → ⊥
all_or_first width bytes xs number are first =
    let passes = AllPass-from_list_all (is_vector width) (lines bytes) are.each first.place first.line (slice_get_within (lines bytes) first.place first.line first.there) in
    true≢false (sym passes ∙ ap (is_vector width) (get_or_from_slice_get (lines bytes) first.place first.line first.line first.there) ∙ first.fails)

-- one line is the first that is no vector
pub one_line : (width : ℕ) (bytes : List ℕ) (m n : ℕ) → IsFirstNoVector width bytes m → IsFirstNoVector width bytes n → m ≡ n
one_line width bytes m n a b = a.numbered ∙ ap (λ (k : ℕ). k + 1) (cases (cases_order a.place b.place)) ∙ sym b.numbered
  where
    cases : (a.place ≡ b.place) ⊎ ((a.place < b.place) ⊎ (b.place < a.place)) → a.place ≡ b.place
    cases (inl e) = e
    cases (inr (inl low)) = absurd (true≢false (sym (b.first a.place a.line low a.there) ∙ a.fails))
    cases (inr (inr low)) = absurd (true≢false (sym (a.first b.place b.line low b.there) ∙ b.fails))

module _ (c : Circuit) where
  -- one module is the least that doesn't rest
  one_least : (clock : Bool) (x bits : List Bool) (m n : ℕ) → IsLeastUnrest c clock x bits m → IsLeastUnrest c clock x bits n → m ≡ n
  one_least clock x bits m n a b = cases (cases_order m n)
    where
      cases : (m ≡ n) ⊎ ((m < n) ⊎ (n < m)) → m ≡ n
      cases (inl e) = e
      cases (inr (inl low)) = absurd (a.changes (b.least m low))
      cases (inr (inr low)) = absurd (b.changes (a.least n low))

  -- a cycle that leaves all at rest
  rest_or_unrest : (bits x : List Bool) (m : ℕ) → RestsIn c bits x → UnrestsIn c bits x m → ⊥
  rest_or_unrest bits x m rests (inl h) = h.changes (rests.0 m h.within)
  rest_or_unrest bits x m rests (inr h) = h.1.changes (rests.1 m h.1.within)

  one_in_cycle : (bits x : List Bool) (m n : ℕ) → UnrestsIn c bits x m → UnrestsIn c bits x n → m ≡ n
  one_in_cycle bits x m n (inl a) (inl b) = one_least false x _ m n a b
  one_in_cycle bits x m n (inl a) (inr b) = absurd (a.changes (b.0 m a.within))
  one_in_cycle bits x m n (inr a) (inl b) = absurd (b.changes (a.0 n b.within))
  one_in_cycle bits x m n (inr a) (inr b) = one_least true x _ m n a.1 b.1

  -- a circuit that rests after each wave has no first one after which it doesn't
  pub rests_or_stops : (bits : List Bool) (xs : List (List Bool)) (cycle m : ℕ) → Rests c bits xs → IsFirstUnrest c bits xs cycle m → ⊥
  rests_or_stops bits [] cycle m rests h = h
  rests_or_stops bits (x ∷ xs) zero m rests h = rest_or_unrest bits x m (rests.0, rests.1) h
  rests_or_stops bits (x ∷ xs) (suc cycle) m rests h = rests_or_stops (high_bits c bits x (in_site_order c)) xs cycle m rests.2 h.1

  -- one cycle is the first that doesn't settle, with one module
  pub one_stop : (bits : List Bool) (xs : List (List Bool)) (j k m n : ℕ) → IsFirstUnrest c bits xs j m → IsFirstUnrest c bits xs k n → (j ≡ k) × (m ≡ n)
  one_stop bits [] j k m n a b = absurd a
  one_stop bits (x ∷ xs) zero zero m n a b = (refl, one_in_cycle bits x m n a b)
  one_stop bits (x ∷ xs) zero (suc k) m n a b = absurd (rest_or_unrest bits x m b.0 a)
  one_stop bits (x ∷ xs) (suc j) zero m n a b = absurd (rest_or_unrest bits x n a.0 b)
  one_stop bits (x ∷ xs) (suc j) (suc k) m n a b = let r = one_stop (high_bits c bits x (in_site_order c)) xs j k m n a.1 b.1 in (ap suc r.0, r.1)

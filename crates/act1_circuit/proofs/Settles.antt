-- Where modules depend on one another by levels, every wave leaves what firing all modules at once, often enough, leaves.
use Rattle.std.proofs.Common.{ℕ, zero, suc, ◌≡◌, ◌≢◌, ◌⊎◌, ◌+◌, ◌<◌, ◌≤◌, Bool, false, List, [], ◌∷◌, length, map, set, refl, sym, ap, ◌∙◌, inl, inr, arith, add-zero, add-suc, suc-add}
use Rattle.std.specs.List.{AllByRecursion, Contains, range_with_len}
use Rattle.std.proofs.lemmas.Bool.{cases_eq, cases_lt}
use Rattle.std.proofs.lemmas.List.{length-set, get_or-set_same, get_or-set_other, set-get_or, ext_get_or}
use Rattle.std.proofs.lemmas.List.FromFn.{get_or-map-range_with_len, length-map-range_with_len}
use Rattle.std.proofs.lemmas.List.Elements.{recursion_from_All}
use Rattle.act1_circuit.specs.declared.circuit.Circuit.{Circuit}
use Rattle.act1_circuit.specs.Firing.{fired, fire, fire_all, IsRound, AreRounds, IsWave}
use Rattle.act1_circuit.proofs.Fires.{fire_all-append, length_fires}
use Rattle.act1_circuit.specs.Cycles.{bit}
use Rattle.act1_circuit.proofs.Ranks.{rank, rank_few, rank_zero, rank_none, rank_below}

-- a module of level 0 holds its bit, and what any other gives depends on modules of lower levels alone
pub record IsLeveled (c : Circuit) (clock : Bool) (x : List Bool) (level : ℕ → ℕ) : Type 0 where
  pub holds : (bits : List Bool) (m : ℕ) → m < length c.modules → level m ≡ 0 → fired c clock x bits m ≡ bit bits m
  pub depends : (a b : List Bool) (m : ℕ) → m < length c.modules → 0 < level m
      → ((k : ℕ) → k < length c.modules → level k < level m → bit a k ≡ bit b k) → fired c clock x a m ≡ fired c clock x b m

-- k is one of ms
abbrev Turn : ℕ → List ℕ → Type 0
Turn k [] = ⊥
Turn k (m ∷ ms) = (k ≡ m) ⊎ Turn k ms

turn : (k : ℕ) (ms : List ℕ) → Contains ms k → Turn k ms
turn k [] h = absurd (omega (arith, h.1))
turn k (m ∷ ms) (zero, low, e) = inl (sym e)
turn k (m ∷ ms) (suc i, low, e) = inr (turn k ms (i, omega arith, e))

module _ (c : Circuit) (clock : Bool) (x : List Bool) (level : ℕ → ℕ) (start : List Bool) (leveled : IsLeveled c clock x level) (long : length start ≡ length c.modules) where
  abbrev n : ℕ
  n = length c.modules

  abbrev gives : List Bool → ℕ → Bool
  gives bits m = fired c clock x bits m

  abbrev rank_of : ℕ → ℕ
  rank_of m = rank level n m

  holds : (bits : List Bool) (m : ℕ) → m < n → rank_of m ≡ 0 → gives bits m ≡ bit bits m
  holds bits m within none = leveled.holds bits m within (rank_zero level n m none)

  some_level : (m : ℕ) → 0 < rank_of m → (0 < level m) ⊎ (level m ≤ 0) → 0 < level m
  some_level m some (inl h) = h
  some_level m some (inr h) = let z = rank_none level n m (omega arith) in absurd (omega arith)

  depends : (a b : List Bool) (m : ℕ) → m < n → 0 < rank_of m → ((k : ℕ) → k < n → rank_of k < rank_of m → bit a k ≡ bit b k) → gives a m ≡ gives b m
  depends a b m within some agree = leveled.depends a b m within (some_level m some (cases_lt 0 (level m))) (λ k k_in below. agree k k_in (rank_below level n k m k_in below))

  few : (m : ℕ) → m < n → rank_of m ≤ n
  few m within = rank_few level n m within

  -- all modules at once, r times
  at_once : ℕ → List Bool
  at_once zero = start
  at_once (suc r) = map (gives (at_once r)) (range_with_len 0 n)

  once_more : (r k : ℕ) → k < n → bit (at_once (suc r)) k ≡ gives (at_once r) k
  unfolding at_once
  once_more r k within = get_or-map-range_with_len (gives (at_once r)) 0 n k k false within (omega arith)

  held : (r k : ℕ) → k < n → rank_of k ≡ 0 → bit (at_once r) k ≡ bit start k
  unfolding at_once
  held zero k within low = refl
  held (suc r) k within low = once_more r k within ∙ holds (at_once r) k within low ∙ held r k within low

  steady_at : (r k : ℕ) → k < n → rank_of k ≤ suc r → ((j : ℕ) → j < n → rank_of j ≤ r → bit (at_once (suc r)) j ≡ bit (at_once r) j) → (0 < rank_of k) ⊎ (rank_of k ≤ 0)
      → bit (at_once (suc (suc r))) k ≡ bit (at_once (suc r)) k
  steady_at r k within low before (inr none) = once_more (suc r) k within ∙ holds (at_once (suc r)) k within (omega arith)
  steady_at r k within low before (inl some) =
      once_more (suc r) k within
      ∙ depends (at_once (suc r)) (at_once r) k within some (λ j j_in below. before j j_in (omega arith))
      ∙ sym (once_more r k within)

  -- after r times the modules of rank up to r don't change
  steady : (r k : ℕ) → k < n → rank_of k ≤ r → bit (at_once (suc r)) k ≡ bit (at_once r) k
  steady zero k within low = once_more zero k within ∙ holds (at_once zero) k within (omega arith)
  steady (suc r) k within low = steady_at r k within low (λ j j_in j_low. steady r j j_in j_low) (cases_lt 0 (rank_of k))

  pub final : List Bool
  final = at_once n

  -- what a module gives where the modules below it have their final bits
  settled : (bits : List Bool) (m : ℕ) → m < n → 0 < rank_of m → ((k : ℕ) → k < n → rank_of k < rank_of m → bit bits k ≡ bit final k) → gives bits m ≡ bit final m
  unfolding final
  settled bits m within some below = depends bits (at_once n) m within some below ∙ sym (once_more n m within) ∙ steady n m within (few m within)

  -- the modules of rank up to r have their final bits
  record IsSettled (r : ℕ) (bits : List Bool) : Type 0 where
    all : length bits ≡ n
    low : (k : ℕ) → k < n → rank_of k ≤ r → bit bits k ≡ bit final k

  -- a module of rank up to r + 1 gives its final bit
  gives_at : (r m : ℕ) (bits : List Bool) → IsSettled r bits → m < n → rank_of m ≤ suc r → (0 < rank_of m) ⊎ (rank_of m ≤ 0) → gives bits m ≡ bit final m
  gives_at r m bits h within low (inl some) = settled bits m within some (λ k k_in below. h.low k k_in (omega arith))
  gives_at r m bits h within low (inr none) = holds bits m within (omega arith) ∙ h.low m within (omega arith)

  gives_final : (r m : ℕ) (bits : List Bool) → IsSettled r bits → m < n → rank_of m ≤ suc r → gives bits m ≡ bit final m
  gives_final r m bits h within low = gives_at r m bits h within low (cases_lt 0 (rank_of m))

  -- a firing keeps a bit that is final
  keeps_at : (r m k : ℕ) (bits : List Bool) → IsSettled r bits → m < n → k < n → rank_of k ≤ suc r → bit bits k ≡ bit final k → (k ≡ m) ⊎ (k ≢ m) → bit (fire c clock x bits m) k ≡ bit final k
  keeps_at r m k bits h m_in k_in low was (inl same) =
      let within : m < length bits = let l = h.all in omega arith in
      rw same (get_or-set_same bits m (gives bits m) false within ∙ gives_final r m bits h m_in (let l = low in rw (← same) l))
  keeps_at r m k bits h m_in k_in low was (inr other) = get_or-set_other bits m k (gives bits m) false other ∙ was

  keeps : (r m k : ℕ) (bits : List Bool) → IsSettled r bits → m < n → k < n → rank_of k ≤ suc r → bit bits k ≡ bit final k → bit (fire c clock x bits m) k ≡ bit final k
  keeps r m k bits h m_in k_in low was = keeps_at r m k bits h m_in k_in low was (cases_eq k m)

  still_settled : (r m : ℕ) (bits : List Bool) → IsSettled r bits → m < n → IsSettled r (fire c clock x bits m)
  still_settled r m bits h m_in = record {
    all = length-set bits m (gives bits m) ∙ h.all;
    low = λ k k_in low. keeps r m k bits h m_in k_in (omega arith) (h.low k k_in low);
  }

  -- after a list of firings a module that had its final bit, or its turn, has it
  after_turn : (r k : ℕ) (ms : List ℕ) (bits : List Bool) → IsSettled r bits → AllByRecursion (λ m. m < n) ms → k < n → rank_of k ≤ suc r
      → (bit bits k ≡ bit final k) ⊎ Turn k ms → bit (fire_all c clock x bits ms) k ≡ bit final k
  after_turn r k [] bits h ins k_in low (inl was) = was
  after_turn r k (m ∷ ms) bits h ins k_in low (inl was) =
      after_turn r k ms (fire c clock x bits m) (still_settled r m bits h ins.0) ins.1 k_in low (inl (keeps r m k bits h ins.0 k_in low was))
  after_turn r k (m ∷ ms) bits h ins k_in low (inr (inl now)) =
      let within : m < length bits = let l = h.all in let i = ins.0 in omega arith in
      let first : bit (fire c clock x bits m) m ≡ bit final m = get_or-set_same bits m (gives bits m) false within ∙ gives_final r m bits h ins.0 (rw now at low) in
      after_turn r k ms (fire c clock x bits m) (still_settled r m bits h ins.0) ins.1 k_in low (inl (rw now first))
  after_turn r k (m ∷ ms) bits h ins k_in low (inr (inr later)) =
      after_turn r k ms (fire c clock x bits m) (still_settled r m bits h ins.0) ins.1 k_in low (inr later)
  after_turn r k [] bits h ins k_in low (inr none) = absurd none

  -- a round settles one rank more
  after_round : (r : ℕ) (ms : List ℕ) (bits : List Bool) → IsSettled r bits → IsRound n ms → IsSettled (suc r) (fire_all c clock x bits ms)
  after_round r ms bits h round =
      let ins = recursion_from_All (λ m. m < n) ms round.modules in
      record {
        all = length_fires c clock x bits ms ∙ h.all;
        low = λ k k_in low. after_turn r k ms bits h ins k_in low (inr (turn k ms (round.each k k_in)));
      }

  after_rounds : (count r : ℕ) (ms : List ℕ) (bits : List Bool) → IsSettled r bits → AreRounds n count ms → IsSettled (r + count) (fire_all c clock x bits ms)
  after_rounds zero r ms bits h rounds = rw (rounds, add-zero) h
  after_rounds (suc count) r ms bits h rounds =
      let first = after_round r rounds.0 bits h rounds.2 in
      let rest = after_rounds count (suc r) rounds.1 (fire_all c clock x bits rounds.0) first rounds.3 in
      rw (rounds.4, fire_all-append c clock x bits rounds.0 rounds.1, add-suc) (rw suc-add at rest)

  begins : IsSettled 0 start
  unfolding final
  begins = record { all = long; low = λ k k_in low. sym (held n k k_in (omega arith)) }

  length_at : (m : ℕ) → length (at_once m) ≡ n
  unfolding at_once
  length_at zero = long
  length_at (suc m) = length-map-range_with_len (gives (at_once m)) 0 n

  pub length_final : length final ≡ n
  unfolding final
  length_final = length_at n

  -- a wave leaves the final bits
  pub wave_final : (ms : List ℕ) → IsWave n ms → fire_all c clock x start ms ≡ final
  wave_final ms rounds =
      let h = after_rounds n 0 ms start begins rounds in
      ext_get_or false (fire_all c clock x start ms) final (h.all ∙ sym length_final)
      (λ k within. let l = h.all in let k_in : k < n = omega arith in h.low k k_in (let f = few k k_in in omega arith))

  -- each module gives its final bit there
  pub final_gives : (m : ℕ) → m < n → fired c clock x final m ≡ bit final m
  final_gives m within = by (cases_lt 0 (rank_of m))
    where
      by : (0 < rank_of m) ⊎ (rank_of m ≤ 0) → fired c clock x final m ≡ bit final m
      by (inl some) = settled final m within some (λ k k_in below. refl)
      by (inr none) = holds final m within (omega arith)

  pub final_rests : (m : ℕ) → m < n → fire c clock x final m ≡ final
  final_rests m within = ap (set final m) (final_gives m within) ∙ set-get_or final m false

  -- a module of level 0 keeps the bit that it had
  pub final_held : (m : ℕ) → m < n → level m ≡ 0 → bit final m ≡ bit start m
  unfolding final
  final_held m within none = held n m within (rank_none level n m none)

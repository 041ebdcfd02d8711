-- Choices among the shapes of a tile, and the table of the least ones from the last fork to the first.
use Rattle.std.proofs.Common.{ℕ, suc, ◌≡◌, ◌≢◌, ◌⊎◌, ◌+◌, ◌<◌, ◌≤◌, Bool, true, false, List, [], ◌∷◌, ◌++◌, length, refl, sym, ap, subst, ◌∙◌, inl, inr, arith}
use Rattle.std.specs.Prelude.{slice_set}
use Rattle.std.specs.List.{flat_map}
use Rattle.std.proofs.lemmas.Bool.{cases_eq}
use Rattle.act1_cover.specs.declared.forest.Forest.{Forest}
use Rattle.act1_cover.specs.declared.forest.Term.{Term}
use Rattle.act1_cover.specs.declared.tile.Shape.{Shape}
use Rattle.act1_cover.specs.declared.best.Best.{Best}
use Rattle.act1_cover.specs.declared.best.Choice.{Choice}
use Rattle.act1_cover.specs.Tilings.{total, one_if, inner, low_of, high_of, number_of, low_side, side, ends, MayStand, shape_number}
use Rattle.act1_cover.specs.Least.{IsForest}
use Rattle.act1_cover.specs.Costs.{tile_cost, side_cost, plain, no_best, best_in, cost_in, IsChoice, IsBest, AreBestFrom, MayOr, MaySide}
use Rattle.act1_cover.proofs.Totals.{few, total_append, total_flat, total_same}
use Rattle.act1_cover.proofs.TileBelow.{refers_rise}
use Rattle.act1_cover.proofs.TileCounts.{inner_is}
use Rattle.act1_cover.proofs.RootCounts.{written, unwritten, same_length}

same_bit : (a b : Bool) → one_if a ≡ one_if b → a ≡ b
same_bit true true e = refl
same_bit false false e = refl
same_bit true false e = absurd (omega arith)
same_bit false true e = absurd (omega arith)

-- shapes of one number are the same, and there are eight of them
pub same_shape : (p q : Shape) → shape_number p ≡ shape_number q → p ≡ q
same_shape p q e =
    let a = few p.or_form in let b = few p.high_side in let c = few p.low_side in
    let d = few q.or_form in let f = few q.high_side in let g = few q.low_side in
    let o = same_bit p.or_form q.or_form (omega arith) in
    let h = same_bit p.high_side q.high_side (omega arith) in
    let l = same_bit p.low_side q.low_side (omega arith) in
    λ i. record { or_form = o i; high_side = h i; low_side = l i }

pub shape_few : (p : Shape) → shape_number p < 8
shape_few p = let a = few p.or_form in let b = few p.high_side in let c = few p.low_side in omega arith

-- a side that is a multiplexer
pub mux_side : (forest : Forest) (cost : ℕ → ℕ) (t : Term) (k : ℕ) → k ∷ [] ≡ inner forest t → (number_of t ≡ k) × (inner forest t ≡ number_of t ∷ [])
    × (total cost (inner forest (low_of forest k)) + total cost (inner forest (high_of forest k)) ≡ side_cost forest cost true t)
mux_side forest cost t k e = (same, sym e ∙ ap (λ (j : ℕ). j ∷ []) (sym same), sum)
  where
    same : number_of t ≡ k
    same = ap number_of (inner_is forest t k (sym e)).0

    sum : total cost (inner forest (low_of forest k)) + total cost (inner forest (high_of forest k)) ≡ side_cost forest cost true t
    sum =
        let low = low_of forest k in let high = high_of forest k in
        let a = total_append cost (inner forest low) (inner forest high ++ []) in
        let b = total_append cost (inner forest high) [] in
        let f : side_cost forest cost true t ≡ total cost (inner forest low ++ (inner forest high ++ [])) = ap (λ (j : ℕ). total cost (inner forest (low_of forest j) ++ (inner forest (high_of forest j) ++ []))) same in
        omega arith

-- the two sides of a tile
pub sides_cost : (forest : Forest) (cost : ℕ → ℕ) (k : ℕ) (p : Shape) → tile_cost forest cost k p ≡ 1 + (side_cost forest cost p.low_side (low_side forest k p.or_form) + side_cost forest cost p.high_side (high_of forest k))
sides_cost forest cost k p =
    let low = side forest p.low_side (low_side forest k p.or_form) in
    let high = side forest p.high_side (high_of forest k) in
    let a = total_flat cost (inner forest) (ends forest k p) in
    let b = total_append (λ (t : Term). total cost (inner forest t)) low high in
    let c = total_flat cost (inner forest) low in
    let d = total_flat cost (inner forest) high in
    omega arith

-- a tile whose two sides may be so may stand, and costs what they cost
pub tile_stands : (forest : Forest) (cost : ℕ → ℕ) (k : ℕ) (p : Shape) (term high : Term) (low_cost high_cost : ℕ) → k < length forest.forks → MayOr forest k p.or_form → term ≡ low_side forest k p.or_form → MaySide forest p.low_side term
    → low_cost ≡ side_cost forest cost p.low_side term → high ≡ high_of forest k → MaySide forest p.high_side high → high_cost ≡ side_cost forest cost p.high_side high
    → MayStand forest k p × (1 + (low_cost + high_cost) ≡ tile_cost forest cost k p)
tile_stands forest cost k p term high low_cost high_cost within or_form term_is low low_is high_is high_side high_cost_is = (
  record {
    within = within;
    or_form = or_form;
    high_side = subst (λ (t : Term). MaySide forest p.high_side t) high_is high_side;
    low_side = subst (λ (t : Term). MaySide forest p.low_side t) term_is low;
  },
  (let a = ap (side_cost forest cost p.low_side) term_is in let b = ap (side_cost forest cost p.high_side) high_is in let c = sides_cost forest cost k p in omega arith),
)

module _ (forest : Forest) where
  -- one more shape is looked at
  pub choice_new : (cost : ℕ → ℕ) (k number c : ℕ) (p : Shape) (best : Choice) → IsChoice forest cost k number best → shape_number p ≡ number → MayStand forest k p → c ≡ tile_cost forest cost k p → c < best.cost
      → IsChoice forest cost k (number + 1) (record { cost = c; shape = p })
  choice_new cost k number c p best h is may e less = record { stands = may; is = e; least = λ q low stand. by q low stand (cases_eq (shape_number q) number) }
    where
      by : (q : Shape) → shape_number q < number + 1 → MayStand forest k q → (shape_number q ≡ number) ⊎ (shape_number q ≢ number) → c ≤ tile_cost forest cost k q
      by q low stand (inl same) = let f = ap (tile_cost forest cost k) (same_shape p q (is ∙ sym same)) in omega arith
      by q low stand (inr other) = let f = h.least q (omega arith) stand in omega arith

  pub choice_kept : (cost : ℕ → ℕ) (k number c : ℕ) (p : Shape) (best : Choice) → IsChoice forest cost k number best → shape_number p ≡ number → c ≡ tile_cost forest cost k p → best.cost ≤ c
      → IsChoice forest cost k (number + 1) best
  choice_kept cost k number c p best h is e more = record { stands = h.stands; is = h.is; least = λ q low stand. by q low stand (cases_eq (shape_number q) number) }
    where
      by : (q : Shape) → shape_number q < number + 1 → MayStand forest k q → (shape_number q ≡ number) ⊎ (shape_number q ≢ number) → best.cost ≤ tile_cost forest cost k q
      by q low stand (inl same) = let f = ap (tile_cost forest cost k) (same_shape p q (is ∙ sym same)) in omega arith
      by q low stand (inr other) = h.least q (omega arith) stand

  pub choice_alone : (cost : ℕ → ℕ) (k number : ℕ) (p : Shape) (best : Choice) → IsChoice forest cost k number best → shape_number p ≡ number → (MayStand forest k p → ⊥) → IsChoice forest cost k (number + 1) best
  choice_alone cost k number p best h is may_not = record { stands = h.stands; is = h.is; least = λ q low stand. by q low stand (cases_eq (shape_number q) number) }
    where
      by : (q : Shape) → shape_number q < number + 1 → MayStand forest k q → (shape_number q ≡ number) ⊎ (shape_number q ≢ number) → best.cost ≤ tile_cost forest cost k q
      by q low stand (inl same) = absurd (may_not (subst (λ (r : Shape). MayStand forest k r) (same_shape q p (same ∙ sym is)) stand))
      by q low stand (inr other) = h.least q (omega arith) stand

  pub plain_stands : (k : ℕ) → k < length forest.forks → MayStand forest k plain
  plain_stands k low = record { within = low; or_form = λ e. cc; high_side = λ e. cc; low_side = λ e. cc }

  pub plain_choice : (cost : ℕ → ℕ) (k c : ℕ) → k < length forest.forks → c ≡ 1 + (total cost (inner forest (low_of forest k)) + total cost (inner forest (high_of forest k))) → IsChoice forest cost k 1 (record { cost = c; shape = plain })
  plain_choice cost k c low e = record { stands = plain_stands k low; is = is; least = λ q less stand. first q less }
    where
      is : c ≡ tile_cost forest cost k plain
      is =
          let a = total_append cost (inner forest (low_of forest k)) (inner forest (high_of forest k) ++ []) in
          let b = total_append cost (inner forest (high_of forest k)) [] in
          omega arith

      first : (q : Shape) → shape_number q < 1 → c ≤ tile_cost forest cost k q
      first q less = let f = ap (tile_cost forest cost k) (same_shape plain q (omega arith)) in let g = is in omega arith

  pub choice_best : (cost : ℕ → ℕ) (k : ℕ) (c : Choice) → IsChoice forest cost k 8 c → (best : Best) → best.cost ≡ c.cost → best.shape ≡ c.shape → IsBest forest cost k best
  choice_best cost k c h best e f = record {
    stands = subst (λ (p : Shape). MayStand forest k p) (sym f) h.stands;
    is = e ∙ h.is ∙ ap (tile_cost forest cost k) (sym f);
    least = λ p stand. (let g = h.least p (shape_few p) stand in omega arith);
  }

  module _ (is : IsForest forest) where
    -- costs that agree behind a fork give its tiles the same cost
    same_costs : (cost other : ℕ → ℕ) (k : ℕ) (p : Shape) → ((j : ℕ) → k < j → cost j ≡ other j) → MayStand forest k p → tile_cost forest cost k p ≡ tile_cost forest other k p
    same_costs cost other k p same stand =
        ap (λ (n : ℕ). 1 + n) (total_same cost other (flat_map (inner forest) (ends forest k p)) (λ i j at. same j (refers_rise forest is k p stand i j at).1))

    best_moved : (cost other : ℕ → ℕ) (k : ℕ) (b : Best) → ((j : ℕ) → k < j → cost j ≡ other j) → IsBest forest cost k b → IsBest forest other k b
    best_moved cost other k b same h = record {
      stands = h.stands;
      is = h.is ∙ same_costs cost other k b.shape same h.stands;
      least = λ p stand. (let e = same_costs cost other k p same stand in let f = h.least p stand in omega arith);
    }

    -- the entry of one more fork
    pub best_more : (m k : ℕ) (table : List Best) (b : Best) → k ≡ suc m → m < length forest.forks → AreBestFrom forest k table → IsBest forest (cost_in table) m b → AreBestFrom forest m (slice_set table m b)
    best_more m k table b e low h best = record {
      count = same_length table m b ∙ h.count;
      each = λ cost agree j from within. by cost agree j from within (cases_eq j m);
    }
      where
        here : best_in (slice_set table m b) m ≡ b
        here = let c = h.count in written table m b no_best (omega arith)

        there : (j : ℕ) → j ≢ m → best_in (slice_set table m b) j ≡ best_in table j
        there j apart = unwritten table m j b no_best apart

        by : (cost : ℕ → ℕ) → ((j : ℕ) → m ≤ j → cost j ≡ cost_in (slice_set table m b) j) → (j : ℕ) → m ≤ j → j < length forest.forks → (j ≡ m) ⊎ (j ≢ m) → IsBest forest cost j (best_in (slice_set table m b) j)
        by cost agree j from within (inl same) =
            subst (λ (i : ℕ). IsBest forest cost i (best_in (slice_set table m b) i)) (sym same)
            (subst (λ (x : Best). IsBest forest cost m x) (sym here)
            (best_moved (cost_in table) cost m b (λ i less. sym (agree i (omega arith) ∙ ap (λ (x : Best). x.cost) (there i (λ f. omega arith)))) best))
        by cost agree j from within (inr apart) =
            subst (λ (x : Best). IsBest forest cost j x) (sym (there j apart))
            (h.each cost (λ i more. agree i (omega arith) ∙ ap (λ (x : Best). x.cost) (there i (λ f. omega arith))) j (omega arith) within)

  pub none_best : (table : List Best) → length table ≡ length forest.forks → AreBestFrom forest (length forest.forks) table
  none_best table long = record { count = long; each = λ cost agree j from within. absurd (omega arith) }

  -- the costs of the whole table
  pub best_all : (table : List Best) → AreBestFrom forest 0 table → (k : ℕ) → k < length forest.forks → IsBest forest (cost_in table) k (best_in table k)
  best_all table h k low = h.each (cost_in table) (λ j from. refl) k (omega arith) low

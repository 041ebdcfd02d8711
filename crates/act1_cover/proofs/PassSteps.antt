-- One tile after the other, from the first fork to the last.
use Rattle.std.proofs.Common.{ℕ, suc, ◌≡◌, ◌≢◌, ◌⊎◌, ◌+◌, ◌<◌, ◌≤◌, ◌==◌, ◌||◌, Bool, true, false, List, [], ◌∷◌, ◌++◌, length, map, get_or, Some, refl, sym, ap, subst, ◌∙◌, inl, inr, arith}
use Rattle.std.specs.Prelude.{nat_lt, slice_get, slice_set}
use Rattle.std.specs.List.{flat_map}
use Rattle.std.proofs.lemmas.Bool.{cases_eq, cases_lt}
use Rattle.std.proofs.lemmas.Bool.Decides.{nat_tests}
use Rattle.std.proofs.lemmas.Option.{slice_get-get_or}
use Rattle.act1_base.proofs.ListGets.{get_cases, get_within}
use Rattle.act1_cover.specs.declared.forest.Forest.{Forest}
use Rattle.act1_cover.specs.declared.forest.Term.{Term}
use Rattle.act1_cover.specs.declared.tile.Shape.{Shape}
use Rattle.act1_cover.specs.declared.tile.Tile.{Tile}
use Rattle.act1_cover.specs.declared.best.Best.{Best}
use Rattle.act1_cover.specs.Tilings.{total, one_if, times, is_root, inner, side, ends, low_side, high_of, MayStand}
use Rattle.act1_cover.specs.Least.{IsForest, IsLeastTiling}
use Rattle.act1_cover.specs.Costs.{tile_cost, best_in, cost_in, AreRoots, AreBestFrom, refers, marked, is_wanted, IsPass}
use Rattle.act1_cover.proofs.Totals.{elsewhere, number_same, total_append, total_flat, total_map, stands}
use Rattle.act1_cover.proofs.TileBelow.{refers_rise}
use Rattle.act1_cover.proofs.RootCounts.{written, unwritten, same_length}
use Rattle.act1_cover.proofs.CostSteps.{best_all}
use Rattle.act1_cover.proofs.LeastTilings.{is_tiling, no_fewer}

or_false : (b : Bool) → (b || false) ≡ b
or_false true = refl
or_false false = refl

or_true : (b : Bool) → (b || true) ≡ true
or_true true = refl
or_true false = refl

or_group : (a b c : Bool) → ((a || b) || c) ≡ (a || (b || c))
or_group true b c = refl
or_group false b c = refl

some_of_two : (a b : ℕ) → nat_lt 0 (a + b) ≡ (nat_lt 0 a || nat_lt 0 b)
some_of_two a b = grind (arith, nat_tests)

-- a mark after others were made
marked_at : (marks : List Bool) (js : List ℕ) (k : ℕ) → k < length marks → get_or (marked marks js) k false ≡ (get_or marks k false || nat_lt 0 (times k js))
marked_at marks [] k low = sym (or_false (get_or marks k false))
marked_at marks (j ∷ js) k low =
    let long = same_length marks j true in
    marked_at (slice_set marks j true) js k (omega arith) ∙ by (cases_eq k j)
  where
    by : (k ≡ j) ⊎ (k ≢ j) → (get_or (slice_set marks j true) k false || nat_lt 0 (times k js)) ≡ (get_or marks k false || nat_lt 0 (times k (j ∷ js)))
    by (inl e) =
        let at : get_or (slice_set marks j true) k false ≡ true = ap (λ (i : ℕ). get_or (slice_set marks j true) i false) e ∙ written marks j true false (omega arith) in
        let one : one_if (j == k) ≡ 1 = ap one_if (number_same j k (sym e)) in
        let some : nat_lt 0 (times k (j ∷ js)) ≡ true = (let more : 0 < times k (j ∷ js) = omega arith in grind (arith, nat_tests)) in
        ap (λ (b : Bool). b || nat_lt 0 (times k js)) at ∙ sym (ap (λ (b : Bool). get_or marks k false || b) some ∙ or_true (get_or marks k false))
    by (inr apart) =
        let none = elsewhere j k (λ e. apart (sym e)) in
        let same : times k (j ∷ js) ≡ times k js = omega arith in
        ap (λ (b : Bool). b || nat_lt 0 (times k js)) (unwritten marks j k true false apart) ∙ ap (λ (n : ℕ). get_or marks k false || nat_lt 0 n) (sym same)

pub marked_long : (marks : List Bool) (js : List ℕ) → length (marked marks js) ≡ length marks
marked_long marks [] = refl
marked_long marks (j ∷ js) = marked_long (slice_set marks j true) js ∙ same_length marks j true

pub marked_append : (marks : List Bool) (is js : List ℕ) → marked marks (is ++ js) ≡ marked (marked marks is) js
marked_append marks [] js = refl
marked_append marks (i ∷ is) js = marked_append (slice_set marks i true) is js

-- the marks of both sides
pub ends_marked : (forest : Forest) (marks : List Bool) (k : ℕ) (p : Shape)
    → marked (marked marks (flat_map (inner forest) (side forest p.low_side (low_side forest k p.or_form)))) (flat_map (inner forest) (side forest p.high_side (high_of forest k))) ≡ marked marks (flat_map (inner forest) (ends forest k p))
ends_marked forest marks k p =
    sym (marked_append marks (flat_map (inner forest) (side forest p.low_side (low_side forest k p.or_form))) (flat_map (inner forest) (side forest p.high_side (high_of forest k))))
    ∙ ap (marked marks) (both (side forest p.low_side (low_side forest k p.or_form)) (side forest p.high_side (high_of forest k)))
  where
    append_again : (xs ys zs : List ℕ) → xs ++ (ys ++ zs) ≡ (xs ++ ys) ++ zs
    append_again [] ys zs = refl
    append_again (x ∷ xs) ys zs = ap (λ (us : List ℕ). x ∷ us) (append_again xs ys zs)

    both : (ss ts : List Term) → flat_map (inner forest) ss ++ flat_map (inner forest) ts ≡ flat_map (inner forest) (ss ++ ts)
    both [] ts = refl
    both (s ∷ ss) ts = sym (append_again (inner forest s) (flat_map (inner forest) ss) (flat_map (inner forest) ts)) ∙ ap (λ (us : List ℕ). inner forest s ++ us) (both ss ts)

module _ (forest : Forest) (is : IsForest forest) (table : List Best) (best : AreBestFrom forest 0 table) where
  abbrev n : ℕ
  n = length forest.forks

  pub pass_begins : (roots : List Bool) → AreRoots forest roots → IsPass forest table 0 roots []
  pass_begins roots h = record {
    count = h.count;
    marks_are = λ j low. h.each j low ∙ sym (or_false (is_root forest j));
    chosen = λ i t at. cc;
    once = λ j low. absurd (omega arith);
    rising = λ i j s t less at there. cc;
  }

  -- no tile stands at a later fork
  none_yet : (m : ℕ) (tiles : List Tile) → ((i : ℕ) (t : Tile) → slice_get tiles i ≡ Some t → t.fork < m) → times m (map (λ (t : Tile). t.fork) tiles) ≡ 0
  none_yet m [] h = refl
  none_yet m (t ∷ tiles) h = let a = h 0 t refl in let b = elsewhere t.fork m (λ e. omega arith) in let c = none_yet m tiles (λ i u at. h (suc i) u at) in omega arith

  module _ (m : ℕ) (low : m < n) (marks : List Bool) (tiles : List Tile) (pass : IsPass forest table m marks tiles) where
    pub pass_skips : get_or marks m false ≡ false → IsPass forest table (suc m) marks tiles
    pass_skips unwanted = record {
      count = pass.count;
      marks_are = pass.marks_are;
      chosen = λ i t at. (let c = pass.chosen i t at in let l = c.0 in (omega arith, c.1));
      once = λ j less. by j less (cases_lt j m);
      rising = pass.rising;
    }
      where
        by : (j : ℕ) → j < suc m → (j < m) ⊎ (m ≤ j) → times j (map (λ (t : Tile). t.fork) tiles) ≡ one_if (is_wanted forest tiles j)
        by j less (inl old) = pass.once j old
        by j less (inr more) =
            let e : m ≡ j = omega arith in
            subst (λ (i : ℕ). times i (map (λ (t : Tile). t.fork) tiles) ≡ one_if (is_wanted forest tiles i)) e
            (none_yet m tiles (λ i t at. (pass.chosen i t at).0) ∙ ap one_if (sym (sym (pass.marks_are m low) ∙ unwanted)))

    -- the tile that stands at m
    abbrev here_tile : Tile
    here_tile = record { fork = m; shape = (best_in table m).shape }

    stands_here : MayStand forest m (best_in table m).shape
    stands_here = (best_all forest table best m low).stands

    none_before : (j : ℕ) → j ≤ m → times j (refers forest here_tile) ≡ 0
    none_before j few = by (cases_lt 0 (times j (refers forest here_tile)))
      where
        by : (0 < times j (refers forest here_tile)) ⊎ (times j (refers forest here_tile) ≤ 0) → times j (refers forest here_tile) ≡ 0
        by (inl some) =
            let s = stands j (refers forest here_tile) some in
            let r = refers_rise forest is m (best_in table m).shape stands_here s.0 j s.1 in
            let after = r.1 in absurd (omega arith)
        by (inr none) = omega arith

    referred_more : (j : ℕ) → times j (flat_map (refers forest) (tiles ++ here_tile ∷ [])) ≡ times j (flat_map (refers forest) tiles) + times j (refers forest here_tile)
    referred_more j =
        let g = λ (i : ℕ). one_if (i == j) in
        let a = total_flat g (refers forest) (tiles ++ here_tile ∷ []) in
        let b = total_append (λ (t : Tile). total g (refers forest t)) tiles (here_tile ∷ []) in
        let c = total_flat g (refers forest) tiles in
        omega arith

    wanted_more : (j : ℕ) → is_wanted forest (tiles ++ here_tile ∷ []) j ≡ (is_wanted forest tiles j || nat_lt 0 (times j (refers forest here_tile)))
    wanted_more j =
        ap (λ (k : ℕ). is_root forest j || nat_lt 0 k) (referred_more j)
        ∙ ap (λ (b : Bool). is_root forest j || b) (some_of_two (times j (flat_map (refers forest) tiles)) (times j (refers forest here_tile)))
        ∙ sym (or_group (is_root forest j) (nat_lt 0 (times j (flat_map (refers forest) tiles))) (nat_lt 0 (times j (refers forest here_tile))))

    wanted_before : (j : ℕ) → j ≤ m → is_wanted forest (tiles ++ here_tile ∷ []) j ≡ is_wanted forest tiles j
    wanted_before j few = wanted_more j ∙ ap (λ (k : ℕ). is_wanted forest tiles j || nat_lt 0 k) (none_before j few) ∙ or_false (is_wanted forest tiles j)

    stood_more : (j : ℕ) → times j (map (λ (t : Tile). t.fork) (tiles ++ here_tile ∷ [])) ≡ times j (map (λ (t : Tile). t.fork) tiles) + one_if (m == j)
    stood_more j =
        let g = λ (i : ℕ). one_if (i == j) in
        let a = total_map g (λ (t : Tile). t.fork) (tiles ++ here_tile ∷ []) in
        let b = total_map g (λ (t : Tile). t.fork) tiles in
        let c = total_append (λ (t : Tile). one_if (t.fork == j)) tiles (here_tile ∷ []) in
        omega arith

    pub pass_places : get_or marks m false ≡ true → IsPass forest table (suc m) (marked marks (refers forest here_tile)) (tiles ++ here_tile ∷ [])
    pass_places wanted = record {
      count = marked_long marks (refers forest here_tile) ∙ pass.count;
      marks_are = λ j in_n. (let long = pass.count in marked_at marks (refers forest here_tile) j (omega arith)) ∙ ap (λ (b : Bool). b || nat_lt 0 (times j (refers forest here_tile))) (pass.marks_are j in_n) ∙ sym (wanted_more j);
      chosen = λ i t at. chosen i t (get_cases tiles here_tile t i at);
      once = λ j less. by j less (cases_lt j m);
      rising = λ i j s t less at there. rising i j s t less at there (get_cases tiles here_tile s i at) (get_cases tiles here_tile t j there);
    }
      where
        chosen : (i : ℕ) (t : Tile) → (slice_get tiles i ≡ Some t) ⊎ ((i ≡ length tiles) × (here_tile ≡ t)) → (t.fork < suc m) × (t.shape ≡ (best_in table t.fork).shape)
        chosen i t (inl at) = let c = pass.chosen i t at in let l = c.0 in (omega arith, c.1)
        chosen i t (inr (last, same)) = subst (λ (u : Tile). (u.fork < suc m) × (u.shape ≡ (best_in table u.fork).shape)) same (omega arith, refl)

        by : (j : ℕ) → j < suc m → (j < m) ⊎ (m ≤ j) → times j (map (λ (t : Tile). t.fork) (tiles ++ here_tile ∷ [])) ≡ one_if (is_wanted forest (tiles ++ here_tile ∷ []) j)
        by j less (inl old) =
            let a = stood_more j in let b = elsewhere m j (λ e. omega arith) in let c = pass.once j old in let d = ap one_if (wanted_before j (omega arith)) in omega arith
        by j less (inr more) =
            let e : m ≡ j = omega arith in
            let a = stood_more j in let b = ap one_if (number_same m j e) in
            let c = ap (λ (i : ℕ). times i (map (λ (t : Tile). t.fork) tiles)) e in let z = none_yet m tiles (λ i t at. (pass.chosen i t at).0) in
            let w : one_if (is_wanted forest tiles j) ≡ 1 = ap (λ (i : ℕ). one_if (is_wanted forest tiles i)) (sym e) ∙ ap one_if (sym (pass.marks_are m low) ∙ wanted) in
            let d = ap one_if (wanted_before j (omega arith)) in omega arith

        rising : (i j : ℕ) (s t : Tile) → i < j → slice_get (tiles ++ here_tile ∷ []) i ≡ Some s → slice_get (tiles ++ here_tile ∷ []) j ≡ Some t
            → (slice_get tiles i ≡ Some s) ⊎ ((i ≡ length tiles) × (here_tile ≡ s)) → (slice_get tiles j ≡ Some t) ⊎ ((j ≡ length tiles) × (here_tile ≡ t)) → s.fork < t.fork
        rising i j s t less at there (inl a) (inl b) = pass.rising i j s t less a b
        rising i j s t less at there (inl a) (inr (last, same)) = let c = (pass.chosen i s a).0 in let e = ap (λ (u : Tile). u.fork) same in omega arith
        rising i j s t less at there (inr (last, same)) (inl b) = let c = get_within tiles j t b in absurd (omega arith)
        rising i j s t less at there (inr (last, same)) (inr (last', same')) = absurd (omega arith)

  -- at the end the tiles are a least tiling
  pub pass_ends : (m : ℕ) (marks : List Bool) (tiles : List Tile) → n ≤ m → IsPass forest table m marks tiles → (m ≡ n) → IsLeastTiling forest tiles
  pass_ends m marks tiles ended pass is_n = record {
    tiling = is_tiling forest is tiles stand one;
    rising = λ i j d less low. pass.rising i j (get_or tiles i d) (get_or tiles j d) less (slice_get-get_or tiles i d (omega arith)) (slice_get-get_or tiles j d low);
    least = λ other tiling. no_fewer forest is tiles stand one (cost_in table) costs (λ k p may. least k p may) other tiling;
  }
    where
      within : (i : ℕ) (t : Tile) → slice_get tiles i ≡ Some t → t.fork < n
      within i t at = let c = (pass.chosen i t at).0 in omega arith

      stand : (i : ℕ) (t : Tile) → slice_get tiles i ≡ Some t → MayStand forest t.fork t.shape
      stand i t at = subst (λ (p : Shape). MayStand forest t.fork p) (sym (pass.chosen i t at).1) (best_all forest table best t.fork (within i t at)).stands

      one : (j : ℕ) → j < n → times j (map (λ (t : Tile). t.fork) tiles) ≡ one_if (is_wanted forest tiles j)
      one j low = pass.once j (omega arith)

      costs : (i : ℕ) (t : Tile) → slice_get tiles i ≡ Some t → cost_in table t.fork ≡ tile_cost forest (cost_in table) t.fork t.shape
      costs i t at = (best_all forest table best t.fork (within i t at)).is ∙ ap (tile_cost forest (cost_in table) t.fork) (sym (pass.chosen i t at).1)

      least : (k : ℕ) (p : Shape) → MayStand forest k p → cost_in table k ≤ tile_cost forest (cost_in table) k p
      least k p may = (best_all forest table best k may.within).least p may

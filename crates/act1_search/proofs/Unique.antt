-- The search has one course.
use Rattle.std.proofs.Common.{ℕ, zero, suc, ◌≡◌, ◌-◌, ◌<◌, ◌≤◌, ◌⊎◌, List, [], ◌∷◌, ◌++◌, length, take, slice_get, Some, refl, sym, ap, subst, ◌∙◌, inl, inr, arith}
use Rattle.std.proofs.lemmas.Bool.{cases_lt}
use Rattle.std.proofs.lemmas.Option.{slice_get_past}
use Rattle.act1_base.proofs.ListGets.{get_in, get_within, some_is, same_gets}
use Rattle.act1_search.proofs.Fronts.{take_whole, take_next, get_taken}
use Rattle.act1_channel.proofs.Facts.{choice_from}
use Rattle.act1_channel.specs.declared.problem.Problem.{Problem}
use Rattle.act1_channel.specs.declared.problem.Choice.{Choice}
use Rattle.act1_channel.specs.Assignment.{IsAllowed, choice_at}
use Rattle.act1_channel.specs.Clauses.{taken}
use Rattle.act1_search.specs.Closure.{Follows, IsInConflict, HasFactAbout}
use Rattle.act1_search.specs.Search.{IsDecision, Descends, EndsInConflict, EndsWith, AreConflicts, EndsRefuted, EndsAssigned}
use Rattle.act1_search.specs.Laws.{ConflictsAreUnique, EndsAreLast, EndsAreUnique}

-- below, above or the same
pub data Order (m n : ℕ) : Type 0 where
  below : m < n → Order m n
  above : n < m → Order m n
  level : m ≡ n → Order m n

pub order : (m n : ℕ) → Order m n
order m n = from (cases_lt m n) (cases_lt n m)
  where
    from : (m < n) ⊎ (n ≤ m) → (n < m) ⊎ (m ≤ n) → Order m n
    from (inl a) b = below a
    from (inr a) (inl b) = above b
    from (inr a) (inr b) = level (omega arith)

module _ (p : Problem) where
  -- a decision takes no track above one about which there is no fact
  not_above : (steps : List (List Choice)) (chosen : List Choice) (a b : Choice) → IsDecision p steps chosen a → IsDecision p steps chosen b → a.connection ≡ b.connection → a.track < b.track → ⊥
  not_above steps chosen a b x y c low =
      let e = choice_from a (choice_at b.connection a.track) c refl in
      x.first_open.no_fact (subst (λ (z : Choice). HasFactAbout p steps chosen z) (sym e) (y.first_open.least a.track low (subst (λ (z : Choice). IsAllowed p z) e x.first_open.allowed)))

  one_decision : (steps : List (List Choice)) (chosen : List Choice) (a b : Choice) → IsDecision p steps chosen a → IsDecision p steps chosen b → a ≡ b
  one_decision steps chosen a b x y = tracks (order a.connection b.connection) (order a.track b.track)
    where
      tracks : Order a.connection b.connection → Order a.track b.track → a ≡ b
      tracks (below low) t = absurd (x.unsettled (y.first a.connection low))
      tracks (above low) t = absurd (y.unsettled (x.first b.connection low))
      tracks (level c) (below low) = absurd (not_above steps chosen a b x y c low)
      tracks (level c) (above low) = absurd (not_above steps chosen b a y x (sym c) low)
      tracks (level c) (level t) = choice_from a b c t

  -- two descents have the same choices as far as both go
  one_descent : (steps : List (List Choice)) (one other : List Choice) (n : ℕ) → Descends p steps one → Descends p steps other → n ≤ length one → n ≤ length other → take n one ≡ take n other
  one_descent steps one other zero x y low high = refl
  one_descent steps one other (suc n) x y low high =
      let a = get_in one n low in
      let b = get_in other n high in
      let same = one_descent steps one other n x y (omega arith) (omega arith) in
      let choice = one_decision steps (take n other) a.0 b.0 (subst (λ (xs : List Choice). IsDecision p steps xs a.0) same (x.decided n a.0 a.1)) (y.decided n b.0 b.1) in
      take_next one n a.0 a.1 ∙ ap (λ (xs : List Choice). xs ++ a.0 ∷ []) same ∙ ap (λ (c : Choice). take n other ++ c ∷ []) choice ∙ sym (take_next other n b.0 b.1)

  -- a descent that goes on from where another stands
  pub front_is : (steps : List (List Choice)) (one other : List Choice) → Descends p steps one → Descends p steps other → length one ≤ length other → take (length one) other ≡ one
  front_is steps one other x y low = sym (one_descent steps one other (length one) x y (omega arith) low) ∙ take_whole one (length one) (omega arith)

  -- where one descent stops there is no longer one
  pub not_past : (steps : List (List Choice)) (one other : List Choice) → EndsInConflict p steps one → Descends p steps other → length one < length other → ⊥
  not_past steps one other x y low =
      y.calm (length one) low (subst (λ (xs : List Choice). IsInConflict p steps xs) (sym (front_is steps one other x.0 y (omega arith))) x.1)

  one_end : (steps : List (List Choice)) (one other : List Choice) → EndsInConflict p steps one → EndsInConflict p steps other → one ≡ other
  one_end steps one other x y = from (order (length one) (length other))
    where
      from : Order (length one) (length other) → one ≡ other
      from (below low) = absurd (not_past steps one other x y.0 low)
      from (above low) = absurd (not_past steps other one y x.0 low)
      from (level e) = sym (front_is steps one other x.0 y.0 (omega arith)) ∙ take_whole other (length one) (omega arith)

  pub one_course : (one other : List (List Choice)) (n : ℕ) → AreConflicts p one → AreConflicts p other → n ≤ length one → n ≤ length other → take n one ≡ take n other
  one_course one other zero x y low high = refl
  one_course one other (suc n) x y low high =
      let a = get_in one n low in
      let b = get_in other n high in
      let same = one_course one other n x y (omega arith) (omega arith) in
      let choices = one_end (take n other) a.0 b.0 (subst (λ (s : List (List Choice)). EndsInConflict p s a.0) same (x.each n a.0 a.1)) (y.each n b.0 b.1) in
      take_next one n a.0 a.1 ∙ ap (λ (s : List (List Choice)). s ++ a.0 ∷ []) same ∙ ap (λ (c : List Choice). take n other ++ c ∷ []) choices ∙ sym (take_next other n b.0 b.1)

  pub course_front : (one other : List (List Choice)) → AreConflicts p one → AreConflicts p other → length one ≤ length other → take (length one) other ≡ one
  course_front one other x y low = sym (one_course one other (length one) x y (omega arith) low) ∙ take_whole one (length one) (omega arith)

  -- after a descent that ends with an assignment no choice is taken
  no_choice : (steps : List (List Choice)) (tracks : List ℕ) (end : EndsWith p steps tracks) (c : Choice) → IsDecision p steps end.chosen c → ⊥
  no_choice steps tracks end c d =
      let own = get_in tracks c.connection (omega (arith, d.is_there, end.each)) in
      d.unsettled (own.0, end.true_there c.connection own.0 own.1)

  not_past_end : (steps : List (List Choice)) (tracks : List ℕ) (end : EndsWith p steps tracks) (other : List Choice) → Descends p steps other → length end.chosen < length other → ⊥
  not_past_end steps tracks end other y low =
      let c = get_in other (length end.chosen) low in
      no_choice steps tracks end c.0 (subst (λ (xs : List Choice). IsDecision p steps xs c.0) (front_is steps end.chosen other end.descends y (omega arith)) (y.decided (length end.chosen) c.0 c.1))

  no_conflict : (steps : List (List Choice)) (tracks : List ℕ) → EndsWith p steps tracks → (other : List Choice) → EndsInConflict p steps other → ⊥
  no_conflict steps tracks end other y = from (order (length end.chosen) (length other))
    where
      from : Order (length end.chosen) (length other) → ⊥
      from (below low) = not_past_end steps tracks end other y.0 low
      from (above low) = not_past steps other end.chosen y end.descends low
      from (level e) =
          let same = sym (front_is steps end.chosen other end.descends y.0 (omega arith)) ∙ take_whole other (length end.chosen) (omega arith) in
          end.calm (subst (λ (xs : List Choice). IsInConflict p steps xs) (sym same) y.1)

  same_choices : (steps : List (List Choice)) (one other : List ℕ) (x : EndsWith p steps one) (y : EndsWith p steps other) → x.chosen ≡ y.chosen
  same_choices steps one other x y = from (order (length x.chosen) (length y.chosen))
    where
      from : Order (length x.chosen) (length y.chosen) → x.chosen ≡ y.chosen
      from (below low) = absurd (not_past_end steps one x y.chosen y.descends low)
      from (above low) = absurd (not_past_end steps other y x.chosen x.descends low)
      from (level e) = sym (front_is steps x.chosen y.chosen x.descends y.descends (omega arith)) ∙ take_whole y.chosen (length x.chosen) (omega arith)

pub unique : ConflictsAreUnique
unique p number one other x y =
    let same = one_course p x.0 y.0 number x.1 y.1 (omega (arith, x.2)) (omega (arith, y.2)) in
    let all = sym (take_whole x.0 number (omega (arith, x.2))) ∙ same ∙ take_whole y.0 number (omega (arith, y.2)) in
    some_is one other (sym x.3 ∙ ap (λ (s : List (List Choice)). slice_get s (number - 1)) all ∙ y.3)

-- a list of conflicts that goes on after one that ends with an assignment
not_after : (p : Problem) (steps others : List (List Choice)) (tracks : List ℕ) → AreConflicts p others → EndsAssigned p steps tracks → length steps < length others → ⊥
not_after p steps others tracks are end low =
    let c = get_in others (length steps) low in
    let same = course_front p steps others end.0 are (omega arith) in
    no_conflict p steps tracks end.2 c.0 (subst (λ (s : List (List Choice)). EndsInConflict p s c.0) same (are.each (length steps) c.0 c.1))

-- .. and after one that ends with the empty step
not_after_empty : (p : Problem) (steps others : List (List Choice)) → AreConflicts p others → EndsRefuted p steps → length steps < length others → ⊥
not_after_empty p steps others are end low =
    let same = course_front p steps others end.0 are (omega arith) in
    let there = get_within steps (length steps - 1) [] end.1 in
    let at = (get_taken others (length steps) (length steps - 1) [] (subst (λ (s : List (List Choice)). slice_get s (length steps - 1) ≡ Some []) (sym same) end.1)).1 in
    are.goes_on (length steps - 1) [] at (omega arith) refl

pub at_most : (m n : ℕ) → (n < m → ⊥) → m ≤ n
at_most m n h = from (cases_lt n m)
  where
    from : (n < m) ⊎ (m ≤ n) → m ≤ n
    from (inl low) = absurd (h low)
    from (inr le) = le

pub last : EndsAreLast
last p steps others are =
    ((λ end. at_most (length others) (length steps) (not_after_empty p steps others are end)), (λ tracks end. at_most (length others) (length steps) (not_after p steps others tracks are end)))

-- the least tracks of true choices are one list
one_list : (p : Problem) (steps : List (List Choice)) (one other : List ℕ) → EndsWith p steps one → EndsWith p steps other → one ≡ other
one_list p steps one other x y = same_gets one other (λ c. at c (cases_lt c (length one)))
  where
    chosen : x.chosen ≡ y.chosen
    chosen = same_choices p steps one other x y

    truth : (c t : ℕ) → Follows p steps y.chosen (taken (choice_at c t)) → Follows p steps x.chosen (taken (choice_at c t))
    truth c t h = subst (λ (e : List Choice). Follows p steps e (taken (choice_at c t))) (sym chosen) h

    back : (c t : ℕ) → Follows p steps x.chosen (taken (choice_at c t)) → Follows p steps y.chosen (taken (choice_at c t))
    back c t h = subst (λ (e : List Choice). Follows p steps e (taken (choice_at c t))) chosen h

    least : (c t u : ℕ) → slice_get one c ≡ Some t → slice_get other c ≡ Some u → Order t u → t ≡ u
    least c t u a b (below low) = absurd (y.least c u t b low (back c t (x.true_there c t a)))
    least c t u a b (above low) = absurd (x.least c t u a low (truth c u (y.true_there c u b)))
    least c t u a b (level e) = e

    at : (c : ℕ) → (c < length one) ⊎ (length one ≤ c) → slice_get one c ≡ slice_get other c
    at c (inl low) =
        let t = get_in one c low in
        let u = get_in other c (omega (arith, x.each, y.each)) in
        t.1 ∙ ap (λ (z : ℕ). Some z) (least c t.0 u.0 t.1 u.1 (order t.0 u.0)) ∙ sym u.1
    at c (inr past) = slice_get_past one c past ∙ sym (slice_get_past other c (omega (arith, x.each, y.each)))

pub ends : EndsAreUnique
ends p steps tracks end = (assigned, refuted)
  where
    assigned : (others : List (List Choice)) (more : List ℕ) → EndsAssigned p others more → (others ≡ steps) × (more ≡ tracks)
    assigned others more y =
        let one = (last p steps others y.0).1 tracks end in
        let two = (last p others steps end.0).1 more y in
        let same : others ≡ steps = sym (course_front p others steps y.0 end.0 one) ∙ take_whole steps (length others) two in
        (same, one_list p steps more tracks (subst (λ (s : List (List Choice)). EndsWith p s more) same y.2) end.2)

    refuted : (others : List (List Choice)) → EndsRefuted p others → ⊥
    refuted others y =
        let one = (last p steps others y.0).1 tracks end in
        let same = course_front p others steps y.0 end.0 one in
        end.1 (length others - 1) (get_taken steps (length others) (length others - 1) [] (subst (λ (s : List (List Choice)). slice_get s (length others - 1) ≡ Some []) (sym same) y.1)).1

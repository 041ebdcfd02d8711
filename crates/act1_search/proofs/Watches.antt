-- A watch after a choice was assumed or taken back.
use Rattle.std.proofs.Common.{ℕ, zero, suc, ◌≡◌, ◌+◌, ◌-◌, ◌*◌, ◌<◌, ◌≤◌, ◌⊎◌, Bool, true, false, Option, Some, None, MatchOption, List, [], ◌∷◌, ◌++◌, length, take, slice_get, refl, sym, ap, subst, ◌∙◌, inl, inr, arith, slice_set, is_some, true≢false}
use Rattle.std.proofs.lemmas.Bool.{cases_lt}
use Rattle.std.proofs.lemmas.List.{length-append, length-set, take_more_set}
use Rattle.act1_base.proofs.ListGets.{get_in, get_within, get_cases, get_last, some_is}
use Rattle.act1_search.proofs.Fronts.{get_taken, get_take, get_front, take_front, take_whole, take_taken, length_taken}
use Rattle.act1_channel.specs.declared.problem.Problem.{Problem}
use Rattle.act1_channel.specs.declared.problem.Choice.{Choice}
use Rattle.act1_channel.specs.declared.problem.Hint.{Hint}
use Rattle.act1_channel.specs.declared.problem.Hint.TheVariants as hint
use Rattle.act1_channel.specs.declared.trail.Entry.{Entry}
use Rattle.act1_search.specs.Closure.{IsInConflict, HasFactAbout, Follows}
use Rattle.act1_channel.specs.Found.{Found, truth_in, IsFor}
use Rattle.act1_search.specs.Watching.{IsWatched}
use Rattle.act1_search.specs.Watching.IsWatched.{is_new, is_assumed, is_learned}
use Rattle.act1_channel.specs.Assignment.{IsAllowed}
use Rattle.act1_search.specs.Propagation.{Grows, IsContradicted, IsSettled, IsPending}
use Rattle.act1_search.specs.Propagation.Grows.{same, more}
use Rattle.act1_search.specs.Watch.{IsLevel, IsBase, AreMarks, IsWatch, HasRoom}
use Rattle.act1_channel.specs.Clauses.{Fact}
use Rattle.std.proofs.lemmas.Option.{none-some}
use Rattle.act1_search.proofs.Truths.{truth_found, found_truth}
use Rattle.act1_search.proofs.Watched.{tells}
use Rattle.act1_search.proofs.Settling.{sound, contradiction, complete, calm}
use Rattle.act1_search.proofs.Closures.{get_back}
use Rattle.act1_search.proofs.Visits.{front_of, whole_of}
use Rattle.act1_search.proofs.Levels.{level_grown, assumed_level, learned_level, lower_level, free_choice, pending_more}

module _ (p : Problem) where
  longer : (xs ys : List Entry) → Grows p xs ys → length xs ≤ length ys
  longer xs ys same = omega arith
  longer xs it (more found e g forced) = let r = longer xs found g in omega (arith, length-append found (e ∷ []))

  front_grown : (xs ys : List Entry) (m : ℕ) → Grows p xs ys → m ≤ length xs → take m ys ≡ take m xs
  front_grown xs ys m same low = refl
  front_grown xs it m (more found e g forced) low = let r = longer xs found g in front_of found e m (omega arith) ∙ front_grown xs found m g low

  -- there are no more marks than facts
  at_least : (steps : List (List Choice)) (chosen : List Choice) (found : List Entry) (marks : List ℕ) (i m : ℕ) → AreMarks p steps chosen found marks → slice_get marks i ≡ Some m → i ≤ m
  at_least steps chosen found marks zero m are at = omega arith
  at_least steps chosen found marks (suc i) m are at =
      let low = get_within marks (suc i) m at in
      let before = get_in marks i (omega arith) in
      let r = at_least steps chosen found marks i before.0 are before.1 in
      let up = are.rise i (suc i) before.0 m (omega arith) before.1 at in
      omega arith

  pub few_marks : (steps : List (List Choice)) (chosen : List Choice) (found : List Entry) (marks : List ℕ) → AreMarks p steps chosen found marks → length marks ≤ length found
  few_marks steps chosen found marks are = from (cases_lt 0 (length marks))
    where
      from : (0 < length marks) ⊎ (length marks ≤ 0) → length marks ≤ length found
      from (inr none) = omega arith
      from (inl some) =
          let last = get_in marks (length marks - 1) (omega arith) in
          let r = at_least steps chosen found marks (length marks - 1) last.0 are last.1 in
          let low = are.within (length marks - 1) last.0 last.1 in
          omega arith

  marks_assumed : (steps : List (List Choice)) (chosen : List Choice) (xs ys : List Entry) (marks : List ℕ) (c : Choice) (e : Entry) → AreMarks p steps chosen xs marks → Grows p (xs ++ e ∷ []) ys
      → IsLevel p steps chosen xs → IsSettled p xs → truth_in xs c ≡ None → AreMarks p steps (chosen ++ c ∷ []) ys (marks ++ length xs ∷ [])
  marks_assumed steps chosen xs ys marks c e are g level settled free = record {
    each = length-append marks (length xs ∷ []) ∙ ap (λ (n : ℕ). n + 1) are.each ∙ sym (length-append chosen (c ∷ []));
    within = λ i m at. within i m (get_cases marks (length xs) m i at);
    rise = λ i j m n low x y. rise i j m n low x (get_cases marks (length xs) n j y);
    bases = λ i m d x y. base i m d (get_cases marks (length xs) m i x) y;
  }
    where
      long : suc (length xs) ≤ length ys
      long = let r = longer (xs ++ e ∷ []) ys g in omega (arith, length-append xs (e ∷ []))

      within : (i m : ℕ) → (slice_get marks i ≡ Some m) ⊎ ((i ≡ length marks) × (length xs ≡ m)) → m < length ys
      within i m (inl old) = let h = are.within i m old in omega (arith, long)
      within i m (inr new) = let h = new.1 in omega (arith, long)

      rise : (i j m n : ℕ) → i < j → slice_get (marks ++ length xs ∷ []) i ≡ Some m → (slice_get marks j ≡ Some n) ⊎ ((j ≡ length marks) × (length xs ≡ n)) → m < n
      rise i j m n low x (inl old) = let inside = get_within marks j n old in are.rise i j m n low (get_back marks (length xs ∷ []) i m (omega arith) x) old
      rise i j m n low x (inr new) = let k = new.0 in let h = new.1 in let r = are.within i m (get_back marks (length xs ∷ []) i m (omega arith) x) in omega arith

      -- what is below the new choice's facts is what it was
      kept : (m : ℕ) → m ≤ length xs → take m ys ≡ take m xs
      kept m low = front_grown (xs ++ e ∷ []) ys m g (omega (arith, length-append xs (e ∷ []))) ∙ front_of xs e m low

      base : (i m : ℕ) (d : Choice) → (slice_get marks i ≡ Some m) ⊎ ((i ≡ length marks) × (length xs ≡ m)) → slice_get (chosen ++ c ∷ []) i ≡ Some d → IsBase p steps (take i (chosen ++ c ∷ [])) (take m ys) d
      base i m d (inl old) y =
          let low = get_within marks i m old in
          let l = are.each in
          let b = are.bases i m d old (get_back chosen (c ∷ []) i d (omega arith) y) in
          subst (λ (cs : List Choice). IsBase p steps cs (take m ys) d) (sym (front_of chosen c i (omega arith)))
          (subst (λ (zs : List Entry). IsBase p steps (take i chosen) zs d) (sym (kept m (let h = are.within i m old in omega arith))) b)
      base i m d (inr new) y =
          let k : i ≡ length chosen = new.0 ∙ are.each in
          let same_choice = some_is c d (sym (get_last chosen c i k) ∙ y) in
          let own : IsBase p steps chosen xs c = record { level = level; settled = settled; free = free } in
          let whole : take m ys ≡ xs = (let h = new.1 in kept m (omega arith) ∙ take_whole xs m (omega arith)) in
          subst (λ (cs : List Choice). IsBase p steps cs (take m ys) d) (sym (whole_of chosen c i k))
          (subst (λ (zs : List Entry). IsBase p steps chosen zs d) (sym whole) (subst (λ (x : Choice). IsBase p steps chosen xs x) same_choice own))

  pub watch_assumed : (steps : List (List Choice)) (chosen : List Choice) (old new : Found) (marks : List ℕ) (broken : Option Hint) (c : Choice) → IsWatch p steps chosen old marks None
      → (IsInConflict p steps chosen → ⊥) → (HasFactAbout p steps chosen c → ⊥) → IsAllowed p c
      → IsFor p new → Grows p (old.entries ++ record { choice = c; truth = true; why = None } ∷ []) new.entries → MatchOption broken (IsSettled p new.entries) (IsContradicted p new.entries)
      → IsWatch p steps (chosen ++ c ∷ []) new (marks ++ length old.entries ∷ []) broken
  watch_assumed steps chosen old new marks broken c w calm none fits size g answer = record {
    size = size;
    watched = is_assumed c w.watched calm fits none;
    level = level_grown p steps (chosen ++ c ∷ []) (old.entries ++ record { choice = c; truth = true; why = None } ∷ []) new.entries g (assumed_level p steps chosen old.entries c w.watched none fits w.level);
    levels = marks_assumed steps chosen old.entries new.entries marks c (record { choice = c; truth = true; why = None }) w.levels g w.level w.answer (free_choice p steps chosen old.entries c w.level.trail none);
    answer = answer;
  }

  -- the choice that is taken back, its mark, and those before it
  pub watch_learned : (steps : List (List Choice)) (chosen : List Choice) (old new : Found) (marks : List ℕ) (before broken : Option Hint) (k m : ℕ) (c : Choice) → IsWatch p steps chosen old marks before
      → IsInConflict p steps chosen → length chosen ≡ suc k → slice_get marks k ≡ Some m → slice_get chosen k ≡ Some c
      → IsFor p new → Grows p (take m old.entries ++ record { choice = c; truth = false; why = Some (hint.Step (length steps)) } ∷ []) new.entries → MatchOption broken (IsSettled p new.entries) (IsContradicted p new.entries)
      → IsWatch p (steps ++ chosen ∷ []) (take k chosen) new (take k marks) broken
  watch_learned steps chosen old new marks before broken k m c w conflict long mark choice size g answer = record {
    size = size;
    watched = subst (λ (cs : List Choice). IsWatched p (steps ++ cs ∷ []) front) (sym parts) (is_learned c (subst (λ (cs : List Choice). IsWatched p steps cs) parts w.watched) (subst (λ (cs : List Choice). IsInConflict p steps cs) parts conflict));
    level = subst (λ (cs : List Choice). IsLevel p (steps ++ cs ∷ []) front new.entries) (sym parts) (level_grown p (steps ++ (front ++ c ∷ []) ∷ []) front (xs ++ e ∷ []) new.entries g (learned_level p steps front xs c fits base.level base.free));
    levels = subst (λ (cs : List Choice). AreMarks p (steps ++ cs ∷ []) front new.entries (take k marks)) (sym parts) marks_left;
    answer = answer;
  }
    where
      front : List Choice
      front = take k chosen

      xs : List Entry
      xs = take m old.entries

      e : Entry
      e = record { choice = c; truth = false; why = Some (hint.Step (length steps)) }

      parts : chosen ≡ front ++ c ∷ []
      parts = sym (take_whole chosen (suc k) (omega (arith, long))) ∙ Rattle.act1_search.proofs.Fronts.take_next chosen k c choice

      base : IsBase p steps front xs c
      base = w.levels.bases k m c mark choice

      fits : IsAllowed p c
      fits =
          let a = w.level.trail.assumed c (Rattle.act1_base.proofs.ListGets.contains_at chosen k c choice) in
          subst (λ (x : Choice). IsAllowed p x) a.3 (w.level.inside a.0 a.1 a.2)

      room : m < length old.entries
      room = w.levels.within k m mark

      size_xs : length xs ≡ m
      size_xs = length_taken old.entries m (let h = room in omega arith)

      len : suc m ≤ length new.entries
      len = let r = longer (xs ++ e ∷ []) new.entries g in omega (arith, length-append xs (e ∷ []), size_xs)

      size_front : length front ≡ k
      size_front = length_taken chosen k (omega (arith, long))

      marks_left : AreMarks p (steps ++ (front ++ c ∷ []) ∷ []) front new.entries (take k marks)
      marks_left = record {
        each = length_taken marks k (omega (arith, w.levels.each, long)) ∙ sym size_front;
        within = λ i n at. let there = get_taken marks k i n at in let low = there.0 in let up = w.levels.rise i k n m low there.1 mark in omega (arith, len);
        rise = λ i j a b low x y. w.levels.rise i j a b low (get_taken marks k i a x).1 (get_taken marks k j b y).1;
        bases = λ i n d x y. left i n d (get_taken marks k i n x) (get_taken chosen k i d y);
      }
        where
          left : (i n : ℕ) (d : Choice) → (i < k) × (slice_get marks i ≡ Some n) → (i < k) × (slice_get chosen i ≡ Some d) → IsBase p (steps ++ (front ++ c ∷ []) ∷ []) (take i front) (take n new.entries) d
          left i n d x y =
              let low = x.0 in
              let up = w.levels.rise i k n m low x.1 mark in
              let b = w.levels.bases i n d x.1 y.1 in
              let same_front : take i chosen ≡ take i front = sym (take_taken chosen i k (omega arith)) in
              let same_found : take n old.entries ≡ take n new.entries = sym (front_grown (xs ++ e ∷ []) new.entries n g (omega (arith, length-append xs (e ∷ []), size_xs)) ∙ front_of xs e n (omega (arith, size_xs)) ∙ take_taken old.entries n m (omega arith)) in
              let b' = subst (λ (cs : List Choice). IsBase p steps cs (take n old.entries) d) same_front b in
              let b'' = subst (λ (zs : List Entry). IsBase p steps (take i front) zs d) same_found b' in
              record { level = lower_level p steps front c i (take n new.entries) (omega (arith, size_front, low)) b''.level; settled = b''.settled; free = b''.free }

  pub watch_new : (new : Found) (broken : Option Hint) → IsFor p new → Grows p [] new.entries → MatchOption broken (IsSettled p new.entries) (IsContradicted p new.entries) → IsWatch p [] [] new [] broken
  watch_new new broken size g answer = record {
    size = size;
    watched = is_new;
    level = level_grown p [] [] [] new.entries g (record {
      trail = record { grounded = λ n e at. cc; distinct = λ m n d e low x y. cc; assumed = λ c among. absurd (let h = among.1 in omega arith) };
      inside = λ n e at. cc;
      given = λ f own. absurd (nothing f own);
    });
    levels = record { each = refl; within = λ i m at. cc; rise = λ i j m n low x y. cc; bases = λ i m c x y. cc };
    answer = answer;
  }
    where
      nothing : (f : Rattle.act1_channel.specs.Clauses.Fact) → Rattle.act1_search.specs.Watching.Stands [] [] f → ⊥
      nothing f (inl own) = let h = own.1.1 in omega arith
      nothing f (inr own) = let h = own.1.2.1 in omega arith

  -- what may be put and propagated after the choice was taken back
  pub pending_learned : (steps : List (List Choice)) (chosen : List Choice) (old : Found) (marks : List ℕ) (before : Option Hint) (k m : ℕ) (c : Choice) (why : Option Hint) → IsWatch p steps chosen old marks before
      → slice_get marks k ≡ Some m → slice_get chosen k ≡ Some c → (truth_in (take m old.entries) c ≡ None) × IsAllowed p c × IsPending p (take m old.entries ++ record { choice = c; truth = false; why = why } ∷ []) m
  pending_learned steps chosen old marks before k m c why w mark choice =
      (base.free, fits, subst (λ (n : ℕ). IsPending p (take m old.entries ++ e ∷ []) n) size_xs (pending_more p (take m old.entries) e base.free fits base.settled))
    where
      e : Entry
      e = record { choice = c; truth = false; why = why }

      base : IsBase p steps (take k chosen) (take m old.entries) c
      base = w.levels.bases k m c mark choice

      fits : IsAllowed p c
      fits =
          let a = w.level.trail.assumed c (Rattle.act1_base.proofs.ListGets.contains_at chosen k c choice) in
          subst (λ (x : Choice). IsAllowed p x) a.3 (w.level.inside a.0 a.1 a.2)

      size_xs : length (take m old.entries) ≡ m
      size_xs = length_taken old.entries m (let h = w.levels.within k m mark in omega arith)

  -- a watch without a broken clause is calm
  pub watch_calm : (steps : List (List Choice)) (chosen : List Choice) (found : Found) (marks : List ℕ) → IsWatch p steps chosen found marks None → IsInConflict p steps chosen → ⊥
  watch_calm steps chosen found marks w conflict =
      (tells p steps chosen w.watched).calm (calm p steps chosen found.entries w.level.trail.distinct w.level.inside w.answer w.level.given) conflict

  pub conflict_is : (steps : List (List Choice)) (chosen : List Choice) (found : Found) (marks : List ℕ) (broken : Option Hint) → IsWatch p steps chosen found marks broken
      → (is_some broken ≡ true → IsInConflict p steps chosen) × (IsInConflict p steps chosen → is_some broken ≡ true)
  conflict_is steps chosen found marks None w = ((λ e. absurd (true≢false (sym e))), (λ h. absurd (watch_calm steps chosen found marks w h)))
  conflict_is steps chosen found marks (Some clause) w = ((λ e. contradiction p steps chosen found.entries w.level.trail clause w.answer), (λ h. refl))

  pub calm_watch : (steps : List (List Choice)) (chosen : List Choice) (found : Found) (marks : List ℕ) (broken : Option Hint) → IsWatch p steps chosen found marks broken → (IsInConflict p steps chosen → ⊥) → IsWatch p steps chosen found marks None
  calm_watch steps chosen found marks None w still = w
  calm_watch steps chosen found marks (Some clause) w still = absurd (still (contradiction p steps chosen found.entries w.level.trail clause w.answer))

  fact_by : (steps : List (List Choice)) (chosen : List Choice) (found : Found) (marks : List ℕ) (c : Choice) (o : Option Bool) → IsWatch p steps chosen found marks None → truth_in found.entries c ≡ o
      → MatchOption o (HasFactAbout p steps chosen c → ⊥) (λ truth. Follows p steps chosen (record { choice = c; truth = truth }))
  fact_by steps chosen found marks c None w is = λ has.
      let t = tells p steps chosen w.watched in
      let still = calm p steps chosen found.entries w.level.trail.distinct w.level.inside w.answer w.level.given in
      let own = complete p steps chosen found.entries w.level.trail.distinct w.level.inside w.answer w.level.given (record { choice = c; truth = has.0 }) (t.found still (record { choice = c; truth = has.0 }) has.1) in
      let here = found_truth found.entries w.level.trail.distinct own.0 own.1 own.2 in
      none-some own.1.truth (sym is ∙ ap (λ (x : Choice). truth_in found.entries x) (sym (ap (λ (x : Fact). x.choice) own.3)) ∙ here)
  fact_by steps chosen found marks c (Some b) w is = sound p steps chosen found.entries w.level.trail (record { choice = c; truth = b }) (truth_found found.entries c b is)

  pub fact_is : (steps : List (List Choice)) (chosen : List Choice) (found : Found) (marks : List ℕ) (broken : Option Hint) (c : Choice) → IsWatch p steps chosen found marks broken → (IsInConflict p steps chosen → ⊥)
      → MatchOption (truth_in found.entries c) (HasFactAbout p steps chosen c → ⊥) (λ truth. Follows p steps chosen (record { choice = c; truth = truth }))
  fact_is steps chosen found marks broken c w still = fact_by steps chosen found marks c (truth_in found.entries c) (calm_watch steps chosen found marks broken w still) refl

  -- there is room for one choice more
  pub room_left : (steps : List (List Choice)) (chosen : List Choice) (found : Found) (marks : List ℕ) (broken : Option Hint) (many depth : ℕ) → IsWatch p steps chosen found (take depth marks) broken → HasRoom found.places many (length marks) depth
      → length found.entries < found.places → depth < found.places
  room_left steps chosen found marks broken many depth w room low =
      let few = few_marks steps chosen found.entries (take depth marks) w.levels in
      let long = length_taken marks depth (omega (arith, room.depth_room, room.marks_room)) in
      omega arith

  pub assume_keeps : (steps : List (List Choice)) (chosen : List Choice) (old new : Found) (marks : List ℕ) (before broken : Option Hint) (depth from : ℕ) (c : Choice)
      → IsWatch p steps (take depth chosen) old (take depth marks) before → HasRoom old.places (length chosen) (length marks) depth → (IsInConflict p steps (take depth chosen) → ⊥) → IsAllowed p c → (HasFactAbout p steps (take depth chosen) c → ⊥)
      → from ≡ length old.entries → length old.entries < old.places → IsFor p new → Grows p (old.entries ++ record { choice = c; truth = true; why = None } ∷ []) new.entries → MatchOption broken (IsSettled p new.entries) (IsContradicted p new.entries)
      → IsWatch p steps (take (depth + 1) (slice_set chosen depth c)) new (take (depth + 1) (slice_set marks depth from)) broken × HasRoom new.places (length (slice_set chosen depth c)) (length (slice_set marks depth from)) (depth + 1)
  assume_keeps steps chosen old new marks before broken depth from c w room still fits none start low size g answer = (
    subst (λ (cs : List Choice). IsWatch p steps cs new (take (depth + 1) (slice_set marks depth from)) broken) (sym one)
        (subst (λ (ms : List ℕ). IsWatch p steps (take depth chosen ++ c ∷ []) new ms broken) (sym two) own),
    record { chosen_room = omega (arith, length-set chosen depth c, room.chosen_room, w.size.1, size.1); marks_room = omega (arith, length-set marks depth from, room.marks_room, w.size.1, size.1); depth_room = omega (arith, left, w.size.1, size.1) },
  )
    where
      left : depth < old.places
      left = room_left steps (take depth chosen) old marks before (length chosen) depth w room low

      one : take (depth + 1) (slice_set chosen depth c) ≡ take depth chosen ++ c ∷ []
      one = take_more_set chosen depth c (omega (arith, left, room.chosen_room))

      two : take (depth + 1) (slice_set marks depth from) ≡ take depth marks ++ length old.entries ∷ []
      two = take_more_set marks depth from (omega (arith, left, room.marks_room)) ∙ ap (λ (k : ℕ). take depth marks ++ k ∷ []) start

      own : IsWatch p steps (take depth chosen ++ c ∷ []) new (take depth marks ++ length old.entries ∷ []) broken
      own = watch_assumed steps (take depth chosen) old new (take depth marks) broken c (calm_watch steps (take depth chosen) old (take depth marks) before w still) still none fits size g answer

  pub new_keeps : (steps : List (List Choice)) (xs : List Entry) (new : Found) (broken : Option Hint) (one two n t : ℕ) → steps ≡ [] → xs ≡ [] → IsFor p new → Grows p xs new.entries → MatchOption broken (IsSettled p new.entries) (IsContradicted p new.entries)
      → n ≡ length p.connections → t ≡ length p.tracks → one ≡ n * t → two ≡ n * t → IsWatch p steps [] new [] broken × HasRoom new.places one two 0
  new_keeps steps xs new broken one two n t none empty size g answer are_n are_t first second = (
    subst (λ (s : List (List Choice)). IsWatch p s [] new [] broken) (sym none) (watch_new new broken size (subst (λ (zs : List Entry). Grows p zs new.entries) empty g) answer),
    record { chosen_room = first ∙ all; marks_room = second ∙ all; depth_room = omega arith },
  )
    where
      all : n * t ≡ new.places
      all = ap (λ (k : ℕ). k * t) are_n ∙ ap (λ (k : ℕ). length p.connections * k) are_t ∙ sym size.1

  -- what the taking back of the last choice asks
  pub learn_ready : (steps : List (List Choice)) (chosen : List Choice) (old : Found) (marks : List ℕ) (before : Option Hint) (depth last m : ℕ) (c : Choice) (why : Option Hint)
      → IsWatch p steps (take depth chosen) old (take depth marks) before → depth ≡ suc last → slice_get marks last ≡ Some m → slice_get chosen last ≡ Some c
      → (m ≤ length old.entries) × (truth_in (take m old.entries) c ≡ None) × IsAllowed p c × IsPending p (take m old.entries ++ record { choice = c; truth = false; why = why } ∷ []) m
  learn_ready steps chosen old marks before depth last m c why w is mark choice =
      let mark' = get_take marks depth last m (omega arith) mark in
      let choice' = get_take chosen depth last c (omega arith) choice in
      let r = pending_learned steps (take depth chosen) old (take depth marks) before last m c why w mark' choice' in
      let low = w.levels.within last m mark' in
      (omega arith, r.0, r.1, r.2)

  pub learn_keeps : (steps after : List (List Choice)) (chosen : List Choice) (old new : Found) (marks : List ℕ) (before broken : Option Hint) (depth last m number : ℕ) (c : Choice)
      → IsWatch p steps (take depth chosen) old (take depth marks) before → HasRoom old.places (length chosen) (length marks) depth → IsInConflict p steps (take depth chosen) → depth ≡ suc last → slice_get marks last ≡ Some m → slice_get chosen last ≡ Some c
      → after ≡ steps ++ take depth chosen ∷ [] → number ≡ length steps → IsFor p new → Grows p (take m old.entries ++ record { choice = c; truth = false; why = Some (hint.Step number) } ∷ []) new.entries → MatchOption broken (IsSettled p new.entries) (IsContradicted p new.entries)
      → IsWatch p after (take last chosen) new (take last marks) broken × HasRoom new.places (length chosen) (length marks) last
  learn_keeps steps after chosen old new marks before broken depth last m number c w room conflict is mark choice grown at size g answer = (
    subst (λ (s : List (List Choice)). IsWatch p s (take last chosen) new (take last marks) broken) (sym grown)
        (subst (λ (cs : List Choice). IsWatch p (steps ++ take depth chosen ∷ []) cs new (take last marks) broken) (take_taken chosen last depth (omega arith))
        (subst (λ (ms : List ℕ). IsWatch p (steps ++ take depth chosen ∷ []) (take last (take depth chosen)) new ms broken) (take_taken marks last depth (omega arith)) own)),
    record { chosen_room = omega (arith, room.chosen_room, w.size.1, size.1); marks_room = omega (arith, room.marks_room, w.size.1, size.1); depth_room = omega (arith, room.depth_room, w.size.1, size.1) },
  )
    where
      long : length (take depth chosen) ≡ suc last
      long = length_taken chosen depth (omega (arith, room.depth_room, room.chosen_room)) ∙ is

      g' : Grows p (take m old.entries ++ record { choice = c; truth = false; why = Some (hint.Step (length steps)) } ∷ []) new.entries
      g' = subst (λ (k : ℕ). Grows p (take m old.entries ++ record { choice = c; truth = false; why = Some (hint.Step k) } ∷ []) new.entries) at g

      own : IsWatch p (steps ++ take depth chosen ∷ []) (take last (take depth chosen)) new (take last (take depth marks)) broken
      own = watch_learned steps (take depth chosen) old new (take depth marks) before broken last m c w conflict long (get_take marks depth last m (omega arith) mark) (get_take chosen depth last c (omega arith) choice) size g' answer

-- where some choices are used, the last of them has its place
pub last_there : (places : ℕ) (chosen : List Choice) (marks : List ℕ) (depth : ℕ) → HasRoom places (length chosen) (length marks) depth → 0 < length (take depth chosen) → (depth ≡ suc (depth - 1)) × (depth - 1 < length chosen) × (depth - 1 < length marks)
last_there places chosen marks depth room some =
    let l = length_taken chosen depth (omega (arith, room.depth_room, room.chosen_room)) in
    (omega arith, omega (arith, room.depth_room, room.chosen_room), omega (arith, room.depth_room, room.marks_room))

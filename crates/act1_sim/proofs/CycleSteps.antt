-- The cycles of a simulation, one after the other.
use Rattle.std.proofs.Common.{ℕ, suc, ◌≡◌, ◌+◌, ◌<◌, Bool, List, [], ◌∷◌, ◌++◌, length, get_or, Some, inl, inr, refl, sym, ap, subst, ◌∙◌, arith, append_assoc}
use Rattle.std.proofs.lemmas.Option.{slice_get-get_or}
use Rattle.std.specs.Prelude.{slice_get}
use Rattle.act1_circuit.specs.declared.circuit.Placed.{Placed}
use Rattle.act1_circuit.specs.declared.circuit.Spot.{Spot}
use Rattle.act1_circuit.specs.declared.circuit.Circuit.{Circuit}
use Rattle.act1_circuit.specs.Firing.{shown, low_bits, high_bits}
use Rattle.act1_sim.specs.Cycles.{in_site_order, outputs, Rests, RestsIn, UnrestsIn, IsFirstUnrest}
use Rattle.act1_sim.specs.Vectors.{output_line, output_text}

-- what the cycles to come show, added to the text so far, is what all cycles show; they rest where those to come do; and a module that doesn't rest in one of those to come is the first of all
pub record Goes (c : Circuit) (first : List Bool) (xs : List (List Bool)) (cycle : ℕ) (bits : List Bool) (rest : List (List Bool)) (text : List ℕ) : Type 0 where
  pub rests : Rests c bits rest → Rests c first xs
  pub text_is : text ++ output_text (outputs c bits rest) ≡ output_text (outputs c first xs)
  pub unrest : (k m : ℕ) → IsFirstUnrest c bits rest k m → IsFirstUnrest c first xs (cycle + k) m

-- one cycle more
pub next_cycle : (c : Circuit) (first : List Bool) (xs : List (List Bool)) (cycle : ℕ) (bits new : List Bool) (x : List Bool) (rest : List (List Bool)) (text added : List ℕ)
    → Goes c first xs cycle bits (x ∷ rest) text → RestsIn c bits x → new ≡ high_bits c bits x (in_site_order c)
    → added ≡ text ++ output_line (shown c x (low_bits c bits x (in_site_order c))) → Goes c first xs (cycle + 1) new rest added
next_cycle c first xs cycle bits new x rest text added old rests new_is added_is =
    let high = high_bits c bits x (in_site_order c) in
    let line = output_line (shown c x (low_bits c bits x (in_site_order c))) in
    record {
      rests = λ more. old.rests (rests.0, rests.1, subst (λ (b : List Bool). Rests c b rest) new_is more);
      text_is = ap (λ (b : List Bool). added ++ output_text (outputs c b rest)) new_is ∙ ap (λ (t : List ℕ). t ++ output_text (outputs c high rest)) added_is
          ∙ append_assoc text line (output_text (outputs c high rest)) ∙ old.text_is;
      unrest = λ k m later.
          let e : cycle + suc k ≡ cycle + 1 + k = omega arith in
          subst (λ (n : ℕ). IsFirstUnrest c first xs n m) e (old.unrest (suc k) m (rests, subst (λ (b : List Bool). IsFirstUnrest c b rest k m) new_is later));
    }

-- a module that doesn't rest in this cycle
pub stops_here : (c : Circuit) (first : List Bool) (xs : List (List Bool)) (cycle : ℕ) (bits x : List Bool) (rest : List (List Bool)) (text : List ℕ) (m : ℕ)
    → Goes c first xs cycle bits (x ∷ rest) text → UnrestsIn c bits x m → IsFirstUnrest c first xs cycle m
stops_here c first xs cycle bits x rest text m old unrests =
    let e : cycle + 0 ≡ cycle = omega arith in
    subst (λ (n : ℕ). IsFirstUnrest c first xs n m) e (old.unrest 0 m unrests)

-- before the first cycle
pub begins_all : (c : Circuit) (first : List Bool) (xs rest : List (List Bool)) (text : List ℕ) → rest ≡ xs → text ≡ [] → Goes c first xs 0 first rest text
begins_all c first xs rest text same none =
    rw (same, none)
    (record {
      rests = λ h. h;
      text_is = refl;
      unrest = λ k m h. let e : k ≡ 0 + k = omega arith in subst (λ (n : ℕ). IsFirstUnrest c first xs n m) e h;
    })

-- the spot of a module that doesn't rest
pub stops_at : (p : Placed) (first : List Bool) (xs : List (List Bool)) (cycle : ℕ) (bits x : List Bool) (rest to_come : List (List Bool)) (text : List ℕ) (m : ℕ) (spot : Spot) → length p.spots ≡ length p.circuit.modules
    → to_come ≡ x ∷ rest → Goes p.circuit first xs cycle bits to_come text → UnrestsIn p.circuit bits x m → (m < length p.spots → slice_get p.spots m ≡ Some spot)
    → (n : ℕ) × IsFirstUnrest p.circuit first xs cycle n × (slice_get p.spots n ≡ Some spot)
stops_at p first xs cycle bits x rest to_come text m spot long e old unrests at =
    (m, stops_here p.circuit first xs cycle bits x rest text m (subst (λ (ys : List (List Bool)). Goes p.circuit first xs cycle bits ys text) e old) unrests, at (within unrests))
  where
    within : UnrestsIn p.circuit bits x m → m < length p.spots
    within (inl h) = let low = h.within in omega arith
    within (inr h) = let low = h.1.within in omega arith

-- one cycle more, of the cycles to come
pub goes_on : (c : Circuit) (first : List Bool) (xs : List (List Bool)) (cycle : ℕ) (bits new : List Bool) (x : List Bool) (rest to_come : List (List Bool)) (text added : List ℕ)
    → to_come ≡ x ∷ rest → Goes c first xs cycle bits to_come text → RestsIn c bits x → new ≡ high_bits c bits x (in_site_order c)
    → added ≡ text ++ output_line (shown c x (low_bits c bits x (in_site_order c))) → Goes c first xs (cycle + 1) new rest added
goes_on c first xs cycle bits new x rest to_come text added e old rests new_is added_is =
    next_cycle c first xs cycle bits new x rest text added (subst (λ (ys : List (List Bool)). Goes c first xs cycle bits ys text) e old) rests new_is added_is

-- the spot that is read
pub spot_at : (spots read : List Spot) (m n : ℕ) (d : Spot) → read ≡ spots → n ≡ m → m < length spots → slice_get spots m ≡ Some (get_or read n d)
spot_at spots read m n d is same low = slice_get-get_or spots m d low ∙ ap (λ (k : ℕ). Some (get_or spots k d)) (sym same) ∙ ap (λ (xs : List Spot). Some (get_or xs n d)) (sym is)

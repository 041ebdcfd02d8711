-- A walk that has ended lists all forks of its diagram, and each once: so it says how many there are.
use Rattle.std.proofs.Common.{ℕ, suc, zero, ◌≡◌, ◌≢◌, ◌<◌, ◌≤◌, List, [], ◌∷◌, length, map, get_or, refl, sym, ap, ◌∙◌, arith, subst}
use Rattle.std.proofs.lemmas.List.{length-map}
use Rattle.std.specs.Prelude.{slice_get, Some, Contains, All, AllPairs}
use Rattle.act1_dd.specs.declared.refs.Ref.{Ref}
use Rattle.act1_dd.specs.declared.refs.Ref.TheVariants.{Node}
use Rattle.act1_dd.specs.declared.refs.Branch.{Branch}
use Rattle.act1_dd.specs.Inputs.{Function}
use Rattle.act1_dd.specs.Forks.{IsSame, IsForkOf, HasMoreForks}
use Rattle.act1_dd.specs.Diagram.{value_at, IsRef, IsReduced}
use Rattle.act1_base.proofs.ListGets.{one_at, get_within, place_of}
use Rattle.act1_dd.proofs.Canonical.{fork_depends, same_refs}
use Rattle.act1_base.proofs.Pigeonhole.{NotIn, Distinct, Below, pigeonhole}
use Rattle.act1_dd.proofs.Descents.{fork_among}
use Rattle.act1_dd.specs.Steps.{IsListed}
use Rattle.act1_dd.proofs.Walks.{IsReached, IsWalk}

node_is : (j k : ℕ) → Node j ≡ Node k → j ≡ k
node_is j k e = cc

get_mapped : {X Y : Type 0} (f : X → Y) (xs : List X) (i : ℕ) (d : Y) → i < length xs → (x : X) × (slice_get xs i ≡ Some x) × (get_or (map f xs) i d ≡ f x)
get_mapped f [] i d low = absurd (omega arith)
get_mapped f (x ∷ xs) zero d low = (x, refl, refl)
get_mapped f (x ∷ xs) (suc i) d low = get_mapped f xs i d (omega arith)

module _ (forks : List Branch) (h : IsReduced forks) (f : Ref) (found : List ℕ) where
  abbrev functions : List Function
  functions = map (λ k. value_at forks (Node k)) found

  -- each listed fork is one of the diagram's
  is_fork : (k : ℕ) → IsReached forks f k → IsForkOf (value_at forks f) (value_at forks (Node k))
  is_fork k w = record { var = w.branch.var; fixed = w.fixed; comes = w.comes; depends = fork_depends forks h k w.branch w.place }

  -- a walk with more listed forks than the limit
  pub walk_is_more : (next limit : ℕ) → IsWalk forks f found next → limit < length found → HasMoreForks (value_at forks f) limit
  walk_is_more next limit w more = record {
    forks = functions;
    more = let as_long = length-map found (λ (k : ℕ). value_at forks (Node k)) in omega arith;
    each = λ i d low. each i d (get_mapped (λ (k : ℕ). value_at forks (Node k)) found i d (within i low));
    different = λ i j d less low. different i j d less (get_mapped (λ (k : ℕ). value_at forks (Node k)) found i d (let l = within j low in omega arith)) (get_mapped (λ (k : ℕ). value_at forks (Node k)) found j d (within j low));
  }
    where
      within : (i : ℕ) → i < length functions → i < length found
      within i low = let as_long = length-map found (λ (k : ℕ). value_at forks (Node k)) in omega arith

      each : (i : ℕ) (d : Function) → (k : ℕ) × (slice_get found i ≡ Some k) × (get_or functions i d ≡ value_at forks (Node k)) → IsForkOf (value_at forks f) (get_or functions i d)
      each i d (k, at, is) = subst (λ (g : Function). IsForkOf (value_at forks f) g) (sym is) (is_fork k (w.reached i k at))

      different : (i j : ℕ) (d : Function) → i < j → (k : ℕ) × (slice_get found i ≡ Some k) × (get_or functions i d ≡ value_at forks (Node k)) → (l : ℕ) × (slice_get found j ≡ Some l) × (get_or functions j d ≡ value_at forks (Node l))
          → IsSame (get_or functions i d) (get_or functions j d) → ⊥
      different i j d less (k, at, is) (l, there, is') same =
          let ref = get_within forks k (w.reached i k at).branch (w.reached i k at).place in
          let ref' = get_within forks l (w.reached j l there).branch (w.reached j l there).place in
          let equal : Node k ≡ Node l = same_refs forks h (Node k) (Node l) ref ref' (λ x. sym (ap (λ (g : Function). g x) is) ∙ same x ∙ ap (λ (g : Function). g x) is') in
          let place : i ≡ j = w.once i j k at (subst (λ (m : ℕ). slice_get found j ≡ Some m) (sym (node_is k l equal)) there) in
          omega arith

  abbrev IsClosed : Type 0
  IsClosed = (k : ℕ) (b : Branch) → Contains found k → slice_get forks k ≡ Some b → IsListed found b.low × IsListed found b.high

  -- each fork of the function has a place in the list
  abbrev HasPlace : Function → Type 0
  HasPlace g = (i : ℕ) × (k : ℕ) × (slice_get found i ≡ Some k) × IsSame g (value_at forks (Node k))

  module _ (closed : IsClosed) (ref : IsRef forks f) (begun : IsListed found f) where
    place : (g : Function) → IsForkOf (value_at forks f) g → HasPlace g
    place g is =
        let own = fork_among forks h (IsListed found) closed f ref begun g is in
        let p = place_of found own.0 own.1 in
        (p.0, own.0, p.1, own.2)

    abbrev AreForks : List Function → Type 0
    AreForks [] = Unit {0}
    AreForks (g ∷ gs) = IsForkOf (value_at forks f) g × AreForks gs

    are_forks : (gs : List Function) → All (IsForkOf (value_at forks f)) gs → AreForks gs
    are_forks [] each = tt
    are_forks (g ∷ gs) each = (each 0 g (omega arith), are_forks gs (λ i d low. each (suc i) d (omega arith)))

    places : (gs : List Function) → AreForks gs → List ℕ
    places [] each = []
    places (g ∷ gs) each = (place g each.0).0 ∷ places gs each.1

    length-places : (gs : List Function) (each : AreForks gs) → length (places gs each) ≡ length gs
    unfolding places
    length-places [] each = refl
    length-places (g ∷ gs) each = ap suc (length-places gs each.1)

    below : (gs : List Function) (each : AreForks gs) → Below (length found) (places gs each)
    unfolding places
    below [] each = tt
    below (g ∷ gs) each = let p = place g each.0 in (get_within found p.0 p.1 p.2, below gs each.1)

    not_in : (g : Function) (p : HasPlace g) (gs : List Function) (each : AreForks gs) → ((i : ℕ) (d : Function) → i < length gs → IsSame g (get_or gs i d) → ⊥) → NotIn p.0 (places gs each)
    unfolding places
    not_in g p [] each different = tt
    not_in g p (o ∷ gs) each different =
        let q = place o each.0 in
        let apart : p.0 ≢ q.0 = λ e.
        let same : p.1 ≡ q.1 = one_at found q.0 p.1 q.1 (subst (λ (i : ℕ). slice_get found i ≡ Some p.1) e p.2) q.2 in
        different 0 o (omega arith) (λ x. p.3 x ∙ ap (λ (k : ℕ). value_at forks (Node k) x) same ∙ sym (q.3 x)) in
        (apart, not_in g p gs each.1 (λ i d low. different (suc i) d (omega arith)))

    distinct : (gs : List Function) (each : AreForks gs) → AllPairs (λ (g o : Function). IsSame g o → ⊥) gs → Distinct (places gs each)
    unfolding places
    distinct [] each different = tt
    distinct (g ∷ gs) each different =
        (not_in g (place g each.0) gs each.1 (λ i d low. different 0 (suc i) d (omega arith) (omega arith)), distinct gs each.1 (λ i j d less low. different (suc i) (suc j) d (omega arith) (omega arith)))

    pub at_most : (limit : ℕ) → length found ≤ limit → HasMoreForks (value_at forks f) limit → ⊥
    at_most limit few m =
        let each = are_forks m.forks m.each in
        let most = pigeonhole (length found) (places m.forks each) (distinct m.forks each m.different) (below m.forks each) in
        let as_many = length-places m.forks each in
        let more = m.more in omega arith

  -- a walk that has looked at all listed forks
  pub walk_is_all : (next limit : ℕ) → IsWalk forks f found next → IsRef forks f → length found ≤ next → length found ≤ limit → HasMoreForks (value_at forks f) limit → ⊥
  walk_is_all next limit w ref ended few = at_most closed ref w.shows.begun limit few
    where
      closed : (k : ℕ) (b : Branch) → Contains found k → slice_get forks k ≡ Some b → IsListed found b.low × IsListed found b.high
      closed k b listed at = let p = place_of found k listed in let low = get_within found p.0 k p.1 in w.shows.shown p.0 k b (omega arith) p.1 at

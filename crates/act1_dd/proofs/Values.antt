-- The values of forks: the equation of a fork, and that new forks leave the values of older ones.
use Rattle.std.proofs.Common.{ℕ, suc, zero, ◌≡◌, ◌<◌, ◌≤◌, ◌+◌, ◌⊎◌, Bool, true, false, List, [], ◌∷◌, ◌++◌, length, get_or, refl, sym, ap, ◌∙◌, inl, inr, arith}
use Rattle.std.proofs.lemmas.List.{length_push}
use Rattle.std.specs.Prelude.{if◌then◌else◌, slice_get, Some}
use Rattle.act1_dd.specs.declared.refs.Ref.{Ref}
use Rattle.act1_dd.specs.declared.refs.Ref.TheVariants.{Zero, One, Node}
use Rattle.act1_dd.specs.declared.refs.Branch.{Branch}
use Rattle.act1_dd.specs.Inputs.{Inputs}
use Rattle.act1_dd.specs.Diagram.{value_by, value_of_branch, values_after, value_at, IsRef, size_of}
use Rattle.act1_base.proofs.ListGets.{some_is}

pub same_inputs : (x y : Inputs) → ((k : ℕ) → x k ≡ y k) → x ≡ y
same_inputs x y h = λ i k. h k i

pub two_values : (b : Bool) → (b ≡ true) ⊎ (b ≡ false)
two_values true = inl refl
two_values false = inr refl

module _ (x : Inputs) where
  length_after : (known : List Bool) (bs : List Branch) → length (values_after x known bs) ≡ length known + length bs
  length_after known [] = omega arith
  length_after known (b ∷ bs) =
      let rest = length_after (known ++ value_of_branch x known b ∷ []) bs in
      let one = length_push known (value_of_branch x known b) in omega arith

  after_append : (known : List Bool) (bs cs : List Branch) → values_after x known (bs ++ cs) ≡ values_after x (values_after x known bs) cs
  after_append known [] cs = refl
  after_append known (b ∷ bs) cs = after_append (known ++ value_of_branch x known b ∷ []) bs cs

  pushed : (known : List Bool) (c : Bool) (k : ℕ) → k < length known → get_or (known ++ c ∷ []) k false ≡ get_or known k false
  pushed [] c k low = absurd (omega arith)
  pushed (d ∷ known) c zero low = refl
  pushed (d ∷ known) c (suc k) low = pushed known c k (omega arith)

  last : (known : List Bool) (c : Bool) → get_or (known ++ c ∷ []) (length known) false ≡ c
  last [] c = refl
  last (d ∷ known) c = last known c

  kept : (known : List Bool) (bs : List Branch) (k : ℕ) → k < length known → get_or (values_after x known bs) k false ≡ get_or known k false
  kept known [] k low = refl
  kept known (b ∷ bs) k low =
      let c = value_of_branch x known b in
      let one = length_push known c in
      kept (known ++ c ∷ []) bs k (omega arith) ∙ pushed known c k low

  ref_kept : (known : List Bool) (bs : List Branch) (r : Ref) → size_of r ≤ length known → value_by (values_after x known bs) r ≡ value_by known r
  ref_kept known bs Zero low = refl
  ref_kept known bs One low = refl
  ref_kept known bs (Node k) low = kept known bs k (omega arith)

  branch_kept : (known : List Bool) (bs : List Branch) (b : Branch) → size_of b.low ≤ length known → size_of b.high ≤ length known → value_of_branch x (values_after x known bs) b ≡ value_of_branch x known b
  branch_kept known bs b low high = rw (ref_kept known bs b.low low, ref_kept known bs b.high high) refl

  at_place : (known : List Bool) (bs : List Branch) (k n : ℕ) (b : Branch) → slice_get bs k ≡ Some b → n ≡ length known + k → size_of b.low ≤ n → size_of b.high ≤ n
      → get_or (values_after x known bs) n false ≡ value_of_branch x (values_after x known bs) b
  at_place known [] k n b at is low high = cc
  at_place known (c ∷ bs) zero n b at is low high =
      let v = value_of_branch x known c in
      let one = length_push known v in
      let here : n ≡ length known = omega arith in
      let read : get_or (known ++ v ∷ []) n false ≡ v = rw here (last known v) in
      kept (known ++ v ∷ []) bs n (omega arith) ∙ read ∙ ap (λ (d : Branch). value_of_branch x known d) (some_is c b at)
      ∙ sym (branch_kept known (c ∷ bs) b (omega arith) (omega arith))
  at_place known (c ∷ bs) (suc k) n b at is low high =
      let v = value_of_branch x known c in
      let one = length_push known v in
      at_place (known ++ v ∷ []) bs k n b at (omega arith) low high

  -- the value of a fork is that of the part that its variable chooses
  pub value_node : (forks : List Branch) (k : ℕ) (b : Branch) → slice_get forks k ≡ Some b → size_of b.low ≤ k → size_of b.high ≤ k
      → value_at forks (Node k) x ≡ (if x b.var then value_at forks b.high x else value_at forks b.low x)
  unfolding value_at
  value_node forks k b at low high = at_place [] forks k k b at (omega arith) low high

  pub value_zero : (forks : List Branch) → value_at forks Zero x ≡ false
  unfolding value_at
  value_zero forks = refl

  pub value_one : (forks : List Branch) → value_at forks One x ≡ true
  unfolding value_at
  value_one forks = refl

  -- one more fork leaves the values of older refs
  pub value_more : (forks : List Branch) (b : Branch) (r : Ref) → size_of r ≤ length forks → value_at (forks ++ b ∷ []) r x ≡ value_at forks r x
  unfolding value_at
  value_more forks b r low =
      let as_long = length_after [] forks in
      ap (λ (known : List Bool). value_by known r) (after_append [] forks (b ∷ [])) ∙ ref_kept (values_after x [] forks) (b ∷ []) r (omega arith)

pub size_within : (forks : List Branch) (r : Ref) → IsRef forks r → size_of r ≤ length forks
size_within forks Zero h = omega arith
size_within forks One h = omega arith
size_within forks (Node k) h = omega arith

pub within_size : (forks : List Branch) (r : Ref) → size_of r ≤ length forks → IsRef forks r
within_size forks Zero h = tt
within_size forks One h = tt
within_size forks (Node k) h = omega arith

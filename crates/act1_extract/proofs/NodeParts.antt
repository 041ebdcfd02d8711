-- The nodes in a row: those of modules, of constants and of outputs.
use Rattle.std.proofs.Common.{ℕ, suc, zero, ◌≡◌, ◌≢◌, ◌<◌, ◌≤◌, ◌+◌, ◌^◌, ◌⊎◌, not, Bool, true, false, List, [], ◌∷◌, ◌++◌, length, map, Some, refl, sym, ap, subst, ◌∙◌, inl, inr, arith}
use Rattle.std.specs.Prelude.{slice_get, slice_index_or, if◌then◌else◌}
use Rattle.std.proofs.lemmas.Bool.{cases_lt, false≢true}
use Rattle.std.proofs.lemmas.List.{length-append}
use Rattle.std.proofs.lemmas.Option.{get_or_from_slice_get, slice_get-get_or}
use Rattle.act1_base.proofs.ListGets.{get_cases, get_in, get_last, get_more, get_within}
use Rattle.act1_blif.specs.declared.blif.Node.{Node}
use Rattle.act1_circuit.specs.declared.circuit.Circuit.{Circuit}
use Rattle.act1_circuit.specs.PairForm.{has_clock}
use Rattle.act1_meaning.specs.Extracted.{count_below, is_outside}
use Rattle.act1_meaning.specs.ArrayNames.{IsFreeName, is_free, module_name, outside_count}
use Rattle.act1_extract.specs.declared.plan.Layout.{Layout}
use Rattle.act1_extract.specs.Net.{AreNodes}
use Rattle.act1_extract.specs.Parts.{constant_of, free_names}
use Rattle.act1_extract.specs.Picked.{AddsConstant, has_node, IsModuleNode, IsNode, IsOutputNode}
use Rattle.act1_extract.proofs.FreeNames.{free_picked}
use Rattle.act1_extract.proofs.Picks.{picked_back}
use Rattle.act1_extract.proofs.Tests.{get_behind, get_front, get_split}

abbrev pub one : Bool → ℕ
one b = if b then 1 else 0

pub outside_true : (c : Circuit) (m : ℕ) → has_clock c m ≡ false → is_outside c m ≡ true
outside_true c m e = ap not e

pub true_outside : (c : Circuit) (m : ℕ) → is_outside c m ≡ true → has_clock c m ≡ false
true_outside c m e = by (has_clock c m) e
  where
    by : (b : Bool) → not b ≡ true → b ≡ false
    by false e = refl
    by true e = absurd (false≢true e)

grown_long : (b v : Bool) (names : List (List ℕ)) (before after : List Node) → AddsConstant b v names before after → length after ≡ length before + one b
grown_long false v names before after h = let e = ap length (h.0 refl) in omega arith
grown_long true v names before after h = let r = h.1 refl in let e = ap length r.1 in omega (arith, length-append before (r.0 ∷ []))

grown_get : (b v : Bool) (names : List (List ℕ)) (before after : List Node) → AddsConstant b v names before after → (j : ℕ) (x : Node) → slice_get before j ≡ Some x → slice_get after j ≡ Some x
grown_get false v names before after h j x e = ap (λ (ns : List Node). slice_get ns j) (h.0 refl) ∙ e
grown_get true v names before after h j x e = let r = h.1 refl in ap (λ (ns : List Node). slice_get ns j) r.1 ∙ get_more before r.0 x j e

-- the node of the constant
grown_node : (b v : Bool) (names : List (List ℕ)) (before after : List Node) → AddsConstant b v names before after → b ≡ true
    → (node : Node) × (slice_get after (length before) ≡ Some node) × IsNode (slice_index_or names (length before) []) [] (constant_of v) node
grown_node b v names before after h e = let r = h.1 e in (r.0, ap (λ (ns : List Node). slice_get ns (length before)) r.1 ∙ get_last before r.0 (length before) refl, r.2)

-- an element of the longer list is one of the shorter, or the constant's
grown_back : (b v : Bool) (names : List (List ℕ)) (before after : List Node) → AddsConstant b v names before after → (j : ℕ) (x : Node) → slice_get after j ≡ Some x
    → (slice_get before j ≡ Some x) ⊎ ((j ≡ length before) × (b ≡ true) × IsNode (slice_index_or names j []) [] (constant_of v) x)
grown_back false v names before after h j x e = inl (ap (λ (ns : List Node). slice_get ns j) (sym (h.0 refl)) ∙ e)
grown_back true v names before after h j x e = let r = h.1 refl in by r.0 r.2 (get_cases before r.0 x j (ap (λ (ns : List Node). slice_get ns j) (sym r.1) ∙ e))
  where
    by : (node : Node) → IsNode (slice_index_or names (length before) []) [] (constant_of v) node → (slice_get before j ≡ Some x) ⊎ ((j ≡ length before) × (node ≡ x))
        → (slice_get before j ≡ Some x) ⊎ ((j ≡ length before) × (true ≡ true) × IsNode (slice_index_or names j []) [] (constant_of v) x)
    by node is (inl f) = inl f
    by node is (inr (at, same)) = inr (
      at,
      refl,
      subst (λ (u : Node). IsNode (slice_index_or names j []) [] (constant_of v) u) same
          (subst (λ (k : ℕ). IsNode (slice_index_or names k []) [] (constant_of v) node) (sym at) is),
    )

module _ (c : Circuit) (l : Layout) (names : List (List ℕ)) (nodes : List Node) (p : AreNodes c l names nodes) where
  -- how many nodes there are before those of outputs
  abbrev pub base : ℕ
  base = outside_count c + one l.has_zero + one l.has_one

  zero_long : length p.with_zero ≡ outside_count c + one l.has_zero
  zero_long = let e = p.modules.count in let f = grown_long l.has_zero false names p.first p.with_zero p.adds_zero in omega arith

  one_long : length p.with_one ≡ base
  one_long = let e = zero_long in let f = grown_long l.has_one true names p.with_zero p.with_one p.adds_one in omega arith

  pub nodes_long : length nodes ≡ base + count_below (has_node c) (length c.outputs)
  nodes_long =
      let e = ap length p.all in
      let f = one_long in
      let g = p.outputs.count in omega (arith, length-append p.with_one p.last)

  with_one_in : (j : ℕ) (x : Node) → slice_get p.with_one j ≡ Some x → slice_get nodes j ≡ Some x
  with_one_in j x e = ap (λ (ns : List Node). slice_get ns j) p.all ∙ get_front p.with_one p.last j x e

  with_zero_in : (j : ℕ) (x : Node) → slice_get p.with_zero j ≡ Some x → slice_get nodes j ≡ Some x
  with_zero_in j x e = with_one_in j x (grown_get l.has_one true names p.with_zero p.with_one p.adds_one j x e)

  pub module_there : (m : ℕ) → m < length c.modules → has_clock c m ≡ false → (node : Node) × (slice_get nodes (count_below (is_outside c) m) ≡ Some node) × IsModuleNode c l.signals names m node
  module_there m low none =
      let r = p.modules.each m low (outside_true c m none) in
      (r.0, with_zero_in (count_below (is_outside c) m) r.0 (grown_get l.has_zero false names p.first p.with_zero p.adds_zero (count_below (is_outside c) m) r.0 r.1), r.2)

  pub zero_there : l.has_zero ≡ true → (node : Node) × (slice_get nodes (outside_count c) ≡ Some node) × IsNode (slice_index_or names (outside_count c) []) [] (constant_of false) node
  zero_there e =
      let r = grown_node l.has_zero false names p.first p.with_zero p.adds_zero e in
      subst (λ (k : ℕ). (node : Node) × (slice_get nodes k ≡ Some node) × IsNode (slice_index_or names k []) [] (constant_of false) node) p.modules.count (r.0, with_zero_in (length p.first) r.0 r.1, r.2)

  pub one_there : l.has_one ≡ true → (node : Node) × (slice_get nodes (outside_count c + one l.has_zero) ≡ Some node) × IsNode (slice_index_or names (outside_count c + one l.has_zero) []) [] (constant_of true) node
  one_there e =
      let r = grown_node l.has_one true names p.with_zero p.with_one p.adds_one e in
      subst (λ (k : ℕ). (node : Node) × (slice_get nodes k ≡ Some node) × IsNode (slice_index_or names k []) [] (constant_of true) node) zero_long (r.0, with_one_in (length p.with_zero) r.0 r.1, r.2)

  pub output_there : (i : ℕ) → i < length c.outputs → has_node c i ≡ true → (node : Node) × (slice_get nodes (base + count_below (has_node c) i) ≡ Some node) × IsOutputNode c l.signals i node
  output_there i low e =
      let r = p.outputs.each i low e in
      let f = one_long in
      (r.0, ap (λ (ns : List Node). slice_get ns (base + count_below (has_node c) i)) p.all ∙ get_behind p.with_one p.last (base + count_below (has_node c) i) (count_below (has_node c) i) r.0 r.1 (omega arith), r.2)

  abbrev pub IsOfModule : ℕ → Node → Type 0
  IsOfModule k node = (m : ℕ) × (m < length c.modules) × (has_clock c m ≡ false) × (count_below (is_outside c) m ≡ k) × IsModuleNode c l.signals names m node

  abbrev pub IsOfConstant : ℕ → Node → Type 0
  IsOfConstant k node = (v : Bool) × (outside_count c ≤ k) × (k < base) × IsNode (slice_index_or names k []) [] (constant_of v) node

  abbrev pub IsOfOutput : ℕ → Node → Type 0
  IsOfOutput k node = (i : ℕ) × (i < length c.outputs) × (has_node c i ≡ true) × (k ≡ base + count_below (has_node c) i) × IsOutputNode c l.signals i node

  -- each node is one of these
  pub each_node : (k : ℕ) (node : Node) → slice_get nodes k ≡ Some node → IsOfModule k node ⊎ (IsOfConstant k node ⊎ IsOfOutput k node)
  each_node k node e = whole (get_split p.with_one p.last k node (ap (λ (ns : List Node). slice_get ns k) (sym p.all) ∙ e))
    where
      of_module : slice_get p.first k ≡ Some node → IsOfModule k node
      of_module f =
          let r = picked_back (is_outside c) (IsModuleNode c l.signals names) (length c.modules) p.first p.modules k node f in
          (r.0, r.1, true_outside c r.0 r.2, r.3, r.4)

      with_zero : (slice_get p.first k ≡ Some node) ⊎ ((k ≡ length p.first) × (l.has_zero ≡ true) × IsNode (slice_index_or names k []) [] (constant_of false) node) → IsOfModule k node ⊎ (IsOfConstant k node ⊎ IsOfOutput k node)
      with_zero (inl f) = inl (of_module f)
      with_zero (inr (at, is, own)) =
          let count = p.modules.count in
          let has : one l.has_zero ≡ 1 = ap one is in
          inr (inl (false, omega arith, omega arith, own))

      with_one : (slice_get p.with_zero k ≡ Some node) ⊎ ((k ≡ length p.with_zero) × (l.has_one ≡ true) × IsNode (slice_index_or names k []) [] (constant_of true) node) → IsOfModule k node ⊎ (IsOfConstant k node ⊎ IsOfOutput k node)
      with_one (inl f) = with_zero (grown_back l.has_zero false names p.first p.with_zero p.adds_zero k node f)
      with_one (inr (at, is, own)) =
          let count = zero_long in
          let has : one l.has_one ≡ 1 = ap one is in
          inr (inl (true, omega arith, omega arith, own))

      whole : (slice_get p.with_one k ≡ Some node) ⊎ ((j : ℕ) × (k ≡ length p.with_one + j) × (slice_get p.last j ≡ Some node)) → IsOfModule k node ⊎ (IsOfConstant k node ⊎ IsOfOutput k node)
      whole (inl f) = with_one (grown_back l.has_one true names p.with_zero p.with_one p.adds_one k node f)
      whole (inr (j, at, f)) =
          let r = picked_back (has_node c) (IsOutputNode c l.signals) (length c.outputs) p.last p.outputs j node f in
          let count = one_long in
          let is = r.3 in
          inr (inr (r.0, r.1, r.2, omega arith, r.4))

-- the names that were found are the free ones, in the order of their numbers
pub name_found : (c : Circuit) (names : List (List ℕ)) (limit j : ℕ) → names ≡ free_names c limit → j < length names
    → (number : ℕ) × (number < limit) × (is_free c number ≡ true) × (count_below (is_free c) number ≡ j) × (slice_index_or names j [] ≡ module_name number)
name_found c names limit j is low =
    let at = get_in names j low in
    let r = picked_back (is_free c) (λ k name. name ≡ module_name k) limit (free_names c limit) (free_picked c limit) j at.0 (ap (λ (ns : List (List ℕ)). slice_get ns j) (sym is) ∙ at.1) in
    (r.0, r.1, r.2, r.3, get_or_from_slice_get names j at.0 [] at.1 ∙ r.4)

pub free_name : (c : Circuit) (names : List (List ℕ)) (limit j : ℕ) → names ≡ free_names c limit → j < length names → IsFreeName c j (slice_index_or names j [])
free_name c names limit j is low = let r = name_found c names limit j is low in record { number = r.0; free = r.2; before = r.3; is = r.4 }

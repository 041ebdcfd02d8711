-- Under another numbering each module is the source of some pin or output where each was so before.
use Rattle.std.proofs.Common.{ℕ, ◌≡◌, ◌⊎◌, ◌<◌, ◌≤◌, List, [], length, map, Some, sym, ap, subst, ◌∙◌, inl, inr, arith, slice_get}
use Rattle.std.specs.Prelude.{slice_index_or}
use Rattle.std.proofs.Math.Logic.{∥∥₁_elim}
use Rattle.std.proofs.lemmas.Bool.{cases_lt}
use Rattle.std.proofs.lemmas.List.{get_or-map, get_or_past}
use Rattle.std.proofs.lemmas.Option.{get_or_from_slice_get}
use Rattle.act1_base.proofs.ListGets.{get_in, get_map}
use Rattle.act1_circuit.specs.declared.circuit.Circuit.{Circuit}
use Rattle.act1_circuit.specs.declared.circuit.Output.{Output}
use Rattle.act1_circuit.specs.declared.circuit.Source.{Source}
use Rattle.act1_circuit.specs.declared.circuit.Source.TheVariants.{Zero, Module}
use Rattle.act1_circuit.specs.PairForm.{pins_of}
use Rattle.act1_circuit.specs.Range.{InRange}
use Rattle.act1_plan.specs.Order.{named, renumbered_output, site_number}
use Rattle.act1_planned.specs.Laws.{OrderKeepsSources}
use Rattle.act1_planned.specs.Placed.{AllAreSources, IsSourceOf}
use Rattle.act1_planned.proofs.Numbered.{IsNumbered, fits, numbered}

module _ (number : ℕ → ℕ) (c d : Circuit) (range : InRange c) (is : IsNumbered number c d) where
  none_there : (k : ℕ) → length c.modules ≤ k → pins_of c k ≡ []
  none_there k high = get_or_past c.modules k [] high

  source_on : (m : ℕ) → IsSourceOf c m → IsSourceOf d (number m)
  source_on m (inl (k, pin, low, e)) = by (cases_lt k (length c.modules))
    where
      there : (pins : List Source) → slice_get c.modules k ≡ Some pins → IsSourceOf d (number m)
      there pins at =
          let were : pins_of c k ≡ pins = get_or_from_slice_get c.modules k pins [] at in
          let now : pins_of d (number k) ≡ map (named number) pins = get_or_from_slice_get d.modules (number k) (map (named number) pins) [] (is.modules k pins at) in
          let eight = (fits number c d range is k pins at).0 in
          let inside : pin < length pins = omega (arith, low, eight) in
          inl (
            number k,
            pin,
            low,
            ap (λ (ss : List Source). slice_index_or ss pin Zero) now ∙ get_or-map (named number) pins pin Zero Zero inside
                ∙ ap (named number) (ap (λ (ss : List Source). slice_index_or ss pin Zero) (sym were) ∙ e),
          )

      by : (k < length c.modules) ⊎ (length c.modules ≤ k) → IsSourceOf d (number m)
      by (inl inside) = let pins = get_in c.modules k inside in there pins.0 pins.1
      by (inr high) = let none : Zero ≡ Module m = sym (ap (λ (ss : List Source). slice_index_or ss pin Zero) (none_there k high)) ∙ e in cc
  source_on m (inr (j, o, at, e)) =
      inr (j, renumbered_output number o, ap (λ (os : List Output). slice_get os j) is.outputs ∙ get_map (renumbered_output number) c.outputs j o at, ap (named number) e)

  sources_on : AllAreSources c → AllAreSources d
  sources_on all n low =
      let m = is.each n (omega (arith, low, is.count)) in
      subst (λ (k : ℕ). ∥ IsSourceOf d k ∥₁) m.2 (∥∥₁_elim (all m.0 m.1) squash₁ (λ h. ∣ source_on m.0 h ∣₁))

pub order_keeps_sources : OrderKeepsSources
order_keeps_sources c spots p range placed all = sources_on (site_number spots) c p.circuit range (numbered c spots p placed) all

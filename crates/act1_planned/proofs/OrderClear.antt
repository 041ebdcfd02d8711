-- A circuit without a clash has none under another numbering of its modules.
use Rattle.std.proofs.Common.{ℕ, ◌≡◌, ◌⊎◌, ◌&&◌, ◌==◌, Bool, true, false, List, ◌++◌, map, refl, sym, ap, subst, ◌∙◌, inl, inr, slice_get, Contains}
use Rattle.std.specs.Str.{bytes_eq}
use Rattle.std.proofs.lemmas.Bool.{and_parts, eq-eqb, eqb-true, false≢true}
use Rattle.std.proofs.lemmas.List.Elements.{Contains-append_cases, Contains-append_left, Contains-append_right}
use Rattle.act1_base.proofs.ListGets.{get_mapped}
use Rattle.act1_circuit.specs.declared.circuit.Circuit.{Circuit}
use Rattle.act1_circuit.specs.declared.circuit.Output.{Output}
use Rattle.act1_circuit.specs.declared.circuit.Source.{Source}
use Rattle.act1_circuit.specs.declared.circuit.Source.TheVariants.{Zero, One, Clock, Input, Module}
use Rattle.act1_circuit.specs.declared.circuit.Start.{Start}
use Rattle.act1_circuit.specs.Range.{InRange}
use Rattle.act1_meaning.specs.ArrayNames.{has_name, is_own_signal, IsClash}
use Rattle.act1_base.proofs.Elements.{any_of, in_map, mapped, some_of}
use Rattle.act1_plan.specs.Order.{named, renumbered_output, renumbered_start, site_number}
use Rattle.act1_planned.specs.Laws.{OrderKeepsClear}
use Rattle.act1_planned.proofs.Numbered.{IsNumbered, numbered, start_back, start_on}

abbrev start_names : List Start → List (List ℕ)
start_names starts = map (λ (s : Start). s.name) starts

both_true : (a b : Bool) → a ≡ true → b ≡ true → (a && b) ≡ true
both_true true b h k = k
both_true false b h k = absurd (false≢true h)

module _ (number : ℕ → ℕ) (c d : Circuit) (range : InRange c) (is : IsNumbered number c d) where
  -- a source of the name has it still
  name_kept : (name : List ℕ) (s : Source) → has_name c name s ≡ true → has_name d name (named number s) ≡ true
  name_kept name Zero h = h
  name_kept name One h = h
  name_kept name Clock h = h
  name_kept name (Input i) h = rw is.inputs h
  name_kept name (Module m) h =
      let (start, in_starts, passes) = some_of (λ (s : Start). s.module == m && bytes_eq s.name name) c.starts h in
      let parts = and_parts (start.module == m) (bytes_eq start.name name) passes in
      any_of (λ (s : Start). s.module == number m && bytes_eq s.name name) d.starts (renumbered_start number start) (start_on number c d range is start in_starts)
      (both_true (number start.module == number m) (bytes_eq start.name name) (eq-eqb (number start.module) (number m) (ap number (eqb-true start.module m parts.0))) parts.1)

  -- an input or a latch of the name was one before
  named_before : (name : List ℕ) → Contains (d.inputs ++ start_names d.starts) name → Contains (c.inputs ++ start_names c.starts) name
  named_before name h = by (Contains-append_cases d.inputs (start_names d.starts) name h)
    where
      by : Contains d.inputs name ⊎ Contains (start_names d.starts) name → Contains (c.inputs ++ start_names c.starts) name
      by (inl k) = Contains-append_left c.inputs (start_names c.starts) name (subst (λ (names : List (List ℕ)). Contains names name) is.inputs k)
      by (inr k) =
          let (start, in_starts, name_is) = mapped (λ (s : Start). s.name) d.starts name k in
          let (old, in_old, same) = start_back number c d range is start in_starts in
          Contains-append_right c.inputs (start_names c.starts) name
          (subst (λ (n : List ℕ). Contains (start_names c.starts) n) (ap (λ (s : Start). s.name) same ∙ name_is) (in_map (λ (s : Start). s.name) c.starts old in_old))

  -- an output that isn't its own signal wasn't before
  other_before : (o : Output) → is_own_signal d (renumbered_output number o) ≡ false → is_own_signal c o ≡ false
  other_before o other = by (is_own_signal c o) refl
    where
      by : (own : Bool) → is_own_signal c o ≡ own → is_own_signal c o ≡ false
      by true e = absurd (false≢true (sym other ∙ name_kept o.name o.source e))
      by false e = e

  clash_before : (i : ℕ) → IsClash d i → IsClash c i
  clash_before i clash =
      let (o, there, same) = get_mapped (renumbered_output number) c.outputs i clash.output (sym (ap (λ (os : List Output). slice_get os i) is.outputs) ∙ clash.there) in
      record {
        output = o;
        there = there;
        named = named_before o.name (subst (λ (n : List ℕ). Contains (d.inputs ++ start_names d.starts) n) (sym (ap (λ (p : Output). p.name) same)) clash.named);
        other = other_before o (ap (is_own_signal d) same ∙ clash.other);
      }

pub order_keeps_clear : OrderKeepsClear
order_keeps_clear c spots p range at clear i clash = clear i (clash_before (site_number spots) c p.circuit range (numbered c spots p at) i clash)

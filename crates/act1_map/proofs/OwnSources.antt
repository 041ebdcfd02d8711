-- A mapped circuit has the sources of its net's inputs and latches at its outputs.
use Rattle.std.proofs.Common.{ℕ, zero, suc, ◌≡◌, ◌+◌, List, [], ◌∷◌, length, Some, refl, sym, ap, subst, ◌∙◌}
use Rattle.std.specs.Prelude.{slice_get}
use Rattle.std.specs.List.{AllZip}
use Rattle.act1_circuit.specs.declared.circuit.Circuit.{Circuit}
use Rattle.act1_circuit.specs.declared.circuit.Output.{Output}
use Rattle.act1_meaning.specs.Meaning.{StartsLatch}
use Rattle.act1_net.specs.declared.net.Net.{Net}
use Rattle.act1_net.specs.declared.net.NetTerm.{NetTerm}
use Rattle.act1_net.specs.declared.net.NetTerm.TheVariants as net
use Rattle.act1_map.specs.Laws.{MappedHasOwnSources}
use Rattle.act1_map.specs.Mapped.{«slave» as slave_of, Tables, net_source, IsMappedOutput, IsMapped}
use Rattle.act1_map.specs.Own.{HasOwnSources, IsStartOf}
use Rattle.act1_map.proofs.Gets.{one_at, some_same}

-- the output of a term
pub out_at : (t : Tables) (os : List Output) (us : List NetTerm) (j : ℕ) (u : NetTerm) → AllZip (IsMappedOutput t) os us → slice_get us j ≡ Some u → (o : Output) × (slice_get os j ≡ Some o) × (o.source ≡ net_source t u)
out_at t [] [] j u h e = cc
out_at t [] (x ∷ us) j u h e = absurd h
out_at t (o ∷ os) [] j u h e = absurd h
out_at t (o ∷ os) (x ∷ us) zero u h e = let same : x ≡ u = some_same x u e in (o, refl, h.0.source ∙ ap (net_source t) same)
out_at t (o ∷ os) (x ∷ us) (suc j) u h e = out_at t os us j u h.1 e

slave_number : (j k : ℕ) → slave_of j ≡ slave_of k → j ≡ k
slave_number j k e = cc

module _ (n : Net) (c : Circuit) (t : Tables) (mapped : IsMapped n c t) where
  start_of : (s j : ℕ) → slice_get t.roles s ≡ Some (slave_of j) → IsStartOf c n s j
  start_of s j e =
      let (place, start, there, here) = mapped.each_start s j e in
      let own = mapped.starts place start there in
      let same : own.number ≡ j = slave_number own.number j (one_at t.roles s (slave_of own.number) (slave_of j) (ap (slice_get t.roles) (sym here) ∙ own.at) e) in
      record { place = place; start = start; of = own.of; there = there; here = here; starts = subst (λ (k : ℕ). StartsLatch n.blif start k own.of) same own.starts }

  pub own_sources : HasOwnSources c n
  own_sources = record {
    starts = λ j low. (let s = mapped.latches j low in (s.at, start_of s.at j s.is));
    inputs = λ o i e low. (let out = out_at t c.outputs n.outputs o (net.Signal i) mapped.outputs e in (out.0, out.1, out.2 ∙ mapped.inputs i low));
    latches = λ o j e low. (let s = mapped.latches j low in let out = out_at t c.outputs n.outputs o (net.Signal (length n.blif.inputs + j)) mapped.outputs e in
        (s.at, (out.0, out.1, out.2 ∙ s.source), start_of s.at j s.is));
  }

pub has_own_sources : MappedHasOwnSources
has_own_sources n c t mapped = own_sources n c t mapped

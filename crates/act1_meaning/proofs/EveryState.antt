-- Where circuit and netlist have the same ports, each state of the netlist is that of some module bits.
use Rattle.std.proofs.Common.{ℕ, suc, zero, ◌≡◌, ◌≢◌, ◌<◌, Bool, false, List, [], ◌∷◌, length, arith, ap, sym, subst, ◌∙◌, Some}
use Rattle.std.specs.Prelude.{All, AllPairs, replicate, slice_get, slice_index_or, slice_set}
use Rattle.std.specs.List.{AllByRecursion}
use Rattle.std.proofs.lemmas.List.{length-replicate, length-set}
use Rattle.std.proofs.lemmas.List.Elements.{recursion_from_All}
use Rattle.std.proofs.lemmas.Option.{get_or_from_slice_get, slice_get-get_or}
use Rattle.act1_base.proofs.ListGets.{get_unwritten, get_within, get_written, some_is}
use Rattle.act1_blif.specs.declared.blif.Blif.{Blif}
use Rattle.act1_blif.specs.declared.blif.Latch.{Latch}
use Rattle.act1_blif.specs.Laws.{LatchNamesDiffer}
use Rattle.act1_circuit.specs.declared.circuit.Start.{Start}
use Rattle.act1_meaning.specs.Laws.{EachStateIsMet}
use Rattle.act1_meaning.specs.Meaning.{StartsLatch}

-- the start is that of a latch of the netlist
abbrev Starts : Blif → Start → Type 0
Starts b start = (k : ℕ) × (latch : Latch) × StartsLatch b start k latch

module _ (names_differ : LatchNamesDiffer) (b : Blif) (n : ℕ) (q : List Bool) (one_each : length q ≡ length b.latches) where
  bits_for : (starts : List Start) → AllByRecursion (Starts b) starts → List Bool
  bits_for [] h = replicate n false
  bits_for (s ∷ starts) h = slice_set (bits_for starts h.1) s.module (slice_index_or q h.0.0 false)

  bits_long : (starts : List Start) (h : AllByRecursion (Starts b) starts) → length (bits_for starts h) ≡ n
  unfolding bits_for
  bits_long [] h = length-replicate n false
  bits_long (s ∷ starts) h = length-set (bits_for starts h.1) s.module (slice_index_or q h.0.0 false) ∙ bits_long starts h.1

  agree : (starts : List Start) (h : AllByRecursion (Starts b) starts) → All (λ (s : Start). s.module < n) starts → AllPairs (λ (s t : Start). (s.name ≢ t.name) × (s.module ≢ t.module)) starts
      → (start : Start) (j k : ℕ) (latch : Latch) → slice_get starts j ≡ Some start → StartsLatch b start k latch → slice_get (bits_for starts h) start.module ≡ slice_get q k
  unfolding bits_for
  agree [] h within apart start j k latch e is = cc
  agree (s ∷ starts) h within apart start zero k latch e is =
      let same_start : s ≡ start = some_is s start e in
      let is_s : StartsLatch b s k latch = subst (λ (t : Start). StartsLatch b t k latch) (sym same_start) is in
      let same : h.0.0 ≡ k = names_differ b h.0.0 k h.0.1 latch h.0.2.is is_s.is (h.0.2.name ∙ sym is_s.name) in
      let low : s.module < n = within 0 s (omega arith) in
      let long = bits_long starts h.1 in
      let below = get_within b.latches k latch is_s.is in
      let value : slice_get q k ≡ Some (slice_index_or q k false) = slice_get-get_or q k false (omega arith) in
      ap (λ (t : Start). slice_get (slice_set (bits_for starts h.1) s.module (slice_index_or q h.0.0 false)) t.module) (sym same_start)
      ∙ get_written (bits_for starts h.1) s.module (slice_index_or q h.0.0 false) (omega arith)
      ∙ ap (λ (i : ℕ). Some (slice_index_or q i false)) same ∙ sym value
  agree (s ∷ starts) h within apart start (suc j) k latch e is =
      let below = get_within starts j start e in
      let other : s.module ≢ start.module = subst (λ (t : Start). s.module ≢ t.module) (get_or_from_slice_get starts j start s e) (apart 0 (suc j) s (omega arith) (omega arith)).1 in
      get_unwritten (bits_for starts h.1) s.module start.module (slice_index_or q h.0.0 false) (λ f. other (sym f))
      ∙ agree starts h.1 (λ i d low. within (suc i) d (omega arith)) (λ i l d low in_range. apart (suc i) (suc l) d (omega arith) (omega arith)) start j k latch e is

pub each_state_is_met : LatchNamesDiffer → EachStateIsMet
each_state_is_met names_differ c b range ports q one_each =
    let h = recursion_from_All (Starts b) c.starts ports.starts in
    (bits_for names_differ b (length c.modules) q one_each c.starts h, bits_long names_differ b (length c.modules) q one_each c.starts h, agree names_differ b (length c.modules) q one_each c.starts h range.starts ports.apart)

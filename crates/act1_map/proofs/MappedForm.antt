-- A mapped circuit is in pair form.
use Rattle.std.proofs.Common.{ℕ, zero, suc, ◌≡◌, ◌≢◌, ◌⊎◌, ◌<◌, ◌≤◌, true, List, [], ◌∷◌, length, Some, refl, sym, ap, subst, ◌∙◌, inl, inr, arith}
use Rattle.std.specs.Prelude.{slice_get, slice_index_or}
use Rattle.std.specs.List.{list_any, AllByRecursion, AllZip}
use Rattle.std.proofs.lemmas.Bool.{cases_lt, false≢true}
use Rattle.std.proofs.lemmas.List.{get_or_past}
use Rattle.std.proofs.lemmas.List.Elements.{All-from_recursion}
use Rattle.std.proofs.lemmas.Option.{slice_get_within}
use Rattle.act1_blif.specs.Laws.{EachHasSignals, EachIsWhole, LatchNamesDiffer}
use Rattle.act1_circuit.specs.declared.circuit.Circuit.{Circuit}
use Rattle.act1_circuit.specs.declared.circuit.Output.{Output}
use Rattle.act1_circuit.specs.declared.circuit.Source.{Source}
use Rattle.act1_circuit.specs.declared.circuit.Source.TheVariants.{Zero, One, Clock, Input, Module}
use Rattle.act1_circuit.specs.Laws.{PairsAreClocked}
use Rattle.act1_circuit.specs.PairForm.{Edge, rising, pins_of, pin_of, is_clock, has_clock, master_pins, slave_pins, IsPair, InPair, IsPairForm, HasStart, start_module}
use Rattle.act1_circuit.specs.Range.{InRange}
use Rattle.act1_cover.specs.Denotes.{ForestsDenote}
use Rattle.act1_cover.specs.Pins.{TilesGiveValues}
use Rattle.act1_meaning.specs.Laws.{CarryingShows}
use Rattle.act1_net.specs.declared.net.Net.{Net}
use Rattle.act1_net.specs.declared.net.NetTerm.{NetTerm}
use Rattle.act1_map.specs.Laws.{MappedMeans}
use Rattle.act1_map.specs.Mapped.{Role, tile, «master» as master_of, «slave» as slave_of, Tables, net_source, IsMappedOutput, IsMapped}
use Rattle.act1_map.specs.Meaning.{IsNet}
use Rattle.act1_map.proofs.Gets.{one_at}
use Rattle.act1_map.proofs.MappedLevels.{role_of, term_plain, pin_plain, no_rings}
use Rattle.act1_map.proofs.MappedMeaning.{pins_are, module_is, mapped_means}

-- which pins of a master and of a slave can have a module
not_module : (s : Source) (m : ℕ) → s ≡ Zero → s ≡ Module m → ⊥
not_module s m e f = by (sym e ∙ f)
  where
    by : Zero ≡ Module m → ⊥
    by g = cc

master_reads : (u : Source) (k m pin : ℕ) → (u ≡ Module m → ⊥) → slice_index_or (master_pins rising u k) pin Zero ≡ Module m → k ≡ m
master_reads u k m zero free e = absurd (free e)
master_reads u k m (suc zero) free e = cc
master_reads u k m (suc (suc zero)) free e = cc
master_reads u k m (suc (suc (suc zero))) free e = module_is k m e
master_reads u k m (suc (suc (suc (suc zero)))) free e = cc
master_reads u k m (suc (suc (suc (suc (suc zero))))) free e = cc
master_reads u k m (suc (suc (suc (suc (suc (suc zero)))))) free e = cc
master_reads u k m (suc (suc (suc (suc (suc (suc (suc zero))))))) free e = cc
master_reads u k m (suc (suc (suc (suc (suc (suc (suc (suc pin)))))))) free e = cc

slave_reads : (l k m pin : ℕ) → slice_index_or (slave_pins rising l k) pin Zero ≡ Module m → (k ≡ m) ⊎ (l ≡ m)
slave_reads l k m zero e = inl (module_is k m e)
slave_reads l k m (suc zero) e = cc
slave_reads l k m (suc (suc zero)) e = cc
slave_reads l k m (suc (suc (suc zero))) e = inr (module_is l m e)
slave_reads l k m (suc (suc (suc (suc zero)))) e = cc
slave_reads l k m (suc (suc (suc (suc (suc zero))))) e = cc
slave_reads l k m (suc (suc (suc (suc (suc (suc zero)))))) e = cc
slave_reads l k m (suc (suc (suc (suc (suc (suc (suc zero))))))) e = cc
slave_reads l k m (suc (suc (suc (suc (suc (suc (suc (suc pin)))))))) e = cc

some_clock : (ps : List Source) → list_any is_clock ps ≡ true → (pin : ℕ) × (slice_index_or ps pin Zero ≡ Clock)
some_clock [] g = absurd (false≢true g)
some_clock (x ∷ ps) g = one x g (some_clock ps)
  where
    one : (y : Source) → list_any is_clock (y ∷ ps) ≡ true → (list_any is_clock ps ≡ true → (pin : ℕ) × (slice_index_or ps pin Zero ≡ Clock)) → (pin : ℕ) × (slice_index_or (y ∷ ps) pin Zero ≡ Clock)
    one Clock g a = (0, refl)
    one Zero g a = let f = a g in (suc f.0, f.1)
    one One g a = let f = a g in (suc f.0, f.1)
    one (Input i) g a = let f = a g in (suc f.0, f.1)
    one (Module i) g a = let f = a g in (suc f.0, f.1)

module _ (n : Net) (c : Circuit) (t : Tables) (is_net : IsNet n) (range : InRange c) (mapped : IsMapped n c t) (denote : ForestsDenote) (clocked : PairsAreClocked) where
  abbrev Has : ℕ → Role → Type 0
  Has m r = slice_get t.roles m ≡ Some r

  role : (m : ℕ) → m < length c.modules → (r : Role) × Has m r
  role = role_of n c t range mapped denote

  pin_list : (m : ℕ) (ps : List Source) → slice_get c.modules m ≡ Some ps → (pin : ℕ) → pin_of c m pin ≡ slice_index_or ps pin Zero
  pin_list m ps e pin = ap (λ (qs : List Source). slice_index_or qs pin Zero) (pins_are c m ps e)

  -- the pair of a latch
  record HasPair (m j : ℕ) : Type 0 where
    s : ℕ
    takes : Source
    is_slave : Has s (slave_of j)
    pair : IsPair c rising takes m s

  pair_of : (m j : ℕ) → Has m (master_of j) → HasPair m j
  pair_of m j e =
      let h = mapped.masters m j e in
      let within = slice_get_within n.next j h.takes h.takes_is in
      let at = mapped.latches j (let l = is_net.next in omega arith) in
      let s = at.at in
      let own = mapped.slaves s j at.is in
      let same : own.of ≡ m = mapped.once own.of m (master_of j) own.of_is e in
      let is = term_plain n c t range mapped denote h.takes h.has in
      record {
        s = s;
        takes = net_source t h.takes;
        is_slave = at.is;
        pair = record {
          apart = λ g. (let f = sym e ∙ ap (slice_get t.roles) g ∙ at.is in cc);
          no_clock = is.0;
          no_own = λ g. is.1 m j g e;
          «master» = h.pins;
          «slave» = own.pins ∙ ap (λ (k : ℕ). Some (slave_pins rising k s)) same;
          pins = λ k pin g. reads s at.is k pin g (cases_lt k (length c.modules));
          outputs = All-from_recursion (λ (o : Output). o.source ≢ Module m) c.outputs (outs c.outputs n.outputs mapped.outputs);
        };
      }
    where
      outs : (os : List Output) (us : List NetTerm) → AllZip (IsMappedOutput t) os us → AllByRecursion (λ (o : Output). o.source ≢ Module m) os
      outs [] us h = tt
      outs (o ∷ os) [] h = absurd h
      outs (o ∷ os) (u ∷ us) h = ((λ g. (term_plain n c t range mapped denote u h.0.has).1 m j (sym h.0.source ∙ g) e), outs os us h.1)

      master_same : (x l : ℕ) → x ≡ m → Has x (master_of l) → l ≡ j
      master_same x l s a = by (one_at t.roles m (master_of l) (master_of j) (ap (slice_get t.roles) (sym s) ∙ a) e)
        where
          by : master_of l ≡ master_of j → l ≡ j
          by f = cc

      by_slave : (s : ℕ) → Has s (slave_of j) → (k l x : ℕ) → Has k (slave_of l) → Has x (master_of l) → (k ≡ m) ⊎ (x ≡ m) → (k ≡ m) ⊎ (k ≡ s)
      by_slave s is k l x r a (inl f) = inl f
      by_slave s is k l x r a (inr f) = inr (mapped.once k s (slave_of j) (r ∙ ap (λ (u : ℕ). Some (slave_of u)) (master_same x l f a)) is)

      by_role : (s : ℕ) → Has s (slave_of j) → (k pin : ℕ) → pin_of c k pin ≡ Module m → ((r : Role) × Has k r) → (k ≡ m) ⊎ (k ≡ s)
      by_role s is k pin g (tile i u, r) = absurd ((pin_plain n c t range mapped denote k i u r pin).1 m j g e)
      by_role s is k pin g (master_of l, r) =
          let h = mapped.masters k l r in
          inl (master_reads (net_source t h.takes) k m pin (λ a. (term_plain n c t range mapped denote h.takes h.has).1 m j a e) (sym (pin_list k (master_pins rising (net_source t h.takes) k) h.pins pin) ∙ g))
      by_role s is k pin g (slave_of l, r) =
          let h = mapped.slaves k l r in
          by_slave s is k l h.of r h.of_is (slave_reads h.of k m pin (sym (pin_list k (slave_pins rising h.of k) h.pins pin) ∙ g))

      reads : (s : ℕ) → Has s (slave_of j) → (k pin : ℕ) → pin_of c k pin ≡ Module m → (k < length c.modules) ⊎ (length c.modules ≤ k) → (k ≡ m) ⊎ (k ≡ s)
      reads s is k pin g (inl low) = by_role s is k pin g (role k low)
      reads s is k pin g (inr high) = absurd (not_module (pin_of c k pin) m (ap (λ (ps : List Source). slice_index_or ps pin Zero) (get_or_past c.modules k [] high)) g)

  slave_pair : (s j : ℕ) → Has s (slave_of j) → (m : ℕ) × (u : Source) × IsPair c rising u m s
  slave_pair s j e =
      let own = mapped.slaves s j e in
      let p = pair_of own.of j own.of_is in
      (own.of, p.takes, subst (λ (k : ℕ). IsPair c rising p.takes own.of k) (mapped.once p.s s (slave_of j) p.is_slave e) p.pair)

  in_pair : (m : ℕ) → m < length c.modules → has_clock c m ≡ true → InPair c m
  in_pair m low e = by (role m low)
    where
      by : ((r : Role) × Has m r) → InPair c m
      by (tile i u, r) = let g = some_clock (pins_of c m) e in absurd ((pin_plain n c t range mapped denote m i u r g.0).0 g.1)
      by (master_of j, r) = let p = pair_of m j r in record { edge = rising; takes = p.takes; other = p.s; is = inl p.pair }
      by (slave_of j, r) = let p = slave_pair m j r in record { edge = rising; takes = p.1; other = p.0; is = inr p.2 }

  no_clock_out : (os : List Output) (us : List NetTerm) → AllZip (IsMappedOutput t) os us → AllByRecursion (λ (o : Output). o.source ≢ Clock) os
  no_clock_out [] us h = tt
  no_clock_out (o ∷ os) [] h = absurd h
  no_clock_out (o ∷ os) (u ∷ us) h = ((λ g. (term_plain n c t range mapped denote u h.0.has).0 (sym h.0.source ∙ g)), no_clock_out os us h.1)

  -- the slave of any pair is the slave of a latch
  slave_is : (f : Edge) (u : Source) (m s : ℕ) → IsPair c f u m s → (j : ℕ) × Has s (slave_of j)
  slave_is rising u m s p = by (role s (slice_get_within c.modules s (slave_pins rising m s) p.slave))
    where
      own : Module m ≡ Module s → ⊥
      own e = p.apart (module_is m s e)

      by : ((r : Role) × Has s r) → (j : ℕ) × Has s (slave_of j)
      by (slave_of j, r) = (j, r)
      by (master_of j, r) =
          let h = mapped.masters s j r in
          absurd (own (ap (λ (qs : List Source). slice_index_or qs 3 Zero) (one_at c.modules s (slave_pins rising m s) (master_pins rising (net_source t h.takes) s) p.slave h.pins)))
      by (tile i w, r) = absurd ((pin_plain n c t range mapped denote s i w r 6).0 (pin_list s (slave_pins rising m s) p.slave 6))

  start_is : (f : Edge) (m s : ℕ) → start_module f m s ≡ s
  start_is rising m s = refl

  pub is_form : IsPairForm c
  is_form = record {
    clocked = in_pair;
    outputs = All-from_recursion (λ (o : Output). o.source ≢ Clock) c.outputs (no_clock_out c.outputs n.outputs mapped.outputs);
    rings = no_rings n c t range mapped denote;
    starts = λ k h.
        let s = slave_is h.edge h.takes h.master h.slave h.pair in
        subst (HasStart c) (sym (start_is h.edge h.master h.slave) ∙ h.here) (mapped.each_start h.slave s.0 s.1);
    pairs = λ j start e.
        let own = mapped.starts j start e in
        let p = slave_pair start.module own.number own.at in
        record { edge = rising; takes = p.1; «master» = p.0; «slave» = start.module; pair = p.2; here = refl };
  }

pub form_and_meaning : EachHasSignals → LatchNamesDiffer → EachIsWhole → ForestsDenote → TilesGiveValues → PairsAreClocked → CarryingShows → MappedMeans
form_and_meaning signals names whole denote gives clocked carrying n c t is_net range ports mapped =
    let form = is_form n c t is_net range mapped denote clocked in
    (form, mapped_means n c t mapped signals names whole denote gives carrying is_net range form ports)

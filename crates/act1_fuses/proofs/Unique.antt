-- There is at most one circuit of a sound array whose file keeps the rules.
use Rattle.std.proofs.Common.{ℕ, suc, zero, ◌≡◌, ◌<◌, List, [], ◌∷◌, ◌++◌, length, refl, arith, inl, inr, ap, sym, subst, ◌∙◌, Option, Some, map}
use Rattle.std.specs.Prelude.{Contains, slice_get, slice_index_or, ◌⊎◌, ◌↔◌}
use Rattle.std.proofs.lemmas.List.Elements.{All-contains}
use Rattle.act1_base.specs.Joined.{Linked, Leads, Joined}
use Rattle.act1_base.specs.Rising.{Rises}
use Rattle.act1_base.proofs.RisingLists as rising
use Rattle.act1_base.proofs.RisingLists.{pair_itself, pair_on}
use Rattle.act1_device.specs.declared.device.Device.{Device}
use Rattle.act1_device.specs.declared.device.Wire.{Wire}
use Rattle.act1_device.specs.declared.device.Wire.TheVariants as wire
use Rattle.act1_circuit.specs.declared.circuit.Circuit.{Circuit}
use Rattle.act1_circuit.specs.declared.circuit.Output.{Output}
use Rattle.act1_circuit.specs.declared.circuit.Start.{Start}
use Rattle.act1_circuit.specs.declared.circuit.Spot.{Spot}
use Rattle.act1_circuit.specs.declared.circuit.Source.{Source}
use Rattle.act1_circuit.specs.declared.circuit.Source.TheVariants.{Zero, One, Clock, Input, Module}
use Rattle.act1_circuit.specs.declared.circuit.Placed.{Placed}
use Rattle.act1_circuit.specs.Spots.{SpotIsBefore}
use Rattle.act1_fuses.specs.declared.fuses.FuseFile.{FuseFile}
use Rattle.act1_fuses.specs.declared.fuses.Port.{Port}
use Rattle.act1_fuses.specs.declared.fuses.StartAt.{StartAt}
use Rattle.act1_fuses.specs.Wires.{links_of}
use Rattle.act1_fuses.specs.Array.{IsUsed, IsSource, Sound, IsCircuitOf, Drives, IsWireOf, pin_wire, pad_wire, out_wire, Beginning}
use Rattle.act1_fuses.specs.Rules.{KeepsRules}

module _ {V : Type 0} (links : List (V × V)) where
  other_way : (a b : V) → Linked links a b → Linked links b a
  other_way a b (inl h) = inr h
  other_way a b (inr h) = inl h

  leads_on : (a : V) (p : List V) (b : V) (q : List V) (c : V) → Leads links a p b → Leads links b q c → Leads links a (p ++ q) c
  leads_on a [] b q c h k = subst (λ (v : V). Leads links v q c) (sym h) k
  leads_on a (d ∷ p) b q c h k = (h.0, leads_on d p b q c h.1 k)

  pub joined_on : (a b c : V) → Joined links a b → Joined links b c → Joined links a c
  joined_on a b c h k = record { path = h.path ++ k.path; leads = leads_on a h.path b k.path c h.leads k.leads }

  leads_back : (a : V) (p : List V) (b : V) → Leads links a p b → Joined links b a
  leads_back a [] b h = record { path = []; leads = sym h }
  leads_back a (d ∷ p) b h = joined_on b d a (leads_back d p b h.1) (record { path = a ∷ []; leads = (other_way a d h.0, refl) })

  pub joined_back : (a b : V) → Joined links a b → Joined links b a
  joined_back a b h = leads_back a h.path b h.leads

before_itself : (s : Spot) → SpotIsBefore s s → ⊥
before_itself s = pair_itself s.row s.column

before_on : (a b c : Spot) → SpotIsBefore a b → SpotIsBefore b c → SpotIsBefore a c
before_on a b c = pair_on a.row a.column b.row b.column c.row c.column

some : {X : Type 0} (x y : X) → Some x ≡ Some y → x ≡ y
some x y h = cc

tail_rises : (x : Spot) (xs : List Spot) → Rises SpotIsBefore (x ∷ xs) → Rises SpotIsBefore xs
tail_rises = rising.tail_rises SpotIsBefore before_itself before_on

after_first : (x : Spot) (xs : List Spot) → Rises SpotIsBefore (x ∷ xs) → (j : ℕ) (y : Spot) → slice_get xs j ≡ Some y → SpotIsBefore x y
after_first = rising.after_first SpotIsBefore before_itself before_on

-- a spot stands at one place of a list that rises
same_place : (xs : List Spot) → Rises SpotIsBefore xs → (m n : ℕ) (s : Spot) → slice_get xs m ≡ Some s → slice_get xs n ≡ Some s → m ≡ n
same_place = rising.same_place SpotIsBefore before_itself before_on

get_is_in : {X : Type 0} (xs : List X) (i : ℕ) (x : X) → slice_get xs i ≡ Some x → Contains xs x
get_is_in [] i x e = cc
get_is_in (y ∷ xs) zero x e = (0, omega arith, some y x e)
get_is_in (y ∷ xs) (suc i) x e = let r = get_is_in xs i x e in let low = r.1 in (suc r.0, omega arith, r.2)

in_has_place : {X : Type 0} (xs : List X) (x : X) → Contains xs x → (i : ℕ) × (slice_get xs i ≡ Some x)
in_has_place {X} xs x h = by_index xs h.0 h.1 h.2
  where
    by_index : (xs : List X) (k : ℕ) → k < length xs → slice_index_or xs k x ≡ x → (i : ℕ) × (slice_get xs i ≡ Some x)
    by_index [] k low e = absurd (omega arith)
    by_index (y ∷ xs) zero low e = (0, ap (λ (z : X). Some z) e)
    by_index (y ∷ xs) (suc k) low e = let r = by_index xs k (omega arith) e in (suc r.0, r.1)

in_tail : {X : Type 0} (x : X) (xs : List X) (y : X) → Contains (x ∷ xs) y → (x ≡ y) ⊎ Contains xs y
in_tail x xs y (zero, low, e) = inl e
in_tail x xs y (suc k, low, e) = inr (k, omega arith, e)

in_more : {X : Type 0} (x : X) (xs : List X) (y : X) → Contains xs y → Contains (x ∷ xs) y
in_more x xs y (k, low, e) = (suc k, omega arith, e)

in_rest : (x : Spot) (xs ys : List Spot) → Rises SpotIsBefore (x ∷ xs) → ((s : Spot) → Contains (x ∷ xs) s → Contains (x ∷ ys) s) → (s : Spot) → Contains xs s → Contains ys s
in_rest x xs ys rise into s h = go (in_tail x ys s (into s (in_more x xs s h)))
  where
    go : (x ≡ s) ⊎ Contains ys s → Contains ys s
    go (inl e) = let p = in_has_place xs s h in absurd (before_itself s (subst (λ (t : Spot). SpotIsBefore t s) e (after_first x xs rise p.0 s p.1)))
    go (inr k) = k

first_same : (x : Spot) (xs : List Spot) (y : Spot) (ys : List Spot) → Rises SpotIsBefore (x ∷ xs) → Rises SpotIsBefore (y ∷ ys) → (x ≡ y) ⊎ Contains xs y → (y ≡ x) ⊎ Contains ys x → x ≡ y
first_same x xs y ys h k (inl e) f = e
first_same x xs y ys h k (inr e) (inl f) = sym f
first_same x xs y ys h k (inr e) (inr f) =
    let p = in_has_place xs y e in let q = in_has_place ys x f in
    absurd (before_itself x (before_on x y x (after_first x xs h p.0 y p.1) (after_first y ys k q.0 x q.1)))

-- two lists that rise and have the same spots are one
same_spots : (xs ys : List Spot) → Rises SpotIsBefore xs → Rises SpotIsBefore ys → ((s : Spot) → Contains xs s → Contains ys s) → ((s : Spot) → Contains ys s → Contains xs s) → xs ≡ ys
same_spots [] [] h k f g = refl
same_spots [] (y ∷ ys) h k f g = absurd (omega (arith, (g y (0, omega arith, refl)).1))
same_spots (x ∷ xs) [] h k f g = absurd (omega (arith, (f x (0, omega arith, refl)).1))
same_spots (x ∷ xs) (y ∷ ys) h k f g =
    let e = first_same x xs y ys h k (in_tail x xs y (g y (0, omega arith, refl))) (in_tail y ys x (f x (0, omega arith, refl))) in
    let f2 = subst (λ (z : Spot). (s : Spot) → Contains (x ∷ xs) s → Contains (z ∷ ys) s) (sym e) f in
    let g2 = subst (λ (z : Spot). (s : Spot) → Contains (z ∷ ys) s → Contains (x ∷ xs) s) (sym e) g in
    let k2 = subst (λ (z : Spot). Rises SpotIsBefore (z ∷ ys)) (sym e) k in
    ap (λ (z : Spot). z ∷ xs) e ∙ ap (λ (zs : List Spot). y ∷ zs) (same_spots xs ys (tail_rises x xs h) (tail_rises y ys k) (in_rest x xs ys h f2) (in_rest x ys xs k2 g2))

-- two lists with the same elements at the same places are one
alike : {X : Type 0} (xs ys : List X) → length xs ≡ length ys → ((k : ℕ) (x y : X) → slice_get xs k ≡ Some x → slice_get ys k ≡ Some y → x ≡ y) → xs ≡ ys
alike [] [] e h = refl
alike [] (y ∷ ys) e h = absurd (omega (arith, e))
alike (x ∷ xs) [] e h = absurd (omega (arith, e))
alike {X} (x ∷ xs) (y ∷ ys) e h = ap (λ (z : X). z ∷ xs) (h 0 x y refl refl) ∙ ap (λ (zs : List X). y ∷ zs) (alike xs ys (let f = e in omega arith) (λ k. h (suc k)))

get_at : {X : Type 0} (xs ys : List X) (i : ℕ) (x d : X) → slice_get xs i ≡ Some x → (i < length (xs ++ ys)) × (slice_index_or (xs ++ ys) i d ≡ x)
get_at [] ys i x d e = cc
get_at (y ∷ xs) ys zero x d e = (omega arith, some y x e)
get_at (y ∷ xs) ys (suc i) x d e = let r = get_at xs ys i x d e in let low = r.0 in (omega arith, r.1)

has_place : {X Y : Type 0} (xs : List X) (ys : List Y) (k : ℕ) (x : X) → length xs ≡ length ys → slice_get xs k ≡ Some x → (y : Y) × (slice_get ys k ≡ Some y)
has_place [] ys k x e h = cc
has_place (z ∷ xs) [] k x e h = absurd (omega (arith, e))
has_place (z ∷ xs) (y ∷ ys) zero x e h = (y, refl)
has_place (z ∷ xs) (y ∷ ys) (suc k) x e h = has_place xs ys k x (let f = e in omega arith) h

pads_equal : (p q : ℕ) → pad_wire p ≡ pad_wire q → p ≡ q
pads_equal p q e = cc

rows_equal : (s t : Spot) → out_wire s ≡ out_wire t → s.row ≡ t.row
rows_equal s t e = cc

columns_equal : (s t : Spot) → out_wire s ≡ out_wire t → s.column ≡ t.column
columns_equal s t e = cc

abbrev pub spot_at : ℕ → ℕ → Spot
spot_at row column = record { row = row; column = column }

spots_equal : (s t : Spot) → out_wire s ≡ out_wire t → s ≡ t
spots_equal s t e = ap (λ (r : ℕ). spot_at r s.column) (rows_equal s t e) ∙ ap (λ (c : ℕ). spot_at t.row c) (columns_equal s t e)

apart_Zero_One : ¬ (wire.Gnd ≡ wire.Vcc)
apart_Zero_One e = cc

apart_Zero_Clock : ¬ (wire.Gnd ≡ wire.Clk)
apart_Zero_Clock e = cc

apart_Zero_Input : (p : ℕ) → ¬ (wire.Gnd ≡ pad_wire p)
apart_Zero_Input p e = cc

apart_Zero_Module : (s : Spot) → ¬ (wire.Gnd ≡ out_wire s)
apart_Zero_Module s e = cc

apart_One_Zero : ¬ (wire.Vcc ≡ wire.Gnd)
apart_One_Zero e = cc

apart_One_Clock : ¬ (wire.Vcc ≡ wire.Clk)
apart_One_Clock e = cc

apart_One_Input : (p : ℕ) → ¬ (wire.Vcc ≡ pad_wire p)
apart_One_Input p e = cc

apart_One_Module : (s : Spot) → ¬ (wire.Vcc ≡ out_wire s)
apart_One_Module s e = cc

apart_Clock_Zero : ¬ (wire.Clk ≡ wire.Gnd)
apart_Clock_Zero e = cc

apart_Clock_One : ¬ (wire.Clk ≡ wire.Vcc)
apart_Clock_One e = cc

apart_Clock_Input : (p : ℕ) → ¬ (wire.Clk ≡ pad_wire p)
apart_Clock_Input p e = cc

apart_Clock_Module : (s : Spot) → ¬ (wire.Clk ≡ out_wire s)
apart_Clock_Module s e = cc

apart_Input_Zero : (p : ℕ) → ¬ (pad_wire p ≡ wire.Gnd)
apart_Input_Zero p e = cc

apart_Input_One : (p : ℕ) → ¬ (pad_wire p ≡ wire.Vcc)
apart_Input_One p e = cc

apart_Input_Clock : (p : ℕ) → ¬ (pad_wire p ≡ wire.Clk)
apart_Input_Clock p e = cc

apart_Input_Module : (p : ℕ) (s : Spot) → ¬ (pad_wire p ≡ out_wire s)
apart_Input_Module p s e = cc

apart_Module_Zero : (s : Spot) → ¬ (out_wire s ≡ wire.Gnd)
apart_Module_Zero s e = cc

apart_Module_One : (s : Spot) → ¬ (out_wire s ≡ wire.Vcc)
apart_Module_One s e = cc

apart_Module_Clock : (s : Spot) → ¬ (out_wire s ≡ wire.Clk)
apart_Module_Clock s e = cc

apart_Module_Input : (s : Spot) (p : ℕ) → ¬ (out_wire s ≡ pad_wire p)
apart_Module_Input s p e = cc

port_is_in : (ports : List Port) (i : ℕ) (port : Port) → slice_get ports i ≡ Some port → Contains (map (λ (p : Port). p.pad) ports) port.pad
port_is_in [] i port e = cc
port_is_in (p ∷ ports) zero port e = (0, omega arith, ap (λ (q : Port). q.pad) (some p port e))
port_is_in (p ∷ ports) (suc i) port e = in_more p.pad (map (λ (q : Port). q.pad) ports) port.pad (port_is_in ports i port e)

module _ (dev : Device) (f : FuseFile) (rules : KeepsRules dev f) (sound : Sound dev f) (spots : List Spot) (rise : Rises SpotIsBefore spots) (used : (s : Spot) → IsUsed f.sites s ↔ Contains spots s) where
  below : (i j : ℕ) (p q : Port) → slice_get f.ins i ≡ Some p → slice_get f.ins j ≡ Some q → p.pad ≡ q.pad → ¬ (i < j)
  below i j p q e h k low =
      let a = get_at f.ins f.outs i p p e in let b = get_at f.ins f.outs j q p h in
      rules.once i j p low b.0 (ap (λ (x : Port). x.pad) a.1 ∙ k ∙ sym (ap (λ (x : Port). x.pad) b.1))

  same_port : (i j : ℕ) (p q : Port) → slice_get f.ins i ≡ Some p → slice_get f.ins j ≡ Some q → p.pad ≡ q.pad → i ≡ j
  same_port i j p q e h k = let a = below i j p q e h k in let b = below j i q p h e (sym k) in omega arith

  is_source : (source : Source) (w : Wire) → IsWireOf f spots source w → IsSource f w
  is_source Zero w h = subst (λ (u : Wire). IsSource f u) (sym h) tt
  is_source One w h = subst (λ (u : Wire). IsSource f u) (sym h) tt
  is_source Clock w h = subst (λ (u : Wire). IsSource f u) (sym h) tt
  is_source (Input i) w h = subst (λ (u : Wire). IsSource f u) (sym h.2) (port_is_in f.ins i h.0 h.1)
  is_source (Module m) w h = subst (λ (u : Wire). IsSource f u) (sym h.2) ((used h.0).1 (get_is_in spots m h.0 h.1))

  same_source : (a b : Source) (w : Wire) → IsWireOf f spots a w → IsWireOf f spots b w → a ≡ b
  same_source Zero Zero w h k = refl
  same_source Zero One w h k = absurd (apart_Zero_One (sym h ∙ k))
  same_source Zero Clock w h k = absurd (apart_Zero_Clock (sym h ∙ k))
  same_source Zero (Input j) w h k = absurd (apart_Zero_Input _ (sym h ∙ k.2))
  same_source Zero (Module n) w h k = absurd (apart_Zero_Module _ (sym h ∙ k.2))
  same_source One Zero w h k = absurd (apart_One_Zero (sym h ∙ k))
  same_source One One w h k = refl
  same_source One Clock w h k = absurd (apart_One_Clock (sym h ∙ k))
  same_source One (Input j) w h k = absurd (apart_One_Input _ (sym h ∙ k.2))
  same_source One (Module n) w h k = absurd (apart_One_Module _ (sym h ∙ k.2))
  same_source Clock Zero w h k = absurd (apart_Clock_Zero (sym h ∙ k))
  same_source Clock One w h k = absurd (apart_Clock_One (sym h ∙ k))
  same_source Clock Clock w h k = refl
  same_source Clock (Input j) w h k = absurd (apart_Clock_Input _ (sym h ∙ k.2))
  same_source Clock (Module n) w h k = absurd (apart_Clock_Module _ (sym h ∙ k.2))
  same_source (Input i) Zero w h k = absurd (apart_Input_Zero _ (sym h.2 ∙ k))
  same_source (Input i) One w h k = absurd (apart_Input_One _ (sym h.2 ∙ k))
  same_source (Input i) Clock w h k = absurd (apart_Input_Clock _ (sym h.2 ∙ k))
  same_source (Input i) (Input j) w h k = ap Input (same_port i j h.0 k.0 h.1 k.1 (pads_equal h.0.pad k.0.pad (sym h.2 ∙ k.2)))
  same_source (Input i) (Module n) w h k = absurd (apart_Input_Module _ _ (sym h.2 ∙ k.2))
  same_source (Module m) Zero w h k = absurd (apart_Module_Zero _ (sym h.2 ∙ k))
  same_source (Module m) One w h k = absurd (apart_Module_One _ (sym h.2 ∙ k))
  same_source (Module m) Clock w h k = absurd (apart_Module_Clock _ (sym h.2 ∙ k))
  same_source (Module m) (Input j) w h k = absurd (apart_Module_Input _ _ (sym h.2 ∙ k.2))
  same_source (Module m) (Module n) w h k = ap Module (same_place spots rise m n h.0 h.1 (k.1 ∙ ap (λ (s : Spot). Some s) (sym (spots_equal h.0 k.0 (sym h.2 ∙ k.2)))))

  -- one source alone drives a wire
  pub driven_by_one : (a b : Source) (w : Wire) → Drives dev f spots a w → Drives dev f spots b w → a ≡ b
  driven_by_one a b w h k =
      let e : h.0 ≡ k.0 = sound.apart h.0 k.0 (is_source a h.0 h.1) (is_source b k.0 k.1) (joined_on (links_of dev f.sites) h.0 w k.0 h.2 (joined_back (links_of dev f.sites) k.0 w k.2)) in
      same_source a b h.0 h.1 (subst (λ (u : Wire). IsWireOf f spots b u) (sym e) k.1)

abbrev pub made_output : List ℕ → Source → Output
made_output n s = record { name = n; source = s }

one_output : (a b : Output) → a.name ≡ b.name → a.source ≡ b.source → a ≡ b
one_output a b n s = ap (λ (x : List ℕ). made_output x a.source) n ∙ ap (λ (x : Source). made_output b.name x) s

outputs_alike : (os ps : List Output) → map (λ (o : Output). o.name) os ≡ map (λ (o : Output). o.name) ps → ((k : ℕ) (o p : Output) → slice_get os k ≡ Some o → slice_get ps k ≡ Some p → o.source ≡ p.source) → os ≡ ps
outputs_alike [] [] e h = refl
outputs_alike [] (p ∷ ps) e h = cc
outputs_alike (o ∷ os) [] e h = cc
outputs_alike (o ∷ os) (p ∷ ps) e h =
    let n : o.name ≡ p.name = cc in let rest : map (λ (x : Output). x.name) os ≡ map (λ (x : Output). x.name) ps = cc in
    ap (λ (x : Output). x ∷ os) (one_output o p n (h 0 o p refl refl)) ∙ ap (λ (xs : List Output). p ∷ xs) (outputs_alike os ps rest (λ k. h (suc k)))

abbrev pub made_start : ℕ → ℕ → List ℕ → Start
made_start m i n = record { «module» = m; init = i; name = n }

one_start : (a b : Start) → a.module ≡ b.module → a.init ≡ b.init → a.name ≡ b.name → a ≡ b
one_start a b m i n = ap (λ (x : ℕ). made_start x a.init a.name) m ∙ ap (λ (x : ℕ). made_start b.module x a.name) i ∙ ap (λ (x : List ℕ). made_start b.module b.init x) n

abbrev pub beginning : List Spot → Start → Beginning
beginning spots start = (start.name, start.init, slice_get spots start.module)

abbrev pub beginning_at : StartAt → Beginning
beginning_at start = (start.name, start.init, Some start.spot)

starts_alike : (spots : List Spot) → Rises SpotIsBefore spots → (xs ys : List Start) (zs : List StartAt)
    → map {B = Beginning} (beginning spots) xs ≡ map {B = Beginning} beginning_at zs → map {B = Beginning} (beginning spots) ys ≡ map {B = Beginning} beginning_at zs → xs ≡ ys
starts_alike spots rise [] [] zs e f = refl
starts_alike spots rise [] (y ∷ ys) [] e f = cc
starts_alike spots rise [] (y ∷ ys) (z ∷ zs) e f = cc
starts_alike spots rise (x ∷ xs) [] [] e f = cc
starts_alike spots rise (x ∷ xs) [] (z ∷ zs) e f = cc
starts_alike spots rise (x ∷ xs) (y ∷ ys) [] e f = cc
starts_alike spots rise (x ∷ xs) (y ∷ ys) (z ∷ zs) e f =
    let a : beginning spots x ≡ beginning_at z = cc in let b : beginning spots y ≡ beginning_at z = cc in
    let rest_e : map {B = Beginning} (beginning spots) xs ≡ map {B = Beginning} beginning_at zs = cc in
    let rest_f : map {B = Beginning} (beginning spots) ys ≡ map {B = Beginning} beginning_at zs = cc in
    let at_x = ap (λ (t : Beginning). t.2) a in let at_y = ap (λ (t : Beginning). t.2) b in
    let same = one_start x y (same_place spots rise x.module y.module z.spot at_x at_y) (ap (λ (t : Beginning). t.1) a ∙ sym (ap (λ (t : Beginning). t.1) b)) (ap (λ (t : Beginning). t.0) a ∙ sym (ap (λ (t : Beginning). t.0) b)) in
    ap (λ (s : Start). s ∷ xs) same ∙ ap (λ (ss : List Start). y ∷ ss) (starts_alike spots rise xs ys zs rest_e rest_f)

abbrev pub made_circuit : Option (List ℕ) → List (List ℕ) → List (List Source) → List Output → List Start → Circuit
made_circuit c i m o s = record { clock = c; inputs = i; modules = m; outputs = o; starts = s }

one_circuit : (c d : Circuit) → c.clock ≡ d.clock → c.inputs ≡ d.inputs → c.modules ≡ d.modules → c.outputs ≡ d.outputs → c.starts ≡ d.starts → c ≡ d
one_circuit c d e f g h k =
    ap (λ (x : Option (List ℕ)). made_circuit x c.inputs c.modules c.outputs c.starts) e
    ∙ ap (λ (x : List (List ℕ)). made_circuit d.clock x c.modules c.outputs c.starts) f
    ∙ ap (λ (x : List (List Source)). made_circuit d.clock d.inputs x c.outputs c.starts) g
    ∙ ap (λ (x : List Output). made_circuit d.clock d.inputs d.modules x c.starts) h
    ∙ ap (λ (x : List Start). made_circuit d.clock d.inputs d.modules d.outputs x) k

abbrev pub placed : Circuit → List Spot → Placed
placed c s = record { circuit = c; spots = s }

length_names : (os : List Output) (ports : List Port) → map (λ (o : Output). o.name) os ≡ map (λ (p : Port). p.name) ports → length os ≡ length ports
length_names [] [] e = refl
length_names [] (p ∷ ports) e = cc
length_names (o ∷ os) [] e = cc
length_names (o ∷ os) (p ∷ ports) e = let rest : map (λ (x : Output). x.name) os ≡ map (λ (x : Port). x.name) ports = cc in ap suc (length_names os ports rest)

-- with the same spots the circuits are the same
same_circuit : (dev : Device) (f : FuseFile) → KeepsRules dev f → Sound dev f → (c d : Circuit) (spots : List Spot) → IsCircuitOf (placed c spots) dev f → IsCircuitOf (placed d spots) dev f → c ≡ d
same_circuit dev f rules sound c d spots p q =
    one_circuit c d (p.clock ∙ sym q.clock) (p.inputs ∙ sym q.inputs)
    (alike c.modules d.modules (p.modules ∙ sym q.modules) (λ m xs ys at_xs at_ys.
    let s = has_place c.modules spots m xs p.modules at_xs in
    alike xs ys (All-contains (λ (zs : List Source). length zs ≡ 8) c.modules xs p.eight (get_is_in c.modules m xs at_xs) ∙ sym (All-contains (λ (zs : List Source). length zs ≡ 8) d.modules ys q.eight (get_is_in d.modules m ys at_ys)))
    (λ k a b at_a at_b. driven_by_one dev f rules sound spots p.rise p.used a b (pin_wire s.0 k) (p.pins m k s.0 xs a s.1 at_xs at_a) (q.pins m k s.0 ys b s.1 at_ys at_b))))
    (outputs_alike c.outputs d.outputs (p.output_names ∙ sym q.output_names) (λ k a b at_a at_b.
    let port = has_place c.outputs f.outs k a (length_names c.outputs f.outs p.output_names) at_a in
    driven_by_one dev f rules sound spots p.rise p.used a.source b.source (pad_wire port.0.pad) (p.outputs k port.0 a port.1 at_a) (q.outputs k port.0 b port.1 at_b)))
    (starts_alike spots p.rise c.starts d.starts f.starts p.starts q.starts)

-- a sound array whose file keeps the rules has at most one circuit
pub one_circuit_of_array : (dev : Device) (f : FuseFile) → KeepsRules dev f → Sound dev f → (p q : Placed) → IsCircuitOf p dev f → IsCircuitOf q dev f → p ≡ q
one_circuit_of_array dev f rules sound p q is_p is_q =
    let spots = same_spots p.spots q.spots is_p.rise is_q.rise (λ s h. (is_q.used s).0 ((is_p.used s).1 h)) (λ s h. (is_p.used s).0 ((is_q.used s).1 h)) in
    ap (λ (s : List Spot). placed p.circuit s) spots
    ∙ ap (λ (c : Circuit). placed c q.spots) (same_circuit dev f rules sound p.circuit q.circuit q.spots (subst (λ (s : List Spot). IsCircuitOf (placed p.circuit s) dev f) spots is_p) is_q)

-- How many inputs and outputs an array has, and that no output is an input.
use Rattle.std.proofs.Common.{ℕ, suc, zero, ◌≡◌, ◌≢◌, ◌<◌, ◌≤◌, ◌+◌, List, [], ◌∷◌, ◌++◌, length, map, refl, sym, ap, ◌∙◌, arith}
use Rattle.std.specs.Prelude.{slice_index_or, All, AllPairs}
use Rattle.std.proofs.lemmas.Option.{get_or_from_slice_get}
use Rattle.std.proofs.lemmas.List.{length-append, length-map}
use Rattle.act1_base.proofs.ListGets.{place_of, get_mapped, get_within}
use Rattle.act1_base.proofs.Pigeonhole.{NotIn, Distinct, Below, pigeonhole}
use Rattle.act1_device.specs.declared.device.Device.{Device}
use Rattle.act1_device.specs.Laws.{DevicesAreSmall}
use Rattle.act1_fuses.specs.declared.fuses.FuseFile.{FuseFile}
use Rattle.act1_fuses.specs.declared.fuses.Port.{Port}
use Rattle.act1_fuses.specs.Array.{IsSource, pad_wire}
use Rattle.act1_fuses.specs.Rules.{KeepsRules}

abbrev Differ : Port → Port → Type 0
Differ a b = a.pad ≢ b.pad

pad_not_in : (p : Port) (ports : List Port) → ((j : ℕ) (d : Port) → j < length ports → p.pad ≢ (slice_index_or ports j d).pad) → NotIn p.pad (map (λ (q : Port). q.pad) ports)
pad_not_in p [] h = tt
pad_not_in p (q ∷ ports) h = (h 0 q (omega arith), pad_not_in p ports (λ j d low. h (suc j) d (omega arith)))

pads_distinct : (ports : List Port) → AllPairs Differ ports → Distinct (map (λ (q : Port). q.pad) ports)
pads_distinct [] h = tt
pads_distinct (p ∷ ports) h = (pad_not_in p ports (λ j d low. h 0 (suc j) d (omega arith) (omega arith)), pads_distinct ports (λ i j d low within. h (suc i) (suc j) d (omega arith) (omega arith)))

pads_below : (n : ℕ) (ports : List Port) → All (λ (port : Port). port.pad < n) ports → Below n (map (λ (q : Port). q.pad) ports)
pads_below n [] h = tt
pads_below n (p ∷ ports) h = (h 0 p (omega arith), pads_below n ports (λ k d low. h (suc k) d (omega arith)))

-- inputs and outputs together are at most the pads
pub few_ports : DevicesAreSmall → (dev : Device) (f : FuseFile) → KeepsRules dev f → length f.ins + length f.outs ≤ 2112
few_ports small dev f rules =
    let ports = f.ins ++ f.outs in
    let few = pigeonhole (length dev.pads) (map (λ (q : Port). q.pad) ports) (pads_distinct ports rules.once) (pads_below (length dev.pads) ports rules.pads) in
    let pads = (small dev).pads in
    omega (arith, length-map ports (λ (q : Port). q.pad), length-append f.ins f.outs)

front_get : {X : Type 0} (xs ys : List X) (i : ℕ) (d : X) → i < length xs → slice_index_or (xs ++ ys) i d ≡ slice_index_or xs i d
front_get [] ys i d low = absurd (omega arith)
front_get (x ∷ xs) ys zero d low = refl
front_get (x ∷ xs) ys (suc i) d low = front_get xs ys i d (omega arith)

back_get : {X : Type 0} (xs ys : List X) (i : ℕ) (d : X) → slice_index_or (xs ++ ys) (length xs + i) d ≡ slice_index_or ys i d
back_get [] ys i d = let e : 0 + i ≡ i = omega arith in rw e refl
back_get (x ∷ xs) ys i d = let e : suc (length xs) + i ≡ suc (length xs + i) = omega arith in rw e (back_get xs ys i d)

-- the pads of the inputs differ
pub inputs_once : (dev : Device) (f : FuseFile) → KeepsRules dev f → AllPairs (λ (a b : Port). a.pad ≢ b.pad) f.ins
inputs_once dev f rules = λ i j d low within e.
    rules.once i j d low (omega (arith, length-append f.ins f.outs))
    (ap (λ (p : Port). p.pad) (front_get f.ins f.outs i d (omega arith)) ∙ e ∙ sym (ap (λ (p : Port). p.pad) (front_get f.ins f.outs j d within)))

-- the pad of an output is no input
pub outputs_apart : (dev : Device) (f : FuseFile) → KeepsRules dev f → All (λ (port : Port). ¬ IsSource f (pad_wire port.pad)) f.outs
outputs_apart dev f rules = λ k d low is.
    let i = place_of (map (λ (p : Port). p.pad) f.ins) (slice_index_or f.outs k d).pad is in
    let port = get_mapped (λ (p : Port). p.pad) f.ins i.0 (slice_index_or f.outs k d).pad i.1 in
    let within = get_within f.ins i.0 port.0 port.1 in
    rules.once i.0 (length f.ins + k) d (omega arith) (omega (arith, length-append f.ins f.outs))
    (ap (λ (p : Port). p.pad) (front_get f.ins f.outs i.0 d within ∙ get_or_from_slice_get f.ins i.0 port.0 d port.1) ∙ port.2 ∙ sym (ap (λ (p : Port). p.pad) (back_get f.ins f.outs k d)))

-- A module that holds its own bit means the latch that holds itself, and a constant doesn't.
use Rattle.std.proofs.Common.{ℕ, suc, zero, ◌≡◌, ◌<◌, Bool, true, false, List, [], ◌∷◌, ◌++◌, length, refl, arith, ap, sym, subst, ◌∙◌, Some}
use Rattle.std.specs.Prelude.{All, codes, slice_get, slice_index_or}
use Rattle.std.proofs.lemmas.List.Elements.{All-from_recursion, recursion_from_All}
use Rattle.std.specs.List.{AllByRecursion}
use Rattle.act1_blif.specs.declared.blif.Latch.{Latch}
use Rattle.act1_blif.specs.Run.{Shows}
use Rattle.act1_circuit.specs.declared.circuit.Circuit.{Circuit}
use Rattle.act1_circuit.specs.declared.circuit.Start.{Start}
use Rattle.act1_circuit.specs.declared.circuit.Output.{Output}
use Rattle.act1_circuit.specs.declared.circuit.Source.{Source}
use Rattle.act1_circuit.specs.declared.circuit.Source.TheVariants.{Zero, Module}
use Rattle.act1_circuit.specs.Range.{HasSource}
use Rattle.act1_circuit.specs.Firing.{run, fire, fire_all, low_bits, high_bits, RestsAlong, IsAtRest, Waves, IsWave}
use Rattle.act1_meaning.specs.Meaning.{Means, StartsLatch, IsCase}
use Rattle.act1_samples.proofs.Netlists.{hold, hold_starts}

abbrev pub held : Latch
held = record { name = codes "q"; input = 0; init = 2 }

abbrev pub held_start : Start
held_start = record { «module» = 0; init = 2; name = codes "q" }

abbrev pub keeper : Circuit
keeper = record {
  clock = Some (codes "clk");
  inputs = [];
  modules = (Module 0 ∷ Zero ∷ Zero ∷ Zero ∷ Zero ∷ Zero ∷ Zero ∷ Zero ∷ []) ∷ [];
  outputs = record { name = codes "q"; source = Module 0 } ∷ [];
  starts = held_start ∷ [];
}

keeps_one : (clock : Bool) (x : List Bool) (bit : Bool) (m : ℕ) → fire keeper clock x (bit ∷ []) m ≡ bit ∷ []
keeps_one clock x bit zero = refl
keeps_one clock x bit (suc m) = refl

keeps : (clock : Bool) (x : List Bool) (bit : Bool) (ms : List ℕ) → fire_all keeper clock x (bit ∷ []) ms ≡ bit ∷ []
keeps clock x bit [] = refl
keeps clock x bit (m ∷ ms) = ap (λ (bits : List Bool). fire_all keeper clock x bits ms) (keeps_one clock x bit m) ∙ keeps clock x bit ms

high_keeps : (x : List Bool) (bit : Bool) (w : Waves) → high_bits keeper (bit ∷ []) x w ≡ bit ∷ []
high_keeps x bit w = ap (λ (bits : List Bool). fire_all keeper true x bits w.high) (keeps false x bit w.low) ∙ keeps true x bit w.high

at_rest : (clock : Bool) (x bits : List Bool) (bit : Bool) → bits ≡ bit ∷ [] → IsAtRest keeper clock x bits
at_rest clock x bits bit e m low = ap (λ (b : List Bool). fire keeper clock x b m) e ∙ keeps_one clock x bit m ∙ sym e

rests : (bit : Bool) (bits : List Bool) → bits ≡ bit ∷ [] → (xs : List (List Bool)) (ws : List Waves) → RestsAlong keeper bits xs ws
rests bit bits e [] ws = tt
rests bit bits e (x ∷ xs) [] = tt
rests bit bits e (x ∷ xs) (w ∷ ws) =
    let low : low_bits keeper bits x w ≡ bit ∷ [] = ap (λ (b : List Bool). low_bits keeper b x w) e ∙ keeps false x bit w.low in
    let high : high_bits keeper bits x w ≡ bit ∷ [] = ap (λ (b : List Bool). high_bits keeper b x w) e ∙ high_keeps x bit w in
    (at_rest false x _ bit low, at_rest true x _ bit high, rests bit _ high xs ws)

shows : (bit : Bool) (bits : List Bool) → bits ≡ bit ∷ [] → (xs : List (List Bool)) (ws : List Waves) → length ws ≡ length xs → AllByRecursion (λ x. length x ≡ 0) xs → Shows hold (bit ∷ []) xs (run keeper bits xs ws)
shows bit bits e [] ws count none = tt
shows bit bits e (x ∷ xs) [] count none = absurd (omega (arith, count))
shows bit bits e (x ∷ xs) (w ∷ ws) count none =
    let low : low_bits keeper bits x w ≡ bit ∷ [] = ap (λ (b : List Bool). low_bits keeper b x w) e ∙ keeps false x bit w.low in
    let high : high_bits keeper bits x w ≡ bit ∷ [] = ap (λ (b : List Bool). high_bits keeper b x w) e ∙ high_keeps x bit w in (
      bit ∷ [],
      record { inputs = none.0; latches = refl; values = ap (λ (y : List Bool). (y ++ bit ∷ []) ++ []) (sym (empty x none.0)) },
      ap (λ (b : List Bool). slice_index_or b 0 false ∷ []) low,
      shows bit (high_bits keeper bits x w) high xs ws (let c = count in omega arith) none.1,
    )
  where
    empty : (x : List Bool) → length x ≡ 0 → x ≡ []
    empty [] h = refl
    empty (b ∷ x) h = absurd (omega (arith, h))

is_start : StartsLatch hold held_start 0 held
is_start = record { is = refl; name = refl; init = refl }

one_bit : (q bits : List Bool) → length q ≡ 1 → length bits ≡ 1 → slice_get bits 0 ≡ slice_get q 0 → (bit : Bool) × (q ≡ bit ∷ []) × (bits ≡ bit ∷ [])
one_bit (a ∷ []) (b ∷ []) e f g = (a, refl, cc)
one_bit [] bits e f g = absurd (omega (arith, e))
one_bit (a ∷ b ∷ q) bits e f g = absurd (omega (arith, e))
one_bit (a ∷ []) [] e f g = absurd (omega (arith, f))
one_bit (a ∷ []) (b ∷ c ∷ bits) e f g = absurd (omega (arith, f))

keeper_means : Means keeper hold
keeper_means = record {
  in_range = record {
    pins = All-from_recursion (λ (sources : List Source). (length sources ≡ 8) × All (HasSource keeper) sources) keeper.modules
        ((refl, All-from_recursion (HasSource keeper) (Module 0 ∷ Zero ∷ Zero ∷ Zero ∷ Zero ∷ Zero ∷ Zero ∷ Zero ∷ []) (omega arith, (tt, (tt, (tt, (tt, (tt, (tt, (tt, tt))))))))), tt);
    outputs = All-from_recursion (λ (o : Output). HasSource keeper o.source) keeper.outputs (omega arith, tt);
    starts = All-from_recursion (λ (start : Start). start.module < 1) (held_start ∷ []) (omega arith, tt);
    few_inputs = omega arith;
    few_outputs = omega arith;
    few_modules = omega arith;
  };
  ports = record {
    clock = refl;
    inputs = refl;
    outputs = refl;
    starts = All-from_recursion (λ (start : Start). (k : ℕ) × (latch : Latch) × StartsLatch hold start k latch) (held_start ∷ []) ((0, held, is_start), tt);
    apart = λ i j d low in_range. absurd (omega arith);
  };
  shows = λ q bits xs ws k.
      let one = one_bit q bits k.state.one_each k.one_each (k.agrees held_start 0 0 held refl is_start) in
      subst (λ (s : List Bool). Shows hold s xs (run keeper bits xs ws)) (sym one.1)
      (shows one.0 bits one.2 xs ws k.waves.count (recursion_from_All (λ (x : List Bool). length x ≡ 0) xs k.vectors));
  rests = λ q bits xs ws k.
      let one = one_bit q bits k.state.one_each k.one_each (k.agrees held_start 0 0 held refl is_start) in rests one.0 bits one.2 xs ws;
}

-- the constant 0 in its place
abbrev pub constant : Circuit
constant = record { clock = Some (codes "clk"); inputs = []; modules = []; outputs = record { name = codes "q"; source = Zero } ∷ []; starts = [] }

constant_case : IsCase IsWave constant hold (true ∷ []) [] ([] ∷ []) (record { low = []; high = [] } ∷ [])
constant_case = record {
  state = hold_starts true;
  one_each = refl;
  agrees = λ start j k latch is. cc;
  vectors = All-from_recursion (λ (x : List Bool). length x ≡ 0) ([] ∷ []) (refl, tt);
  waves = record { count = refl; each = All-from_recursion (λ (w : Waves). IsWave 0 w.low × IsWave 0 w.high) (record { low = []; high = [] } ∷ []) ((refl, refl), tt) };
}

not_shown : ¬ Shows hold (true ∷ []) ([] ∷ []) ((false ∷ []) ∷ [])
not_shown s =
    let v : slice_index_or s.0 0 false ≡ true = ap (λ (v : List Bool). slice_index_or v 0 false) s.1.values in
    let w : false ≡ slice_index_or s.0 0 false = ap (λ (y : List Bool). slice_index_or y 0 false) s.2 in
    let e : false ≡ true = w ∙ v in cc

constant_means_not : ¬ Means constant hold
constant_means_not means = not_shown (means.shows (true ∷ []) [] ([] ∷ []) (record { low = []; high = [] } ∷ []) constant_case)

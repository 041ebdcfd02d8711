-- What the nets of a circuit join, found module by module and output by output.
use Rattle.std.proofs.Common.{ℕ, zero, suc, ◌≡◌, ◌+◌, ◌<◌, ◌≤◌, ◌^◌, Bool, true, false, cond, List, [], ◌∷◌, ◌++◌, length, map, take, drop, get_or, Some, ◌⊎◌, inl, inr, refl, sym, ap, subst, ◌∙◌, arith, append_assoc, append-nil, drop-cons, add-one}
use Rattle.std.specs.Prelude.{filter, All, Contains, slice_get}
use Rattle.std.proofs.lemmas.Bool.{cases_eq, false≢true}
use Rattle.std.proofs.lemmas.List.{length-map, length-append, map-append, take_all, get_or_read}
use Rattle.std.proofs.lemmas.List.Elements.{All-nil, All-cons, All-append, All-map, All-weaker, All-contains_itself, All-push, filter_more, Contains-append_left as append_left, Contains-append_right as append_right}
use Rattle.std.proofs.lemmas.List.Sums.{length-filter, count_by-le-length}
use Rattle.act1_device.specs.declared.device.Device.{Device}
use Rattle.act1_circuit.specs.declared.circuit.Circuit.{Circuit}
use Rattle.act1_circuit.specs.declared.circuit.Output.{Output}
use Rattle.act1_circuit.specs.declared.circuit.Source.{Source}
use Rattle.act1_circuit.specs.declared.circuit.Source.TheVariants.{Input, Module}
use Rattle.act1_circuit.specs.Range.{InRange}
use Rattle.act1_base.specs.Lists.{numbers}
use Rattle.act1_plan.specs.Nets.{is_same_source}
use Rattle.act1_base.proofs.ListGets.{some_is}
use Rattle.act1_place.specs.Gains.{AreNets, AreNumbers, AreTouching}
use Rattle.act1_place.specs.Kept.{users, joins_of, all_joins, joins, net_at}
use Rattle.act1_place.specs.NetSteps.{drives, driven_pads}
use Rattle.act1_place.specs.Perimeter.{End, output_ends, pad_place, nets_of}
use Rattle.act1_place.specs.declared.net.Joins.{Joins}
use Rattle.act1_place.specs.declared.net.Place.{Place}
use Rattle.act1_base.proofs.Elements.{number_in, here as first_one}

-- one module more

users_at : (net : Source) (modules : List (List Source)) (m : ℕ) (pins : List Source) → m < length modules → pins ≡ get_or modules m pins
    → users net m (drop m modules) ≡ cond (drives net pins) (m ∷ []) [] ++ users net (m + 1) (drop (m + 1) modules)
users_at net modules m pins low is =
    ap (users net m) (drop-cons modules m pins low)
    ∙ (λ i. cond (drives net (sym is i)) (m ∷ []) [] ++ users net (m + 1) (drop (sym (add-one m) i) modules))

pub users_push : (found : List ℕ) (net : Source) (modules : List (List Source)) (m : ℕ) (pins : List Source) (whole : List ℕ) → m < length modules → pins ≡ get_or modules m pins → drives net pins ≡ true
    → found ++ users net m (drop m modules) ≡ whole → (found ++ m ∷ []) ++ users net (m + 1) (drop (m + 1) modules) ≡ whole
users_push found net modules m pins whole low is passes e =
    append_assoc found (m ∷ []) (users net (m + 1) (drop (m + 1) modules))
    ∙ ap (λ (ms : List ℕ). found ++ ms) (sym (users_at net modules m pins low is ∙ ap (λ (b : Bool). cond b (m ∷ []) [] ++ users net (m + 1) (drop (m + 1) modules)) passes))
    ∙ e

pub users_skip : (found : List ℕ) (net : Source) (modules : List (List Source)) (m : ℕ) (pins : List Source) (whole : List ℕ) → m < length modules → pins ≡ get_or modules m pins → drives net pins ≡ false
    → found ++ users net m (drop m modules) ≡ whole → found ++ users net (m + 1) (drop (m + 1) modules) ≡ whole
users_skip found net modules m pins whole low is fails e =
    ap (λ (ms : List ℕ). found ++ ms) (sym (users_at net modules m pins low is ∙ ap (λ (b : Bool). cond b (m ∷ []) [] ++ users net (m + 1) (drop (m + 1) modules)) fails)) ∙ e

-- one output more

module _ (dev : Device) (net : Source) where
  abbrev end_of : ℕ → Output → End
  end_of pad o = record { source = o.source; place = pad_place dev pad }

  pads_at : (first : ℕ) (outputs : List Output) (o : Output) → driven_pads dev net first (o ∷ outputs) ≡ cond (is_same_source o.source net) (pad_place dev first ∷ []) [] ++ driven_pads dev net (first + 1) outputs
  pads_at first outputs o = by (is_same_source o.source net)
    where
      rest : List End
      rest = filter (λ (e : End). is_same_source e.source net) (output_ends dev (first + 1) outputs)

      by : (b : Bool) → map (λ (e : End). e.place) (cond b (end_of first o ∷ rest) rest) ≡ cond b (pad_place dev first ∷ []) [] ++ map (λ (e : End). e.place) rest
      by true = refl
      by false = refl

  pads_next : (first at : ℕ) (outputs : List Output) (o : Output) → at < length outputs → o ≡ get_or outputs at o
      → driven_pads dev net (first + at) (drop at outputs) ≡ cond (is_same_source o.source net) (pad_place dev (first + at) ∷ []) [] ++ driven_pads dev net (first + (at + 1)) (drop (at + 1) outputs)
  pads_next first at outputs o low is =
      ap (driven_pads dev net (first + at)) (drop-cons outputs at o low ∙ (λ i. sym is i ∷ drop (sym (add-one at) i) outputs))
      ∙ pads_at (first + at) (drop (at + 1) outputs) o
      ∙ ap (λ (n : ℕ). cond (is_same_source o.source net) (pad_place dev (first + at) ∷ []) [] ++ driven_pads dev net n (drop (at + 1) outputs)) (omega arith)

  pub pads_push : (found : List Place) (first at : ℕ) (outputs : List Output) (o : Output) (whole : List Place) → at < length outputs → o ≡ get_or outputs at o → is_same_source o.source net ≡ true
      → found ++ driven_pads dev net (first + at) (drop at outputs) ≡ whole → (found ++ pad_place dev (first + at) ∷ []) ++ driven_pads dev net (first + (at + 1)) (drop (at + 1) outputs) ≡ whole
  pads_push found first at outputs o whole low is passes e =
      let rest = driven_pads dev net (first + (at + 1)) (drop (at + 1) outputs) in
      append_assoc found (pad_place dev (first + at) ∷ []) rest
      ∙ ap (λ (ps : List Place). found ++ ps) (sym (pads_next first at outputs o low is ∙ ap (λ (b : Bool). cond b (pad_place dev (first + at) ∷ []) [] ++ rest) passes))
      ∙ e

  pub pads_skip : (found : List Place) (first at : ℕ) (outputs : List Output) (o : Output) (whole : List Place) → at < length outputs → o ≡ get_or outputs at o → is_same_source o.source net ≡ false
      → found ++ driven_pads dev net (first + at) (drop at outputs) ≡ whole → found ++ driven_pads dev net (first + (at + 1)) (drop (at + 1) outputs) ≡ whole
  pads_skip found first at outputs o whole low is fails e =
      let rest = driven_pads dev net (first + (at + 1)) (drop (at + 1) outputs) in
      ap (λ (ps : List Place). found ++ ps) (sym (pads_next first at outputs o low is ∙ ap (λ (b : Bool). cond b (pad_place dev (first + at) ∷ []) [] ++ rest) fails)) ∙ e

-- how many there are, and which

users_few : (net : Source) (first : ℕ) (modules : List (List Source)) → length (users net first modules) ≤ length modules
users_few net first [] = omega arith
users_few net first (pins ∷ modules) = by (drives net pins) (users_few net (first + 1) modules)
  where
    by : (b : Bool) → length (users net (first + 1) modules) ≤ length modules → length (cond b (first ∷ []) [] ++ users net (first + 1) modules) ≤ suc (length modules)
    by true h = omega (arith, h)
    by false h = omega (arith, h)

users_below : (net : Source) (n first : ℕ) (modules : List (List Source)) → first + length modules ≤ n → All (λ m. m < n) (users net first modules)
users_below net n first [] h = All-nil (λ m. m < n)
users_below net n first (pins ∷ modules) h = by (drives net pins) (users_below net n (first + 1) modules (omega (arith, h)))
  where
    by : (b : Bool) → All (λ m. m < n) (users net (first + 1) modules) → All (λ m. m < n) (cond b (first ∷ []) [] ++ users net (first + 1) modules)
    by true k = All-cons (λ m. m < n) first (users net (first + 1) modules) (omega (arith, h)) k
    by false k = k

ends_count : (dev : Device) (pad : ℕ) (outputs : List Output) → length (output_ends dev pad outputs) ≡ length outputs
ends_count dev pad [] = refl
ends_count dev pad (o ∷ outputs) = ap suc (ends_count dev (pad + 1) outputs)

pads_few : (dev : Device) (net : Source) (first : ℕ) (outputs : List Output) → length (driven_pads dev net first outputs) ≤ length outputs
pads_few dev net first outputs =
    let p : End → Bool = λ (e : End). is_same_source e.source net in
    let ends = output_ends dev first outputs in
    omega (arith, length-map (filter p ends) (λ (e : End). e.place), length-filter p ends, count_by-le-length p ends, ends_count dev first outputs)

numbers_count : (first count : ℕ) → length (numbers first count) ≡ count
numbers_count first zero = refl
numbers_count first (suc count) = ap suc (numbers_count (first + 1) count)

module _ (dev : Device) (c : Circuit) (range : InRange c) where
  -- what holds of a net
  record IsNet (n : Joins) : Type 0 where
    modules : All (λ m. m < length c.modules) n.modules
    sizes : length n.modules + length n.pads < 2 ^ 32

  input_net : (i : ℕ) → IsNet (joins_of dev c (Input i))
  input_net i = record {
    modules = users_below (Input i) (length c.modules) 0 c.modules (omega arith);
    sizes = let few = users_few (Input i) 0 c.modules in let pads = pads_few dev (Input i) (length c.inputs) c.outputs in let m = range.few_modules in let o = range.few_outputs in omega (arith, few, pads, m, o);
  }

  module_net : (m : ℕ) → m < length c.modules → IsNet (joins_of dev c (Module m))
  module_net m low = record {
    modules = All-cons (λ k. k < length c.modules) m (users (Module m) 0 c.modules) low (users_below (Module m) (length c.modules) 0 c.modules (omega arith));
    sizes = let few = users_few (Module m) 0 c.modules in let pads = pads_few dev (Module m) (length c.inputs) c.outputs in let k = range.few_modules in let o = range.few_outputs in omega (arith, few, pads, k, o);
  }

  nets_are : All IsNet (all_joins dev c)
  nets_are =
      let ins = numbers 0 (length c.inputs) in
      let mods = numbers 0 (length c.modules) in
      All-map IsNet (joins_of dev c) (map Input ins ++ map Module mods)
      (All-append (λ (s : Source). IsNet (joins_of dev c s)) (map Input ins) (map Module mods)
      (All-map (λ (s : Source). IsNet (joins_of dev c s)) Input ins (λ k d low. input_net (get_or ins k d)))
      (All-map (λ (s : Source). IsNet (joins_of dev c s)) Module mods
      (All-weaker (Contains mods) (λ m. IsNet (joins_of dev c (Module m))) (λ m k. let r = number_in 0 (length c.modules) m k in let low = r.1 in module_net m (omega (arith, low))) mods (All-contains_itself mods))))

  pub nets_fit : (count : ℕ) → count ≡ length c.modules → AreNets count (all_joins dev c)
  nets_fit count e = record {
    modules = λ k d low j m inside. let h = (nets_are k d low).modules j m inside in omega (arith, h, e);
    sizes = λ k d low. (nets_are k d low).sizes;
    few =
        let ins = numbers 0 (length c.inputs) in
        let mods = numbers 0 (length c.modules) in
        let a = range.few_inputs in
        let b = range.few_modules in
        omega (arith, length-map (nets_of c) (joins_of dev c), length-append (map Input ins) (map Module mods), length-map ins Input, length-map mods Module, numbers_count 0 (length c.inputs), numbers_count 0 (length c.modules), a, b);
  }

-- the nets that join a module

pub record IsTouching (nets : List Joins) (m n : ℕ) (numbers : List ℕ) : Type 0 where
  pub is : map (net_at nets) numbers ≡ filter (joins m) (take n nets)
  pub listed : All (λ i. i < length nets) numbers
  pub short : length numbers ≤ n
  pub all : (i : ℕ) → i < n → joins m (net_at nets i) ≡ true → Contains numbers i

pub touching_first : (nets : List Joins) (m : ℕ) → IsTouching nets m 0 []
touching_first nets m = record { is = refl; listed = All-nil (λ i. i < length nets); short = omega arith; all = λ i low. absurd (omega (arith, low)) }

module _ (nets : List Joins) (m n : ℕ) (numbers : List ℕ) (net : Joins) (low : n < length nets) (net_is : net ≡ get_or nets n net) (h : IsTouching nets m n numbers) where
  next : (b : Bool) → joins m net ≡ b → filter (joins m) (take (n + 1) nets) ≡ filter (joins m) (take n nets) ++ cond b (net ∷ []) []
  next b e =
      filter_more (joins m) nets n net low
      ∙ ap (λ (x : Joins). filter (joins m) (take n nets) ++ cond (joins m x) (x ∷ []) []) (sym net_is)
      ∙ ap (λ (c : Bool). filter (joins m) (take n nets) ++ cond c (net ∷ []) []) e

  pub touching_push : joins m net ≡ true → IsTouching nets m (n + 1) (numbers ++ n ∷ [])
  touching_push e = record {
    is = map-append (net_at nets) numbers (n ∷ []) ∙ (λ i. h.is i ++ here i ∷ []) ∙ sym (next true e);
    listed = All-push (λ i. i < length nets) numbers n h.listed low;
    short = let s = h.short in let long = length-append numbers (n ∷ []) in omega (arith, s, long);
    all = λ i within k. from i within k (cases_eq i n);
  }
    where
      from : (i : ℕ) → i < n + 1 → joins m (net_at nets i) ≡ true → (i ≡ n) ⊎ (i ≡ n → ⊥) → Contains (numbers ++ n ∷ []) i
      from i within k (inl same) = append_right numbers (n ∷ []) i (first_one i n [] (sym same))
      from i within k (inr other) = append_left numbers (n ∷ []) i (h.all i (omega (arith, within, other)) k)

      here : net_at nets n ≡ net
      here = get_or_same nets n net (record { modules = []; pads = [] }) low ∙ sym net_is
        where
          get_or_same : (xs : List Joins) (i : ℕ) (x d : Joins) → i < length xs → get_or xs i d ≡ get_or xs i x
          get_or_same [] i x d k = absurd (omega (arith, k))
          get_or_same (y ∷ xs) zero x d k = refl
          get_or_same (y ∷ xs) (suc i) x d k = get_or_same xs i x d (omega (arith, k))

  here_at : net_at nets n ≡ net
  here_at = sym (get_or_read nets n net low net_is (record { modules = []; pads = [] }))

  pub touching_skip : joins m net ≡ false → IsTouching nets m (n + 1) numbers
  touching_skip e = record {
    is = h.is ∙ sym (next false e ∙ append-nil (filter (joins m) (take n nets)));
    listed = h.listed;
    short = let s = h.short in omega (arith, s);
    all = λ i within k. from i within k (cases_eq i n);
  }
    where
      from : (i : ℕ) → i < n + 1 → joins m (net_at nets i) ≡ true → (i ≡ n) ⊎ (i ≡ n → ⊥) → Contains numbers i
      from i within k (inl same) = absurd (false≢true (sym e ∙ sym (ap (joins m) here_at) ∙ sym (ap (λ (j : ℕ). joins m (net_at nets j)) same) ∙ k))
      from i within k (inr other) = h.all i (omega (arith, within, other)) k

pub touching_done : (nets : List Joins) (m n : ℕ) (numbers : List ℕ) → length nets ≤ n → n ≤ length nets → IsTouching nets m n numbers → AreNumbers nets m numbers
touching_done nets m n numbers all few h = record {
  touched = h.is ∙ ap (filter (joins m)) (take_all n nets all);
  listed = h.listed;
  short = let s = h.short in omega (arith, s, few);
  all = λ i low. h.all i (omega (arith, low, all));
}

-- the lists of the modules so far

pub numbers_first : (nets : List Joins) → AreTouching 0 nets []
numbers_first nets = record { each = refl; numbers = λ m numbers e. cc }

last_or_before : (xs : List (List ℕ)) (x : List ℕ) (m : ℕ) (y : List ℕ) → slice_get (xs ++ x ∷ []) m ≡ Some y → (slice_get xs m ≡ Some y) ⊎ ((m ≡ length xs) × (x ≡ y))
last_or_before [] x zero y e = inr (refl, some_is x y e)
last_or_before [] x (suc m) y e = cc
last_or_before (z ∷ xs) x zero y e = inl e
last_or_before (z ∷ xs) x (suc m) y e = by (last_or_before xs x m y e)
  where
    by : (slice_get xs m ≡ Some y) ⊎ ((m ≡ length xs) × (x ≡ y)) → (slice_get xs m ≡ Some y) ⊎ ((suc m ≡ length (z ∷ xs)) × (x ≡ y))
    by (inl h) = inl h
    by (inr h) = inr (ap suc h.0, h.1)

pub numbers_push : (nets : List Joins) (n : ℕ) (found : List (List ℕ)) (numbers : List ℕ) → AreTouching n nets found → AreNumbers nets n numbers → AreTouching (n + 1) nets (found ++ numbers ∷ [])
numbers_push nets n found numbers h k = record {
  each = let long = length-append found (numbers ∷ []) in let each = h.each in omega (arith, long, each);
  numbers = λ m ms e. by m ms (last_or_before found numbers m ms e);
}
  where
    by : (m : ℕ) (ms : List ℕ) → (slice_get found m ≡ Some ms) ⊎ ((m ≡ length found) × (numbers ≡ ms)) → AreNumbers nets m ms
    by m ms (inl before) = h.numbers m ms before
    by m ms (inr r) = subst (λ (j : ℕ). AreNumbers nets j ms) (sym (r.0 ∙ h.each)) (subst (AreNumbers nets n) r.1 k)

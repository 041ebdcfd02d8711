-- Copies are the same, and the netlist as it stands shows what it shows.
use Rattle.std.proofs.Common.{ℕ, suc, zero, ◌≡◌, ◌<◌, ◌↔◌, Bool, true, List, [], ◌∷◌, length, map, replicate, refl, sym, ap, subst, ◌∙◌, Option, Some, arith}
use Rattle.std.specs.Prelude.{IsTrue, slice_get}
use mathlib.Core.HLevel.{is_prop→PathP}
use mathlib.Core.Bool.{Bool-set}
use Rattle.std.proofs.lemmas.List.{length-replicate}
use Rattle.act1_base.proofs.ListGets.{get_mapped}
use Rattle.act1_logic.specs.declared.cover.Cover.{Cover}
use Rattle.act1_logic.specs.declared.cover.Row.{Row}
use Rattle.act1_logic.specs.Rows.{is_cover}
use Rattle.act1_blif.specs.declared.blif.Blif.{Blif}
use Rattle.act1_blif.specs.declared.blif.Latch.{Latch}
use Rattle.act1_blif.specs.declared.blif.Node.{Node}
use Rattle.act1_blif.specs.Graph.{signal_count}
use Rattle.act1_blif.specs.Laws.{IsWhole}
use Rattle.act1_blif.specs.Names.{signal_name}
use Rattle.act1_blif.specs.Rules.{HasLevels, is_blif}
use Rattle.act1_blif.specs.Run as blif
use Rattle.act1_blif.specs.Run.{signal, signals}
use Rattle.act1_net.specs.declared.net.Net.{Net}
use Rattle.act1_net.specs.declared.net.NetTerm.{NetTerm}
use Rattle.act1_net.specs.declared.net.NetTerm.TheVariants as term
use Rattle.act1_net.specs.Net.{AreWithin, chosen, IsNetOf, IsPlainOf, Shows, term_value}
use Rattle.act1_net.proofs.Chosen.{chosen_all}
use Rattle.act1_net.proofs.FitLists.{length_map}

-- covers and netlists with equal parts are equal: what else they keep is a fact
pub same_cover : (a c : Cover) → a.width ≡ c.width → a.output ≡ c.output → a.rows ≡ c.rows → a ≡ c
same_cover a c width output rows = λ i. record {
  width = width i;
  output = output i;
  rows = rows i;
  valid = is_prop→PathP (λ j. IsTrue (is_cover (width j) (output j) (rows j))) (λ j. Bool-set (is_cover (width j) (output j) (rows j)) true) a.valid c.valid i;
}

pub same_node : (a c : Node) → a.name ≡ c.name → a.inputs ≡ c.inputs → a.cover.width ≡ c.cover.width → a.cover.output ≡ c.cover.output → a.cover.rows ≡ c.cover.rows → a ≡ c
same_node a c name inputs width output rows = λ i. record { name = name i; inputs = inputs i; cover = same_cover a.cover c.cover width output rows i }

pub same_netlist : (a c : Blif) → a.model ≡ c.model → a.clock ≡ c.clock → a.inputs ≡ c.inputs → a.latches ≡ c.latches → a.nodes ≡ c.nodes → a.outputs ≡ c.outputs → a ≡ c
same_netlist a c model clock inputs latches nodes outputs = λ j. record {
  model = model j;
  clock = clock j;
  inputs = inputs j;
  latches = latches j;
  nodes = nodes j;
  outputs = outputs j;
  valid = is_prop→PathP (λ k. IsTrue (is_blif (model k) (clock k) (inputs k) (latches k) (nodes k) (outputs k))) (λ k. Bool-set (is_blif (model k) (clock k) (inputs k) (latches k) (nodes k) (outputs k)) true) a.valid c.valid j;
  acyclic = is_prop→PathP (λ k. ∥ HasLevels (inputs k) (latches k) (nodes k) ∥₁) (λ k. squash₁) a.acyclic c.acyclic j;
}

module _ (b : Blif) (whole : IsWhole b) (net : Net) (blif_is : net.blif ≡ b) (names : net.names ≡ map (signal_name b) b.outputs)
    (outputs : net.outputs ≡ map term.Signal b.outputs) (next : net.next ≡ map (λ (latch : Latch). term.Signal latch.input) b.latches) where
  abbrev taken : Latch → NetTerm
  taken latch = term.Signal latch.input

  shown_same : (v : List Bool) (ss : List ℕ) → map (term_value v) (map term.Signal ss) ≡ signals v ss
  shown_same v [] = refl
  shown_same v (s ∷ ss) = ap (λ (ys : List Bool). signal v s ∷ ys) (shown_same v ss)

  next_same : (v : List Bool) (ls : List Latch) → map (term_value v) (map taken ls) ≡ map (λ (latch : Latch). signal v latch.input) ls
  next_same v [] = refl
  next_same v (l ∷ ls) = ap (λ (ys : List Bool). signal v l.input ∷ ys) (next_same v ls)

  shown_is : (v : List Bool) → map (term_value v) net.outputs ≡ signals v b.outputs
  shown_is v = ap (map (term_value v)) outputs ∙ shown_same v b.outputs

  next_is : (v : List Bool) → map (term_value v) net.next ≡ blif.next_state b v
  next_is v = ap (map (term_value v)) next ∙ next_same v b.latches

  to_net : (q : List Bool) (xs shown : List (List Bool)) → blif.Shows b q xs shown → Shows net q xs shown
  to_net q [] [] h = tt
  to_net q (x ∷ xs) (s ∷ ss) (v, fits, e, h) =
      (v, subst (λ (c : Blif). blif.Fits c q x v) (sym blif_is) fits, e ∙ sym (shown_is v), subst (λ (r : List Bool). Shows net r xs ss) (sym (next_is v)) (to_net (blif.next_state b v) xs ss h))
  to_net q [] (s ∷ ss) h = absurd h
  to_net q (x ∷ xs) [] h = absurd h

  from_net : (q : List Bool) (xs shown : List (List Bool)) → Shows net q xs shown → blif.Shows b q xs shown
  from_net q [] [] h = tt
  from_net q (x ∷ xs) (s ∷ ss) (v, fits, e, h) =
      (v, subst (λ (c : Blif). blif.Fits c q x v) blif_is fits, e ∙ shown_is v, from_net (blif.next_state b v) xs ss (subst (λ (r : List Bool). Shows net r xs ss) (next_is v) h))
  from_net q [] (s ∷ ss) h = absurd h
  from_net q (x ∷ xs) [] h = absurd h

  long : length (replicate (length b.latches) true) ≡ length b.latches
  long = length-replicate (length b.latches) true

  outputs_within : AreWithin (signal_count net.blif) net.outputs
  outputs_within k s is =
      let (o, there, e) = get_mapped term.Signal b.outputs k (term.Signal s) (ap (λ (ts : List NetTerm). slice_get ts k) (sym outputs) ∙ is) in
      let low = whole.outputs k o there in
      let same : o ≡ s = cc in
      subst (λ (c : Blif). s < signal_count c) (sym blif_is) (subst (λ (x : ℕ). x < signal_count b) same low)

  next_within : AreWithin (signal_count net.blif) net.next
  next_within k s is =
      let (latch, there, e) = get_mapped taken b.latches k (term.Signal s) (ap (λ (ts : List NetTerm). slice_get ts k) (sym next) ∙ is) in
      let low = whole.latches k latch there in
      let same : latch.input ≡ s = cc in
      subst (λ (c : Blif). s < signal_count c) (sym blif_is) (subst (λ (x : ℕ). x < signal_count b) same low)

  abbrev latch_name : Latch → List ℕ
  latch_name latch = latch.name

  abbrev latch_init : Latch → ℕ
  latch_init latch = latch.init

  pub plain_of : IsPlainOf b net
  plain_of = record {
    is_net = record {
      outputs = ap (λ (ts : List NetTerm). length ts) outputs ∙ length_map term.Signal b.outputs ∙ sym (ap (λ (ns : List (List ℕ)). length ns) names ∙ length_map _ b.outputs);
      next = ap (λ (ts : List NetTerm). length ts) next ∙ length_map taken b.latches ∙ ap (λ (c : Blif). length c.latches) (sym blif_is);
      outputs_within = outputs_within;
      next_within = next_within;
      clock = ap (λ (c : Blif). c.clock) blif_is;
      inputs = ap (λ (c : Blif). c.inputs) blif_is;
      names = names;
      each = long;
      latch_names = ap (λ (c : Blif). map latch_name c.latches) blif_is ∙ sym (chosen_all (length b.latches) (map latch_name b.latches) (length_map latch_name b.latches));
      latch_inits = ap (λ (c : Blif). map latch_init c.latches) blif_is ∙ sym (chosen_all (length b.latches) (map latch_init b.latches) (length_map latch_init b.latches));
      shows = λ q xs shown l. (
        λ h. from_net q xs shown (subst (λ (r : List Bool). Shows net r xs shown) (chosen_all (length b.latches) q l) h),
        λ h. subst (λ (r : List Bool). Shows net r xs shown) (sym (chosen_all (length b.latches) q l)) (to_net q xs shown h),
      );
    };
    blif = blif_is;
    outputs = outputs;
    next = next;
  }

-- a copy keeps what the netlist keeps
pub valid_same : (b : Blif) (model : List ℕ) (clock : Option (List ℕ)) (inputs : List (List ℕ)) (latches : List Latch) (nodes : List Node) (outputs : List ℕ)
    → model ≡ b.model → clock ≡ b.clock → inputs ≡ b.inputs → latches ≡ b.latches → nodes ≡ b.nodes → outputs ≡ b.outputs → is_blif model clock inputs latches nodes outputs ≡ true
valid_same b model clock inputs latches nodes outputs m c i l n o =
    ap (λ (x : List ℕ). is_blif x clock inputs latches nodes outputs) m
    ∙ ap (λ (x : Option (List ℕ)). is_blif b.model x inputs latches nodes outputs) c
    ∙ ap (λ (x : List (List ℕ)). is_blif b.model b.clock x latches nodes outputs) i
    ∙ ap (λ (x : List Latch). is_blif b.model b.clock b.inputs x nodes outputs) l
    ∙ ap (λ (x : List Node). is_blif b.model b.clock b.inputs b.latches x outputs) n
    ∙ ap (is_blif b.model b.clock b.inputs b.latches b.nodes) o ∙ b.valid

pub levels_same : (b : Blif) (inputs : List (List ℕ)) (latches : List Latch) (nodes : List Node) → inputs ≡ b.inputs → latches ≡ b.latches → nodes ≡ b.nodes → ∥ HasLevels inputs latches nodes ∥₁
levels_same b inputs latches nodes i l n =
    subst (λ (x : List (List ℕ)). ∥ HasLevels x latches nodes ∥₁) (sym i)
    (subst (λ (x : List Latch). ∥ HasLevels b.inputs x nodes ∥₁) (sym l)
    (subst (λ (x : List Node). ∥ HasLevels b.inputs b.latches x ∥₁) (sym n) b.acyclic))

-- Steps of taking long wires.
use Rattle.std.proofs.Common.{ℕ, ◌≡◌, ◌+◌, ◌<◌, ◌==◌, ◌&&◌, ◌||◌, not, Bool, true, false, cond, List, [], ◌∷◌, ◌++◌, length, take, get_or, Option, Some, None, refl, sym, ap, ◌∙◌, append-nil}
use Rattle.std.specs.Prelude.{filter, Ok, Err}
use Rattle.std.specs.List.{list_any}
use Rattle.std.proofs.lemmas.List.Elements.{filter_more}
use Rattle.act1_device.specs.declared.device.Device.{Device}
use Rattle.act1_device.specs.Sites.{column_of}
use Rattle.act1_circuit.specs.declared.circuit.Source.{Source}
use Rattle.act1_plan.specs.declared.plan.Plan.{Plan}
use Rattle.act1_groute.specs.Lists.{least_by}
use Rattle.act1_groute.specs.Nets.{is_same_source, source_line, covers}
use Rattle.act1_groute.specs.Routes.{LongWire, Take, long_line, wire_of, nearest, all_longs, is_taken, candidates, least_candidate, is_served, with_candidate, take_for}
use Rattle.act1_groute.specs.RouteSteps.{demand, free_longs, crosses_both, column_distance, nearer, better, is_other, serves}
use Rattle.act1_groute.proofs.LeastFacts.{least_push, with_next}

module _ {X : Type 0} where
  -- what a filter leaves of what another one left
  pub filter_filter : (p q : X → Bool) (xs : List X) → filter q (filter p xs) ≡ filter (λ x. p x && q x) xs
  filter_filter p q [] = refl
  filter_filter p q (x ∷ xs) = from (filter_filter p q xs) (p x)
    where
      from : filter q (filter p xs) ≡ filter (λ x. p x && q x) xs → (b : Bool) → filter q (cond b (x ∷ filter p xs) (filter p xs)) ≡ cond (b && q x) (x ∷ filter (λ x. p x && q x) xs) (filter (λ x. p x && q x) xs)
      from rest true = ap (λ (ys : List X). cond (q x) (x ∷ ys) ys) rest
      from rest false = rest

  pub any_filter : (p q : X → Bool) (xs : List X) → list_any q (filter p xs) ≡ list_any (λ x. p x && q x) xs
  any_filter p q [] = refl
  any_filter p q (x ∷ xs) = from (any_filter p q xs) (p x)
    where
      from : list_any q (filter p xs) ≡ list_any (λ x. p x && q x) xs → (b : Bool) → list_any q (cond b (x ∷ filter p xs) (filter p xs)) ≡ ((b && q x) || list_any (λ x. p x && q x) xs)
      from rest true = ap (λ (b : Bool). q x || b) rest
      from rest false = rest

  pub filter_same : (p q : X → Bool) (xs : List X) → ((x : X) → p x ≡ q x) → filter p xs ≡ filter q xs
  filter_same p q [] h = refl
  filter_same p q (x ∷ xs) h = λ i. cond (h x i) (x ∷ filter_same p q xs h i) (filter_same p q xs h i)

  pub any_push : (p : X → Bool) (xs : List X) (x : X) → list_any p (xs ++ x ∷ []) ≡ (list_any p xs || p x)
  any_push p [] x = from (p x)
    where
      from : (b : Bool) → (b || false) ≡ b
      from true = refl
      from false = refl
  any_push p (y ∷ xs) x = ap (λ (b : Bool). p y || b) (any_push p xs x) ∙ from (p y)
    where
      from : (b : Bool) → (b || (list_any p xs || p x)) ≡ ((b || list_any p xs) || p x)
      from true = refl
      from false = refl

-- a channel is served by the source or by a long wire of the net
pub served_by : (dev : Device) (plan : Plan) (takes : List Take) (net : Source) (channel : ℕ) → is_served dev plan takes (demand net channel) ≡ (covers dev (source_line plan net) channel || list_any (serves dev net channel) takes)
served_by dev plan takes net channel =
    ap (λ (b : Bool). covers dev (source_line plan net) channel || b) (any_filter (λ (take : Take). is_same_source take.net net) (λ (take : Take). covers dev (wire_of take) channel) takes)

-- the candidates are those of the free wires that cross both channels
pub candidates_free : (dev : Device) (takes : List Take) (home channel : ℕ) → candidates dev takes home channel ≡ filter (crosses_both dev home channel) (free_longs dev takes)
candidates_free dev takes home channel =
    filter_same (λ w. not (is_taken takes w) && covers dev (long_line w) home && covers dev (long_line w) channel) (λ w. not (is_taken takes w) && crosses_both dev home channel w) (all_longs dev)
    (λ w. from (not (is_taken takes w)) (covers dev (long_line w) home) (covers dev (long_line w) channel))
    ∙ sym (filter_filter (λ w. not (is_taken takes w)) (crosses_both dev home channel) (all_longs dev))
  where
    from : (a b c : Bool) → (a && b && c) ≡ (a && (b && c))
    from true b c = refl
    from false b c = refl

-- what is free once a wire is taken
pub free_more : (dev : Device) (takes : List Take) (t : Take) → free_longs dev (takes ++ t ∷ []) ≡ filter (is_other t.wire) (free_longs dev takes)
free_more dev takes t =
    filter_same (λ w. not (is_taken (takes ++ t ∷ []) w)) (λ w. not (is_taken takes w) && is_other t.wire w) (all_longs dev)
    (λ w. ap not (any_push (λ (take : Take). (take.wire.column == w.column) && (take.wire.index == w.index)) takes t) ∙ from (is_taken takes w) ((t.wire.column == w.column) && (t.wire.index == w.index)))
    ∙ sym (filter_filter (λ w. not (is_taken takes w)) (is_other t.wire) (all_longs dev))
  where
    from : (a b : Bool) → not (a || b) ≡ (not a && not b)
    from true b = refl
    from false b = refl

pub free_first : (dev : Device) → free_longs dev [] ≡ all_longs dev
free_first dev = all (all_longs dev)
  where
    all : (ws : List LongWire) → filter (λ w. not (is_taken [] w)) ws ≡ ws
    all [] = refl
    all (w ∷ ws) = ap (λ (vs : List LongWire). w ∷ vs) (all ws)

-- one wire more
pub better_more : (dev : Device) (column home channel : ℕ) (free : List LongWire) (i : ℕ) (w d : LongWire) (best : Option LongWire) → i < length free → w ≡ get_or free i d
    → best ≡ least_by (column_distance column) (filter (crosses_both dev home channel) (take i free)) → better dev column home channel best w ≡ least_by (column_distance column) (filter (crosses_both dev home channel) (take (i + 1) free))
better_more dev column home channel free i w d best low is h =
    ap (λ (o : Option LongWire). better dev column home channel o w) h
    ∙ from (crosses_both dev home channel w)
    ∙ sym (ap (least_by f) (filter_more ok free i d low ∙ ap (λ (x : LongWire). filter ok (take i free) ++ cond (ok x) (x ∷ []) []) (sym is)))
  where
    f : LongWire → ℕ
    f = column_distance column

    ok : LongWire → Bool
    ok = crosses_both dev home channel

    by : (o : Option LongWire) → nearer column o w ≡ with_next (column_distance column) o w
    by None = refl
    by (Some best) = refl

    from : (b : Bool) → cond b (nearer column (least_by (column_distance column) (filter (crosses_both dev home channel) (take i free))) w) (least_by (column_distance column) (filter (crosses_both dev home channel) (take i free)))
        ≡ least_by (column_distance column) (filter (crosses_both dev home channel) (take i free) ++ cond b (w ∷ []) [])
    from true = by (least_by (column_distance column) (filter (crosses_both dev home channel) (take i free))) ∙ sym (least_push (column_distance column) (filter (crosses_both dev home channel) (take i free)) w)
    from false = ap (least_by (column_distance column)) (sym (append-nil (filter (crosses_both dev home channel) (take i free))))

-- what is taken for a demand that isn't served
module _ (dev : Device) (plan : Plan) (takes : List Take) (free : List LongWire) (net : Source) (channel home column : ℕ) (free_is : free ≡ free_longs dev takes) (unserved : is_served dev plan takes (demand net channel) ≡ false)
    (home_is : home ≡ nearest dev (source_line plan net) channel) (column_is : column ≡ column_of dev (source_line plan net)) where
  took : (o : Option LongWire) → o ≡ least_by (column_distance column) (filter (crosses_both dev home channel) free) → take_for dev plan takes (demand net channel) ≡ with_candidate dev plan takes (demand net channel) o
  took o h =
      ap (λ (b : Bool). cond b (Ok takes) (with_candidate dev plan takes (demand net channel) (least_candidate dev plan takes (demand net channel)))) unserved
      ∙ ap (with_candidate dev plan takes (demand net channel))
      (ap (least_by (column_distance (column_of dev (source_line plan net)))) (candidates_free dev takes (nearest dev (source_line plan net) channel) channel)
      ∙ sym (λ i. least_by (column_distance (column_is i)) (filter (crosses_both dev (home_is i) channel) (free_is i))) ∙ sym h)

  pub took_none : None ≡ least_by (column_distance column) (filter (crosses_both dev home channel) free) → take_for dev plan takes (demand net channel) ≡ Err (demand net channel)
  took_none h = took None h

  pub took_some : (w : LongWire) (t : Take) (more : List Take) → Some w ≡ least_by (column_distance column) (filter (crosses_both dev home channel) free) → t ≡ record { net = net; wire = w; home = home } → more ≡ takes ++ t ∷ []
      → take_for dev plan takes (demand net channel) ≡ Ok more
  took_some w t more h is grown =
      took (Some w) h ∙ sym (ap (λ (ts : List Take). Ok ts) grown ∙ ap (λ (u : Take). Ok (takes ++ u ∷ [])) is ∙ ap (λ (n : ℕ). Ok (takes ++ taken n ∷ [])) home_is)
    where
      taken : ℕ → Take
      taken n = record { net = net; wire = w; home = n }

-- What is kept of nets, net by net, and what sums over them are.
use Rattle.std.proofs.Common.{ℕ, zero, suc, ◌≡◌, ◌≢◌, ◌⊎◌, ◌+◌, ◌<◌, not, Bool, true, false, cond, List, [], ◌∷◌, ◌++◌, length, take, get_or, Some, refl, sym, ap, subst, ◌∙◌, inl, inr, arith, Contains}
use Rattle.std.specs.Prelude.{filter, sum_by, slice_get, slice_set}
use Rattle.std.proofs.lemmas.Bool.{cases_eq}
use Rattle.std.proofs.lemmas.List.{length-append, length-set, length-take, take_more, get_or_read}
use Rattle.std.proofs.lemmas.List.Elements.{filter_more, Contains-append_cases as append_cases}
use Rattle.std.proofs.lemmas.List.Sums.{sum_by-append, sum_by-cons}
use Rattle.act1_base.proofs.ListGets.{some_is}
use Rattle.act1_circuit.specs.declared.circuit.Spot.{Spot}
use Rattle.act1_place.specs.declared.ends.Ends.{Ends}
use Rattle.act1_place.specs.declared.ends.Change.{Change}
use Rattle.act1_place.specs.declared.net.Joins.{Joins}
use Rattle.act1_place.specs.Ends.{AreEnds, AreAllEnds, AreRenewed, IsChange, has, without, ends_at, half_with}
use Rattle.act1_place.specs.Kept.{net_at}
use Rattle.act1_base.proofs.Elements.{first_or_later, not_in_none}
use Rattle.act1_place.proofs.SiteFacts.{get_set, get_unset}

-- the nets so far
pub record AreEndsSoFar (nets : List Joins) (spots : List Spot) (n : ℕ) (ends : List Ends) : Type 0 where
  pub each : length ends ≡ n
  pub at : (i : ℕ) (e : Ends) → slice_get ends i ≡ Some e → AreEnds spots (net_at nets i) e

last_or_before : {X : Type 0} (xs : List X) (x : X) (m : ℕ) (y : X) → slice_get (xs ++ x ∷ []) m ≡ Some y → (slice_get xs m ≡ Some y) ⊎ ((m ≡ length xs) × (x ≡ y))
last_or_before [] x zero y e = inr (refl, some_is x y e)
last_or_before [] x (suc m) y e = cc
last_or_before (z ∷ xs) x zero y e = inl e
last_or_before (z ∷ xs) x (suc m) y e = by (last_or_before xs x m y e)
  where
    by : (slice_get xs m ≡ Some y) ⊎ ((m ≡ length xs) × (x ≡ y)) → (slice_get xs m ≡ Some y) ⊎ ((suc m ≡ length (z ∷ xs)) × (x ≡ y))
    by (inl h) = inl h
    by (inr h) = inr (ap suc h.0, h.1)

pub none_far : (nets : List Joins) (spots : List Spot) (ends : List Ends) → ends ≡ [] → AreEndsSoFar nets spots 0 ends
none_far nets spots ends e = record { each = ap length e; at = λ i f g. from i f (sym (ap (λ (es : List Ends). slice_get es i) e) ∙ g) }
  where
    from : (i : ℕ) (f : Ends) → slice_get [] i ≡ Some f → AreEnds spots (net_at nets i) f
    from i f g = cc

pub one_far : (nets : List Joins) (spots : List Spot) (n : ℕ) (ends after : List Ends) (net : Joins) (e : Ends) → n < length nets → net ≡ get_or nets n net → AreEnds spots net e → after ≡ ends ++ e ∷ [] → AreEndsSoFar nets spots n ends → AreEndsSoFar nets spots (n + 1) after
one_far nets spots n ends after net e low is one grown h = record {
  each = let long = length-append ends (e ∷ []) in let each = h.each in omega (arith, long, each, ap length grown);
  at = λ i f g. by i f (last_or_before ends e i f (sym (ap (λ (es : List Ends). slice_get es i) grown) ∙ g));
}
  where
    here : net ≡ net_at nets n
    here = get_or_read nets n net low is (record { modules = []; pads = [] })

    by : (i : ℕ) (f : Ends) → (slice_get ends i ≡ Some f) ⊎ ((i ≡ length ends) × (e ≡ f)) → AreEnds spots (net_at nets i) f
    by i f (inl before) = h.at i f before
    by i f (inr last) = subst (λ (k : ℕ). AreEnds spots (net_at nets k) f) (sym (last.0 ∙ h.each)) (subst (AreEnds spots (net_at nets n)) last.1 (subst (λ (x : Joins). AreEnds spots x e) here one))

pub all_far : (nets : List Joins) (spots : List Spot) (n : ℕ) (ends : List Ends) → n ≡ length nets → AreEndsSoFar nets spots n ends → AreAllEnds nets spots ends
all_far nets spots n ends whole h = record { each = h.each ∙ whole; at = h.at }

-- the renewed so far
pub none_renewed : (nets : List Joins) (spots : List Spot) (ends : List Ends) → AreRenewed nets spots [] ends ends
none_renewed nets spots ends = record { each = refl; at = λ i e g. inr (λ h. not_in_none i h, g) }

pub one_renewed : (nets : List Joins) (spots : List Spot) (listed : List ℕ) (n i : ℕ) (net : Joins) (e : Ends) (before mid after : List Ends) → n < length listed → i ≡ get_or listed n i → i < length nets → length before ≡ length nets → net ≡ get_or nets i net → AreEnds spots net e
    → after ≡ slice_set mid i e → AreRenewed nets spots (take n listed) before mid → AreRenewed nets spots (take (n + 1) listed) before after
one_renewed nets spots listed n i net e before mid after low is within each net_is one set h = record {
  each = ap length set ∙ length-set mid i e ∙ h.each;
  at = λ j f g. by j f (cases_eq j i) (sym (ap (λ (es : List Ends). slice_get es j) set) ∙ g);
}
  where
    here : net ≡ net_at nets i
    here = get_or_read nets i net within net_is (record { modules = []; pads = [] })

    in_mid : i < length mid
    in_mid = let k = h.each in omega (arith, within, each, k)

    more : take (n + 1) listed ≡ take n listed ++ i ∷ []
    more = take_more listed n i low ∙ ap (λ (k : ℕ). take n listed ++ k ∷ []) (sym is)

    not_now : (j : ℕ) → j ≢ i → (Contains (take n listed) j → ⊥) → Contains (take (n + 1) listed) j → ⊥
    not_now j other not_before k = from (append_cases (take n listed) (i ∷ []) j (subst (λ (xs : List ℕ). Contains xs j) more k))
      where
        from : Contains (take n listed) j ⊎ Contains (i ∷ []) j → ⊥
        from (inl c) = not_before c
        from (inr c) = last (first_or_later j i [] c)
          where
            last : (i ≡ j) ⊎ Contains [] j → ⊥
            last (inl same) = other (sym same)
            last (inr none) = not_in_none j none

    by : (j : ℕ) (f : Ends) → (j ≡ i) ⊎ (j ≡ i → ⊥) → slice_get (slice_set mid i e) j ≡ Some f → AreEnds spots (net_at nets j) f ⊎ ((Contains (take (n + 1) listed) j → ⊥) × (slice_get before j ≡ Some f))
    by j f (inl same) g =
        let e_is : e ≡ f = some_is e f (sym (get_set mid i e in_mid) ∙ ap (λ (k : ℕ). slice_get (slice_set mid i e) k) (sym same) ∙ g) in
        inl (subst (λ (k : ℕ). AreEnds spots (net_at nets k) f) (sym same) (subst (AreEnds spots (net_at nets i)) e_is (subst (λ (x : Joins). AreEnds spots x e) here one)))
    by j f (inr other) g = old (h.at j f (sym (get_unset mid i j e (λ same. other (sym same))) ∙ g))
      where
        old : AreEnds spots (net_at nets j) f ⊎ ((Contains (take n listed) j → ⊥) × (slice_get before j ≡ Some f)) → AreEnds spots (net_at nets j) f ⊎ ((Contains (take (n + 1) listed) j → ⊥) × (slice_get before j ≡ Some f))
        old (inl now) = inl now
        old (inr k) = inr (not_now j other k.0, k.1)

-- the sums so far
module _ (ends : List Ends) (listed others : List ℕ) (m : ℕ) (to : Spot) (n i : ℕ) (c : Change) (low : n < length listed) (is : i ≡ get_or listed n i) (h : IsChange ends (take n listed) others m to c) where
  next : (f : ℕ → ℕ) (b : Bool) → has others i ≡ b → sum_by f (without (take (n + 1) listed) others) ≡ sum_by f (without (take n listed) others) + cond b 0 (f i)
  next f b e =
      let p : ℕ → Bool = λ k. not (has others k) in
      ap (sum_by f) (filter_more p listed n i low ∙ ap (λ (k : ℕ). filter p (take n listed) ++ cond (p k) (k ∷ []) []) (sym is) ∙ ap (λ (t : Bool). filter p (take n listed) ++ cond (not t) (i ∷ []) []) e)
      ∙ sum_by-append f (filter p (take n listed)) (cond (not b) (i ∷ []) [])
      ∙ ap (λ (k : ℕ). sum_by f (filter p (take n listed)) + k) (last b)
    where
      last : (b : Bool) → sum_by f (cond (not b) (i ∷ []) []) ≡ cond b 0 (f i)
      last true = refl
      last false = omega (arith, sum_by-cons f i [])

  pub long : (length (take n listed) ≡ n) × (length (take (n + 1) listed) ≡ n + 1)
  long = (omega (arith, length-take n listed, low), omega (arith, length-take (n + 1) listed, low))

  pub change_skip : has others i ≡ true → IsChange ends (take (n + 1) listed) others m to c
  change_skip e = record {
    before = omega (arith, h.before, next (λ i. (ends_at ends i).sum) true e);
    after = omega (arith, h.after, next (λ i. half_with (ends_at ends i) m to) true e);
    few = let a = h.few.0 in let b = h.few.1 in let k = long.0 in let l = long.1 in (omega (arith, a, k, l), omega (arith, b, k, l));
  }

  pub change_more : (before after x y : ℕ) → has others i ≡ false → x ≡ (ends_at ends i).sum → y ≡ half_with (ends_at ends i) m to → x < 65536 → y < 65536 → before ≡ c.before + x → after ≡ c.after + y
      → IsChange ends (take (n + 1) listed) others m to (record { before = before; after = after })
  change_more before after x y e x_is y_is x_few y_few before_is after_is = record {
    before = omega (arith, h.before, next (λ i. (ends_at ends i).sum) false e, x_is, before_is);
    after = omega (arith, h.after, next (λ i. half_with (ends_at ends i) m to) false e, y_is, after_is);
    few = let a = h.few.0 in let b = h.few.1 in let k = long.0 in let l = long.1 in (omega (arith, a, k, l, before_is, x_few), omega (arith, b, k, l, after_is, y_few));
  }

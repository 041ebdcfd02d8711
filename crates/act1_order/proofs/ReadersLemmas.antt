-- How the readers of all vertices are gathered.
use Rattle.std.proofs.Common.{ℕ, suc, zero, ◌≡◌, ◌≢◌, ◌<◌, ◌≤◌, ◌+◌, ◌⊎◌, List, [], ◌∷◌, ◌++◌, length, get_or, refl, sym, ap, subst, ◌∙◌, inl, inr, arith, take, get_or-set_same, get_or-set_other}
use Rattle.std.specs.Prelude.{Contains, slice_index_or, slice_set}
use Rattle.std.proofs.lemmas.Bool.{cases_eq}
use Rattle.std.proofs.lemmas.List.{length-set, take_more}
use Rattle.act1_order.specs.Order.{Reads, AreReads}
use Rattle.act1_order.specs.ReadersSteps.{Adds, AreReaders, AreReadersBelow}
use Rattle.act1_order.proofs.ReachLemmas.{contains_cases, contains_last, contains_more, none_in, one_in, this_in}

-- one vertex has one more reader
pub adds_one : (reader x : ℕ) (old new : List (List ℕ)) → x < length old → new ≡ slice_set old x (slice_index_or old x [] ++ reader ∷ []) → Adds reader (x ∷ []) old new
adds_one reader x old new low is = record {
  all = ap (λ (rs : List (List ℕ)). length rs) is ∙ length-set old x (slice_index_or old x [] ++ reader ∷ []);
  kept = λ w v r. kept_by w v r (cases_eq w x);
  added = λ w c. subst (λ (vs : List ℕ). Contains vs reader) (sym (there w (one_in w x c))) (contains_last (slice_index_or old x []) reader reader refl);
  only = λ w v r. only_by w v r (cases_eq w x);
}
  where
    there : (w : ℕ) → w ≡ x → slice_index_or new w [] ≡ slice_index_or old x [] ++ reader ∷ []
    there w e = ap (λ (rs : List (List ℕ)). slice_index_or rs w []) is ∙ ap (λ (i : ℕ). slice_index_or (slice_set old x (slice_index_or old x [] ++ reader ∷ [])) i []) e ∙ get_or-set_same old x (slice_index_or old x [] ++ reader ∷ []) [] low

    elsewhere : (w : ℕ) → w ≢ x → slice_index_or new w [] ≡ slice_index_or old w []
    elsewhere w apart = ap (λ (rs : List (List ℕ)). slice_index_or rs w []) is ∙ get_or-set_other old x w (slice_index_or old x [] ++ reader ∷ []) [] apart

    kept_by : (w v : ℕ) → Reads old w v → (w ≡ x) ⊎ (w ≢ x) → Reads new w v
    kept_by w v r (inl e) = subst (λ (vs : List ℕ). Contains vs v) (sym (there w e)) (contains_more (slice_index_or old x []) v reader (subst (λ (i : ℕ). Contains (slice_index_or old i []) v) e r))
    kept_by w v r (inr apart) = subst (λ (vs : List ℕ). Contains vs v) (sym (elsewhere w apart)) r

    one_by : (w v : ℕ) → w ≡ x → Contains (slice_index_or old x []) v ⊎ (v ≡ reader) → Reads old w v ⊎ ((v ≡ reader) × Contains (x ∷ []) w)
    one_by w v e (inl c) = inl (subst (λ (i : ℕ). Contains (slice_index_or old i []) v) (sym e) c)
    one_by w v e (inr same) = inr (same, this_in w x e)

    only_by : (w v : ℕ) → Reads new w v → (w ≡ x) ⊎ (w ≢ x) → Reads old w v ⊎ ((v ≡ reader) × Contains (x ∷ []) w)
    only_by w v r (inl e) = one_by w v e (contains_cases (slice_index_or old x []) v reader (subst (λ (vs : List ℕ). Contains vs v) (there w e) r))
    only_by w v r (inr apart) = inl (subst (λ (vs : List ℕ). Contains vs v) (elsewhere w apart) r)

both : (reader x : ℕ) (xs : List ℕ) (a b d : List (List ℕ)) → Adds reader xs a b → Adds reader (x ∷ []) b d → Adds reader (xs ++ x ∷ []) a d
both reader x xs a b d f g = record {
  all = g.all ∙ f.all;
  kept = λ w v r. g.kept w v (f.kept w v r);
  added = λ w c. added_by w (contains_cases xs w x c);
  only = λ w v r. only_by w v (g.only w v r);
}
  where
    added_by : (w : ℕ) → Contains xs w ⊎ (w ≡ x) → Reads d w reader
    added_by w (inl c) = g.kept w reader (f.added w c)
    added_by w (inr e) = g.added w (this_in w x e)

    first_by : (w v : ℕ) → Reads a w v ⊎ ((v ≡ reader) × Contains xs w) → Reads a w v ⊎ ((v ≡ reader) × Contains (xs ++ x ∷ []) w)
    first_by w v (inl r) = inl r
    first_by w v (inr c) = inr (c.0, contains_more xs w x c.1)

    only_by : (w v : ℕ) → Reads b w v ⊎ ((v ≡ reader) × Contains (x ∷ []) w) → Reads a w v ⊎ ((v ≡ reader) × Contains (xs ++ x ∷ []) w)
    only_by w v (inl r) = first_by w v (f.only w v r)
    only_by w v (inr c) = inr (c.0, contains_last xs w x (one_in w x c.1))

-- one more of these vertices
pub adds_more : (reader : ℕ) (xs : List ℕ) (i : ℕ) (a b d : List (List ℕ)) → i < length xs → Adds reader (take i xs) a b → d ≡ slice_set b (get_or xs i 0) (slice_index_or b (get_or xs i 0) [] ++ reader ∷ []) → get_or xs i 0 < length b
    → Adds reader (take (i + 1) xs) a d
adds_more reader xs i a b d low f is within =
    subst (λ (ws : List ℕ). Adds reader ws a d) (sym (take_more xs i 0 low)) (both reader (get_or xs i 0) (take i xs) a b d f (adds_one reader (get_or xs i 0) b d within is))

-- one vertex more is a reader of what it reads
pub readers_more : (reads : List (List ℕ)) (n : ℕ) (own : List ℕ) (old new : List (List ℕ)) → own ≡ slice_index_or reads n [] → AreReadersBelow reads n old → Adds n own old new → AreReadersBelow reads (n + 1) new
readers_more reads n own old new is h a = record {
  all = a.all ∙ h.all;
  to = λ v w low r. to_by v w low r (cases_eq v n);
  from = λ v w r. from_by v w (a.only w v r);
}
  where
    to_by : (v w : ℕ) → v < n + 1 → Reads reads v w → (v ≡ n) ⊎ (v ≢ n) → Reads new w v
    to_by v w low r (inl e) = subst (λ (u : ℕ). Reads new w u) (sym e) (a.added w (subst (λ (vs : List ℕ). Contains vs w) (sym is) (subst (λ (i : ℕ). Reads reads i w) e r)))
    to_by v w low r (inr apart) = a.kept w v (h.to v w (omega arith) r)

    from_by : (v w : ℕ) → Reads old w v ⊎ ((v ≡ n) × Contains own w) → (v < n + 1) × Reads reads v w
    from_by v w (inl r) = let b = h.from v w r in let low = b.0 in (omega arith, b.1)
    from_by v w (inr c) = let e = c.0 in (omega arith, subst (λ (i : ℕ). Reads reads i w) (sym e) (subst (λ (vs : List ℕ). Contains vs w) is c.1))

reads_low : (reads : List (List ℕ)) (v w : ℕ) → Reads reads v w → v < length reads
reads_low [] zero w r = absurd (none_in w r)
reads_low [] (suc v) w r = absurd (none_in w r)
reads_low (own ∷ reads) zero w r = omega arith
reads_low (own ∷ reads) (suc v) w r = let low = reads_low reads v w r in omega arith

-- all are gathered
pub readers_all : (reads : List (List ℕ)) (n : ℕ) (readers : List (List ℕ)) → length reads ≤ n → AreReadersBelow reads n readers → AreReaders reads readers
readers_all reads n readers e h = record {
  all = h.all;
  to = λ v w r. let low = reads_low reads v w r in h.to v w (omega arith) r;
  from = λ v w r. let b = h.from v w r in b.1;
}

-- the readers are vertices of the graph
pub readers_inside : (reads readers : List (List ℕ)) → AreReaders reads readers → AreReads readers
readers_inside reads readers h = λ w v r. let low = reads_low reads v w (h.from v w r) in let all = h.all in omega arith

-- A rising list of sites is told by what it contains.
use Rattle.std.proofs.Common.{ℕ, ◌≡◌, ◌⊎◌, ◌<◌, ◌==◌, ◌&&◌, ◌||◌, nat_lt, Bool, true, false, IsTrue, List, [], ◌∷◌, refl, sym, ap, subst, ◌∙◌, inl, inr, arith, Contains}
use Rattle.std.proofs.lemmas.Bool.{and_parts, eqb-true, eq-eqb, ltb-true, lt-ltb, false≢true}
use Rattle.act1_base.specs.Rising.{Rises, is_before}
use Rattle.act1_device.specs.declared.device.Site.{Site}
use Rattle.act1_device.specs.Order.{SiteIsBefore, site_numbers}
use Rattle.act1_groute.specs.Emitted.{EmittedIsOne}
use Rattle.act1_base.proofs.Elements.{here, later, first_or_later, not_in_none}

not_below_itself : (n : ℕ) → nat_lt n n ≡ false
not_below_itself n = from (nat_lt n n) refl
  where
    from : (b : Bool) → nat_lt n n ≡ b → nat_lt n n ≡ false
    from true e = let less = ltb-true n n e in absurd (omega arith)
    from false e = e

never_before_itself : (xs : List ℕ) → is_before xs xs ≡ false
never_before_itself [] = refl
never_before_itself (x ∷ xs) = rw (not_below_itself x, eq-eqb x x refl, never_before_itself xs) refl

-- the first numbers are less, or the same and the rest comes before
either : (x y : ℕ) (xs ys : List ℕ) → IsTrue (is_before (x ∷ xs) (y ∷ ys)) → (x < y) ⊎ ((x ≡ y) × IsTrue (is_before xs ys))
either x y xs ys h = from (nat_lt x y) refl h
  where
    from : (b : Bool) → nat_lt x y ≡ b → (b || ((x == y) && is_before xs ys)) ≡ true → (x < y) ⊎ ((x ≡ y) × IsTrue (is_before xs ys))
    from true e h = inl (ltb-true x y e)
    from false e h = let parts = and_parts (x == y) (is_before xs ys) h in inr (eqb-true x y parts.0, parts.1)

by_first : (x y : ℕ) (xs ys : List ℕ) → x < y → IsTrue (is_before (x ∷ xs) (y ∷ ys))
by_first x y xs ys h = rw (lt-ltb x y h) refl

or_true : (b : Bool) → (b || true) ≡ true
or_true true = refl
or_true false = refl

by_rest : (x y : ℕ) (xs ys : List ℕ) → x ≡ y → IsTrue (is_before xs ys) → IsTrue (is_before (x ∷ xs) (y ∷ ys))
by_rest x y xs ys e h = rw (eq-eqb x y e, h) (or_true (nat_lt x y))

before_on : (xs ys zs : List ℕ) → IsTrue (is_before xs ys) → IsTrue (is_before ys zs) → IsTrue (is_before xs zs)
before_on xs [] zs h k = absurd (false≢true h)
before_on xs (y ∷ ys) [] h k = absurd (false≢true k)
before_on [] (y ∷ ys) (z ∷ zs) h k = refl
before_on (x ∷ xs) (y ∷ ys) (z ∷ zs) h k = from (either x y xs ys h) (either y z ys zs k) (before_on xs ys zs)
  where
    from : (x < y) ⊎ ((x ≡ y) × IsTrue (is_before xs ys)) → (y < z) ⊎ ((y ≡ z) × IsTrue (is_before ys zs)) → (IsTrue (is_before xs ys) → IsTrue (is_before ys zs) → IsTrue (is_before xs zs)) → IsTrue (is_before (x ∷ xs) (z ∷ zs))
    from (inl a) (inl b) rec = by_first x z xs zs (omega arith)
    from (inl a) (inr b) rec = let e = b.0 in by_first x z xs zs (omega arith)
    from (inr a) (inl b) rec = let e = a.0 in by_first x z xs zs (omega arith)
    from (inr a) (inr b) rec = by_rest x z xs zs (a.0 ∙ b.0) (rec a.1 b.1)

tail_rises : (s : Site) (sites : List Site) → Rises SiteIsBefore (s ∷ sites) → Rises SiteIsBefore sites
tail_rises s [] h = tt
tail_rises s (t ∷ sites) h = h.1

before_all : (s t : Site) (sites : List Site) → Rises SiteIsBefore (s ∷ sites) → Contains sites t → SiteIsBefore s t
before_all s t [] rise h = not_in_none t h
before_all s t (u ∷ sites) rise h = from (first_or_later t u sites h) (before_all u t sites rise.1)
  where
    from : (u ≡ t) ⊎ Contains sites t → (Contains sites t → SiteIsBefore u t) → SiteIsBefore s t
    from (inl e) rec = subst (SiteIsBefore s) e rise.0
    from (inr k) rec = before_on (site_numbers s) (site_numbers u) (site_numbers t) rise.0 (rec k)

not_itself : {A : Type 0} (s : Site) → SiteIsBefore s s → A
not_itself s h = absurd (false≢true (sym (never_before_itself (site_numbers s)) ∙ h))

pub one_list : (xs ys : List Site) → Rises SiteIsBefore xs → Rises SiteIsBefore ys → ((s : Site) → Contains xs s → Contains ys s) → ((s : Site) → Contains ys s → Contains xs s) → xs ≡ ys
one_list [] [] a b on back = refl
one_list [] (y ∷ ys) a b on back = not_in_none y (back y (here y y ys refl))
one_list (x ∷ xs) [] a b on back = not_in_none x (on x (here x x xs refl))
one_list (x ∷ xs) (y ∷ ys) a b on back =
    let same = first (first_or_later x y ys (on x (here x x xs refl))) (first_or_later y x xs (back y (here y y ys refl))) in
    ap (λ (s : Site). s ∷ xs) same
    ∙ ap (λ (l : List Site). y ∷ l) (one_list xs ys (tail_rises x xs a) (tail_rises y ys b) (λ s h. behind same s h (first_or_later s y ys (on s (later s x xs h)))) (λ s h. ahead same s h (first_or_later s x xs (back s (later s y ys h)))))
  where
    first : (y ≡ x) ⊎ Contains ys x → (x ≡ y) ⊎ Contains xs y → x ≡ y
    first (inl e) k = sym e
    first (inr h) (inl e) = e
    first (inr h) (inr k) = not_itself x (before_on (site_numbers x) (site_numbers y) (site_numbers x) (before_all x y xs a k) (before_all y x ys b h))

    behind : x ≡ y → (s : Site) → Contains xs s → (y ≡ s) ⊎ Contains ys s → Contains ys s
    behind same s h (inl e) = not_itself s (subst (λ (t : Site). SiteIsBefore t s) (same ∙ e) (before_all x s xs a h))
    behind same s h (inr k) = k

    ahead : x ≡ y → (s : Site) → Contains ys s → (x ≡ s) ⊎ Contains xs s → Contains xs s
    ahead same s h (inl e) = not_itself s (subst (λ (t : Site). SiteIsBefore t s) (sym same ∙ e) (before_all y s ys b h))
    ahead same s h (inr k) = k

pub emitted_is_one : EmittedIsOne
emitted_is_one dev plan channels tracks one other h k =
    one_list one other h.rise k.rise (λ s m. (k.each s).1 ((h.each s).0 m)) (λ s m. (h.each s).1 ((k.each s).0 m))

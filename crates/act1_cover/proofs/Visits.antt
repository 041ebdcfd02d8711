-- The forks of a tree in the order of their first visit, found one after the other: what has been found, and the trees that are still to be visited.
use Rattle.std.proofs.Common.{ℕ, suc, ◌≡◌, ◌≤◌, ◌+◌, ◌⊎◌, ◌&&◌, ◌||◌, not, Bool, true, false, cond, List, [], ◌∷◌, ◌++◌, append-nil, append_assoc, refl, sym, ap, ◌∙◌, inl, inr, arith, subst}
use Rattle.std.proofs.lemmas.Bool.{false≢true}
use Rattle.std.specs.Prelude.{filter, if◌then◌else◌}
use Rattle.std.specs.List.{list_any, flat_map}
use Rattle.act1_cover.specs.Forests.{Tree, never, always, input, fork, is_same_tree, forks_in, first_ones}
use Rattle.act1_cover.proofs.Trees.{same_tree, itself}
use Rattle.act1_cover.proofs.TreeLists.{In, in_left, in_right, in_either}

-- the tree is among these
pub has : List Tree → Tree → Bool
has found t = list_any (λ u. is_same_tree u t) found

abbrev pub with_tree : List Tree → Tree → List Tree
with_tree found t = if has found t then found else found ++ t ∷ []

-- the trees with others, each where it is new
abbrev pub listed : List Tree → List Tree → List Tree
listed found [] = found
listed found (t ∷ ts) = listed (with_tree found t) ts

has_in : (found : List Tree) (t : Tree) → has found t ≡ true → In t found
unfolding has
has_in [] t e = absurd (false≢true e)
has_in (u ∷ us) t e = by (is_same_tree u t) refl e (has_in us t)
  where
    by : (b : Bool) → is_same_tree u t ≡ b → (b || list_any (λ w. is_same_tree w t) us) ≡ true → (list_any (λ w. is_same_tree w t) us ≡ true → In t us) → In t (u ∷ us)
    by true f g later = inl (same_tree u t f)
    by false f g later = inr (later g)

in_has : (found : List Tree) (t : Tree) → In t found → has found t ≡ true
unfolding has
in_has [] t h = absurd h
in_has (u ∷ us) t (inl e) = ap (λ (b : Bool). b || list_any (λ w. is_same_tree w t) us) (ap (λ (w : Tree). is_same_tree u w) (sym e) ∙ itself u)
in_has (u ∷ us) t (inr h) = by (is_same_tree u t) (in_has us t h)
  where
    by : (b : Bool) → list_any (λ w. is_same_tree w t) us ≡ true → (b || list_any (λ w. is_same_tree w t) us) ≡ true
    by true g = refl
    by false g = g

two : (b : Bool) → (b ≡ true) ⊎ (b ≡ false)
two true = inl refl
two false = inr refl

-- a tree is among some or it isn't
pub is_among : (found : List Tree) (t : Tree) → In t found ⊎ (In t found → ⊥)
is_among found t = by (two (has found t))
  where
    by : (has found t ≡ true) ⊎ (has found t ≡ false) → In t found ⊎ (In t found → ⊥)
    by (inl e) = inl (has_in found t e)
    by (inr e) = inr (λ h. false≢true (sym e ∙ in_has found t h))

not_has : (found : List Tree) (t : Tree) → (In t found → ⊥) → has found t ≡ false
not_has found t none = by (two (has found t))
  where
    by : (has found t ≡ true) ⊎ (has found t ≡ false) → has found t ≡ false
    by (inl e) = absurd (none (has_in found t e))
    by (inr e) = e

pub with_old : (found : List Tree) (t : Tree) → In t found → with_tree found t ≡ found
with_old found t h = ap (λ (b : Bool). if b then found else found ++ t ∷ []) (in_has found t h)

pub with_new : (found : List Tree) (t : Tree) → (In t found → ⊥) → with_tree found t ≡ found ++ t ∷ []
with_new found t none = ap (λ (b : Bool). if b then found else found ++ t ∷ []) (not_has found t none)

pub listed_append : (found ts us : List Tree) → listed found (ts ++ us) ≡ listed (listed found ts) us
listed_append found [] us = refl
listed_append found (t ∷ ts) us = listed_append (with_tree found t) ts us

-- trees that were found add nothing
pub listed_old : (found ts : List Tree) → ((t : Tree) → In t ts → In t found) → listed found ts ≡ found
listed_old found [] h = refl
listed_old found (t ∷ ts) h = ap (λ (us : List Tree). listed us ts) (with_old found t (h t (inl refl))) ∙ listed_old found ts (λ u g. h u (inr g))

turned : (b : Bool) → not b ≡ true → b ≡ false
turned true e = absurd (false≢true e)
turned false e = refl

no_more : (p : Tree → Bool) (x : Tree) (rest : List Tree) → p x ≡ false → filter p (x ∷ rest) ≡ filter p rest
no_more p x rest e = ap (λ (b : Bool). cond b (x ∷ filter p rest) (filter p rest)) e

one_more : (p : Tree → Bool) (x : Tree) (rest : List Tree) → p x ≡ true → filter p (x ∷ rest) ≡ x ∷ filter p rest
one_more p x rest e = ap (λ (b : Bool). cond b (x ∷ filter p rest) (filter p rest)) e

-- a test after one that it implies
filter_within : (p q : Tree → Bool) (xs : List Tree) → ((x : Tree) → p x ≡ true → q x ≡ true) → filter p (filter q xs) ≡ filter p xs
filter_within p q [] h = refl
filter_within p q (x ∷ xs) h = by (two (q x)) (two (p x)) (filter_within p q xs h)
  where
    by : (q x ≡ true) ⊎ (q x ≡ false) → (p x ≡ true) ⊎ (p x ≡ false) → filter p (filter q xs) ≡ filter p xs → filter p (filter q (x ∷ xs)) ≡ filter p (x ∷ xs)
    by (inl e) (inl f) r = ap (filter p) (one_more q x xs e) ∙ one_more p x (filter q xs) f ∙ ap (λ (ys : List Tree). x ∷ ys) r ∙ sym (one_more p x xs f)
    by (inl e) (inr f) r = ap (filter p) (one_more q x xs e) ∙ no_more p x (filter q xs) f ∙ r ∙ sym (no_more p x xs f)
    by (inr e) (inl f) r = absurd (false≢true (sym e ∙ h x f))
    by (inr e) (inr f) r = ap (filter p) (no_more q x xs e) ∙ r ∙ sym (no_more p x xs f)

-- a test that is two in one
filter_both : (both p q : Tree → Bool) (xs : List Tree) → ((x : Tree) → both x ≡ (q x && p x)) → filter both xs ≡ filter p (filter q xs)
filter_both both p q [] h = refl
filter_both both p q (x ∷ xs) h = by (two (q x)) (two (p x)) (filter_both both p q xs h)
  where
    by : (q x ≡ true) ⊎ (q x ≡ false) → (p x ≡ true) ⊎ (p x ≡ false) → filter both xs ≡ filter p (filter q xs) → filter both (x ∷ xs) ≡ filter p (filter q (x ∷ xs))
    by (inl e) (inl f) r =
        one_more both x xs (h x ∙ ap (λ (b : Bool). b && p x) e ∙ f) ∙ ap (λ (ys : List Tree). x ∷ ys) r ∙ sym (one_more p x (filter q xs) f) ∙ sym (ap (filter p) (one_more q x xs e))
    by (inl e) (inr f) r = no_more both x xs (h x ∙ ap (λ (b : Bool). b && p x) e ∙ f) ∙ r ∙ sym (no_more p x (filter q xs) f) ∙ sym (ap (filter p) (one_more q x xs e))
    by (inr e) f r = no_more both x xs (h x ∙ ap (λ (b : Bool). b && p x) e) ∙ r ∙ sym (ap (filter p) (no_more q x xs e))

filter_all : (p : Tree → Bool) (xs : List Tree) → ((x : Tree) → p x ≡ true) → filter p xs ≡ xs
filter_all p [] h = refl
filter_all p (x ∷ xs) h = one_more p x xs (h x) ∙ ap (λ (ys : List Tree). x ∷ ys) (filter_all p xs h)

has_last : (found : List Tree) (t x : Tree) → has (found ++ t ∷ []) x ≡ (has found x || is_same_tree t x)
unfolding has
has_last [] t x = or_false (is_same_tree t x)
  where
    or_false : (b : Bool) → (b || false) ≡ b
    or_false true = refl
    or_false false = refl
has_last (u ∷ us) t x = by (is_same_tree u x) (has_last us t x)
  where
    by : (b : Bool) → list_any (λ w. is_same_tree w x) (us ++ t ∷ []) ≡ (list_any (λ w. is_same_tree w x) us || is_same_tree t x)
        → (b || list_any (λ w. is_same_tree w x) (us ++ t ∷ [])) ≡ ((b || list_any (λ w. is_same_tree w x) us) || is_same_tree t x)
    by true e = refl
    by false e = e

neither : (a b : Bool) → not (a || b) ≡ (not b && not a)
neither true true = refl
neither true false = refl
neither false true = refl
neither false false = refl

-- what is found in the end: the first ones that weren't found before
listed_is : (found ts : List Tree) → listed found ts ≡ found ++ filter (λ t. not (has found t)) (first_ones ts)
listed_is found [] = sym (append-nil found)
listed_is found (t ∷ ts) = by (two (has found t)) (listed_is found ts) (listed_is (found ++ t ∷ []) ts)
  where
    by : (has found t ≡ true) ⊎ (has found t ≡ false) → listed found ts ≡ found ++ filter (λ x. not (has found x)) (first_ones ts)
        → listed (found ++ t ∷ []) ts ≡ (found ++ t ∷ []) ++ filter (λ x. not (has (found ++ t ∷ []) x)) (first_ones ts)
        → listed (with_tree found t) ts ≡ found ++ filter (λ x. not (has found x)) (t ∷ filter (λ u. not (is_same_tree t u)) (first_ones ts))
    by (inl e) r s =
        ap (λ (us : List Tree). listed us ts) (with_old found t (has_in found t e)) ∙ r
        ∙ ap (λ (us : List Tree). found ++ us)
        (sym (filter_within (λ x. not (has found x)) (λ u. not (is_same_tree t u)) (first_ones ts) (λ x n. apart x (is_same_tree t x) refl n))
        ∙ sym (no_more (λ x. not (has found x)) t (filter (λ u. not (is_same_tree t u)) (first_ones ts)) (ap not e)))
      where
        apart : (x : Tree) (b : Bool) → is_same_tree t x ≡ b → not (has found x) ≡ true → not b ≡ true
        apart x true f n = absurd (false≢true (sym (turned (has found x) n) ∙ ap (has found) (sym (same_tree t x f)) ∙ e))
        apart x false f n = refl
    by (inr e) r s =
        ap (λ (us : List Tree). listed us ts) (ap (λ (b : Bool). if b then found else found ++ t ∷ []) e) ∙ s
        ∙ append_assoc found (t ∷ []) (filter (λ x. not (has (found ++ t ∷ []) x)) (first_ones ts))
        ∙ ap (λ (us : List Tree). found ++ t ∷ us)
        (filter_both (λ x. not (has (found ++ t ∷ []) x)) (λ x. not (has found x)) (λ u. not (is_same_tree t u)) (first_ones ts) (λ x. ap not (has_last found t x) ∙ neither (has found x) (is_same_tree t x)))
        ∙ ap (λ (us : List Tree). found ++ us) (sym (one_more (λ x. not (has found x)) t (filter (λ u. not (is_same_tree t u)) (first_ones ts)) (ap not e)))

pub first_are_listed : (ts : List Tree) → listed [] ts ≡ first_ones ts
unfolding has
first_are_listed ts = listed_is [] ts ∙ filter_all (λ t. not (has [] t)) (first_ones ts) (λ x. refl)

-- a tree is not among the forks of its parts
size : Tree → ℕ
size never = 0
size always = 0
size (input v) = 0
size (fork v a b) = suc (size a + size b)

smaller : (t u : Tree) → In u (forks_in t) → size u ≤ size t
unfolding size
smaller never u h = absurd h
smaller always u h = absurd h
smaller (input v) u h = absurd h
smaller (fork v a b) u (inl e) = let s = ap size e in omega arith
smaller (fork v a b) u (inr h) = by (in_either u (forks_in a) (forks_in b) h) (smaller a u) (smaller b u)
  where
    by : In u (forks_in a) ⊎ In u (forks_in b) → (In u (forks_in a) → size u ≤ size a) → (In u (forks_in b) → size u ≤ size b) → size u ≤ suc (size a + size b)
    by (inl g) r s = let l = r g in omega arith
    by (inr g) r s = let l = s g in omega arith

not_in_low : (v : ℕ) (a b : Tree) → In (fork v a b) (forks_in a) → ⊥
unfolding size
not_in_low v a b h = let l = smaller a (fork v a b) h in omega arith

not_in_high : (v : ℕ) (a b : Tree) → In (fork v a b) (forks_in b) → ⊥
unfolding size
not_in_high v a b h = let l = smaller b (fork v a b) h in omega arith

-- the forks of a fork of a tree are the tree's
pub forks_inside : (t u w : Tree) → In u (forks_in t) → In w (forks_in u) → In w (forks_in t)
forks_inside never u w h g = absurd h
forks_inside always u w h g = absurd h
forks_inside (input v) u w h g = absurd h
forks_inside (fork v a b) u w (inl e) g = subst (λ (x : Tree). In w (forks_in x)) (sym e) g
forks_inside (fork v a b) u w (inr h) g = by (in_either u (forks_in a) (forks_in b) h) (forks_inside a u w) (forks_inside b u w)
  where
    by : In u (forks_in a) ⊎ In u (forks_in b) → (In u (forks_in a) → In w (forks_in u) → In w (forks_in a)) → (In u (forks_in b) → In w (forks_in u) → In w (forks_in b)) → In w (forks_in (fork v a b))
    by (inl x) r s = inr (in_left w (forks_in a) (forks_in b) (r x g))
    by (inr x) r s = inr (in_right w (forks_in a) (forks_in b) (s x g))

-- each fork found so far that is in a tree to be visited has its forks among those found, or in trees that are visited before
abbrev pub IsSettledIn : List Tree → List Tree → Tree → Type 0
IsSettledIn found before s = (u : Tree) → In u found → In u (forks_in s) → (w : Tree) → In w (forks_in u) → In w found ⊎ In w before

abbrev pub AreSettled : List Tree → List Tree → List Tree → Type 0
AreSettled found before [] = Unit {0}
AreSettled found before (s ∷ stack) = IsSettledIn found before s × AreSettled found (before ++ forks_in s) stack

-- with more found, and other trees before
move : (found before found' before' : List Tree) (stack : List Tree)
    → ((w : Tree) → In w found → In w found') → ((w : Tree) → In w before → In w found' ⊎ In w before')
    → ((u : Tree) → In u found' → In u found ⊎ ((w : Tree) → In w (forks_in u) → In w found' ⊎ In w before'))
    → AreSettled found before stack → AreSettled found' before' stack
move found before found' before' [] more moved new h = tt
move found before found' before' (s ∷ stack) more moved new h = (here, move found (before ++ forks_in s) found' (before' ++ forks_in s) stack more later newer h.1)
  where
    onto : (w : Tree) → In w found ⊎ In w before → In w found' ⊎ In w before'
    onto w (inl g) = inl (more w g)
    onto w (inr g) = moved w g

    here : IsSettledIn found' before' s
    here u f i w g = by (new u f)
      where
        by : In u found ⊎ ((x : Tree) → In x (forks_in u) → In x found' ⊎ In x before') → In w found' ⊎ In w before'
        by (inl old) = onto w (h.0 u old i w g)
        by (inr all) = all w g

    widen : (w : Tree) → In w found' ⊎ In w before' → In w found' ⊎ In w (before' ++ forks_in s)
    widen w (inl g) = inl g
    widen w (inr g) = inr (in_left w before' (forks_in s) g)

    later : (w : Tree) → In w (before ++ forks_in s) → In w found' ⊎ In w (before' ++ forks_in s)
    later w g = by (in_either w before (forks_in s) g)
      where
        by : In w before ⊎ In w (forks_in s) → In w found' ⊎ In w (before' ++ forks_in s)
        by (inl x) = widen w (moved w x)
        by (inr x) = inr (in_right w before' (forks_in s) x)

    newer : (u : Tree) → In u found' → In u found ⊎ ((w : Tree) → In w (forks_in u) → In w found' ⊎ In w (before' ++ forks_in s))
    newer u f = by (new u f)
      where
        by : In u found ⊎ ((w : Tree) → In w (forks_in u) → In w found' ⊎ In w before') → In u found ⊎ ((w : Tree) → In w (forks_in u) → In w found' ⊎ In w (before' ++ forks_in s))
        by (inl x) = inl x
        by (inr all) = inr (λ w g. widen w (all w g))

-- what has been found, and what is to be visited
pub record IsVisit (tree : Tree) (found stack : List Tree) : Type 0 where
  pub all : listed found (flat_map forks_in stack) ≡ first_ones (forks_in tree)
  pub settled : AreSettled found [] stack

pub visit_begins : (tree : Tree) → IsVisit tree [] (tree ∷ [])
visit_begins tree = record {
  all = ap (listed []) (append-nil (forks_in tree)) ∙ first_are_listed (forks_in tree);
  settled = ((λ u f i w g. absurd f), tt);
}

pub visit_ends : (tree : Tree) (found : List Tree) → IsVisit tree found [] → found ≡ first_ones (forks_in tree)
visit_ends tree found v = v.all

-- a tree without forks
pub visit_plain : (tree t : Tree) (found stack : List Tree) → forks_in t ≡ [] → IsVisit tree found (t ∷ stack) → IsVisit tree found stack
visit_plain tree t found stack none v = record {
  all = ap (λ (ts : List Tree). listed found (ts ++ flat_map forks_in stack)) (sym none) ∙ v.all;
  settled = move found (forks_in t) found [] stack (λ w g. g) (λ w g. absurd (subst (λ (ts : List Tree). In w ts) none g)) (λ u f. inl f) v.settled.1;
}

-- a fork that was found before
pub visit_found : (tree t : Tree) (found stack : List Tree) → In t (forks_in t) → In t found → IsVisit tree found (t ∷ stack) → IsVisit tree found stack
visit_found tree t found stack own old v = record {
  all = ap (λ (us : List Tree). listed us (flat_map forks_in stack)) (sym (listed_old found (forks_in t) there)) ∙ sym (listed_append found (forks_in t) (flat_map forks_in stack)) ∙ v.all;
  settled = move found (forks_in t) found [] stack (λ w g. g) (λ w g. inl (there w g)) (λ u f. inl f) v.settled.1;
}
  where
    there : (w : Tree) → In w (forks_in t) → In w found
    there w g = by (v.settled.0 t old own w g)
      where
        by : In w found ⊎ In w [] → In w found
        by (inl x) = x
        by (inr x) = absurd x

-- a new fork: its parts are to be visited next
pub visit_new : (tree : Tree) (w : ℕ) (a b : Tree) (found stack : List Tree) → (In (fork w a b) found → ⊥) → IsVisit tree found (fork w a b ∷ stack) → IsVisit tree (found ++ fork w a b ∷ []) (a ∷ b ∷ stack)
visit_new tree w a b found stack fresh v = record {
  all =
      ap (λ (us : List Tree). listed us (forks_in a ++ (forks_in b ++ flat_map forks_in stack))) (sym (with_new found (fork w a b) fresh))
      ∙ ap (listed (with_tree found (fork w a b))) (sym (append_assoc (forks_in a) (forks_in b) (flat_map forks_in stack))) ∙ v.all;
  settled = (low, (high, move found (forks_in (fork w a b)) (found ++ fork w a b ∷ []) (forks_in a ++ forks_in b) stack more moved new v.settled.1));
}
  where
    more : (x : Tree) → In x found → In x (found ++ fork w a b ∷ [])
    more x g = in_left x found (fork w a b ∷ []) g

    last : In (fork w a b) (found ++ fork w a b ∷ [])
    last = in_right (fork w a b) found (fork w a b ∷ []) (inl refl)

    moved : (x : Tree) → In x (forks_in (fork w a b)) → In x (found ++ fork w a b ∷ []) ⊎ In x (forks_in a ++ forks_in b)
    moved x (inl e) = inl (subst (λ (y : Tree). In y (found ++ fork w a b ∷ [])) e last)
    moved x (inr g) = inr g

    new : (u : Tree) → In u (found ++ fork w a b ∷ []) → In u found ⊎ ((x : Tree) → In x (forks_in u) → In x (found ++ fork w a b ∷ []) ⊎ In x (forks_in a ++ forks_in b))
    new u f = by (in_either u found (fork w a b ∷ []) f)
      where
        by : In u found ⊎ In u (fork w a b ∷ []) → In u found ⊎ ((x : Tree) → In x (forks_in u) → In x (found ++ fork w a b ∷ []) ⊎ In x (forks_in a ++ forks_in b))
        by (inl old) = inl old
        by (inr (inl e)) = inr (λ x g. moved x (subst (λ (y : Tree). In x (forks_in y)) (sym e) g))
        by (inr (inr none)) = absurd none

    old_forks : (u x : Tree) → In u found → In u (forks_in (fork w a b)) → In x (forks_in u) → In x (found ++ fork w a b ∷ [])
    old_forks u x f i g = by (v.settled.0 u f i x g)
      where
        by : In x found ⊎ In x [] → In x (found ++ fork w a b ∷ [])
        by (inl y) = more x y
        by (inr y) = absurd y

    low : IsSettledIn (found ++ fork w a b ∷ []) [] a
    low u f i x g = by (in_either u found (fork w a b ∷ []) f)
      where
        by : In u found ⊎ In u (fork w a b ∷ []) → In x (found ++ fork w a b ∷ []) ⊎ In x []
        by (inl old) = inl (old_forks u x old (inr (in_left u (forks_in a) (forks_in b) i)) g)
        by (inr (inl e)) = absurd (not_in_low w a b (subst (λ (y : Tree). In y (forks_in a)) (sym e) i))
        by (inr (inr none)) = absurd none

    high : IsSettledIn (found ++ fork w a b ∷ []) (forks_in a) b
    high u f i x g = by (in_either u found (fork w a b ∷ []) f)
      where
        by : In u found ⊎ In u (fork w a b ∷ []) → In x (found ++ fork w a b ∷ []) ⊎ In x (forks_in a)
        by (inl old) = inl (old_forks u x old (inr (in_right u (forks_in a) (forks_in b) i)) g)
        by (inr (inl e)) = absurd (not_in_high w a b (subst (λ (y : Tree). In y (forks_in b)) (sym e) i))
        by (inr (inr none)) = absurd none

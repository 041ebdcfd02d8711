-- Among the forks of a tree by their first visit each but the whole tree comes after one that it is a part of.
use Rattle.std.proofs.Common.{ℕ, ◌≡◌, ◌<◌, ◌⊎◌, List, [], ◌∷◌, ◌++◌, length, append-nil, append_assoc, Some, refl, sym, inl, inr, arith, subst}
use Rattle.std.specs.Prelude.{slice_get}
use Rattle.act1_base.proofs.ListGets.{get_cases, get_more, get_within}
use Rattle.act1_cover.specs.Forests.{Tree, never, always, input, fork, forks_in, first_ones}
use Rattle.act1_cover.proofs.TreeLists.{In, in_at, in_left, in_right}
use Rattle.act1_cover.proofs.Visits.{listed, with_old, with_new, is_among, first_are_listed}

-- a part of a fork
abbrev pub IsPartOf : Tree → Tree → Type 0
IsPartOf t u = (v : ℕ) × (a : Tree) × (b : Tree) × (u ≡ fork v a b) × ((a ≡ t) ⊎ (b ≡ t))

-- the whole tree, or a part of one of these
abbrev IsLed : Tree → List Tree → Tree → Type 0
IsLed tree seen t = (t ≡ tree) ⊎ ((u : Tree) × In u seen × IsPartOf t u)

abbrev AreLed : Tree → List Tree → List Tree → Type 0
AreLed tree seen [] = Unit {0}
AreLed tree seen (t ∷ ts) = IsLed tree seen t × AreLed tree (t ∷ seen) ts

led : (tree s : Tree) (seen rest : List Tree) → IsLed tree seen s → ((more : List Tree) → ((u : Tree) → In u seen → In u more) → AreLed tree more rest) → AreLed tree seen (forks_in s ++ rest)
led tree never seen rest l go = go seen (λ u h. h)
led tree always seen rest l go = go seen (λ u h. h)
led tree (input v) seen rest l go = go seen (λ u h. h)
led tree (fork v a b) seen rest l go = (
  l,
  subst (AreLed tree (fork v a b ∷ seen)) (sym (append_assoc (forks_in a) (forks_in b) rest))
      (led tree a (fork v a b ∷ seen) (forks_in b ++ rest) (inr (fork v a b, inl refl, (v, a, b, refl, inl refl)))
      (λ more sub. led tree b more rest (inr (fork v a b, sub (fork v a b) (inl refl), (v, a, b, refl, inr refl))) (λ most sub'. go most (λ u h. sub' u (sub u (inr h)))))),
)

-- each comes after one that it is a part of
abbrev pub HaveEarlier : Tree → List Tree → Type 0
HaveEarlier tree us = (j : ℕ) (t : Tree) → slice_get us j ≡ Some t → (t ≡ tree) ⊎ ((i : ℕ) × (u : Tree) × (i < j) × (slice_get us i ≡ Some u) × IsPartOf t u)

module _ (tree : Tree) where
  with_last : (found : List Tree) (t : Tree) (seen : List Tree) → IsLed tree seen t → ((u : Tree) → In u seen → In u found) → HaveEarlier tree found → HaveEarlier tree (found ++ t ∷ [])
  with_last found t seen l sub h j u at = by (get_cases found t u j at)
    where
      later : (x : Tree) → (x ≡ tree) ⊎ ((i : ℕ) × (w : Tree) × (i < j) × (slice_get found i ≡ Some w) × IsPartOf x w) → (x ≡ tree) ⊎ ((i : ℕ) × (w : Tree) × (i < j) × (slice_get (found ++ t ∷ []) i ≡ Some w) × IsPartOf x w)
      later x (inl e) = inl e
      later x (inr (i, w, low, there, p)) = inr (i, w, low, get_more found t w i there, p)

      new : j ≡ length found → IsLed tree seen t → (t ≡ tree) ⊎ ((i : ℕ) × (w : Tree) × (i < j) × (slice_get (found ++ t ∷ []) i ≡ Some w) × IsPartOf t w)
      new e (inl same) = inl same
      new e (inr (w, seen_w, p)) = let place = in_at w found (sub w seen_w) in let low = get_within found place.0 w place.1 in inr (place.0, w, omega arith, get_more found t w place.0 place.1, p)

      by : (slice_get found j ≡ Some u) ⊎ ((j ≡ length found) × (t ≡ u)) → (u ≡ tree) ⊎ ((i : ℕ) × (w : Tree) × (i < j) × (slice_get (found ++ t ∷ []) i ≡ Some w) × IsPartOf u w)
      by (inl old) = later u (h j u old)
      by (inr (last, same)) = subst (λ (x : Tree). (x ≡ tree) ⊎ ((i : ℕ) × (w : Tree) × (i < j) × (slice_get (found ++ t ∷ []) i ≡ Some w) × IsPartOf x w)) same (new last l)

  earlier : (ts found seen : List Tree) → AreLed tree seen ts → ((u : Tree) → In u seen → In u found) → HaveEarlier tree found → HaveEarlier tree (listed found ts)
  earlier [] found seen l sub h = h
  earlier (t ∷ ts) found seen l sub h = by (is_among found t) (λ f s k. earlier ts f (t ∷ seen) l.1 s k)
    where
      by : In t found ⊎ (In t found → ⊥) → ((f : List Tree) → ((u : Tree) → In u (t ∷ seen) → In u f) → HaveEarlier tree f → HaveEarlier tree (listed f ts)) → HaveEarlier tree (listed found (t ∷ ts))
      by (inl old) go = subst (λ (us : List Tree). HaveEarlier tree (listed us ts)) (sym (with_old found t old)) (go found there h)
        where
          there : (u : Tree) → In u (t ∷ seen) → In u found
          there u (inl e) = subst (λ (x : Tree). In x found) e old
          there u (inr g) = sub u g
      by (inr new) go = subst (λ (us : List Tree). HaveEarlier tree (listed us ts)) (sym (with_new found t new)) (go (found ++ t ∷ []) there (with_last found t seen l.0 sub h))
        where
          there : (u : Tree) → In u (t ∷ seen) → In u (found ++ t ∷ [])
          there u (inl e) = subst (λ (x : Tree). In x (found ++ t ∷ [])) e (in_right t found (t ∷ []) (inl refl))
          there u (inr g) = in_left u found (t ∷ []) (sub u g)

  pub first_parents : HaveEarlier tree (first_ones (forks_in tree))
  first_parents =
      subst (HaveEarlier tree) (first_are_listed (forks_in tree))
      (earlier (forks_in tree) [] [] (subst (AreLed tree []) (append-nil (forks_in tree)) (led tree tree [] [] (inl refl) (λ more sub. tt))) (λ u h. h) (λ j t at. cc))

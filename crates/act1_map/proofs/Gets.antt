-- What lists have at their places.
use Rattle.std.proofs.Common.{ℕ, zero, suc, ◌≡◌, ◌<◌, List, [], ◌∷◌, length, Some, None, map, refl, sym, ap, ◌∙◌, arith}
use Rattle.std.specs.Prelude.{Contains, slice_get, slice_index_or}
use Rattle.std.proofs.lemmas.List.{get_or-map}
use Rattle.std.proofs.lemmas.Option.{slice_get_within, slice_get-get_or, get_or_from_slice_get}

pub some_same : {X : Type 0} (x y : X) → Some x ≡ Some y → x ≡ y
some_same x y e = cc

-- two elements at one place
pub one_at : {X : Type 0} (xs : List X) (i : ℕ) (x y : X) → slice_get xs i ≡ Some x → slice_get xs i ≡ Some y → x ≡ y
one_at xs i x y e f = some_same x y (sym e ∙ f)

pub none_within : {X : Type 0} (xs : List X) (i : ℕ) → slice_get xs i ≡ None → i < length xs → ⊥
none_within [] i e low = absurd (omega arith)
none_within (x ∷ xs) zero e low = cc
none_within (x ∷ xs) (suc i) e low = none_within xs i e (omega arith)

pub some_within : {X : Type 0} (xs : List X) (i : ℕ) → i < length xs → (x : X) × (slice_get xs i ≡ Some x)
some_within [] i low = absurd (omega arith)
some_within (x ∷ xs) zero low = (x, refl)
some_within (x ∷ xs) (suc i) low = some_within xs i (omega arith)

pub contained_at : {X : Type 0} (xs : List X) (k : ℕ) (d : X) → k < length xs → Contains xs (slice_index_or xs k d)
contained_at [] k d low = absurd (omega arith)
contained_at (x ∷ xs) zero d low = (0, omega arith, refl)
contained_at (x ∷ xs) (suc k) d low = let c = contained_at xs k d (omega arith) in (suc c.0, let l = c.1 in omega arith, c.2)

pub got : {X : Type 0} (xs : List X) (x : X) → Contains xs x → (i : ℕ) × (slice_get xs i ≡ Some x)
got xs x (i, low, e) = (i, slice_get-get_or xs i x low ∙ ap Some e)

pub mapped_at : {X Y : Type 0} (f : X → Y) (xs : List X) (k : ℕ) (x : X) (d : Y) → slice_get xs k ≡ Some x → slice_index_or (map f xs) k d ≡ f x
mapped_at f xs k x d e = get_or-map f xs k x d (slice_get_within xs k x e) ∙ ap f (get_or_from_slice_get xs k x x e)

-- what is past the end of a list is the same in a mapped one
pub mapped_or : {X Y : Type 0} (f : X → Y) (xs : List X) (k : ℕ) (d : X) (e : Y) → f d ≡ e → slice_index_or (map f xs) k e ≡ f (slice_index_or xs k d)
mapped_or f [] k d e h = sym h
mapped_or f (x ∷ xs) zero d e h = refl
mapped_or f (x ∷ xs) (suc k) d e h = mapped_or f xs k d e h

-- what holds of each element holds at each place, where it holds past the end
pub at_each : {X : Type 0} (P : X → Type 0) (xs : List X) (k : ℕ) (d : X) → P d → ((x : X) → Contains xs x → P x) → P (slice_index_or xs k d)
at_each P [] k d z h = z
at_each P (x ∷ xs) zero d z h = h x (0, omega arith, refl)
at_each P (x ∷ xs) (suc k) d z h = at_each P xs k d z (λ y c. h y (suc c.0, let l = c.1 in omega arith, c.2))

pub mapped_get : {X Y : Type 0} (f : X → Y) (xs : List X) (k : ℕ) (x : X) → slice_get xs k ≡ Some x → slice_get (map f xs) k ≡ Some (f x)
mapped_get f [] k x e = cc
mapped_get f (y ∷ xs) zero x e = let same : y ≡ x = cc in ap (λ z. Some (f z)) same
mapped_get f (y ∷ xs) (suc k) x e = mapped_get f xs k x e

-- What holds of a list with one element more.
use Rattle.std.proofs.Common.{ℕ, ◌≡◌, ◌≢◌, ◌<◌, eqb, Bool, true, false, ◌||◌, IsTrue, List, [], ◌∷◌, ◌++◌, length, get_or, Option, Some, None, refl, sym, ap, ◌∙◌, append_assoc}
use Rattle.std.specs.List.{All, AllPairs, AllByRecursion, list_any}
use Rattle.std.specs.Str.{bytes_eq}
use Rattle.std.proofs.lemmas.List.{append-nil}
use Rattle.std.proofs.lemmas.List.Elements.{All-append, All-from_recursion}
use Rattle.std.proofs.lemmas.List.Quantifiers.{all_pairs_push}
use Rattle.std.proofs.lemmas.Slice.Eq.{bytes_eq-Decides}
use Rattle.std.proofs.lemmas.Bool.Decides.{Decides-eqb}
use Rattle.act1_base.specs.Rising.{Rises, is_before}
use Rattle.act1_fuses.specs.declared.fuses.Port.{Port}
use Rattle.act1_fuses.specs.Given.{is_among, is_clock}
use Rattle.act1_fuses.specs.Reading.{uses_pad}
use Rattle.act1_fuses.specs.Rules.{IsApart}

pub all_push : {X : Type 0} (P : X → Type 0) (xs : List X) (x : X) → All P xs → P x → All P (xs ++ x ∷ [])
all_push P xs x h p = All-append P xs (x ∷ []) h (All-from_recursion P (x ∷ []) (p, tt))

pub or_parts : (a b : Bool) → (a || b) ≡ false → (a ≡ false) × (b ≡ false)
or_parts true b h = cc
or_parts false b h = (refl, h)

pub not_or : (a b : Bool) → a ≡ false → b ≡ false → (a || b) ≡ false
not_or true b h k = cc
not_or false b h k = k

pub any_false : {X : Type 0} (p : X → Bool) (xs : List X) → list_any p xs ≡ false → AllByRecursion (λ x. p x ≡ false) xs
any_false p [] h = tt
any_false p (x ∷ xs) h = let parts = or_parts (p x) (list_any p xs) h in (parts.0, any_false p xs parts.1)

pub false_any : {X : Type 0} (p : X → Bool) (xs : List X) → AllByRecursion (λ x. p x ≡ false) xs → list_any p xs ≡ false
false_any p [] h = refl
false_any p (x ∷ xs) h = not_or (p x) (list_any p xs) h.0 (false_any p xs h.1)

pub any_append : {X : Type 0} (p : X → Bool) (xs ys : List X) → list_any p xs ≡ false → list_any p ys ≡ false → list_any p (xs ++ ys) ≡ false
any_append p [] ys h k = k
any_append p (x ∷ xs) ys h k = let parts = or_parts (p x) (list_any p xs) h in not_or (p x) (list_any p (xs ++ ys)) parts.0 (any_append p xs ys parts.1 k)

pub refused : (b : Bool) → b ≡ false → b ≡ true → ⊥
refused b h k = cc

-- a name that is none of the names differs from each
pub differs : (name : List ℕ) (names : List (List ℕ)) → is_among name names ≡ false → (k : ℕ) (d : List ℕ) → k < length names → get_or names k d ≢ name
differs name names h k d within =
    let all = All-from_recursion (λ (other : List ℕ). bytes_eq other name ≡ false) names (any_false (λ (other : List ℕ). bytes_eq other name) names h) in
    λ e. refused _ (all k d within) ((bytes_eq-Decides (get_or names k d) name).1 e)

pub names_push : (name : List ℕ) (names : List (List ℕ)) → AllPairs (λ (a b : List ℕ). a ≢ b) names → is_among name names ≡ false → AllPairs (λ (a b : List ℕ). a ≢ b) (names ++ name ∷ [])
names_push name names pairs h = all_pairs_push (λ (a b : List ℕ). a ≢ b) names name pairs (differs name names h)

pub pads_push : (port : Port) (ports : List Port) → AllPairs (λ (a b : Port). a.pad ≢ b.pad) ports → uses_pad port.pad ports ≡ false → AllPairs (λ (a b : Port). a.pad ≢ b.pad) (ports ++ port ∷ [])
pads_push port ports pairs h =
    let all = All-from_recursion (λ (p : Port). eqb p.pad port.pad ≡ false) ports (any_false (λ (p : Port). eqb p.pad port.pad) ports h) in
    all_pairs_push (λ (a b : Port). a.pad ≢ b.pad) ports port pairs (λ k d within e. refused _ (all k d within) ((Decides-eqb (get_or ports k d).pad port.pad).1 e))

-- a name that isn't the clock's
pub apart_push : (clock : Option (List ℕ)) (names : List (List ℕ)) (name : List ℕ) → IsApart clock names → is_clock clock name ≡ false → IsApart clock (names ++ name ∷ [])
apart_push None names name h k = tt
apart_push (Some c) names name h k = (h.0, all_push (λ (other : List ℕ). other ≢ c) names name h.1 (λ e. refused _ k ((bytes_eq-Decides c name).1 (sym e))))

module _ {X : Type 0} (f : X → List ℕ) where
  -- the numbers of the last one
  abbrev pub last_of : List X → List ℕ
  last_of [] = []
  last_of (x ∷ []) = f x
  last_of (x ∷ y ∷ xs) = last_of (y ∷ xs)

  pub last_push : (xs : List X) (x : X) → last_of (xs ++ x ∷ []) ≡ f x
  last_push [] x = refl
  last_push (y ∷ []) x = refl
  last_push (y ∷ z ∷ xs) x = last_push (z ∷ xs) x

  module _ (R : X → X → Type 0) (to : (a b : X) → IsTrue (is_before (f a) (f b)) → R a b) where
    pub rises_push : (xs : List X) (x : X) → Rises R xs → IsTrue (is_before (last_of xs) (f x)) → Rises R (xs ++ x ∷ [])
    rises_push [] x h k = tt
    rises_push (y ∷ []) x h k = (to y x k, tt)
    rises_push (y ∷ z ∷ xs) x h k = (h.0, rises_push (z ∷ xs) x h.1 k)

-- an element behind the first list is behind all, where the others are empty
pub first_of_two : {X : Type 0} (a b : List X) (x : X) → b ≡ [] → (a ++ x ∷ []) ++ b ≡ (a ++ b) ++ x ∷ []
first_of_two {X = X} a b x e = rw e (append-nil (a ++ x ∷ []) ∙ ap (λ (l : List X). l ++ x ∷ []) (sym (append-nil a)))

pub first_of_three : {X : Type 0} (a b c : List X) (x : X) → b ≡ [] → c ≡ [] → (a ++ x ∷ []) ++ b ++ c ≡ (a ++ b ++ c) ++ x ∷ []
first_of_three {X = X} a b c x e h = rw h (append-nil ((a ++ x ∷ []) ++ b) ∙ first_of_two a b x e ∙ ap (λ (l : List X). l ++ x ∷ []) (sym (append-nil (a ++ b))))

pub second_of_three : {X : Type 0} (a b c : List X) (x : X) → c ≡ [] → a ++ (b ++ x ∷ []) ++ c ≡ (a ++ b ++ c) ++ x ∷ []
second_of_three {X = X} a b c x e = ap (λ (l : List X). l ++ c) (sym (append_assoc a b (x ∷ []))) ∙ first_of_two (a ++ b) c x e

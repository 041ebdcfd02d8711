-- The modules and the starts of latches.
use Rattle.std.proofs.Common.{ℕ, zero, suc, ◌≡◌, ◌⊎◌, ◌+◌, ◌*◌, ◌<◌, List, [], ◌∷◌, ◌++◌, length, Some, refl, sym, ap, ◌∙◌, inl, inr, arith}
use Rattle.std.specs.Prelude.{slice_get}
use Rattle.act1_blif.specs.declared.blif.Latch.{Latch}
use Rattle.act1_circuit.specs.declared.circuit.Source.{Source}
use Rattle.act1_circuit.specs.declared.circuit.Start.{Start}
use Rattle.act1_circuit.specs.PairForm.{rising, master_pins, slave_pins}
use Rattle.act1_net.specs.declared.net.NetTerm.{NetTerm}
use Rattle.act1_map.specs.Mapped.{Role, «master» as master_of, «slave» as slave_of}
use Rattle.act1_map.specs.MapSteps.{latch_modules, pair_modules, source_in, starts_from}
use Rattle.act1_map.proofs.Gets.{some_same}
use Rattle.act1_map.proofs.Passes.{made_more}

-- two roles for each latch from the j-th on
pub latch_roles : ℕ → ℕ → List Role
latch_roles j zero = []
latch_roles j (suc n) = master_of j ∷ slave_of j ∷ latch_roles (suc j) n

pub roles_count : (j n : ℕ) → length (latch_roles j n) ≡ 2 * n
unfolding latch_roles
roles_count j zero = refl
roles_count j (suc n) = let r = roles_count (suc j) n in omega arith

pub master_role : (j n k i p : ℕ) → k < n → i ≡ j + k → p ≡ 2 * k → slice_get (latch_roles j n) p ≡ Some (master_of i)
unfolding latch_roles
master_role j zero k i p low number place = absurd (omega arith)
master_role j (suc n) k i zero low number place = ap (λ (l : ℕ). Some (master_of l)) (let e : j ≡ i = omega arith in e)
master_role j (suc n) k i (suc zero) low number place = absurd (omega arith)
master_role j (suc n) zero i (suc (suc p)) low number place = absurd (omega arith)
master_role j (suc n) (suc k) i (suc (suc p)) low number place = master_role (suc j) n k i p (omega arith) (omega arith) (omega arith)

pub slave_role : (j n k i p : ℕ) → k < n → i ≡ j + k → p ≡ 2 * k + 1 → slice_get (latch_roles j n) p ≡ Some (slave_of i)
unfolding latch_roles
slave_role j zero k i p low number place = absurd (omega arith)
slave_role j (suc n) k i zero low number place = absurd (omega arith)
slave_role j (suc n) k i (suc zero) low number place = ap (λ (l : ℕ). Some (slave_of l)) (let e : j ≡ i = omega arith in e)
slave_role j (suc n) zero i (suc (suc p)) low number place = absurd (omega arith)
slave_role j (suc n) (suc k) i (suc (suc p)) low number place = slave_role (suc j) n k i p (omega arith) (omega arith) (omega arith)

-- which role is at a place
abbrev pub IsLatchRole : ℕ → ℕ → ℕ → Role → Type 0
IsLatchRole j n p r = ((k : ℕ) × (k < n) × (p ≡ 2 * k) × (r ≡ master_of (j + k))) ⊎ ((k : ℕ) × (k < n) × (p ≡ 2 * k + 1) × (r ≡ slave_of (j + k)))

pub role_from : (j n p : ℕ) (r : Role) → slice_get (latch_roles j n) p ≡ Some r → IsLatchRole j n p r
unfolding latch_roles
role_from j zero p r e = cc
role_from j (suc n) zero r e = inl (0, omega arith, omega arith, sym (some_same (master_of j) r e) ∙ ap master_of (let h : j ≡ j + 0 = omega arith in h))
role_from j (suc n) (suc zero) r e = inr (0, omega arith, omega arith, sym (some_same (slave_of j) r e) ∙ ap slave_of (let h : j ≡ j + 0 = omega arith in h))
role_from j (suc n) (suc (suc p)) r e = later (role_from (suc j) n p r e)
  where
    later : IsLatchRole (suc j) n p r → IsLatchRole j (suc n) (suc (suc p)) r
    later (inl (k, low, s, is)) = inl (suc k, omega arith, omega arith, is ∙ ap master_of (let h : suc j + k ≡ j + suc k = omega arith in h))
    later (inr (k, low, s, is)) = inr (suc k, omega arith, omega arith, is ∙ ap slave_of (let h : suc j + k ≡ j + suc k = omega arith in h))

module _ (sources : List Source) where
  pub modules_count : (m : ℕ) (xs : List NetTerm) → length (latch_modules sources m xs) ≡ 2 * length xs
  modules_count m [] = refl
  modules_count m (x ∷ xs) = let r = modules_count (m + 2) xs in omega arith

  pub master_module : (m : ℕ) (xs : List NetTerm) (j a p : ℕ) (x : NetTerm) → slice_get xs j ≡ Some x → a ≡ m + 2 * j → p ≡ 2 * j → slice_get (latch_modules sources m xs) p ≡ Some (master_pins rising (source_in sources x) a)
  master_module m [] j a p x e number place = cc
  master_module m (y ∷ xs) zero a zero x e number place =
      ap (λ (z : NetTerm). Some (master_pins rising (source_in sources z) m)) (some_same y x e) ∙ ap (λ (l : ℕ). Some (master_pins rising (source_in sources x) l)) (let h : m ≡ a = omega arith in h)
  master_module m (y ∷ xs) zero a (suc p) x e number place = absurd (omega arith)
  master_module m (y ∷ xs) (suc j) a zero x e number place = absurd (omega arith)
  master_module m (y ∷ xs) (suc j) a (suc zero) x e number place = absurd (omega arith)
  master_module m (y ∷ xs) (suc j) a (suc (suc p)) x e number place = master_module (m + 2) xs j a p x e (omega arith) (omega arith)

  pub slave_module : (m : ℕ) (xs : List NetTerm) (j a s p : ℕ) (x : NetTerm) → slice_get xs j ≡ Some x → a ≡ m + 2 * j → s ≡ a + 1 → p ≡ 2 * j + 1 → slice_get (latch_modules sources m xs) p ≡ Some (slave_pins rising a s)
  slave_module m [] j a s p x e number next place = cc
  slave_module m (y ∷ xs) zero a s zero x e number next place = absurd (omega arith)
  slave_module m (y ∷ xs) zero a s (suc zero) x e number next place =
      ap (λ (l : ℕ). Some (slave_pins rising l (l + 1))) (let h : m ≡ a = omega arith in h) ∙ ap (λ (l : ℕ). Some (slave_pins rising a l)) (sym next)
  slave_module m (y ∷ xs) zero a s (suc (suc p)) x e number next place = absurd (omega arith)
  slave_module m (y ∷ xs) (suc j) a s zero x e number next place = absurd (omega arith)
  slave_module m (y ∷ xs) (suc j) a s (suc zero) x e number next place = absurd (omega arith)
  slave_module m (y ∷ xs) (suc j) a s (suc (suc p)) x e number next place = slave_module (m + 2) xs j a s p x e (omega arith) next (omega arith)

pub starts_count : (s : ℕ) (latches : List Latch) → length (starts_from s latches) ≡ length latches
starts_count s [] = refl
starts_count s (latch ∷ latches) = ap suc (starts_count (s + 2) latches)

-- the start of a latch at this slave
abbrev pub start_at : ℕ → Latch → Start
start_at s latch = record { «module» = s; init = latch.init; name = latch.name }

pub start_is : (s : ℕ) (latches : List Latch) (j a : ℕ) (latch : Latch) → slice_get latches j ≡ Some latch → a ≡ s + 2 * j → slice_get (starts_from s latches) j ≡ Some (start_at a latch)
start_is s [] j a latch e number = cc
start_is s (l ∷ latches) zero a latch e number = ap (λ (x : Latch). Some (start_at s x)) (some_same l latch e) ∙ ap (λ (n : ℕ). Some (start_at n latch)) (let h : s ≡ a = omega arith in h)
start_is s (l ∷ latches) (suc j) a latch e number = start_is (s + 2) latches j a latch e (omega arith)

pub start_from : (s : ℕ) (latches : List Latch) (j a : ℕ) (start : Start) → slice_get (starts_from s latches) j ≡ Some start → a ≡ s + 2 * j → (latch : Latch) × (slice_get latches j ≡ Some latch) × (start ≡ start_at a latch)
start_from s [] j a start e number = cc
start_from s (l ∷ latches) zero a start e number = (l, refl, sym (some_same (start_at s l) start e) ∙ ap (λ (n : ℕ). start_at n l) (let h : s ≡ a = omega arith in h))
start_from s (l ∷ latches) (suc j) a start e number = start_from (s + 2) latches j a start e (omega arith)

-- one pair more, and one start more
pub pair_more : (sources : List Source) (xs more : List NetTerm) (x : NetTerm) (m : ℕ) (now new all : List (List Source)) → xs ≡ x ∷ more → m ≡ length now → new ≡ now ++ pair_modules (source_in sources x) (length now)
    → now ++ latch_modules sources (length now) xs ≡ all → new ++ latch_modules sources (length now + 2) more ≡ all
pair_more sources xs more x m now new all is number made before =
    made_more now new (pair_modules (source_in sources x) (length now)) (latch_modules sources (length now) xs) (latch_modules sources (length now + 2) more) all made
    (ap (latch_modules sources (length now)) is) before

pub start_more : (s t : ℕ) (latches more : List Latch) (latch : Latch) (start : Start) (now new all : List Start) → latches ≡ latch ∷ more → start ≡ start_at s latch → t ≡ s + 2 → new ≡ now ++ start ∷ []
    → now ++ starts_from s latches ≡ all → new ++ starts_from t more ≡ all
start_more s t latches more latch start now new all is own number made before =
    made_more now new (start ∷ []) (starts_from s latches) (starts_from t more) all made
    (ap (starts_from s) is ∙ ap (λ (x : Start). x ∷ starts_from (s + 2) more) (sym own) ∙ ap (λ (n : ℕ). start ∷ starts_from n more) (sym number)) before

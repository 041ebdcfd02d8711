-- How many conflicts there are. With T tracks and n connections a choice of connection c on track t weighs (T - t) * (1 + T) ^ (n - 1 - c); each conflict weighs less than the one before.
use Rattle.std.proofs.Common.{ℕ, suc, ◌≡◌, ◌+◌, ◌-◌, ◌*◌, ◌^◌, ◌<◌, ◌≤◌, ◌⊎◌, List, [], ◌∷◌, ◌++◌, slice_get, Some, refl, ap, ◌∙◌, inl, inr, arith}
use Rattle.std.proofs.Math.Nat.{pow-suc, one-le-pow, pow-le-pow_right}
use Rattle.act1_channel.specs.declared.problem.Choice.{Choice}

-- the weight of a list of choices
unfoldable pub weight : ℕ → ℕ → List Choice → ℕ
weight T n [] = 0
weight T n (c ∷ cs) = (T - c.track) * (1 + T) ^ (n - suc c.connection) + weight T n cs

-- choices in range whose connections rise, from a connection on
unfoldable pub RiseFrom : ℕ → ℕ → ℕ → List Choice → Type 0
RiseFrom T n low [] = Unit {0}
RiseFrom T n low (c ∷ cs) = (low ≤ c.connection) × (c.connection < n) × (c.track < T) × RiseFrom T n (suc c.connection) cs

pub weight_append : (T n : ℕ) (xs ys : List Choice) → weight T n (xs ++ ys) ≡ weight T n xs + weight T n ys
unfolding weight
weight_append T n [] ys = omega arith
weight_append T n (c ∷ xs) ys = let r = weight_append T n xs ys in omega arith

positive : (T m : ℕ) → 1 ≤ (1 + T) ^ m
positive T m = one-le-pow m (1 + T) (omega arith)

-- the place above is worth 1 + T times as much
step_up : (T m : ℕ) → (1 + T) ^ suc m ≡ (1 + T) ^ m + T * (1 + T) ^ m
step_up T m = pow-suc (1 + T) m ∙ omega arith

place : (T n c : ℕ) → c < n → (1 + T) ^ (n - c) ≡ (1 + T) ^ (n - suc c) + T * (1 + T) ^ (n - suc c)
place T n c low =
    let e : n - c ≡ suc (n - suc c) = omega arith in
    ap (λ (m : ℕ). (1 + T) ^ m) e ∙ step_up T (n - suc c)

grows : (T a b : ℕ) → a ≤ b → (1 + T) ^ a ≤ (1 + T) ^ b
grows T a b low = let h : 0 < 1 + T = omega arith in pow-le-pow_right {n = 1 + T} h {i = a} {j = b} low

times_up : (a b m : ℕ) → a ≤ b → a * m ≤ b * m
times_up a b m low = grind arith

pub below : (T n low : ℕ) (cs : List Choice) → low ≤ n → RiseFrom T n low cs → weight T n cs < (1 + T) ^ (n - low)
unfolding weight RiseFrom
below T n low [] fits rise = let h = positive T (n - low) in omega arith
below T n low (c ∷ cs) fits rise =
    let first = rise.0 in
    let there = rise.1 in
    let rest = below T n (suc c.connection) cs (omega arith) rise.3 in
    let most = times_up (T - c.track) T ((1 + T) ^ (n - suc c.connection)) (omega arith) in
    let up = place T n c.connection there in
    let higher = grows T (n - c.connection) (n - low) (omega arith) in
    omega arith

-- what comes after a choice that is taken back, begins with a later track of its connection or with a later connection
unfoldable pub ComesAfter : Choice → List Choice → Type 0
ComesAfter e [] = Unit {0}
ComesAfter e (c ∷ cs) = (e.connection < c.connection) ⊎ ((e.connection ≡ c.connection) × (e.track < c.track))

pub lighter : (T n low : ℕ) (e : Choice) (cs : List Choice) → e.connection < n → e.track < T → RiseFrom T n low cs → ComesAfter e cs → weight T n cs < weight T n (e ∷ [])
unfolding weight RiseFrom ComesAfter
lighter T n low e [] there track rise after =
    let h = positive T (n - suc e.connection) in
    let one = times_up 1 (T - e.track) ((1 + T) ^ (n - suc e.connection)) (omega arith) in
    omega arith
lighter T n low e (c ∷ cs) there track rise (inl later) =
    let all = below T n (suc e.connection) (c ∷ cs) (omega arith) (later, rise.1, rise.2, rise.3) in
    let one = times_up 1 (T - e.track) ((1 + T) ^ (n - suc e.connection)) (omega arith) in
    omega arith
lighter T n low e (c ∷ cs) there track rise (inr same) =
    let inside = rise.2 in
    let rest = below T n (suc c.connection) cs (let h = rise.1 in omega arith) rise.3 in
    let two = times_up (suc (T - c.track)) (T - e.track) ((1 + T) ^ (n - suc c.connection)) (let h = same.1 in omega arith) in
    let e' : (1 + T) ^ (n - suc e.connection) ≡ (1 + T) ^ (n - suc c.connection) = ap (λ (k : ℕ). (1 + T) ^ (n - suc k)) same.0 in
    let e'' : (T - e.track) * (1 + T) ^ (n - suc e.connection) ≡ (T - e.track) * (1 + T) ^ (n - suc c.connection) = ap (λ (k : ℕ). (T - e.track) * k) e' in
    omega arith

pub lighter_than_nothing : (T n : ℕ) (e : Choice) → e.connection < n → e.track < T → weight T n [] < weight T n (e ∷ [])
unfolding RiseFrom ComesAfter
lighter_than_nothing T n e there track = lighter T n 0 e [] there track tt tt

-- rising from what holds at each place
pub rises : (T n low : ℕ) (cs : List Choice) → ((i : ℕ) (c : Choice) → slice_get cs i ≡ Some c → (low ≤ c.connection) × (c.connection < n) × (c.track < T))
    → ((i j : ℕ) (a b : Choice) → i < j → slice_get cs i ≡ Some a → slice_get cs j ≡ Some b → a.connection < b.connection) → RiseFrom T n low cs
unfolding RiseFrom
rises T n low [] each pairs = tt
rises T n low (c ∷ cs) each pairs =
    let own = each 0 c refl in
    (own.0, own.1, own.2, rises T n (suc c.connection) cs (λ i d at. let other = each (suc i) d at in (pairs 0 (suc i) c d (omega arith) refl at, other.1, other.2)) (λ i j a b low x y. pairs (suc i) (suc j) a b (omega arith) x y))

-- Lists of firings, one after the other.
use Rattle.std.proofs.Common.{◌≡◌, ℕ, zero, suc, ◌+◌, ◌-◌, ◌<◌, Bool, List, [], ◌∷◌, ◌++◌, length, true, false, ◌||◌, below_more, refl, sym, ap, ◌∙◌, add-one, zero-add, append_assoc, arith}
use Rattle.std.specs.List.{AllByRecursion}
use Rattle.std.proofs.lemmas.List.{length-set, append-nil}
use Rattle.act1_circuit.specs.declared.circuit.Circuit.{Circuit}
use Rattle.act1_circuit.specs.Firing.{fire, fired, fire_all, site_order, site_rounds, IsAtRest}

pub fire_all-append : (c : Circuit) (clock : Bool) (x bits : List Bool) (ms ns : List ℕ) → fire_all c clock x bits (ms ++ ns) ≡ fire_all c clock x (fire_all c clock x bits ms) ns
fire_all-append c clock x bits [] ns = refl
fire_all-append c clock x bits (m ∷ ms) ns = fire_all-append c clock x (fire c clock x bits m) ms ns

-- one module more in site order
pub next_fires : (c : Circuit) (clock : Bool) (x bits : List Bool) (m : ℕ) → fire_all c clock x bits (site_order (m + 1)) ≡ fire c clock x (fire_all c clock x bits (site_order m)) m
next_fires c clock x bits m = rw add-one (fire_all-append c clock x bits (site_order m) (m ∷ []))

-- one round more
pub next_round : (c : Circuit) (clock : Bool) (x bits : List Bool) (n k : ℕ) → fire_all c clock x bits (site_rounds n (k + 1)) ≡ fire_all c clock x (fire_all c clock x bits (site_rounds n k)) (site_order n)
next_round c clock x bits n k = rw add-one (fire_all-append c clock x bits (site_rounds n k) (site_order n))

-- no firing adds a bit or takes one
pub length_fires : (c : Circuit) (clock : Bool) (x bits : List Bool) (ms : List ℕ) → length (fire_all c clock x bits ms) ≡ length bits
length_fires c clock x bits [] = refl
length_fires c clock x bits (m ∷ ms) = length_fires c clock x (fire c clock x bits m) ms ∙ length-set bits m (fired c clock x bits m)

-- more rounds are rounds after rounds
rounds_more : (n k j : ℕ) → site_rounds n (j + k) ≡ site_rounds n k ++ site_rounds n j
rounds_more n k zero = rw zero-add (sym (append-nil (site_rounds n k)))
rounds_more n k (suc j) =
    let next : suc j + k ≡ suc (j + k) = omega arith in
    rw (next, rounds_more n k j) (append_assoc (site_rounds n k) (site_rounds n j) (site_order n))

-- firings of bits that no firing changes
rest_all : (c : Circuit) (clock : Bool) (x bits : List Bool) (ms : List ℕ) → AllByRecursion (λ m. fire c clock x bits m ≡ bits) ms → fire_all c clock x bits ms ≡ bits
rest_all c clock x bits [] h = refl
rest_all c clock x bits (m ∷ ms) h = ap (λ (b : List Bool). fire_all c clock x b ms) h.0 ∙ rest_all c clock x bits ms h.1

one_more_rests : (P : ℕ → Type 0) (ms : List ℕ) (m : ℕ) → AllByRecursion P ms → P m → AllByRecursion P (ms ++ m ∷ [])
one_more_rests P [] m h p = (p, tt)
one_more_rests P (k ∷ ms) m h p = (h.0, one_more_rests P ms m h.1 p)

order_rests : (c : Circuit) (clock : Bool) (x bits : List Bool) (n : ℕ) → ((m : ℕ) → m < n → fire c clock x bits m ≡ bits) → AllByRecursion (λ m. fire c clock x bits m ≡ bits) (site_order n)
order_rests c clock x bits zero h = tt
order_rests c clock x bits (suc n) h =
    one_more_rests (λ m. fire c clock x bits m ≡ bits) (site_order n) n (order_rests c clock x bits n (λ m low. h m (omega arith))) (h n (omega arith))

-- rounds of bits at rest
rounds_rest : (c : Circuit) (clock : Bool) (x bits : List Bool) (n k : ℕ) → ((m : ℕ) → m < n → fire c clock x bits m ≡ bits) → fire_all c clock x bits (site_rounds n k) ≡ bits
rounds_rest c clock x bits n zero h = refl
rounds_rest c clock x bits n (suc k) h =
    fire_all-append c clock x bits (site_rounds n k) (site_order n)
    ∙ ap (λ (b : List Bool). fire_all c clock x b (site_order n)) (rounds_rest c clock x bits n k h)
    ∙ rest_all c clock x bits (site_order n) (order_rests c clock x bits n h)

-- a round that leaves the bits at rest ends the wave: what it leaves is what all rounds leave
pub rested : (c : Circuit) (clock : Bool) (x start bits next : List Bool) (n k : ℕ) → k < n → length c.modules ≡ n → bits ≡ fire_all c clock x start (site_rounds n k)
    → next ≡ fire_all c clock x bits (site_order n) → IsAtRest c clock x next → next ≡ fire_all c clock x start (site_rounds n n)
rested c clock x start bits next n k low modules so_far round rests =
    let left : (n - suc k) + suc k ≡ n = omega arith in
    let here : next ≡ fire_all c clock x start (site_rounds n (suc k)) =
    round ∙ ap (λ (b : List Bool). fire_all c clock x b (site_order n)) so_far ∙ sym (fire_all-append c clock x start (site_rounds n k) (site_order n)) in
    let all = ap (λ (j : ℕ). fire_all c clock x start (site_rounds n j)) (sym left) in
    sym (all ∙ ap (fire_all c clock x start) (rounds_more n (suc k) (n - suc k)) ∙ fire_all-append c clock x start (site_rounds n (suc k)) (site_rounds n (n - suc k))
    ∙ ap (λ (b : List Bool). fire_all c clock x b (site_rounds n (n - suc k))) (sym here)
    ∙ rounds_rest c clock x next n (n - suc k) (λ m m_low. rests m (omega arith)))

-- what a round in site order keeps, module by module: the firings so far, and that none of them changed a bit
abbrev pub SoFar : Circuit → Bool → List Bool → List Bool → List Bool → ℕ → Bool → Type 0
SoFar c clock x start bits m changed =
    (bits ≡ fire_all c clock x start (site_order m)) × (changed ≡ false → (bits ≡ start) × ((k : ℕ) → k < m → fire c clock x start k ≡ start))

pub next_module : (c : Circuit) (clock : Bool) (x start bits next : List Bool) (m : ℕ) (changed fired : Bool) → SoFar c clock x start bits m changed
    → next ≡ fire c clock x bits m → (fired ≡ false → next ≡ bits) → SoFar c clock x start next (m + 1) (changed || fired)
next_module c clock x start bits next m changed fired so_far is same =
    (is ∙ ap (λ (b : List Bool). fire c clock x b m) so_far.0 ∙ sym (next_fires c clock x start m), rests changed fired so_far.1 same)
  where
    rests : (d f : Bool) → (d ≡ false → (bits ≡ start) × ((k : ℕ) → k < m → fire c clock x start k ≡ start)) → (f ≡ false → next ≡ bits) → (d || f) ≡ false
        → (next ≡ start) × ((k : ℕ) → k < m + 1 → fire c clock x start k ≡ start)
    rests true f h k e = cc
    rests false true h k e = cc
    rests false false h k e =
        let before = h refl in
        let now = k refl in
        (now ∙ before.0, below_more (λ (j : ℕ). fire c clock x start j ≡ start) m before.1 (ap (λ (b : List Bool). fire c clock x b m) (sym before.0) ∙ sym is ∙ now ∙ before.0))

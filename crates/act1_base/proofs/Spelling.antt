-- What the digits of a number spell.
use Rattle.std.proofs.Common.{ℕ, ◌≡◌, ◌+◌, ◌-◌, ◌*◌, ◌^◌, ◌<◌, ◌≤◌, ◌/◌, ◌%◌, List, [], ◌∷◌, ◌++◌, length, get_or, take, drop, refl, sym, ap, ◌∙◌, ◌⊎◌, inl, inr, arith}
use Rattle.std.specs.Fmt.{decimal}
use Rattle.act1_base.specs.Number.{FitsDigit}
use Rattle.std.specs.Int.{IsInRange}
use Rattle.std.specs.Char.{digit_value}
use Rattle.std.specs.Str.Parse.{digits_value, AllDigits, digits_value_after}
use Rattle.std.proofs.lemmas.Fmt.{decimal_is_IsNumeral, decimal_digit, decimal_step, decimal_by_steps}
use Rattle.std.proofs.lemmas.Int.Digits.{digits_value_more}
use Rattle.std.proofs.lemmas.Str.Parse.{digit_at}
use Rattle.std.proofs.lemmas.List.{take-append-drop, take_more, get_or-take}
use Rattle.std.proofs.lemmas.Bool.Decides.{nat_tests}
use Rattle.std.proofs.lemmas.Bool.{cases_lt}

-- the value after more digits is no less
after_ge : (n : ℕ) (bs : List ℕ) → n ≤ digits_value_after 10 n bs
after_ge n [] = omega arith
after_ge n (c ∷ cs) = let rest = after_ge (n * 10 + digit_value c) cs in omega arith

after_append : (n : ℕ) (xs ys : List ℕ) → digits_value_after 10 n (xs ++ ys) ≡ digits_value_after 10 (digits_value_after 10 n xs) ys
after_append n [] ys = refl
after_append n (c ∷ xs) ys = after_append (n * 10 + digit_value c) xs ys

-- a front is worth no more than the whole
pub front_le : (k : ℕ) (bs : List ℕ) → digits_value 10 (take k bs) ≤ digits_value 10 bs
front_le k bs =
    let whole = ap (digits_value 10) (take-append-drop k bs) in
    let parts = after_append 0 (take k bs) (drop k bs) in
    let more = after_ge (digits_value 10 (take k bs)) (drop k bs) in
    omega arith

digit_is : (c : ℕ) → 48 ≤ c → c ≤ 57 → digit_value c ≡ c - 48
digit_is c low high = grind (arith, nat_tests)

-- one digit more
spelled_more : (n d : ℕ) → d < 10 → 0 < n → n * 10 + d < 2 ^ 64 → decimal (n * 10 + d) ≡ decimal n ++ (48 + d) ∷ []
spelled_more n d small some fits =
    let quotient : (n * 10 + d) / 10 ≡ n = omega arith in
    let rest : (n * 10 + d) % 10 ≡ d = omega arith in
    rw (decimal_step (n * 10 + d) (omega arith) fits, quotient, rest) refl

-- a number above nine doesn't begin with a zero
abbrev Leads : ℕ → List ℕ → Type 0
Leads n ds = (0 < length ds) × (0 < n → 48 < get_or ds 0 0)

leads_more : (ds : List ℕ) (x n : ℕ) → 10 ≤ n → Leads (n / 10) ds → Leads n (ds ++ x ∷ [])
leads_more [] x n high h = absurd (omega arith)
leads_more (d ∷ ds) x n high h = let first = h.1 (omega arith) in (omega arith, λ _. first)

leads : (n : ℕ) → n < 2 ^ 64 → Leads n (decimal n)
leads = decimal_by_steps Leads (λ n h. (omega arith, λ some. omega arith)) (λ n ds high h. leads_more ds (48 + n % 10) n high h)

module _ (bs : List ℕ) (n : ℕ) (fits : n < 2 ^ 64) (spelled : bs ≡ decimal n) where
  digits : AllDigits 10 bs
  digits = rw spelled (decimal_is_IsNumeral n fits).0.1

  worth : digits_value 10 bs ≡ n
  worth = ap (digits_value 10) spelled ∙ (decimal_is_IsNumeral n fits).1

  pub not_empty : 0 < length bs
  not_empty = rw spelled (decimal_is_IsNumeral n fits).0.0

  pub digit_in : (i : ℕ) → i < length bs → IsInRange 48 57 (get_or bs i 0)
  digit_in i within = digit_at bs i digits within

  -- the value so far and the next digit are no more than the number
  pub value_le : (i : ℕ) → i < length bs → digits_value 10 (take i bs) * 10 + (get_or bs i 0 - 48) ≤ n
  value_le i within =
      let r = digit_in i within in
      let next = digits_value_more 10 bs i within in
      let is = digit_is (get_or bs i 0) r.0 r.1 in
      let front = front_le (i + 1) bs in
      let whole = worth in
      omega arith

  positive : 0 < n → 48 < get_or bs 0 0
  positive some = rw spelled ((leads n fits).1 some)

  one_digit : n ≤ 0 → length bs ≡ 1
  one_digit none = let zero : n ≡ 0 = omega arith in rw (spelled, zero) (ap length (decimal_digit 0 (omega arith)))

  no_zero_at : (i : ℕ) → 0 < i → i < length bs → get_or bs 0 0 ≡ 48 → (0 < n) ⊎ (n ≤ 0) → ⊥
  no_zero_at i some within first (inl p) = let above = positive p in omega arith
  no_zero_at i some within first (inr p) = let one = one_digit p in omega arith

  -- a zero with digits behind it spells no number
  pub no_zero : (i : ℕ) → 0 < i → i < length bs → take i bs ≡ decimal 0 → ⊥
  no_zero i some within zero =
      no_zero_at i some within (sym (get_or-take i bs 0 0 some) ∙ ap (λ (ds : List ℕ). get_or ds 0 0) (zero ∙ decimal_digit 0 (omega arith))) (cases_lt 0 n)

take_none : (bs : List ℕ) (i : ℕ) → i ≤ 0 → take i bs ≡ []
take_none bs i none = let zero : i ≡ 0 = omega arith in rw zero refl

-- one digit more, as the reader goes on
pub next_spelled : (bs : List ℕ) (i value next : ℕ) → i < length bs → (0 < i → take i bs ≡ decimal value) → (0 < i → value ≡ 0 → ⊥) → (i ≡ 0 → value ≡ 0)
    → 48 ≤ get_or bs i 0 → get_or bs i 0 ≤ 57 → next ≡ value * 10 + (get_or bs i 0 - 48) → next < 2 ^ 64 → take (i + 1) bs ≡ decimal next
next_spelled bs i value next within so_far no_lead at_first low high is fits = next_from (cases_lt 0 i)
  where
    digit_at_end : take (i + 1) bs ≡ take i bs ++ get_or bs i 0 ∷ []
    digit_at_end = take_more bs i 0 within

    byte_is : 48 + (get_or bs i 0 - 48) ≡ get_or bs i 0
    byte_is = omega arith

    next_from : (0 < i) ⊎ (i ≤ 0) → take (i + 1) bs ≡ decimal next
    next_from (inl some) =
        let some_value : 0 < value = positive_value some (cases_lt 0 value) in
        let small : get_or bs i 0 - 48 < 10 = omega arith in
        let enough : value * 10 + (get_or bs i 0 - 48) < 2 ^ 64 = omega arith in
        rw (digit_at_end, is, spelled_more value (get_or bs i 0 - 48) small some_value enough, so_far some, byte_is) refl
      where
        positive_value : 0 < i → (0 < value) ⊎ (value ≤ 0) → 0 < value
        positive_value s (inl p) = p
        positive_value s (inr p) = absurd (no_lead s (omega arith))
    next_from (inr none) =
        let no_front : take i bs ≡ [] = take_none bs i none in
        let zero = at_first (omega arith) in
        let small : next < 10 = omega arith in
        let same : 48 + next ≡ get_or bs i 0 = omega arith in
        rw (digit_at_end, no_front, decimal_digit next small, same) refl

-- the reader's step: the bound, the value and the spelling
pub next_read : (bs : List ℕ) (i value next most : ℕ) → i < length bs → most < 2 ^ 64 → value ≡ digits_value 10 (take i bs) → (0 < i → take i bs ≡ decimal value) → ((0 < i) × (value ≡ 0 → ⊥)) ⊎ (i ≤ 0)
    → FitsDigit value (get_or bs i 0) most × (next ≡ value * 10 + (get_or bs i 0 - 48))
    → (next ≤ most) × (next ≡ digits_value 10 (take (i + 1) bs)) × (0 < i + 1 → take (i + 1) bs ≡ decimal next)
next_read bs i value next most within small worth so_far no_lead h =
    let more = digits_value_more 10 bs i within in
    let digit = digit_is (get_or bs i 0) h.0.0 h.0.1 in (
      omega arith,
      omega arith,
      λ _. next_spelled bs i value next within so_far (lead no_lead) (λ none. worth ∙ ap (digits_value 10) (take_none bs i (omega arith))) h.0.0 h.0.1 h.1 (omega arith),
    )
  where
    lead : ((0 < i) × (value ≡ 0 → ⊥)) ⊎ (i ≤ 0) → 0 < i → value ≡ 0 → ⊥
    lead (inl p) s z = p.1 z
    lead (inr p) s z = omega arith
